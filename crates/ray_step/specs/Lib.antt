pub mod RayStep
