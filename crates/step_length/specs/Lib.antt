pub mod StepLength
pub mod Laws
pub mod Known
