pub mod Probe
pub mod Hooks
