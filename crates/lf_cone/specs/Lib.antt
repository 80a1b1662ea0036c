pub mod Cones
pub mod Places
pub mod Sweeps
