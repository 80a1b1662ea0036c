pub mod Jobs
pub mod Scratches
