pub mod Numbers
pub mod Turns
pub mod Points
pub mod Readings
