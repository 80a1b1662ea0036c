pub mod Floats
pub mod Played
