pub mod Fronts
pub mod Units
pub mod Promises
pub mod Readings
pub mod Facts
pub mod Inductions
pub mod Topics
