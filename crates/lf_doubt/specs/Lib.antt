pub mod Changes
pub mod Bounds
pub mod Questions
pub mod Names
