pub mod Leaves
pub mod Parts
pub mod Questions
pub mod Words
