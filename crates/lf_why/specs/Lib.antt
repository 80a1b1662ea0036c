pub mod Answers
pub mod Idle
pub mod Levels
pub mod Rests
pub mod Sets
