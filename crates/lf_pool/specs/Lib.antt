pub mod Holds
pub mod Solved
pub mod Searches
