pub mod Books
pub mod Drives
pub mod Finished
pub mod Holding
pub mod Ways
pub mod Ends
pub mod Turns
