pub mod Statuses
pub mod Texts
pub mod Commands
pub mod Words
pub mod Plain
