pub mod Statuses
pub mod Command
pub mod Words
pub mod Same
pub mod Help
