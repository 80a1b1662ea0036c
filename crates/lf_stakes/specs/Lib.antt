pub mod Entered
pub mod Singles
pub mod Starting
pub mod Stakes
