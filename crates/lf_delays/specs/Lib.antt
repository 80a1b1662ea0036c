pub mod Answers
pub mod Windows
pub mod Delays
pub mod Tight
pub mod Told
pub mod Trials
