pub mod Replies
pub mod Executed
