pub mod Replies
pub mod Doubts
