pub mod Nodes
pub mod Rows
pub mod Verdicts
pub mod Walks
