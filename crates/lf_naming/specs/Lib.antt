pub mod Names
pub mod Texts
pub mod Facts
pub mod Pieces
