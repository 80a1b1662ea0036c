mod PiecesLemmas
pub mod Laws
mod Sorted
mod Steps
mod Typings
mod Rests
mod Enough
mod Sure
mod Written
