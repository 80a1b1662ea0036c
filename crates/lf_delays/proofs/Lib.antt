mod Agreeing
mod Answering
pub mod ArrivalLemmas
mod Below
pub mod Laws
mod Late
mod Lists
mod Pieces
mod Replaying
mod Sparing
mod Tables
mod Texts
mod Leaving
mod Passing
mod Tightening
mod Trying
