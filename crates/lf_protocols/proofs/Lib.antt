mod LettersLemmas
mod DeliveriesLemmas
mod BlocksLemmas
mod IgnoringLemmas
mod WordsLemmas
mod FoldsLemmas
mod Orders
mod Exactness
pub mod Laws
mod Parts
