mod Allowing
mod Counts
mod Deciding
mod Ending
mod Filling
pub mod Laws
mod Members
mod Nexts
mod Orders
mod PlacesLemmas
mod Sameness
mod Sizes
mod Stepping
mod Texts
mod TextsBytes
mod TextsDigits
mod Walks
