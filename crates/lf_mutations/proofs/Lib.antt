mod PlacesLemmas
mod ChangesLemmas
mod FormedLemmas
mod ListsLemmas
pub mod Laws
