mod EdgeLemmas
mod FoundLemmas
pub mod Laws
mod MereLemmas
