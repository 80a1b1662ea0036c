mod AskedLemmas
pub mod Laws
