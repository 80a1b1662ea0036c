pub mod ListLemmas
mod SortLemmas
mod KindLemmas
mod PartLemmas
pub mod Laws
