pub mod Laws
mod FirstsLemmas
mod PiecesLemmas
mod SmallLemmas
