mod SetsLemmas
mod BodiesLemmas
mod ValuesLemmas
mod ChoicesLemmas
mod FoldsLemmas
pub mod Laws
mod IndexesLemmas
mod CellsLemmas
mod RangesLemmas
mod FactRangesLemmas
mod PacketsLemmas
mod PackingLemmas
mod FormedLemmas
mod SinglesLemmas
mod SingleRunsLemmas
mod OneFormLemmas
