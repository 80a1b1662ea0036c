pub mod Laws
mod AskedLemmas
mod FormulaLemmas
mod LimitedLemmas
mod LinkSteps
mod NamedRanges
mod PlainRanges
mod ReadRanges
mod VotesLemmas
