mod CountsLemmas
mod EnteredLemmas
pub mod Laws
mod NumbersLemmas
mod OrdersLemmas
mod RulesLemmas
mod RangesLemmas
mod SinglesLemmas
mod TakenLemmas
