mod CountLemmas
mod HoldLemmas
mod ScenarioLemmas
pub mod Laws
mod OneLemmas
mod RoundLemmas
mod Sent
mod SolvedLemmas
