mod Coning
mod Covering
mod Existence
mod Gathering
mod Growing
mod HearingLemmas
pub mod Laws
mod Light
mod RequiredLemmas
mod Sweeping
