mod AgainLemmas
mod EffectsLemmas
mod FaultTests
mod InboxLemmas
pub mod Laws
mod ListsLemmas
mod PointsLemmas
mod RunsLemmas
mod SchedulesLemmas
mod TurnsLemmas
pub mod ChangesLemmas
pub mod MarksLemmas
pub mod WaysLemmas
