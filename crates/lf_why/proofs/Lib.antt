mod Below
mod Counted
mod Differences
mod IdleLemmas
pub mod Laws
mod NoneLemmas
mod StepLoops
mod Taken
mod Told
