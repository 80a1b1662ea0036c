pub mod Doors
pub mod DoorsLemmas
pub mod Mazes
pub mod MazesLemmas
pub mod Beacons
pub mod BeaconsLemmas
pub mod Samples
pub mod SamplesLemmas
