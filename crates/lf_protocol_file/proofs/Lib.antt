pub mod Counts
mod WordsLemmas
pub mod Laws
mod Growing
mod Readings
mod Sounding
mod VariableKinds
mod ConstantLemmas
mod Stages
mod RuleStages
mod SectionLemmas
mod WholeFiles
mod NumberLemmas
