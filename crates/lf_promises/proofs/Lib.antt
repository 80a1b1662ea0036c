pub mod Laws
mod FactLemmas
mod Inductions
mod PropertyLemmas
mod ReadingLemmas
mod StepLemmas
mod TopicLemmas
