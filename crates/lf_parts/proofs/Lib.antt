pub mod Laws
mod LeafLemmas
mod PartLemmas
mod QuestionLemmas
