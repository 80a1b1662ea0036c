mod NumbersLemmas
mod ListsLemmas
mod LettersLemmas
mod ReadingsLemmas
