mod ExecutedLemmas
mod OneLemmas
mod ReadLemmas
