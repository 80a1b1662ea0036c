mod FloatLemmas
mod InputLemmas
mod LineLemmas
mod ReplayedLemmas
mod SweptLemmas
mod TwiceLemmas
