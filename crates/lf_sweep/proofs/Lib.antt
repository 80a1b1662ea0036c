mod CombinationLemmas
mod ExactLemmas
mod ListedLemmas
mod MemberLemmas
mod ReadingLemmas
mod TextLemmas
mod LineLemmas
mod RowLemmas
