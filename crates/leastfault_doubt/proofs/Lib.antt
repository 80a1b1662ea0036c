mod AllLemmas
mod BegunLemmas
mod LineLemmas
