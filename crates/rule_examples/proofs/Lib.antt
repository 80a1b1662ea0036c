mod Brought
mod CellsLemmas
mod KeptLemmas
