mod Lines
mod Pieces
mod Firsts
mod ChangeLines
mod Points
mod RuleLines
