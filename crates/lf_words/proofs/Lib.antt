mod Answered
mod Options
mod Parts
mod Plain
mod Plainly
mod Reading
