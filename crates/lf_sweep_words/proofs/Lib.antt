mod Cuts
pub mod Laws
mod Lists
mod Literals
mod One
mod Planned
mod Refusing
mod Sameness
