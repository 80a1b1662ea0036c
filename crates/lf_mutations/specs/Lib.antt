pub mod Mutations
pub mod Places
pub mod Changes
