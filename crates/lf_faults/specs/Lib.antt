pub mod Allowed
pub mod Faults
pub mod Fill
pub mod Kinds
pub mod Places
pub mod Texts
