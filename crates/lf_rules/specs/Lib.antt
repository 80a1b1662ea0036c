pub mod Terms
pub mod Trees
pub mod Kinds
pub mod Tables
pub mod Sorts
pub mod Forms
