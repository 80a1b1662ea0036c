mod Layouts
pub mod Laws
