mod LinkNumbers
pub mod Laws
mod Places
