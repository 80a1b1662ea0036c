pub mod Stakes
