mod Literals
mod One
