mod Examples
mod Later
