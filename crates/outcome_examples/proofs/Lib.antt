mod OnePoint
mod Outside
