mod Exits
mod BytesOut
mod Drafting
pub mod ImageFacts
mod LimitNode
pub mod ListFacts
pub mod Parts
mod Telling
pub mod Writing
