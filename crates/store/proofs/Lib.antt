mod Ascents
pub mod Keeping
mod Searches
pub mod Tables
mod Turns
