pub mod Entries
pub mod Opens
pub mod Places
pub mod TableFacts
