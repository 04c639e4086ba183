pub mod Drafts
pub mod Faultless
pub mod Headers
pub mod Opens
pub mod Pushes
pub mod Views
