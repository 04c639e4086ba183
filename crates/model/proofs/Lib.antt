mod FaultOrder
pub mod Turns
pub mod DerivedOrder
