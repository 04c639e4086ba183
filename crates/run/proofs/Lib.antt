pub mod EntityVerdict
pub mod Exactness
pub mod FieldPlaces
pub mod Passing
pub mod RequestVerdict
pub mod TreesInTurn
pub mod Unknown
pub mod VerdictSteps
