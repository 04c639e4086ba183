mod Agreement
mod AtEntity
pub mod ChecksPass
mod Closing
mod Conforming
pub mod Counts
mod Defaults
pub mod EntityRuns
mod ExampleDay
pub mod ImageRuns
mod Inserting
mod KeyOrders
mod Keys
mod Merging
pub mod NodeKinds
mod Numbers
mod Parts
pub mod Places
pub mod ReadBytes
mod ReadsEach
pub mod ReadsOnly
pub mod RequestRuns
mod Searches
mod Served
mod SlotTrees
mod SymbolizedFields
pub mod TableRuns
mod TagKeys
mod TermOrder
mod TypeOrder
mod TypeTrees
mod ValueTrees
pub mod WholeRuns
pub mod Written
pub mod WrittenBytes
