-- The definitions that the contracts of this crate cite.
pub mod Listing
pub mod ListStates
pub mod Beginnings
pub mod Positions
pub mod Restoring
pub mod Walks
pub mod Nodes
pub mod Walking
pub mod Moves
pub mod RestoreStates
pub mod Laws
