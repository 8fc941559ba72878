-- The definitions that the contracts of this crate cite.
pub mod Parameters
pub mod Rabin
pub mod Cuts
pub mod Chunkers
pub mod Laws
pub mod Runs
pub mod inner
