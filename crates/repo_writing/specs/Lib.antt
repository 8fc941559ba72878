-- The definitions that the contracts of this crate cite.
pub mod Blobs
pub mod Putting
pub mod Sealing
pub mod Filling
pub mod Writing
pub mod Laws
