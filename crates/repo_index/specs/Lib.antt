-- The definitions that the contracts of this crate cite.
pub mod IndexText
pub mod IndexFaults
pub mod IndexWriting
pub mod Order
pub mod Lookups
pub mod Laws
pub mod Exactness
pub mod inner
