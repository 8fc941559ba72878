-- The definitions that the contracts of this crate cite.
pub mod Links
pub mod Joints
pub mod Collected
pub mod Breaking
pub mod Walks
pub mod Laws
pub mod Used
pub mod inner
