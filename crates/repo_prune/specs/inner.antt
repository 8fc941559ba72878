-- The definitions that private calls alone cite: no public contract and no law needs them.
pub mod Walks
pub mod Picking
pub mod Unfound
pub mod Unlisted
pub mod Indexing
pub mod Deciding
pub mod Deleting
pub mod Replies
pub mod Sorts
