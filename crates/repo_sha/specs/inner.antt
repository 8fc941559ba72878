-- The definitions that private calls alone cite: no public contract and no law needs them.
pub mod Messages
pub mod Lanes
pub mod Schedules
pub mod Batches
