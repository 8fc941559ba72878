-- The definitions that private calls alone cite: no public contract and no law needs them.
pub mod Rooms
