-- The definitions that the contracts of this crate cite.
pub mod Sources
pub mod Unfed
pub mod inner
pub mod FedRules
pub mod Reasons
pub mod FedStates
pub mod Unseen
pub mod FedObedience
pub mod FedLaws
