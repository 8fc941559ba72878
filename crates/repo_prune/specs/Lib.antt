-- The definitions that the contracts of this crate cite.
pub mod Keeping
pub mod Ascending
pub mod Forgetting
pub mod ForgetStates
pub mod Pruning
pub mod PruneLaws
pub mod Plans
pub mod Reading
pub mod Moving
pub mod Relisting
pub mod PruneStates
pub mod Laws
pub mod Upgrading
pub mod UpgradeStates
pub mod UpgradeLaws
pub mod inner
