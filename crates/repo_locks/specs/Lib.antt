pub mod TokenMachine
pub mod Lawful
pub mod Laws
pub mod LedgerBytes
pub mod TokenMaps
pub mod Ages
pub use Rattle.repo_name.specs.Rows
