pub mod Restoring
pub mod inner
