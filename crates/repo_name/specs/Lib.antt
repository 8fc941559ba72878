pub mod Limits
pub mod NameMaps
pub mod Naming
pub mod Ranges
pub mod Rows
