pub mod Ascending
pub mod Changed
pub mod LawfulSteps
pub mod Numbers
pub mod Texts
pub mod TokenMaps
