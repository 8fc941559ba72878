pub mod Containing
pub mod CountLemmas
pub mod NameMaps
pub mod RowLemmas
