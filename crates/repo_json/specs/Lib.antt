pub mod JsonNames
pub mod JsonText
pub mod Listing
