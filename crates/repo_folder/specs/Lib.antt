pub mod Folders
pub mod Laws
pub mod Ledgers
pub mod Listings
pub mod Lives
pub mod Spelling
