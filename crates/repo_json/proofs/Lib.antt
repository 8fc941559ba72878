pub mod LengthLemmas
pub mod ListingLemmas
pub mod NameLemmas
