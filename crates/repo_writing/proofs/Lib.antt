-- The lemmas that the crates above need, too.
pub mod BlobLemmas
pub mod PutLemmas
pub mod Filling
pub mod Listings
pub mod Writings
pub mod Unlisted
pub mod Keeping
pub mod Replacing
