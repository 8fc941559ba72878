-- The laws that this crate proves.
pub mod Laws
