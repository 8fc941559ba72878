-- Lemmas that the proofs of this crate share.
pub mod Flagging
pub mod Looking
pub mod Steps
pub mod Rewinding
pub mod Adding
pub mod Turning
pub mod Reaching
pub mod Using
pub mod Leading
pub mod Reading
pub mod Telling
