pub mod Placing
pub mod Gaining
