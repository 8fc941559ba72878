pub mod Among
pub mod Places
pub mod Quiet
pub mod Feeding
pub mod Spelled
pub mod Fed
pub mod Unnoticed
pub mod Handing
