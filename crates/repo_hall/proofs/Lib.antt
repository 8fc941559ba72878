mod Staying
pub mod Hosting
mod Joining
pub mod Turning
