pub mod Arriving
pub mod Connected
pub mod Endings
pub mod Rooms
pub mod Times
pub mod Wires
