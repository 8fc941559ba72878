pub mod Ends
pub mod Dialing
pub mod Bringing
pub mod Recording
