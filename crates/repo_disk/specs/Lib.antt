pub mod Cuts
pub mod Disks
pub mod Drafts
pub mod Memory
