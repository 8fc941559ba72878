pub mod Cuts
pub mod Numbers
pub mod Tables
pub mod Sorts
pub mod Lines
