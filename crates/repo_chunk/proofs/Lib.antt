mod Bits
mod Entries
mod Linear
mod Windows
pub mod Cutting
pub mod CutLaws
pub mod FirstCuts
mod Held
mod UnderWay
