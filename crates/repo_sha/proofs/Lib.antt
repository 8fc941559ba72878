mod Majority
mod LaneLemmas
mod SumLemmas
mod MessageLemmas
mod BatchLemmas
mod UnderWay
pub mod PieceLemmas
