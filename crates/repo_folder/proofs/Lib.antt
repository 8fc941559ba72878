mod Deciding
mod LedgerLemmas
mod LifeLemmas
mod ListingLemmas
mod Settling
mod SpellingLemmas
