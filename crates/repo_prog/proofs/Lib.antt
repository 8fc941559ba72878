pub mod LineLemmas
pub mod AddressLemmas
pub mod ListenLemmas
pub mod WordLemmas
pub mod TalkLemmas
pub mod AskLemmas
pub mod JobLemmas
pub mod TellLemmas
pub mod ServedLemmas
pub mod SpelledLemmas
mod Entering
