pub mod DialLemmas
pub mod BringLemmas
pub mod SessionLemmas
pub mod TryLemmas
pub mod GoingLemmas
pub mod HandLemmas
pub mod MeetLemmas
pub mod RecordLemmas
