-- What holds of all runs; that the definitions can be met; and wrong rules.
pub mod Laws
pub mod BagLaws
pub mod Fed
pub mod Lone
pub mod Connected
pub mod Example
pub mod Backed
pub mod SomeTexts
pub mod WrongDeletes
pub mod WrongLocks
pub mod WrongPacksFirst
pub mod WrongListedPacks
pub mod WrongSnapshots
pub mod WrongReplies
