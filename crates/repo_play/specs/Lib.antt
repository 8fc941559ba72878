-- What a script means, in the order in which it is read: what is done with a world, what each line does, what is written of all lines; and then for which of
-- all this the parts of the engine stand.
pub mod Steps
pub mod Feeding
pub mod Lines
pub mod Plays
pub mod Laws
pub mod Frames
pub mod inner
