-- The definitions of the world, in the order in which they are read: what is said of all runs comes first, and then why it holds.
pub mod Clients
pub mod Duties
pub mod World
pub mod Events
pub mod Safe
pub mod Laws
pub mod Calmness
pub mod Starting
pub mod Rules
pub mod AnyClients
pub mod Seats
pub mod Flows
pub mod Stages
pub mod Reports
pub mod Bag
pub mod BagLaws
pub mod inner
