pub mod PackLayout
pub mod PackReading
pub mod PackWriting
pub use Rattle.repo_name.specs.Naming
pub use Rattle.repo_name.specs.Ranges
