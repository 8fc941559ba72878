mod NumberLemmas
pub mod CutLemmas
