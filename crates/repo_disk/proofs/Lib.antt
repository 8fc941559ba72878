mod CellLemmas
mod CutLemmas
