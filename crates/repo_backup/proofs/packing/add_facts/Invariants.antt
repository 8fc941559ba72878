-- The facts so far are those of the first blobs, and there is room for the others.
use Rattle.std.proofs.Common.{◌≡◌, ◌≤◌, ◌+◌, ◌-◌, ◌++◌, map, take, length, vec_len}
use Rattle.std.specs.Prelude.{vec_capacity}
use Rattle.repo_index.specs.Exactness.{fact_in}
use Rattle.repo_backup.proofs.packing.add_facts.Given as goal

abbrev pub invariant-loop-blob : goal.invariant-loop-blob
invariant-loop-blob l = record {
  facts : l.facts.items ≡ l.initial.facts.items ++ map fact_in (take l.blob-index l.blobs);
  room : vec_len l.facts + (length l.blobs - l.blob-index) ≤ vec_capacity l.facts;
}
