-- The facts so far are those of the first blobs.
use Rattle.std.proofs.Common.{◌≡◌, map, take}
use Rattle.repo_index.specs.Exactness.{fact_in}
use Rattle.repo_index.proofs.facts.PackFacts.of_sealed.Given as goal

abbrev pub invariant-loop-blob : goal.invariant-loop-blob
invariant-loop-blob l = l.facts.items ≡ map fact_in (take l.blob-index l.blobs)
