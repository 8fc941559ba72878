-- The facts so far are those of the first blobs.
use Rattle.repo_index.proofs.ViewLemmas.{AreFirst}
use Rattle.repo_index.proofs.facts.PackFacts.of_pack.Given as goal

abbrev pub invariant-loop-place : goal.invariant-loop-place
invariant-loop-place l = AreFirst l.pack l.view l.facts.items l.place
