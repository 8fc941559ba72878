use Rattle.std.proofs.Common.{◌≡◌, take}
use Rattle.repo_prune.proofs.indexing.copies_of.Given as goal

abbrev pub invariant-loop-pack : goal.invariant-loop-pack
invariant-loop-pack l = l.copies.items ≡ take l.pack-index l.packs
