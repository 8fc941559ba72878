-- The facts of the packs that were looked at are counted.
use Rattle.std.proofs.Common.{◌≡◌, ◌-◌, ◌^◌, length, take, min}
use Rattle.repo_index.specs.IndexText.{facts_in}
use Rattle.repo_writing.proofs.puts.is_full.Given as goal

abbrev pub invariant-loop-pack : goal.invariant-loop-pack
invariant-loop-pack l = l.count ≡ min (length (facts_in (take l.pack-index l.packs))) (2 ^ 64 - 1)
