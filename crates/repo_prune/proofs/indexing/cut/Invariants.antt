use Rattle.std.proofs.Common.{◌≡◌, ◌<◌, ◌-◌, ◌^◌, ℕ, length, take, min}
use Rattle.repo_index.specs.IndexText.{facts_in}
use Rattle.repo_prune.proofs.indexing.cut.Given as goal

abbrev pub invariant-loop-pack : goal.invariant-loop-pack
invariant-loop-pack l = (l.count ≡ min (length (facts_in (take l.pack-index l.packs))) (2 ^ 64 - 1)) × (l.taken ≡ l.pack-index) × ((fewer : ℕ) → fewer < l.pack-index → length (facts_in (take fewer l.packs)) < 20_000)
