-- The packs so far are those of the first facts.
use Rattle.std.proofs.Common.{take}
use Rattle.repo_index.specs.Lookups.{ArePacksOf}
use Rattle.repo_index.proofs.placed.Placed.packs.Given as goal

abbrev pub invariant-loop-fact : goal.invariant-loop-fact
invariant-loop-fact l = ArePacksOf (take l.fact-index l.fact-items) l.packs.items
