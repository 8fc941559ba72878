use Rattle.std.proofs.Common.{ℕ, List}
use Rattle.repo_reach.specs.Walks.{IsWalk, IsSameWalk, BrokenOnes, unlooked}
use Rattle.repo_reach.proofs.trees.Trees.next.Given as goal

abbrev pub invariant-loop-visit : goal.invariant-loop-visit
invariant-loop-visit l = IsSameWalk l.fn.self l.self × ((texts : List (List ℕ)) → IsWalk texts l.fn.self → IsWalk texts l.self) × ((texts : List (List ℕ)) → IsWalk texts l.fn.self → BrokenOnes (λ n. ⊥) l.fn.self.seen.items l.self.seen.items)

abbrev pub decreases-loop-visit : goal.decreases-loop-visit
decreases-loop-visit l = unlooked l.self.seen.items
