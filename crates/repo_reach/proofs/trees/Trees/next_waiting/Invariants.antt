use Rattle.std.proofs.Common.{ℕ, List, length}
use Rattle.repo_reach.specs.Walks.{IsWalk, IsSameSeen}
use Rattle.repo_reach.proofs.trees.Trees.next_waiting.Given as goal

abbrev pub invariant-loop-visit : goal.invariant-loop-visit
invariant-loop-visit l = IsSameSeen l.fn.self l.self × ((texts : List (List ℕ)) → IsWalk texts l.fn.self → IsWalk texts l.self)

abbrev pub decreases-loop-visit : goal.decreases-loop-visit
decreases-loop-visit l = length l.self.waiting.items
