use Rattle.std.proofs.Common.{List}
use Rattle.repo_reach.specs.declared.roots.Root.{Root}
use Rattle.repo_check.specs.Walks.{HasGoneOn, Walks, known_of, walk_of}
use Rattle.repo_check.proofs.walks.Walk.go_on.Given as goal

abbrev pub invariant-loop-place : goal.invariant-loop-place
invariant-loop-place l = HasGoneOn (walk_of l.fn.self) (walk_of l.self) × ((roots : List Root) → Walks roots (walk_of l.fn.self) → Walks roots (record { known = known_of l.self.known; visits = l.self.visits; place = l.place }))
