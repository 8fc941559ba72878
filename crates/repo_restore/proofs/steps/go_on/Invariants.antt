use Rattle.std.proofs.Common.{◌≡◌, ◌+◌, ◌++◌, ℕ, List, false, length}
use Rattle.repo_name.specs.declared.names.Name.{Name}
use Rattle.repo_session.specs.declared.emissions.Emission.{Emission}
use Rattle.repo_session.specs.Rebuilding.{rebuilt}
use Rattle.repo_session.specs.Traces.{Trace}
use Rattle.repo_session.specs.Received.{Received}
use Rattle.repo_restore.specs.Walks.{AtOpen, WalkGave}
use Rattle.repo_restore.specs.Moves.{HasMoved}
use Rattle.repo_restore.proofs.steps.go_on.Given as goal

abbrev pub invariant-loop-up : goal.invariant-loop-up
invariant-loop-up l = ((gs : Trace) (version : ℕ) (root : Name) (old : List Emission) → AtOpen version (Received gs) root l.fn.levels (length l.fn.levels) l.fn.begun (rebuilt (old ++ l.fn.out.items)) → WalkGave l.fn.lookup version (Received gs) root false old l.fn.out.items
    → ((k : ℕ) → k + l.up ≡ length l.levels → AtOpen version (Received gs) root l.levels k l.begun (rebuilt (old ++ l.out.items))) × WalkGave l.fn.lookup version (Received gs) root false old l.out.items)
    × HasMoved l.fn.levels l.fn.begun l.fn.out.items l.up l.begun l.out.items
