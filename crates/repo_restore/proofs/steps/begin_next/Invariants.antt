use Rattle.std.proofs.Common.{◌≡◌, ◌≢◌, ◌⊎◌, [], ℕ, List}
use Rattle.repo_name.specs.declared.names.Name.{Name}
use Rattle.repo_tree.specs.declared.entries.Entry.{Entry}
use Rattle.repo_session.specs.declared.emissions.Emission.{Emission}
use Rattle.repo_session.specs.Traces.{Trace}
use Rattle.repo_session.specs.Received.{Received}
use Rattle.repo_restore.specs.Walking.{LevelStands}
use Rattle.repo_restore.proofs.steps.begin_next.Given as goal

abbrev pub invariant-loop-at : goal.invariant-loop-at
invariant-loop-at l = ((gs : Trace) (version : ℕ) (root first : Name) (before : List Entry) (old : List Emission) → LevelStands l.fn.lookup version (Received gs) root first l.fn.level l.fn.begun before old l.fn.out.items → LevelStands l.fn.lookup version (Received gs) root first l.level l.at before old l.out.items)
    × ((l.out.items ≢ []) ⊎ ((l.out.items ≡ l.fn.out.items) × (l.at ≡ l.fn.begun)))
