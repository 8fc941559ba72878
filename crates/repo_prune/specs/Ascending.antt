-- In which order the objects of a kind are deleted.
use Rattle.std.specs.Prelude.{Contains}
use Rattle.repo_name.specs.Naming.{Before}
use Rattle.repo_name.specs.declared.kinds.Kind.{Kind}
use Rattle.repo_name.specs.declared.names.Name.{Name}
use Rattle.repo_session.specs.Deletions.{names_deleted}
use Rattle.repo_session.specs.Traces.{Trace}

-- a name is behind all those of its kind whose deletion was asked for, so that deletions ascend, and none is asked for again
abbrev pub IsBehindDeleted : Trace → Kind → Name → Type 0
IsBehindDeleted es k n = (m : Name) → Contains (names_deleted k es) m → Before m n
