-- The exchanges of a backup that feeds itself, as others see them.
use Rattle.std.specs.Prelude.{◌∷◌, []}
use Rattle.repo_session.specs.Traces.{Trace, giving}

-- the exchanges without what was fed between them
abbrev pub unfed : Trace → Trace
unfed [] = []
unfed (e ∷ es) = giving e.ask e.say e.emitted ∷ unfed es
