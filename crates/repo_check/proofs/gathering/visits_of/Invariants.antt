use Rattle.std.proofs.Common.{drop}
use Rattle.repo_check.proofs.Gatherings.{HasBegun}
use Rattle.repo_check.proofs.gathering.visits_of.Given as goal

abbrev pub invariant-loop-note : goal.invariant-loop-note
invariant-loop-note l = HasBegun l.notes (drop l.note-index l.notes) l.visits
