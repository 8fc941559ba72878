use Rattle.std.proofs.Common.{drop, Contains}
use Rattle.repo_check.specs.Gathering.{facts_noted}
use Rattle.repo_check.proofs.Gatherings.{Gathers}
use Rattle.repo_check.proofs.gathering.lookup_of.Given as goal

abbrev pub invariant-loop-note : goal.invariant-loop-note
invariant-loop-note l = Gathers facts_noted (λ fact. Contains l.lookup fact) (drop l.note-index l.notes) l.notes
