use Rattle.std.proofs.Common.{◌≡◌, ◌++◌, drop, map}
use Rattle.repo_check.specs.Gathering.{fault_noted}
use Rattle.repo_check.proofs.gathering.faults_of.Given as goal

abbrev pub invariant-loop-note : goal.invariant-loop-note
invariant-loop-note g l = l.faults.items ++ map fault_noted (drop l.note-index l.notes) ≡ map fault_noted l.notes
