use Rattle.std.proofs.Common.{◌≡◌, length, take}
use Rattle.repo_session.specs.Rebuilding.{rebuilt}
use Rattle.repo_restore.specs.Restoring.{counted}
use Rattle.repo_restore.proofs.steps.count_entries.Given as goal

abbrev pub invariant-loop-emission : goal.invariant-loop-emission
invariant-loop-emission l = l.count ≡ counted (length (rebuilt (take l.emission-index l.emitted)))
