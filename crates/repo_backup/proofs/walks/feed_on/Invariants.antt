-- Some first items were fed.
use Rattle.std.proofs.Common.{◌≡◌, length, None}
use Rattle.repo_backup.specs.BackupStates.{GoesSo}
use Rattle.repo_backup.specs.PieceStates.{IsSameWay}
use Rattle.repo_backup.specs.Plans.{left_fed}
use Rattle.repo_backup.specs.declared.walks.Went.{Went}
use Rattle.repo_backup.proofs.walks.feed_on.Given as goal

abbrev pub invariant-loop-position : goal.invariant-loop-position
invariant-loop-position l = record {
  goes : GoesSo l.lookup l.fn.work (left_fed l.fn.position l.steps) Went.On l.work (left_fed l.position l.steps);
  way : IsSameWay l.fn.work l.work;
  unlaid : l.work.parts ≡ None;
}

abbrev pub decreases-loop-position : goal.decreases-loop-position
decreases-loop-position l = length (left_fed l.position l.steps)
