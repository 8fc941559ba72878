use Rattle.repo_backup.specs.Plans.{left_fed}
use Rattle.repo_backup.proofs.BackupStepping.{goes_then, way_then}
use Rattle.repo_backup.proofs.walks.feed_on.Goals as goal

pub returns-in_default : goal.returns-in_default
returns-in_default c = record {
  ok = goes_then c.args.lookup.now c.args.work.now c.loop-position.work c.feed_next.new.work (left_fed c.args.position.now c.args.steps.now) (left_fed c.loop-position.position c.args.steps.now) (left_fed c.feed_next.new.position c.args.steps.now)
      c.in_ok-went.went c.loop-position.invariant.goes c.in_ok-went.ensures.ok;
  all = λ on. absurd (c.in_default.not-On on);
  laid = λ on. absurd (c.in_default.not-On on);
  err = tt;
  way = way_then c.args.work.now c.loop-position.work c.feed_next.new.work c.loop-position.invariant.way c.feed_next.ensures.way;
}
