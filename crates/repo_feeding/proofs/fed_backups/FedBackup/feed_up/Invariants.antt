use Rattle.std.specs.Prelude.{◌-◌, ◌^◌}
use Rattle.std.proofs.Common.{◌≡◌}
use Rattle.repo_backup.specs.PieceBackups.{IsHungry}
use Rattle.repo_feeding.specs.FedStates.{feeder_of, told_to, job_of, FeedsOn, IsFedUpto}
use Rattle.repo_feeding.specs.inner.Rooms.{IsLessBy}
use Rattle.repo_session.specs.Traces.{Trace}
use Rattle.repo_feeding.proofs.fed_backups.FedBackup.feed_up.Given as goal

abbrev pub invariant-loop-turn : goal.invariant-loop-turn
invariant-loop-turn g l = record {
  goes : FeedsOn (feeder_of g.S.Source.told g.S.Source.name g.S.Source.failed g.S.Source.rewinds l.fn.self) (feeder_of g.S.Source.told g.S.Source.name g.S.Source.failed g.S.Source.rewinds l.self);
  less : (es fs : Trace) → IsFedUpto (feeder_of g.S.Source.told g.S.Source.name g.S.Source.failed g.S.Source.rewinds l.fn.self) es fs → IsHungry l.self.backup
      → IsLessBy l.turn (told_to g.S.Source.told g.S.Source.name l.self) l.self.room;
  full : ¬ IsHungry l.fn.self.backup → l.self ≡ l.fn.self;
  still : ¬ IsHungry l.fn.self.backup → ¬ IsHungry l.self.backup;
  job : job_of (feeder_of g.S.Source.told g.S.Source.name g.S.Source.failed g.S.Source.rewinds l.self) ≡ job_of (feeder_of g.S.Source.told g.S.Source.name g.S.Source.failed g.S.Source.rewinds l.fn.self);
  holder : l.self.backup.session.head.holder ≡ l.fn.self.backup.session.head.holder;
  awaited : l.self.awaited ≡ l.fn.self.awaited;
}

abbrev pub decreases-loop-turn : goal.decreases-loop-turn
decreases-loop-turn g l = 2 ^ 128 - l.turn
