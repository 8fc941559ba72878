use Rattle.std.proofs.Common.{◌≡◌}
use Rattle.repo_feeding.specs.FedStates.{feeder_of, job_of, FeedsOn}
use Rattle.repo_feeding.proofs.fed_backups.FedBackup.feed_ahead.Given as goal

abbrev pub invariant-loop : goal.invariant-loop
invariant-loop g l = record {
  goes : FeedsOn (feeder_of g.S.Source.told g.S.Source.name g.S.Source.failed g.S.Source.rewinds l.fn.self) (feeder_of g.S.Source.told g.S.Source.name g.S.Source.failed g.S.Source.rewinds l.self);
  job : job_of (feeder_of g.S.Source.told g.S.Source.name g.S.Source.failed g.S.Source.rewinds l.self) ≡ job_of (feeder_of g.S.Source.told g.S.Source.name g.S.Source.failed g.S.Source.rewinds l.fn.self);
  holder : l.self.backup.session.head.holder ≡ l.fn.self.backup.session.head.holder;
  awaited : l.self.awaited ≡ l.fn.self.awaited;
}
