use Rattle.std.proofs.Common.{◌∙◌}
use Rattle.repo_feeding.proofs.fed_backups.FedBackup.feed_ahead.Goals as goal

pub loop-preserved : goal.loop-preserved
loop-preserved g c = record {
  goes = λ es fs upto. (let m = c.loop.invariant.goes es fs upto in c.feed_once.ensures.goes es m.0 m.1);
  job = c.feed_once.ensures.job ∙ c.loop.invariant.job;
  holder = c.feed_once.ensures.holder ∙ c.loop.invariant.holder;
  awaited = c.feed_once.ensures.awaited ∙ c.loop.invariant.awaited;
}

pub returns-then-is_err-clause-goes : goal.returns-then-is_err-clause-goes
returns-then-is_err-clause-goes g c = λ es fs upto. (let m = c.loop.invariant.goes es fs upto in c.feed_once.ensures.goes es m.0 m.1)
