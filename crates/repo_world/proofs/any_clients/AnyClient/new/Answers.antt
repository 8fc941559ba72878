use Rattle.std.proofs.Common.{◌∙◌, sym, ap, subst}
use Rattle.repo_world.specs.Starting.{IsNotBegun}
use Rattle.repo_world.specs.declared.jobs.Job.{Job}
use Rattle.repo_world.proofs.any_clients.AnyClient.new.Goals as goal

pub returns-in-Err-clause-refused : goal.returns-in-Err-clause-refused
returns-in-Err-clause-refused c = subst (λ job. IsNotBegun job c.entries_refused.result) (ap Job.Backup c.into_inner.ensures ∙ sym c.in-Backup.is)
    (c.entries_refused.ensures c.into_inner.result.items c.in-Err.ensures.refused)
