use Rattle.std.proofs.Common.{◌≡◌, sym, subst, inl, ◌∙◌}
use Rattle.std.proofs.lemmas.Option.{same_Some}
use Rattle.repo_session.specs.declared.jobs.Step.{Step}
use Rattle.repo_backup.specs.PieceStates.{IsPieceFull}
use Rattle.repo_backup.proofs.BackupStepping.{some_waits}
use Rattle.repo_backup.proofs.PieceStepping.{index_step}
use Rattle.repo_backup.proofs.Staging.{if_ok}
use Rattle.repo_backup.proofs.piece_jobs.PieceJob.send_index.Goals as goal

pub returns-clause-sends : goal.returns-clause-sends
returns-clause-sends c = if_ok _ _ c.put_index.result (λ (step : Step) puts b es working is due.
    let j = c.args.self.now in
    let a = c.in-Some.backing in
    let same : b ≡ a = same_Some b a (sym is ∙ c.in-Some.is) in
    let m : IsPieceFull j.catalog.lookup a es = subst (λ x. IsPieceFull j.catalog.lookup x es) same due in
    index_step j.catalog j.backing a c.in-Some.is c.args.holder.now es working m.0 c.token.result step c.token.ensures (some_waits a.waiting m.1) (inl m.1) puts) c.put_index.ensures.puts
