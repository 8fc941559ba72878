use Rattle.std.proofs.Common.{◌≡◌, sym, subst, inl, ◌∙◌}
use Rattle.std.proofs.lemmas.Option.{same_Some}
use Rattle.repo_session.specs.declared.jobs.Step.{Step}
use Rattle.repo_backup.specs.BackupStates.{IsFullNow}
use Rattle.repo_backup.specs.Backups.{handed_to, left_in}
use Rattle.repo_backup.specs.PieceStates.{IsIdleAt}
use Rattle.repo_backup.proofs.BackupStepping.{index_sent, some_waits}
use Rattle.repo_backup.proofs.Staging.{if_ok}
use Rattle.repo_backup.proofs.backups.Backup.send_index.Goals as goal

pub returns-clause-sends : goal.returns-clause-sends
returns-clause-sends c = if_ok _ _ c.put_index.result (λ (step : Step) puts b es working is due.
    let j = c.args.self.now in
    let a = c.in-Some.backing in
    let same : b ≡ a = same_Some b a (sym is ∙ c.in-Some.is) in
    let m : IsFullNow (handed_to j) j.catalog.lookup a (left_in j) es = subst (λ x. IsFullNow (handed_to j) j.catalog.lookup x (left_in j) es) same due in
    let g = m.0.goes in
    let done : IsIdleAt j.catalog.lookup a g.items es = record { puts = m.0.puts; at = g.at; unsealed = g.unsealed; listed = m.0.none; few = m.0.few } in
    index_sent j c.args.holder.now es working a c.in-Some.is g.items g.leads done c.token.result step c.token.ensures (some_waits a.waiting m.1) (inl m.1) puts) c.put_index.ensures.puts
