use Rattle.std.proofs.Common.{inl, inr, refl, subst, ◌∙◌}
use Rattle.std.proofs.lemmas.Result.{err_from_is_err_and}
use Rattle.std.specs.Fn.{CalledAt}
use Rattle.repo_name.specs.declared.names.Name.{Name}
use Rattle.repo_session.specs.Askers.{Asker}
use Rattle.repo_dial.specs.Bringing.{BroughtInto}
use Rattle.repo_restore.specs.Restoring.{restore_rule}
use Rattle.repo_restore.specs.RestoreStates.{wish_of}
use Rattle.repo_prog.specs.Jobs.{vault_asker}
use Rattle.repo_prog.proofs.restore.restored.Goals as goal

pub returns-in_err-who-clause-came : goal.returns-in_err-who-clause-came
returns-in_err-who-clause-came g c =
    let p = err_from_is_err_and c.from_residual.result c.from_residual.ensures.1 in
    rw (p.1, p.2) (inl (refl, refl, refl))

pub returns-clause-came : goal.returns-clause-came
returns-clause-came g c =
    let made = c.new-restore.ensures in
    let Into : Name → Asker → Type 0 = λ name who. BroughtInto (CalledAt g.S.FnMut) c.args.sink.now (restore_rule name) who c.bring_into.result c.args.route.now.retry (g.D.Dial.connections c.args.route.now.dial) (g.D.Dial.connections c.bring_into.new.dial) c.bring_into.new.sink in
    inr (subst (λ name. Into name (vault_asker c.args.caller.now)) made.snapshot (subst (λ who. Into (wish_of c.new-restore.result).snapshot who) (made.who ∙ c.in_ok-who.ensures) c.bring_into.ensures))
