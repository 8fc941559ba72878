use Rattle.std.proofs.Common.{sym, subst}
use Rattle.std.proofs.lemmas.Result.{IfOk-weaker}
use Rattle.repo_wire.specs.declared.messages.Ask.{Ask}
use Rattle.repo_wire.specs.declared.messages.Say.{Say}
use Rattle.repo_prune.specs.PruneStates.{StepsFrom}
use Rattle.repo_prune.specs.Pruning.{PruneMay}
use Rattle.repo_session.proofs.Sessioning.{put_unwelcome}
use Rattle.repo_prune.proofs.prunes.Prune.take_put.Goals.{in_default-via-in-Done+in_default, in_default-via-in_default}
use Rattle.repo_prune.proofs.prunes.Prune.take_put.Goals as goal

pub returns-in-Done-Pack-clause-steps : goal.returns-in-Done-Pack-clause-steps
returns-in-Done-Pack-clause-steps c = IfOk-weaker c.pack_done.result _ _ (λ step h own name x.
    let old = c.args.self.now in
    let new = c.pack_done.new.self in
    subst (λ s. StepsFrom old c.args.token (Ask.Put own c.args.kind name x) s step new) (sym c.in-Done-Pack.is-0) (subst (λ j. StepsFrom old c.args.token (Ask.Put own j name x) Say.Done step new) (sym c.in-Done-Pack.is-1) (h own name x))) c.pack_done.ensures.steps

pub returns-in-Done-Index-clause-steps : goal.returns-in-Done-Index-clause-steps
returns-in-Done-Index-clause-steps c = IfOk-weaker c.index_done.result _ _ (λ step h own name x.
    let old = c.args.self.now in
    let new = c.index_done.new.self in
    subst (λ s. StepsFrom old c.args.token (Ask.Put own c.args.kind name x) s step new) (sym c.in-Done-Index.is-0) (subst (λ j. StepsFrom old c.args.token (Ask.Put own j name x) Say.Done step new) (sym c.in-Done-Index.is-1) (h own name x))) c.index_done.ensures.steps

pub returns-in_default-clause-steps : goal.returns-in_default-clause-steps
returns-in_default-clause-steps c = λ own name x who es w obeys asked. elim c.in_default.branch [
  | in_default-via-in-Done+in_default done ↦ absurd (subst (λ j. PruneMay es (Ask.Put own j name x)) done.in_default.is-1 asked.allowed.1)
  | in_default-via-in_default other ↦ put_unwelcome own c.args.kind name x c.args.say.now other.in_default.not-Done-0
]
