use Rattle.std.proofs.Common.{refl, sym, subst, inl}
use Rattle.repo_wire.specs.declared.messages.Ask.{Ask}
use Rattle.repo_prune.specs.PruneStates.{StepsFrom}
use Rattle.repo_prune.proofs.Pending.{delete_unwelcome}
use Rattle.repo_prune.proofs.prunes.Prune.take_delete.Goals as goal

pub returns-in-Done-clause-steps : goal.returns-in-Done-clause-steps
returns-in-Done-clause-steps c = λ own name.
    subst (λ s. StepsFrom c.args.self.now c.args.token (Ask.Delete own c.args.kind name) s c.delete_done.result c.delete_done.new.self) (sym c.in-Done.is) (c.delete_done.ensures.steps own name)

pub returns-in_default : goal.returns-in_default
returns-in_default c = record {
  steps = λ own name who es w obeys asked. delete_unwelcome own c.args.kind name c.args.say.now c.in_default.not-Done;
  heeds = inl refl;
  short = tt;
}
