use Rattle.std.proofs.Common.{◌∷◌, refl, subst}
use Rattle.std.proofs.lemmas.Result.{IfOk-weaker}
use Rattle.repo_name.specs.declared.kinds.Kind.{Kind}
use Rattle.repo_wire.specs.declared.messages.Ask.{Ask}
use Rattle.repo_wire.specs.declared.messages.Say.{Say}
use Rattle.repo_session.specs.Traces.{Exchange, silent}
use Rattle.repo_prune.specs.PruneStates.{KnowsStage, known_in}
use Rattle.repo_prune.specs.declared.prunes.Prune.{Prune}
use Rattle.repo_prune.specs.declared.prunes.Stage.{Stage}
use Rattle.repo_prune.proofs.Pending.{index_pending}
use Rattle.repo_prune.proofs.PruneListing.{may_step}
use Rattle.repo_prune.proofs.PrunePacks.{index_put, index_asked, index_none}
use Rattle.repo_prune.proofs.prunes.Prune.index_done.Goals as goal

pub returns-in-Some-clause-steps : goal.returns-in-Some-clause-steps
returns-in-Some-clause-steps c = λ own name x who es w obeys asked.
    let old = c.args.self.now in
    let k = known_in old in
    let e : Exchange = silent (Ask.Put own Kind.Index name x) Say.Done in
    let r = c.in-Relisting.relisting in
    let known = subst (λ s. KnowsStage k s (Ask.Put own Kind.Index name x) es) c.in-Relisting.is asked.knows in
    let may = index_put k r own name x e es refl refl known in
    let new : Prune = record { snapshots = old.snapshots; catalog = old.catalog; packs = old.packs; stage = Stage.Relisting c.next.new.self; target = old.target; alloc = old.alloc } in
    may_step new who e es c.in-Some.step refl (λ part. absurd part) (index_asked k r c.next.new.self (e ∷ es) may who c.args.token c.in-Some.step w (rw c.in-Some.is at c.in_ok-step.ensures.on))

pub returns-in-None-clause-steps : goal.returns-in-None-clause-steps
returns-in-None-clause-steps c = IfOk-weaker c.finish_indexes.result _ _ (λ step goes own name x who es w obeys asked.
    let old = c.args.self.now in
    let k = known_in old in
    let e : Exchange = silent (Ask.Put own Kind.Index name x) Say.Done in
    let r = c.in-Relisting.relisting in
    let known = subst (λ s. KnowsStage k s (Ask.Put own Kind.Index name x) es) c.in-Relisting.is asked.knows in
    let may = index_put k r own name x e es refl refl known in
    let gone = goes c.next.new.self refl who (e ∷ es) w (index_none k r c.next.new.self (e ∷ es) may c.args.token (rw c.in-None.is at c.in_ok-step.ensures.on)) in
    may_step c.finish_indexes.new.self who e es step refl (λ part. absurd part) gone.0) c.finish_indexes.ensures.steps

pub returns-in_default : goal.returns-in_default
returns-in_default c = record {
  steps = λ own name x who es w obeys asked. (let r = index_pending (known_in c.args.self.now) c.args.self.now.stage own name x es asked.knows in absurd (c.in_default.not-Relisting r.0 r.1));
  short = tt;
  knows = tt;
}
