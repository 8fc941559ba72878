use Rattle.std.proofs.Common.{◌∷◌, refl, subst}
use Rattle.repo_wire.specs.declared.messages.Ask.{Ask}
use Rattle.repo_wire.specs.declared.messages.Say.{Say}
use Rattle.repo_session.specs.Traces.{Exchange, silent}
use Rattle.repo_prune.specs.PruneStates.{KnowsStage, known_in}
use Rattle.repo_prune.specs.declared.prunes.Prune.{Prune}
use Rattle.repo_prune.specs.declared.prunes.Stage.{Stage}
use Rattle.repo_prune.proofs.Pending.{delete_pending}
use Rattle.repo_prune.proofs.PruneListing.{may_step}
use Rattle.repo_prune.proofs.PruneDeletes.{one_gone, clears}
use Rattle.repo_prune.proofs.prunes.Prune.delete_done.Goals as goal

pub returns-clause-steps : goal.returns-clause-steps
returns-clause-steps c = λ own name who es w obeys asked.
    let old = c.args.self.now in
    let k = known_in old in
    let kind = c.args.kind in
    let e : Exchange = silent (Ask.Delete own kind name) Say.Done in
    let d = c.in-Deleting.deleting in
    let f = c.note_gone.new.self in
    let known = subst (λ s. KnowsStage k s (Ask.Delete own kind name) es) c.in-Deleting.is asked.knows in
    let new : Prune = record { snapshots = old.snapshots; catalog = old.catalog; packs = old.packs; stage = Stage.Deleting f; target = old.target; alloc = old.alloc } in
    may_step new who e es c.next.result refl (λ part. absurd part) (clears k f who c.args.token (e ∷ es) w (one_gone kind d f own name es known c.note_gone.ensures) c.next.result c.next.ensures.next)

pub returns-in_default : goal.returns-in_default
returns-in_default c = record {
  steps = λ own name who es w obeys asked. (let d = delete_pending (known_in c.args.self.now) c.args.self.now.stage own c.args.kind name es asked.knows in absurd (c.in_default.not-Deleting d.0 d.1));
  short = tt;
}
