use Rattle.std.proofs.Common.{◌∷◌, ◌++◌, [], Vec, Global, refl, sym, ap, subst, inl, ◌∙◌}
use Rattle.std.proofs.lemmas.Result.{IfOk-weaker, on_err_weaker}
use Rattle.repo_wire.specs.declared.messages.Ask.{Ask}
use Rattle.repo_session.specs.Traces.{Exchange, silent}
use Rattle.repo_session.specs.declared.jobs.Step.{Step}
use Rattle.repo_reach.specs.declared.roots.Root.{Root}
use Rattle.repo_session.specs.Versions.{upto}
use Rattle.repo_prune.specs.PruneStates.{IsNextStep, KnowsStage, KnowsWalking, known_in}
use Rattle.repo_prune.specs.declared.prunes.Prune.{Prune}
use Rattle.repo_prune.specs.declared.prunes.Stage.{Stage}
use Rattle.repo_prune.proofs.PruneListing.{may_step}
use Rattle.repo_prune.proofs.PruneTrees.{tree_asked, walk_more, tree_ended}
use Rattle.repo_prune.proofs.prunes.Prune.take_tree.Goals as goal

pub returns-in-Ask-clause-steps : goal.returns-in-Ask-clause-steps
returns-in-Ask-clause-steps c = λ trees fact pack offset len is who es w obeys asked.
    let old = c.args.self.now in
    let k = known_in old in
    let ask : Ask = Ask.Range pack offset len in
    let e : Exchange = silent ask c.args.say.now in
    let t = c.in-Walking.trees in
    let f = c.in-Walking.fact in
    let known = subst (λ s. KnowsStage k s ask es) c.in-Walking.is asked.knows in
    let takes = rw c.in-Ask.is at c.in_ok-next.ensures.takes in
    let g = takes known.texts known.awaits in
    let n = c.take_tree.new.trees in
    let over = walk_more k known.texts t n f e es g.0 known.over known.awaits known.asks g.1 c.take_tree.ensures.roots in
    let new : Prune = record { snapshots = old.snapshots; catalog = old.catalog; packs = old.packs; stage = Stage.Walking n c.in-Ask.next; target = old.target; alloc = old.alloc } in
    let may = tree_asked k who c.args.token (e ∷ es) (known.texts ++ g.0 ∷ []) n c.in-Ask.next w over g.2 in
    may_step new who e es (Step.Ask c.range_ask.result) refl (λ part. (f, inl known.wanted, (known.asks, g.0, g.1.bytes, g.1.long, g.1.named))) (subst (λ a. IsNextStep k who (Stage.Walking n c.in-Ask.next) (Step.Ask a) (e ∷ es)) (sym c.range_ask.ensures.ask) may)

pub returns-in-Done-clause-steps : goal.returns-in-Done-clause-steps
returns-in-Done-clause-steps c = IfOk-weaker c.finish_trees.result _ _ (λ step goes trees fact pack offset len is who es w obeys asked.
    let old = c.args.self.now in
    let k = known_in old in
    let ask : Ask = Ask.Range pack offset len in
    let e : Exchange = silent ask c.args.say.now in
    let t = c.in-Walking.trees in
    let f = c.in-Walking.fact in
    let known = subst (λ s. KnowsStage k s ask es) c.in-Walking.is asked.knows in
    let takes = rw c.in-Done.is at c.in_ok-next.ensures.takes in
    let g = takes known.texts known.awaits in
    let n = c.take_tree.new.trees in
    let over = walk_more k known.texts t n f e es g.0 known.over known.awaits known.asks g.1 c.take_tree.ensures.roots in
    let gone = goes n f refl who (e ∷ es) w (record { texts = known.texts ++ g.0 ∷ []; over = over; walks = g.2.0; whole = g.2.1 }) in
    may_step c.finish_trees.new.self who e es step refl (λ part. (f, inl known.wanted, (known.asks, g.0, g.1.bytes, g.1.long, g.1.named))) gone.0) c.finish_trees.ensures.steps

pub returns-in-Done-clause-knows : goal.returns-in-Done-clause-knows
returns-in-Done-clause-knows c = on_err_weaker c.finish_trees.result (λ again trees fact pack offset len is es knows.
    let old = c.args.self.now in
    let k = known_in old in
    let ask : Ask = Ask.Range pack offset len in
    let e : Exchange = silent ask c.args.say.now in
    let t = c.in-Walking.trees in
    let f = c.in-Walking.fact in
    let known = subst (λ s. KnowsStage k s ask es) c.in-Walking.is knows in
    let n = c.take_tree.new.trees in
    let a = again n f refl in
    let taken = c.in_ok-next.ensures.taken c.in-Done.is in
    let now : KnowsWalking k a.now f ask es = record {
      texts = known.texts;
      over = record { read = known.over.read; untouched = known.over.untouched; roots = ap (λ (v : Vec Root Global). v.items) (a.roots ∙ c.take_tree.ensures.roots) ∙ known.over.roots; received = known.over.received; all = known.over.all; apart = known.over.apart; parts = known.over.parts };
      awaits = a.still k.facts known.texts t taken known.awaits;
      asks = known.asks;
      wanted = known.wanted;
    } in
    let new = c.finish_trees.new.self in
    subst (λ z. KnowsStage z new.stage ask es) (sym c.finish_trees.ensures.known) (subst (λ s. KnowsStage k s ask es) (sym a.stage_is) now)) c.finish_trees.ensures.again

pub returns-in-Ended-clause-steps : goal.returns-in-Ended-clause-steps
returns-in-Ended-clause-steps c = λ trees fact pack offset len is who es w obeys asked.
    let old = c.args.self.now in
    let k = known_in old in
    let ask : Ask = Ask.Range pack offset len in
    let e : Exchange = silent ask c.args.say.now in
    let t = c.in-Walking.trees in
    let f = c.in-Walking.fact in
    let known = subst (λ s. KnowsStage k s ask es) c.in-Walking.is asked.knows in
    let takes = rw c.in-Ended.is at c.in_ok-next.ensures.takes in
    rw c.end.ensures.end (inl refl, tree_ended (upto who.versions) k known.texts t c.take_tree.new.trees f e es c.in-Ended.why known.over known.awaits known.asks known.wanted c.take_tree.ensures.roots (takes known.texts known.awaits))
