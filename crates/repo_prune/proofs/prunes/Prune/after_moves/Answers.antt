use Rattle.std.proofs.lemmas.Result.{IfOk-weaker}
use Rattle.repo_prune.specs.PruneStates.{known_in}
use Rattle.repo_prune.proofs.PrunePacks.{may_list, index_asked, index_none}
use Rattle.repo_prune.proofs.prunes.Prune.after_moves.Goals as goal

pub returns-in-Some-clause-on : goal.returns-in-Some-clause-on
returns-in-Some-clause-on c = λ who es w h.
    let k = known_in c.args.self.now in
    let r = c.in_ok-relisting.relisting in
    let is = c.in_ok-relisting.ensures in
    let same = rw c.as_slice-packs.ensures.value at is.packs in
    let may = may_list k c.args.moving.now r es h same is.ascend is.counts is.listed is.indexes in
    index_asked k r c.next.new.self es may who c.args.token c.in-Some.step w (rw c.in-Some.is at c.in_ok-step.ensures.on)

pub returns-in-None-clause-on : goal.returns-in-None-clause-on
returns-in-None-clause-on c = IfOk-weaker c.after_indexes.result _ _ (λ onward comes who es w h.
    let k = known_in c.args.self.now in
    let r = c.in_ok-relisting.relisting in
    let is = c.in_ok-relisting.ensures in
    let same = rw c.as_slice-packs.ensures.value at is.packs in
    let may = may_list k c.args.moving.now r es h same is.ascend is.counts is.listed is.indexes in
    comes who es w (index_none k r c.next.new.self es may c.args.token (rw c.in-None.is at c.in_ok-step.ensures.on))) c.after_indexes.ensures.on
