use Rattle.std.proofs.Common.{inr}
use Rattle.std.proofs.lemmas.Result.{IfOk-weaker}
use Rattle.repo_prune.specs.PruneStates.{known_in}
use Rattle.repo_prune.proofs.MissingPacks.{all_in, pack_missing}
use Rattle.repo_prune.proofs.prunes.Prune.after_lists.Goals as goal

pub returns-in-None-clause-on : goal.returns-in-None-clause-on
returns-in-None-clause-on c = IfOk-weaker c.after_packs.result _ _ (λ onward comes who es w h.
    let k = known_in c.args.self.now in
    let found = rw c.in-None.is at c.in_ok-unlisted_pack.ensures.found in
    let there = rw c.as_slice-packs.ensures.value at found in
    comes who es w (record { all = h.0; there = all_in k es h.0 there }, h.1)) c.after_packs.ensures.on

pub returns-in-Some-clause-on : goal.returns-in-Some-clause-on
returns-in-Some-clause-on c = λ who es w h.
    let k = known_in c.args.self.now in
    let found = rw c.in-Some.is at c.in_ok-unlisted_pack.ensures.found in
    let unlisted = rw c.as_slice-packs.ensures.value at found in
    rw c.end.ensures.end (λ come. inr (h.1, pack_missing k es h.0 c.in-Some.pack unlisted))
