use Rattle.std.proofs.Common.{arith, ◌∷◌, [], length, ap}
use Rattle.std.proofs.lemmas.List.{length-append}
use Rattle.repo_many.proofs.servers.hall_of.Goals as goal

pub loop-place-preserved : goal.loop-place-preserved
loop-place-preserved c =
    let added = c.in_ok-add_place.ensures.ok in
    let long = ap length added.1 in
    let both = length-append c.loop-place.hall.guests.items (added.0 ∷ []) in
    let before = c.loop-place.invariant.1 in
    (λ from failed. c.add_place.ensures.stands from from failed failed _ (c.loop-place.invariant.0 from failed), omega (arith, long, both, before))
