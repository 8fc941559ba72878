use Rattle.std.proofs.Common.{arith, ◌≡◌, ◌<◌, length, slice_get, Some, OnOk, refl, sym, ap, subst, ◌∙◌}
use Rattle.std.specs.Prelude.{slice_set}
use Rattle.std.proofs.lemmas.Option.{slice_get-get_or}
use Rattle.repo_check.specs.inner.Placing.{GivesPlace, KeepsPlaces}
use Rattle.repo_check.proofs.Queueing.{place_put, places_kept}
use Rattle.repo_check.proofs.queues.put_place.Goals as goal

pub returns-in-Some-clause-kept : goal.returns-in-Some-clause-kept
returns-in-Some-clause-kept c =
    let items = c.args.index.now.items in
    let map = c.in-Some.map.now in
    let new = c.insert_named.new.map in
    let tree = c.args.visit.tree in
    let ok = c.args.index.now.ok in
    let less = c.in-Some.ensures.variant.0 refl in
    let within : c.slot_of.result < length items = omega (arith, ok, less) in
    let there : slice_get items c.slot_of.result ≡ Some map = slice_get-get_or items c.slot_of.result map within ∙ ap Some (sym c.in-Some.ensures.value) in
    subst (λ s. KeepsPlaces items s tree (slice_set items c.slot_of.result new)) c.slot_of.ensures (places_kept c.insert_named.result items c.slot_of.result tree c.args.place map new there c.insert_named.ensures.ok c.insert_named.ensures.err)

pub returns-in-Some-clause-put : goal.returns-in-Some-clause-put
returns-in-Some-clause-put c =
    let items = c.args.index.now.items in
    let new = c.insert_named.new.map in
    let tree = c.args.visit.tree in
    subst (λ s. OnOk c.insert_named.result (s < length items → GivesPlace (slice_set items c.slot_of.result new) s tree c.args.place)) c.slot_of.ensures
    (place_put c.insert_named.result items c.slot_of.result tree c.args.place c.in-Some.map.now new c.insert_named.ensures.ok)
