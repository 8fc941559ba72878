use Rattle.std.proofs.Common.{arith, ◌≡◌, ◌<◌, List, Some, slice_get, slice_index_or, slice_set, length, refl, sym, ap, subst, ⊎_elim, ◌∙◌}
use Rattle.std.proofs.lemmas.Option.{same_Some, slice_get-get_or, slice_get_within}
use Rattle.repo_reach.specs.Walks.{WasAt, AreSameTrees}
use Rattle.repo_reach.specs.declared.looks.Seen.{Seen}
use Rattle.repo_reach.proofs.Flagging.{set_back, get_set, as_many, each_never}
use Rattle.repo_reach.proofs.Looking.{below_or}
use Rattle.repo_reach.proofs.Steps.{all_same}
use Rattle.repo_reach.proofs.Rewinding.{one_same, trees_then, put_back}
use Rattle.repo_reach.proofs.looks.forget_depths.Goals as goal

pub loop-seen-init : goal.loop-seen-init
loop-seen-init c = (subst (λ (xs : List Seen). AreSameTrees c.args.all.now.items xs) (sym c.deref_mut-seen-items.ensures.value) (all_same c.args.all.now.items), λ i s follows depth few h was. absurd (omega (arith, few)))

pub loop-seen-preserved : goal.loop-seen-preserved
loop-seen-preserved c =
    let items = c.loop-seen.seen-items in
    let at = c.loop-seen.seen-index in
    let within : at < length items = (let f = c.loop-seen-test.true in let g = c.loop-seen.auto.seen-items in omega (arith, f, g)) in
    let old = slice_index_or items at c.seen-item.result in
    let new : Seen = record { name = old.name; links = old.links; joint = old.joint; depths = c.unset_all.new.depths; followed = c.unset_all-in-loop-seen.new.depths } in
    let here : slice_get items at ≡ Some old = slice_get-get_or items at c.seen-item.result within in (
      trees_then _ items _ c.loop-seen.invariant.0 (one_same items at old new here (record { name = refl; links = refl; joint = refl; flags = as_many old new c.unset_all.ensures.size c.unset_all-in-loop-seen.ensures.size })),
      λ i s follows depth few h was. ⊎_elim
          (λ less. ⊎_elim (λ g. (let e = g.0 in absurd (omega (arith, less, e)))) (λ g. c.loop-seen.invariant.1 i s follows depth less g was) (set_back items at new i s h))
          (λ same. (let is : new ≡ s = same_Some new s (sym (get_set items at new within) ∙ ap (λ j. slice_get (slice_set items at new) j) (sym same) ∙ h) in each_never new c.unset_all.ensures.none c.unset_all-in-loop-seen.ensures.none follows depth (subst (λ (z : Seen). WasAt z follows depth) (sym is) was))) (below_or i at few),
    )

pub returns-clause-never : goal.returns-clause-never
returns-clause-never c = λ i s follows depth here was.
    let items = c.loop-seen.seen-items in
    let long = c.loop-seen.auto.seen-items in
    let len = c.deref_mut-seen-items.ensures.len in
    let value : length c.deref_mut-seen-items.result.now ≡ length c.args.all.now.items = ap length c.deref_mut-seen-items.ensures.value in
    let whole = put_back items c.args.all.now.items c.args.all.now.len (omega (arith, long, len)) (omega (arith, value, len)) in
    let there : slice_get items i ≡ Some s = ap (λ (xs : List Seen). slice_get xs i) (sym whole) ∙ here in
    let few = slice_get_within items i s there in
    let end = c.loop-seen-test.false in
    c.loop-seen.invariant.1 i s follows depth (omega (arith, few, end, long)) there was
