use Rattle.std.proofs.Common.{◌≡◌, ◌∙◌, ℕ, List, slice_get, sym, ap, subst, Some, None, Contains}
use Rattle.std.specs.BTreeMap.{BTreeMap}
use Rattle.std.proofs.lemmas.Option.{none-some, same_Some}
use Rattle.repo_name.specs.declared.names.Name.{Name}
use Rattle.repo_name.proofs.Containing.{contains_got}
use Rattle.repo_check.specs.inner.Placing.{SaysPlace}
use Rattle.repo_check.proofs.Queueing.{not_placed, placed_at}
use Rattle.repo_check.proofs.queues.Visits.has.Goals as goal

pub returns-in-Some-visit_there : goal.returns-in-Some-visit_there
returns-in-Some-visit_there c =
    let inside = c.self.inside in
    let list = inside.list.items in
    let view : list ≡ c.args.self.now = c.self.view_is in
    let says : SaysPlace inside.index.items c.args.visit (Some c.in-Some.place) =
    subst (λ o. SaysPlace inside.index.items c.args.visit o) c.in-Some.is (subst (λ (ix : List (BTreeMap Name ℕ)). SaysPlace ix c.args.visit c.place_in.result) c.as_slice.ensures.value c.place_in.ensures) in
    let there : slice_get list c.in-Some.place ≡ Some c.in-Some-visit_there.found = ap (λ vs. slice_get vs c.in-Some.place) (sym c.as_slice-2.ensures.value) ∙ sym c.visit_there.ensures ∙ c.in-Some-visit_there.is in (
      λ yes. subst (λ vs. Contains vs c.args.visit) view (contains_got list c.in-Some.place c.args.visit (there ∙ ap Some (c.are_one.ensures.0 yes))),
      λ h. c.are_one.ensures.1 (same_Some c.in-Some-visit_there.found c.args.visit (sym there ∙ placed_at inside.index.items list c.args.visit c.in-Some.place c.self.invariant says (subst (λ vs. Contains vs c.args.visit) (sym view) h))),
    )

pub returns-in-None : goal.returns-in-None
returns-in-None c =
    let inside = c.self.inside in
    let list = inside.list.items in
    let says : SaysPlace inside.index.items c.args.visit (Some c.in-Some.place) =
    subst (λ o. SaysPlace inside.index.items c.args.visit o) c.in-Some.is (subst (λ (ix : List (BTreeMap Name ℕ)). SaysPlace ix c.args.visit c.place_in.result) c.as_slice.ensures.value c.place_in.ensures) in
    let none : slice_get list c.in-Some.place ≡ None = ap (λ vs. slice_get vs c.in-Some.place) (sym c.as_slice-2.ensures.value) ∙ sym c.visit_there.ensures ∙ c.in-None.is in (
      λ yes. absurd (cc yes),
      λ h. absurd (none-some c.args.visit (sym none ∙ placed_at inside.index.items list c.args.visit c.in-Some.place c.self.invariant says (subst (λ vs. Contains vs c.args.visit) (sym c.self.view_is) h))),
    )

pub returns-in_default : goal.returns-in_default
returns-in_default c =
    let inside = c.self.inside in
    let says : SaysPlace inside.index.items c.args.visit None =
    subst (λ o. SaysPlace inside.index.items c.args.visit o) c.in_default.is (subst (λ (ix : List (BTreeMap Name ℕ)). SaysPlace ix c.args.visit c.place_in.result) c.as_slice.ensures.value c.place_in.ensures) in (
      λ yes. absurd (cc yes),
      λ h. absurd (not_placed inside.index.items inside.list.items c.args.visit c.self.invariant says (subst (λ vs. Contains vs c.args.visit) (sym c.self.view_is) h)),
    )
