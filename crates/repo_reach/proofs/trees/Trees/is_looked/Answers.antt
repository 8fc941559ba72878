use Rattle.std.proofs.Common.{arith, ◌≡◌, ◌<◌, ℕ, List, Option, Some, slice_get, length, sym, ap, subst, ◌∙◌}
use Rattle.std.proofs.lemmas.Option.{same_Some}
use Rattle.repo_reach.specs.Walks.{StandsAt, flags_of}
use Rattle.repo_reach.specs.declared.looks.Seen.{Seen}
use Rattle.repo_reach.proofs.Looking.{looked_there}
use Rattle.repo_reach.proofs.trees.Trees.is_looked.Goals as goal

pub returns-in-Some-clause-looked : goal.returns-in-Some-clause-looked
returns-in-Some-clause-looked c = λ texts w within.
    let all = c.args.self.now.seen.items in
    let visit = c.args.visit in
    let at = c.in-Some.at in
    let stands : StandsAt all visit.tree (Some at) = subst (λ (o : Option ℕ). StandsAt all visit.tree o) (sym c.place_of.ensures ∙ c.in-Some.is) (w.places visit.tree) in
    let there = stands.0 in
    let flags = (w.seen.each at there.0 there.1).flags visit.follows in
    let few : visit.depth < length (flags_of there.0 visit.follows) = omega (arith, within, flags) in
    let is = c.is_past.ensures.looked there.0 (ap (λ (xs : List Seen). slice_get xs at) c.as_slice.ensures.value ∙ there.1) few in
    (λ yes. (at, there.0, there.1, there.2, is.0 yes), λ l. is.1 (looked_there all visit.tree at visit.follows visit.depth there.0 stands there.1 l))

pub returns-in-Some-clause-left : goal.returns-in-Some-clause-left
returns-in-Some-clause-left c = λ no at is.
    let left = c.is_past.ensures.left no in
    let same : c.in-Some.at ≡ at = same_Some c.in-Some.at at (sym c.in-Some.is ∙ c.place_of.ensures ∙ is) in (
      left.0,
      ap (λ (i : ℕ). slice_get c.args.self.now.seen.items i) (sym same) ∙ sym (ap (λ (xs : List Seen). slice_get xs c.in-Some.at) c.as_slice.ensures.value) ∙ left.1,
      left.2,
    )
