use Rattle.std.proofs.Common.{arith, ◌≡◌, ◌<◌, ◌++◌, ℕ, List, Some, None, length, slice_get, append_assoc, sym, ap, subst, ◌∙◌}
use Rattle.std.proofs.lemmas.Option.{slice_get_within}
use Rattle.repo_check.specs.Walks.{known_of}
use Rattle.repo_check.specs.declared.visiting.Visit.{Visit}
use Rattle.repo_check.proofs.Walking.{made_more, none_left, over_at}
use Rattle.repo_check.proofs.walks.Walk.go_on.Goals as goal

pub returns-in_default-clause-next : goal.returns-in_default-clause-next
returns-in_default-clause-next c = λ roots h.
    let now = c.loop-place.self in
    let none : slice_get now.visits c.loop-place.place ≡ None = sym c.visit.ensures ∙ c.in_default.is in
    over_at roots (known_of now.known) now.visits c.loop-place.place c.loop-place.place (none_left roots now.visits c.loop-place.place none) (c.loop-place.invariant.1 roots h)

pub loop-place-preserved : goal.loop-place-preserved
loop-place-preserved c =
    let now = c.loop-place.self in
    let before = c.loop-place.invariant.0 in
    let adds = c.in_ok-add_led.ensures.among in
    let there : slice_get now.visits c.loop-place.place ≡ Some c.in-Some.visit = sym c.visit.ensures ∙ c.in-Some.is in (
      record {
        known = before.known;
        more = before.more ++ adds.0;
        visits = adds.1 ∙ ap (λ vs. vs ++ adds.0) before.visits ∙ append_assoc c.args.self.now.visits before.more adds.0;
      },
      λ roots h.
          made_more roots (known_of now.known) now.visits c.add_led.new.visits c.loop-place.place c.in-Some.visit there (c.due.ensures.settled c.in_default-due.is) adds c.in_ok-add_led.ensures.all (c.loop-place.invariant.1 roots h),
    )

pub returns-clause-next : goal.returns-clause-next
returns-clause-next c = λ roots h.
    let now = c.loop-place.self in
    let stop = c.loop-place-test.false in
    let small : length now.visits < 18446744073709551616 = subst (λ (vs : List Visit). length vs < 18446744073709551616) c.as_slice.ensures c.count-self.ensures.small in
    let past : (i : ℕ) (v : Visit) → slice_get now.visits i ≡ Some v → i < c.loop-place.place = λ i v there. (let within = slice_get_within now.visits i v there in omega (arith, within, small, stop)) in
    over_at roots (known_of now.known) now.visits c.loop-place.place c.count-self.result past (c.loop-place.invariant.1 roots h)
