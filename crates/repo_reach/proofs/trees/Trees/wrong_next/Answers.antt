use Rattle.std.proofs.Common.{List, slice_get, sym, ap, ◌∙◌}
use Rattle.repo_reach.specs.declared.looks.Seen.{Seen}
use Rattle.repo_reach.proofs.Turning.{not_wrong, wrong}
use Rattle.repo_reach.proofs.trees.Trees.wrong_next.Goals as goal

pub returns-then-stands_in_place : goal.returns-then-stands_in_place
returns-then-stands_in_place c = λ texts seen n w here.
    let there = ap (λ (xs : List Seen). slice_get xs c.args.at) c.as_slice.ensures.value ∙ here in
    let goes = sym (c.next_at.ensures seen there) ∙ c.in-Some.is in
    not_wrong texts c.args.self.now w seen c.in-Some.next goes c.in-Some-place_of.behind (sym c.place_of.ensures ∙ c.in-Some-place_of.is)
    (λ after stands. (c.stands_in_place.ensures seen after (ap (λ (xs : List Seen). slice_get xs c.args.at) c.as_slice-2.ensures.value ∙ here) (ap (λ (xs : List Seen). slice_get xs c.in-Some-place_of.behind) c.as_slice-2.ensures.value ∙ stands)).0 c.if-stands_in_place.true)
    n

pub returns : goal.returns
returns c = λ texts seen w here.
    let there = ap (λ (xs : List Seen). slice_get xs c.args.at) c.as_slice.ensures.value ∙ here in
    let goes = sym (c.next_at.ensures seen there) ∙ c.in-Some.is in
    wrong texts c.args.self.now w seen c.in-Some.next goes c.in-Some-place_of.behind (sym c.place_of.ensures ∙ c.in-Some-place_of.is)
    (λ after stands fine.
    let yes = (c.stands_in_place.ensures seen after (ap (λ (xs : List Seen). slice_get xs c.args.at) c.as_slice-2.ensures.value ∙ here) (ap (λ (xs : List Seen). slice_get xs c.in-Some-place_of.behind) c.as_slice-2.ensures.value ∙ stands)).1 fine in
    let no = c.if-stands_in_place.false in
    absurd (cc))
