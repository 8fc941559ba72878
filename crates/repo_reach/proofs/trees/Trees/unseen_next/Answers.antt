use Rattle.std.proofs.Common.{List, slice_get, sym, ap, subst, ◌∙◌}
use Rattle.std.proofs.lemmas.Option.{same_Some}
use Rattle.repo_reach.specs.Walks.{HasSeen}
use Rattle.repo_reach.specs.declared.looks.Seen.{Seen}
use Rattle.repo_reach.proofs.Turning.{has_seen}
use Rattle.repo_reach.proofs.trees.Trees.unseen_next.Goals as goal

pub returns-in-Some-place_of : goal.returns-in-Some-place_of
returns-in-Some-place_of c = λ texts seen w here n goes.
    let next = c.in-Some.next in
    let is = c.next_at.ensures seen (ap (λ (xs : List Seen). slice_get xs c.args.at) c.as_slice.ensures.value ∙ here) in
    let same = same_Some next n (sym c.in-Some.is ∙ is ∙ goes) in
    subst (HasSeen c.args.self.now.seen.items) same (has_seen texts c.args.self.now w next c.in-Some-place_of.field-0 (sym c.place_of.ensures ∙ c.in-Some-place_of.is))
