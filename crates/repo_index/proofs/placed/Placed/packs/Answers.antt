use Rattle.std.proofs.Common.{rules, ◌+◌, [], List, take, ap, sym, subst, ◌∙◌}
use Rattle.std.specs.List.Sorted.{IsStrictlySortedBy}
use Rattle.repo_name.specs.declared.names.Name.{Name}
use Rattle.repo_index.specs.Order.{place_first}
use Rattle.repo_index.specs.Lookups.{ArePacksOf}
use Rattle.repo_index.proofs.PackLemmas.{packs_none, packs_passed, packs_added}
use Rattle.repo_index.proofs.placed.Placed.packs.Goals as goal
use Rattle.repo_index.proofs.placed.Placed.packs.Goals.{then-not-ends_with+in_ok-push, else-not-ends_with}

pub loop-fact-init : goal.loop-fact-init
loop-fact-init c = subst (ArePacksOf []) (sym c.new-packs.ensures.items) packs_none

pub loop-fact-preserved : goal.loop-fact-preserved
loop-fact-preserved c =
    let facts = c.as_slice-fact-items.result.now in
    let i = c.loop-fact.fact-index in
    let packs = c.as_slice.result.now in
    let P : List Name → Type 0 = ArePacksOf (take (i + 1) facts) in
    let are = subst (ArePacksOf (take i facts)) (sym c.as_slice.ensures.value) c.loop-fact.invariant in
    elim c.if-not-ends_with.branch [
      | then-not-ends_with+in_ok-push w ↦
          let sorted : IsStrictlySortedBy place_first facts = subst (IsStrictlySortedBy place_first) (sym c.as_slice-fact-items.ensures.value) c.self.invariant.1 in
          let after = packs_added facts i _ packs c.loop-fact-test.true are sorted (λ ends. let yes = c.ends_with.ensures.1 ends in let no = w.if-not-ends_with.true in absurd (cc)) in
          subst P (search rules) after
      | else-not-ends_with w ↦ subst P (c.as_slice.ensures.value ∙ sym (ap (λ v. v.items) w.packs-is)) (packs_passed facts i _ packs c.loop-fact-test.true are (c.ends_with.ensures.0 w.if-not-ends_with.false))
    ]
