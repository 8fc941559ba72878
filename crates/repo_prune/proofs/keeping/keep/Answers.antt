use Rattle.std.proofs.Common.{rules, ◌≡◌, ◌+◌, ◌++◌, ◌∷◌, [], List, Some, Contains, map, option_map, length, slice_get, refl, sym, ap, subst, ◌∙◌}
use Rattle.std.specs.Borrow.{Bor}
use Rattle.std.specs.List.Sorted.{IsSortedBy}
use Rattle.std.proofs.lemmas.Option.{slice_get-map, slice_get_read}
use Rattle.repo_name.specs.declared.names.Name.{Name}
use Rattle.repo_prune.specs.Keeping.{Row}
use Rattle.repo_prune.specs.inner.Walks.{is_before, IsKeptAt, RowStandsAt}
use Rattle.std.specs.List.Sorted.{IsPermutation, IsStrictlySortedBy}
use Rattle.std.proofs.lemmas.List.{length-map}
use Rattle.std.proofs.lemmas.List.Sorted.{Contains-permutation, IsPermutation-sym, IsPermutation-map}
use Rattle.std.proofs.lemmas.List.Kept.{IsStrictlySortedBy-dedup, Contains-dedup, Contains-from_dedup}
use Rattle.std.proofs.lemmas.List.Filters.{dedup_is}
use Rattle.std.proofs.lemmas.Map.Text.{is_eq-slice_cmp}
use Rattle.repo_name.specs.Naming.{name_cmp}
use Rattle.repo_index.specs.Order.{names_total}
use Rattle.repo_index.proofs.OrderLemmas.{names_exact}
use Rattle.repo_prune.proofs.Picks.{is_equal}
use Rattle.repo_prune.proofs.Going.{AreNamesTo, are_kept, name_kept, name_passed, sorted_descends}
use Rattle.repo_prune.proofs.keeping.keep.Goals as goal
use Rattle.repo_prune.proofs.keeping.keep.Goals.{then-is_kept+in_ok-push, else-is_kept}

pub loop-row-preserved : goal.loop-row-preserved
loop-row-preserved c =
    let policy = c.args.policy.now in
    let refs = c.as_slice-row-items.result.now in
    let rows = map (λ (r : Bor Row). r.now) refs in
    let i = c.loop-row.row-index in
    let row = c.row-item.result.now in
    let standing = c.after-standing.result in
    let names = c.loop-row.names.items in
    let sorted = subst (λ l. IsSortedBy (λ (a b : Bor Row). is_before b.now a.now) l) (sym c.as_slice-row-items.ensures.value) c.in_ok-sorted.ensures.sorted in
    let at : slice_get refs i ≡ Some c.row-item.result = slice_get_read refs (length refs) i c.row-item.result refl c.loop-row-test.true c.row-item.is in
    let here : slice_get rows i ≡ Some row = slice_get-map (λ (r : Bor Row). r.now) refs i ∙ ap (λ o. option_map (λ (r : Bor Row). r.now) o) at in
    let stands = c.after-standing.ensures rows i (sorted_descends refs sorted) here c.loop-row.invariant.0 in
    let itself : RowStandsAt rows i standing.row.now standing = subst (λ r. RowStandsAt rows i r standing) (sym stands.same) stands in
    let kept = c.is_kept.ensures rows i itself in
    let N : List Name → Type 0 = λ l. AreNamesTo policy rows (i + 1) l in (
      (i, refl, itself),
      elim c.if-is_kept.branch [
        | then-is_kept+in_ok-push w ↦ (let is : c.if-is_kept.names.items ≡ names ++ row.0 ∷ [] = search rules in subst N (sym is) (name_kept policy rows i row names here (subst (λ r. IsKeptAt policy rows r) stands.same (kept.0 w.if-is_kept.true)) c.loop-row.invariant.1))
        | else-is_kept w ↦ (let is : c.if-is_kept.names.items ≡ names = ap (λ v. v.items) w.names-is in subst N (sym is) (name_passed policy rows i row names here (λ k. let yes = kept.1 (subst (λ r. IsKeptAt policy rows r) (sym stands.same) k) in let no = w.if-is_kept.false in absurd (cc)) c.loop-row.invariant.1))
      ],
    )

pub returns : goal.returns
returns c =
    let policy = c.args.policy.now in
    let refs = c.as_slice-row-items.result.now in
    let rows = map (λ (r : Bor Row). r.now) refs in
    let before = c.in_ok-sorted.ensures.same in
    let same = IsPermutation-map (λ (r : Bor Row). r.now) before.0 refs (subst (λ l. IsPermutation before.0 l) (sym c.as_slice-row-items.ensures.value) before.2) in
    let names = c.loop-row.names.items in
    let sorted = c.sort_unstable.new.self.items in
    let given = c.dedup.new.self.items in
    let all : c.loop-row.row-index ≡ length refs = search rules in
    let end : c.loop-row.row-index ≡ length rows = all ∙ sym (length-map refs (λ (r : Bor Row). r.now)) in
    let is = dedup_is _ sorted given c.dedup.ensures.filtered in
    record {
      kept = are_kept policy c.args.rows.now rows names given (subst (λ l. IsPermutation l rows) before.1 same) (subst (λ k. AreNamesTo policy rows k names) end c.loop-row.invariant.1)
          (λ n. (
            λ has. Contains-permutation sorted names n (IsPermutation-sym names sorted c.sort_unstable.ensures.permutation) (Contains-from_dedup _ sorted n (subst (λ l. Contains l n) is has)),
            λ has. subst (λ l. Contains l n) (sym is) (Contains-dedup (search rules) (λ x y h. names_exact x y (is_equal (name_cmp x y) (is_eq-slice_cmp x.0 y.0 ∙ h))) sorted n (Contains-permutation names sorted n c.sort_unstable.ensures.permutation has)),
          ))
          (subst (λ l. IsStrictlySortedBy name_cmp l) (sym is) (IsStrictlySortedBy-dedup names_total (λ x y. sym (is_eq-slice_cmp x.0 y.0)) sorted c.sort_unstable.ensures.sorted));
    }
