use Rattle.std.proofs.Common.{◌≡◌, ◌<◌, ◌/◌, ◌++◌, ◌∷◌, ◌∙◌, List, ℕ, [], Bool, true, false, not, sym, ap, get_or, length, refl, arith}
use Rattle.std.proofs.lemmas.List.{take_more}
use Rattle.std.specs.Cmp.Lexicographic.{bytes_decides}
use Rattle.repo_pack.specs.declared.rows.Row.{Row}
use Rattle.repo_pack.specs.PackReading.{row_in, rows_in}
use Rattle.repo_pack.proofs.NameLemmas.{map-rows_in_more, get_or-map-rows_in}
use Rattle.repo_pack.proofs.rows.have_names.Goals as goal

differ : (same test : Bool) → test ≡ not same → test ≡ true → same ≡ true → ⊥
differ true test told holds h = absurd cc
differ false test told holds h = absurd cc

alike : (same test : Bool) → test ≡ not same → test ≡ false → same ≡ true
alike true test told fails = refl
alike false test told fails = absurd cc

pub loop-place-init : goal.loop-place-init
unfolding rows_in
loop-place-init c = refl

pub returns-then-ne : goal.returns-then-ne
returns-then-ne c = (
  λ none. absurd cc,
  λ same.
      let header = c.args.header.now in
      let place = c.loop-place.place in
      let inside : place < length header / 37 = omega (arith, c.loop-place-test.true, c.requires) in
      let row = c.row_at.ensures ∙ ap row_in c.from_entry.ensures in
      let there = get_or-map-rows_in (λ (r : Row). r.name.0) (length header / 37) place header [] inside in
      let is = ap (λ (r : Row). r.name.0) row ∙ sym there ∙ ap (λ (ns : List (List ℕ)). get_or ns place []) same in
      absurd (differ _ c.ne.result c.ne.ensures c.if-ne.true ((bytes_decides c.row_at.result.name.0 (get_or c.args.names.now place [])).1 is)),
)

pub loop-place-preserved : goal.loop-place-preserved
loop-place-preserved c =
    let header = c.args.header.now in
    let names = c.args.names.now in
    let place = c.loop-place.place in
    let row = c.row_at.ensures ∙ ap row_in c.from_entry.ensures in
    let is = (bytes_decides c.row_at.result.name.0 (get_or names place [])).0 (alike _ c.ne.result c.ne.ensures c.if-ne.false) in
    let last = sym (ap (λ (r : Row). r.name.0) row) ∙ is in
    map-rows_in_more (λ (r : Row). r.name.0) place header
    ∙ (λ i. c.loop-place.invariant i ++ last i ∷ [])
    ∙ sym (take_more names place [] c.loop-place-test.true)
