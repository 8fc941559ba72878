use Rattle.std.proofs.Common.{◌≡◌, ◌≤◌, ◌+◌, ◌-◌, ◌++◌, ℕ, List, Option, length, take, drop, sym, ap, subst, arith, ◌∙◌, length-drop}
use Rattle.std.specs.Io.KnownBytes.{Appends}
use Rattle.std.proofs.Math.Seq.{take-add, take-length}
use Rattle.std.proofs.KnownBytes.{Appends-trans}

-- the whole of what is left of a list is what is left of it
pub take-rest : (done : ℕ) (bs : List ℕ) → take (length bs - done) (drop done bs) ≡ drop done bs
take-rest done bs = ap (λ n. take n (drop done bs)) (sym (length-drop done bs)) ∙ take-length (drop done bs)

-- some more first bytes
pub written_more : (a b c : Option (List ℕ)) (bs : List ℕ) (done n : ℕ) (piece : List ℕ) → piece ≡ drop done bs → done ≤ length bs → n ≤ length piece
    → Appends a b (take done bs) → Appends b c (take n piece) → (done + n ≤ length bs) × Appends a c (take (done + n) bs)
written_more a b c bs done n piece same within few front more =
    let l : length piece ≡ length bs - done = ap length same ∙ length-drop done bs in
    let P : List ℕ → Type 0 = λ x. Appends a c x in (
      omega arith,
      subst P (ap (λ x. take done bs ++ take n x) same ∙ sym (take-add done n bs)) (Appends-trans a b c (take done bs) (take n piece) front more),
    )
