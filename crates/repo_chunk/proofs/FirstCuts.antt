-- The first cuts of bytes that go on: how they grow, what is left behind them, and where they are all.
use Rattle.std.proofs.Common.{◌≡◌, ℕ, ◌+◌, ◌≤◌, inl, inr, List, [], ◌∷◌, ◌++◌, length, drop, sum, refl, sym, ap, ◌∙◌, subst, arith}
use Rattle.std.proofs.lemmas.List.{length-drop, drop-drop, drop-append-le}
use Rattle.std.proofs.lemmas.List.Sums.{sum_by-cons}
use Rattle.repo_chunk.specs.Parameters.{Parameters}
use Rattle.repo_chunk.specs.Cuts.{IsCut, HasNoCut, AreCuts, AreFirstCuts, unfinished}
use Rattle.repo_chunk.proofs.Cutting.{IsCut-append}

module _ (params : Parameters) where
  pub first_cuts_grow : (bytes lengths rest more : List ℕ)
      → AreFirstCuts params bytes lengths rest → AreFirstCuts params (bytes ++ more) lengths (rest ++ more)
  first_cuts_grow bytes [] rest more is = ap (λ xs. xs ++ more) is
  first_cuts_grow bytes (n ∷ ns) rest more (cut, tail) = (
    IsCut-append params bytes more n cut,
    (let Rest : List ℕ → Type 0 = λ xs. AreFirstCuts params xs ns (rest ++ more) in
        subst Rest (sym (drop-append-le n bytes more cut.ends.present)) (first_cuts_grow (drop n bytes) ns rest more tail)),
  )

  pub first_cuts_gain : (bytes lengths rest : List ℕ) (n : ℕ) → AreFirstCuts params bytes lengths rest → IsCut params rest n
      → AreFirstCuts params bytes (lengths ++ n ∷ []) (drop n rest)
  first_cuts_gain bytes [] rest n is cut =
      let Bytes : List ℕ → Type 0 = λ xs. IsCut params xs n in
      (subst Bytes is cut, ap (drop n) is)
  first_cuts_gain bytes (k ∷ ks) rest n (first, tail) cut = (first, first_cuts_gain (drop k bytes) ks rest n tail cut)

  last_cut : (bytes : List ℕ) → HasNoCut params bytes → AreCuts params bytes (unfinished (length bytes))
  last_cut [] uncut = refl
  last_cut (b ∷ bs) uncut = inr (uncut, (λ e. cc), refl, refl)

  pub first_cuts_end : (bytes lengths rest : List ℕ) → AreFirstCuts params bytes lengths rest → HasNoCut params rest
      → AreCuts params bytes (lengths ++ unfinished (length rest))
  first_cuts_end bytes [] rest is uncut =
      let Bytes : List ℕ → Type 0 = λ xs. AreCuts params xs (unfinished (length rest)) in
      subst Bytes is (last_cut rest uncut)
  first_cuts_end bytes (n ∷ ns) rest (cut, tail) uncut = inl (cut, first_cuts_end (drop n bytes) ns rest tail uncut)

  pub first_cuts_leave : (bytes lengths rest : List ℕ) → AreFirstCuts params bytes lengths rest
      → (sum lengths ≤ length bytes) × (rest ≡ drop (sum lengths) bytes)
  first_cuts_leave bytes [] rest is = (omega arith, is)
  first_cuts_leave bytes (n ∷ ns) rest (cut, tail) =
      let after = first_cuts_leave (drop n bytes) ns rest tail in
      let all : sum (n ∷ ns) ≡ n + sum ns = sum_by-cons (λ k. k) n ns in (
        omega (arith, length-drop n bytes, cut.ends.present, after.0),
        after.1 ∙ drop-drop (sum ns) n bytes ∙ ap (λ k. drop k bytes) (sym all),
      )
