-- The laws of the cuts of a list: they make up the list, are within bounds, are determined, and exist.
use Rattle.std.proofs.Common.{◌≡◌, ◌≢◌, ℕ, zero, suc, ◌+◌, ◌-◌, ◌<◌, ◌≤◌, ◌⊎◌, inl, inr, List, [], ◌∷◌, ◌++◌, length, take, drop, sum, refl, sym, ap, ◌∙◌, subst, zero-add, arith}
use Rattle.std.specs.Prelude.{All}
use Rattle.std.proofs.lemmas.List.{length-drop}
use Rattle.std.proofs.lemmas.List.Elements.{All-nil, All-cons}
use Rattle.std.proofs.lemmas.List.Sums.{sum_by-cons}
use Rattle.std.proofs.lemmas.Bool.{cases_lt, cases_eq, cases_order}
use Rattle.repo_chunk.specs.Parameters.{Parameters, AreLawful}
use Rattle.repo_chunk.specs.Cuts.{EndsAt, IsMarked, IsCut, HasNoCut, AreCuts}
use Rattle.repo_chunk.proofs.Cutting.{EndsAt-front, EndsAt-append}

module _ (params : Parameters) where
  -- ---- the sum

  pub cuts_sum : (bytes lengths : List ℕ) → AreCuts params bytes lengths → sum lengths ≡ length bytes
  cuts_sum bytes [] none = sym (ap length none)
  cuts_sum bytes (n ∷ ns) (inl (cut, rest)) =
      let all : sum (n ∷ ns) ≡ n + sum ns = sum_by-cons (λ k. k) n ns in
      let tail : sum ns ≡ length (drop n bytes) = cuts_sum (drop n bytes) ns rest in
      omega (arith, length-drop n bytes, cut.ends.present)
  cuts_sum bytes (n ∷ ns) (inr last) = ap sum (λ i. last.2 i ∷ last.3 i) ∙ zero-add (length bytes)

  -- ---- the bounds

  pub uncut_is_short : (bytes : List ℕ) → AreLawful params → HasNoCut params bytes → length bytes < params.max
  uncut_is_short bytes lawful uncut = elim (cases_lt (length bytes) params.max) [
    | inl short ↦ short
    | inr long ↦ absurd (uncut params.max (record { present = long; least = lawful.ordered; greatest = omega arith; reason = inl refl }))
  ]

  pub cuts_are_some : (bytes lengths : List ℕ) → AreLawful params → AreCuts params bytes lengths
      → All (λ n. (1 ≤ n) × (n ≤ params.max)) lengths
  cuts_are_some bytes [] lawful cuts = All-nil (λ n. (1 ≤ n) × (n ≤ params.max))
  cuts_are_some bytes (n ∷ ns) lawful (inl (cut, rest)) =
      All-cons (λ k. (1 ≤ k) × (k ≤ params.max)) n ns
      (omega (arith, lawful.least, cut.ends.least), cut.ends.greatest)
      (cuts_are_some (drop n bytes) ns lawful rest)
  cuts_are_some bytes (n ∷ ns) lawful (inr last) =
      let short : length bytes < params.max = uncut_is_short bytes lawful last.0 in
      let Bounds : List ℕ → Type 0 = λ xs. All (λ k. (1 ≤ k) × (k ≤ params.max)) (n ∷ xs) in
      subst Bounds (sym last.3) (All-cons (λ k. (1 ≤ k) × (k ≤ params.max)) n []
      (omega (arith, last.2, some bytes last.1), omega (arith, last.2))
      (All-nil (λ k. (1 ≤ k) × (k ≤ params.max))))
    where
      some : (xs : List ℕ) → xs ≢ [] → 1 ≤ length xs
      some [] ne = absurd (ne refl)
      some (x ∷ xs) ne = omega arith

  pub cuts_are_within : (bytes lengths : List ℕ) → AreCuts params bytes lengths
      → All (λ n. (params.min ≤ n) × (n ≤ params.max)) (take (length lengths - 1) lengths)
  cuts_are_within bytes [] cuts = All-nil (λ n. (params.min ≤ n) × (n ≤ params.max))
  cuts_are_within bytes (n ∷ []) cuts = All-nil (λ n. (params.min ≤ n) × (n ≤ params.max))
  cuts_are_within bytes (n ∷ k ∷ ns) (inl (cut, rest)) =
      let count : suc (length (k ∷ ns) - 1) ≡ length (n ∷ k ∷ ns) - 1 = omega arith in
      let Bounds : ℕ → Type 0 = λ j. All (λ k. (params.min ≤ k) × (k ≤ params.max)) (take j (n ∷ k ∷ ns)) in
      subst Bounds count (All-cons (λ k. (params.min ≤ k) × (k ≤ params.max)) n (take (length (k ∷ ns) - 1) (k ∷ ns))
      (cut.ends.least, cut.ends.greatest)
      (cuts_are_within (drop n bytes) (k ∷ ns) rest))
  cuts_are_within bytes (n ∷ k ∷ ns) (inr last) = let never : ⊥ = cc (last.3) in absurd never

  -- ---- one way to cut

  cut_is_unique : (bytes : List ℕ) (n k : ℕ) → IsCut params bytes n → IsCut params bytes k → n ≡ k
  cut_is_unique bytes n k a b = elim (cases_order n k) [
    | inl same ↦ same
    | inr (inl less) ↦ absurd (b.first n less a.ends)
    | inr (inr more) ↦ absurd (a.first k more b.ends)
  ]

  no_cut_of_nothing : (bytes : List ℕ) (n : ℕ) → AreLawful params → bytes ≡ [] → ¬ IsCut params bytes n
  no_cut_of_nothing bytes n lawful none cut = absurd (omega (arith, lawful.least, cut.ends.least, cut.ends.present, ap length none))

  pub cuts_are_unique : (bytes lengths others : List ℕ) → AreLawful params
      → AreCuts params bytes lengths → AreCuts params bytes others → lengths ≡ others
  cuts_are_unique bytes [] [] lawful a b = refl
  cuts_are_unique bytes [] (k ∷ ks) lawful a (inl (cut, rest)) = absurd (no_cut_of_nothing bytes k lawful a cut)
  cuts_are_unique bytes [] (k ∷ ks) lawful a (inr last) = absurd (last.1 a)
  cuts_are_unique bytes (n ∷ ns) [] lawful (inl (cut, rest)) b = absurd (no_cut_of_nothing bytes n lawful b cut)
  cuts_are_unique bytes (n ∷ ns) [] lawful (inr last) b = absurd (last.1 b)
  cuts_are_unique bytes (n ∷ ns) (k ∷ ks) lawful (inl (cut, rest)) (inl (also, others)) =
      let same : n ≡ k = cut_is_unique bytes n k cut also in
      let Rest : ℕ → Type 0 = λ j. AreCuts params (drop j bytes) ks in
      let tail : ns ≡ ks = cuts_are_unique (drop n bytes) ns ks lawful rest (subst Rest (sym same) others) in
      λ i. same i ∷ tail i
  cuts_are_unique bytes (n ∷ ns) (k ∷ ks) lawful (inl (cut, rest)) (inr last) = absurd (last.0 n cut.ends)
  cuts_are_unique bytes (n ∷ ns) (k ∷ ks) lawful (inr last) (inl (cut, rest)) = absurd (last.0 k cut.ends)
  cuts_are_unique bytes (n ∷ ns) (k ∷ ks) lawful (inr last) (inr also) =
      let same : n ≡ k = last.2 ∙ sym also.2 in
      let tail : ns ≡ ks = last.3 ∙ sym also.3 in
      λ i. same i ∷ tail i

  -- ---- each list is cut

  ends_or_not : (bytes : List ℕ) (n : ℕ) → EndsAt params bytes n ⊎ ¬ EndsAt params bytes n
  ends_or_not bytes n = elim (cases_lt (length bytes) n) [
    | inl beyond ↦ inr (λ e. absurd (omega (arith, e.present)))
    | inr present ↦ elim (cases_lt n params.min) [
      | inl small ↦ inr (λ e. absurd (omega (arith, e.least)))
      | inr least ↦ elim (cases_lt params.max n) [
        | inl large ↦ inr (λ e. absurd (omega (arith, e.greatest)))
        | inr greatest ↦ elim (cases_eq n params.max) [
          | inl full ↦ inl (record { present = present; least = least; greatest = greatest; reason = inl full })
          | inr shorter ↦ elim (marked_or_not (take n bytes)) [
            | inl marked ↦ inl (record { present = present; least = least; greatest = greatest; reason = inr marked })
            | inr unmarked ↦ inr (λ e. elim (e.reason) [ inl full ↦ shorter full | inr marked ↦ unmarked marked ])
          ]
        ]
      ]
    ]
  ]
    where
      marked_or_not : (front : List ℕ) → IsMarked params front ⊎ ¬ IsMarked params front
      marked_or_not front = cases_eq _ 0

  -- the least end below a number, or none
  least_below : (bytes : List ℕ) (bound : ℕ)
      → ((n : ℕ) × IsCut params bytes n) ⊎ ((k : ℕ) → k < bound → ¬ EndsAt params bytes k)
  least_below bytes zero = inr (λ k less. absurd (omega arith))
  least_below bytes (suc bound) = elim (least_below bytes bound) [
    | inl found ↦ inl found
    | inr none ↦ elim (ends_or_not bytes bound) [
      | inl ends ↦ inl (bound, record { ends = ends; first = none })
      | inr unended ↦ inr (λ k less. elim (cases_eq k bound) [
        | inl same ↦ (let Open : ℕ → Type 0 = λ j. ¬ EndsAt params bytes j in subst Open (sym same) unended)
        | inr other ↦ none k (omega arith)
      ])
    ]
  ]

  pub cut_or_none : (bytes : List ℕ) → ((n : ℕ) × IsCut params bytes n) ⊎ HasNoCut params bytes
  cut_or_none bytes = elim (least_below bytes (suc (length bytes))) [
    | inl found ↦ inl found
    | inr none ↦ inr (λ n e. none n (omega (arith, e.present)) e)
  ]

  cuts_within : (bound : ℕ) (bytes : List ℕ) → AreLawful params → length bytes ≤ bound
      → (lengths : List ℕ) × AreCuts params bytes lengths
  cuts_within bound [] lawful short = ([], refl)
  cuts_within zero (b ∷ bs) lawful short = absurd (omega arith)
  cuts_within (suc bound) (b ∷ bs) lawful short = elim (cut_or_none (b ∷ bs)) [
    | inl (n, cut) ↦
        (let less : length (drop n (b ∷ bs)) ≤ bound = omega (arith, length-drop n (b ∷ bs), lawful.least, cut.ends.least) in
        let rest = cuts_within bound (drop n (b ∷ bs)) lawful less in
        (n ∷ rest.0, inl (cut, rest.1)))
    | inr none ↦ (length (b ∷ bs) ∷ [], inr (none, (λ e. cc), refl, refl))
  ]

  pub cuts_exist : (bytes : List ℕ) → AreLawful params → (lengths : List ℕ) × AreCuts params bytes lengths
  cuts_exist bytes lawful = cuts_within (length bytes) bytes lawful (omega arith)

  -- ---- bytes that go on

  pub cuts_lie_in_front : (bytes more : List ℕ) (n : ℕ) → IsCut params (bytes ++ more) n → n ≤ length bytes → IsCut params bytes n
  cuts_lie_in_front bytes more n cut within = record {
    ends = EndsAt-front params bytes more n within cut.ends;
    first = λ k less e. cut.first k less (EndsAt-append params bytes more k e);
  }

  pub cuts_lie_beyond : (bytes more : List ℕ) (n : ℕ) → HasNoCut params bytes → IsCut params (bytes ++ more) n → length bytes < n
  cuts_lie_beyond bytes more n uncut cut = elim (cases_lt (length bytes) n) [
    | inl beyond ↦ beyond
    | inr within ↦ absurd (uncut n (EndsAt-front params bytes more n within cut.ends))
  ]
