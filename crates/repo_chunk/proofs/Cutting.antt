-- Where a chunk ends, as the bytes go on, and what the window of a chunker says of it.
use Rattle.std.proofs.Common.{◌≡◌, ℕ, ◌+◌, ◌-◌, ◌%◌, ◌^◌, ◌<◌, ◌≤◌, ◌⊎◌, inl, inr, List, ◌++◌, length, take, drop, min, sym, ap, ◌∙◌, subst, arith}
use Rattle.std.proofs.Math.Seq.{drop-append-add}
use Rattle.std.proofs.lemmas.List.{length-append, append_assoc, length-drop, drop-drop, drop_at, drop_all, drop_min, drop-take, drop-append-le, length-take, take_at, take-append-le, take-append-drop, take_all}
use Rattle.std.proofs.lemmas.Bool.{cases_lt}
use Rattle.repo_chunk.specs.Parameters.{Parameters, AreLawful}
use Rattle.repo_chunk.specs.Rabin.{remainder}
use Rattle.repo_chunk.specs.inner.Rolling.{window_at, IsMarkedAt, HasNoMarkBefore}
use Rattle.repo_chunk.specs.Cuts.{last, IsMarked, EndsAt, IsCut, HasNoCut}

-- ---- the last 64 bytes, behind 64 bytes of filling

pub last_filled : (filling m : List ℕ) → length filling ≡ 64 → last 64 (filling ++ m) ≡ drop (length m) (filling ++ m)
last_filled filling m wide =
    let count : length (filling ++ m) - 64 ≡ length m = omega (arith, length-append filling m) in
    ap (λ k. drop k (filling ++ m)) count

-- the last of the last, with more behind them
pub last_goes_on : (bytes more : List ℕ) → 64 ≤ length bytes → last 64 (last 64 bytes ++ more) ≡ last 64 (bytes ++ more)
last_goes_on bytes more long =
    let front : ℕ = length bytes - 64 in
    let wide : length (drop front bytes) ≡ 64 = omega (arith, length-drop front bytes) in
    let count : front + length more ≡ length (bytes ++ more) - 64 = omega (arith, length-append bytes more) in
    last_filled (drop front bytes) more wide
    ∙ ap (drop (length more)) (sym (drop-append-le front bytes more (omega arith)))
    ∙ drop-drop (length more) front (bytes ++ more)
    ∙ ap (λ k. drop k (bytes ++ more)) count

-- the window of a chunker, with more behind it
pub last_slides : (filling m window more : List ℕ) → length filling ≡ 64 → window ≡ last 64 (filling ++ m)
    → last 64 (window ++ more) ≡ last 64 (filling ++ (m ++ more))
last_slides filling m window more wide is =
    ap (λ w. last 64 (w ++ more)) is ∙ last_goes_on (filling ++ m) more (omega (arith, length-append filling m))
    ∙ ap (last 64) (append_assoc filling m more)

-- of 64 bytes or more the filling is not among the last 64
pub last_unfilled : (filling m : List ℕ) → length filling ≡ 64 → 64 ≤ length m → last 64 (filling ++ m) ≡ last 64 m
last_unfilled filling m wide long =
    let count : length m ≡ 64 + (length m - 64) = omega arith in
    last_filled filling m wide
    ∙ ap (λ k. drop k (filling ++ m)) count
    ∙ sym (drop-drop (length m - 64) 64 (filling ++ m))
    ∙ ap (drop (length m - 64)) (drop_at filling m 64 wide)

-- the first bytes of two lists in a row
take_both : (m piece : List ℕ) (k : ℕ) → k ≤ length piece → take (length m + k) (m ++ piece) ≡ m ++ take k piece
take_both m piece k within =
    let count : length (m ++ take k piece) ≡ length m + k = omega (arith, length-append m (take k piece), length-take k piece) in
    let whole : (m ++ take k piece) ++ drop k piece ≡ m ++ piece =
    append_assoc m (take k piece) (drop k piece) ∙ ap (λ t. m ++ t) (take-append-drop k piece) in
    ap (take (length m + k)) (sym whole) ∙ take_at (m ++ take k piece) (drop k piece) (length m + k) count

-- the last 64 of a list and the first of a piece are a window along the list's last 64 and the piece
pub last_window : (m window piece : List ℕ) (k : ℕ) → 64 ≤ length m → window ≡ last 64 m → k ≤ length piece
    → last 64 (take (length m + k) (m ++ piece)) ≡ window_at (window ++ piece) k
last_window m window piece k long is within =
    let wide : length window ≡ 64 = omega (arith, ap length is, length-drop (length m - 64) m) in
    let count : length (take k piece) ≡ k = omega (arith, length-take k piece) in
    let turned : length window + k ≡ k + 64 = omega arith in
    ap (last 64) (take_both m piece k within)
    ∙ sym (last_goes_on m (take k piece) long)
    ∙ ap (λ w. last 64 (w ++ take k piece)) (sym is)
    ∙ last_filled window (take k piece) wide
    ∙ ap (λ n. drop n (window ++ take k piece)) count
    ∙ ap (drop k) (sym (take_both window piece k within) ∙ ap (λ n. take n (window ++ piece)) turned)
    ∙ drop-take k 64 (window ++ piece)

-- the bytes of a window that count, with more behind them
pub counted_on : (window bytes counted : List ℕ) (lacking fingerprint next : ℕ) → length window ≡ 64
    → counted ≡ drop (min (length bytes) (lacking - 64)) bytes → fingerprint ≡ remainder (drop lacking window)
    → ((front : List ℕ) → fingerprint ≡ remainder front → next ≡ remainder (front ++ counted))
    → next ≡ remainder (drop lacking (window ++ bytes))
counted_on window bytes counted lacking fingerprint next wide count is made =
    let swapped : min (length bytes) (lacking - 64) ≡ min (lacking - 64) (length bytes) = omega arith in
    let past : counted ≡ drop (lacking - 64) bytes =
    count ∙ ap (λ n. drop n bytes) swapped ∙ drop_min (lacking - 64) bytes in
    made (drop lacking window) is ∙ ap (λ c. remainder (drop lacking window ++ c)) past
    ∙ ap remainder (sym (drop_both (cases_lt lacking 64)))
  where
    drop_both : (lacking < 64) ⊎ (64 ≤ lacking)
        → drop lacking (window ++ bytes) ≡ drop lacking window ++ drop (lacking - 64) bytes
    drop_both (inl less) =
        let none : 0 ≡ lacking - 64 = omega arith in
        drop-append-le lacking window bytes (omega arith) ∙ ap (λ n. drop lacking window ++ drop n bytes) none
    drop_both (inr more) =
        let split : lacking ≡ length window + (lacking - 64) = omega arith in
        ap (λ n. drop n (window ++ bytes)) split ∙ drop-append-add window bytes (lacking - 64)
        ∙ ap (λ w. w ++ drop (lacking - 64) bytes) (sym (drop_all lacking window (omega arith)))

-- they are those of the window that the bytes make
pub counted_after : (window bytes : List ℕ) (lacking left : ℕ) → length window ≡ 64 → length bytes + left ≡ lacking
    → drop lacking (window ++ bytes) ≡ drop left (last 64 (window ++ bytes))
counted_after window bytes lacking left wide all =
    ap (λ n. drop n (window ++ bytes)) (sym all) ∙ sym (drop-drop left (length bytes) (window ++ bytes))
    ∙ ap (drop left) (sym (last_filled window bytes wide))

-- from the least length on all do
pub rolled_on : (window front piece after : List ℕ) (min taken fingerprint : ℕ) → length window ≡ 64 → front ≡ piece
    → min ≤ taken → fingerprint ≡ remainder (window_at (window ++ front) (length front)) → after ≡ last 64 (window ++ piece)
    → fingerprint ≡ remainder (drop (min - (taken + length piece)) after)
rolled_on window front piece after min taken fingerprint wide whole late is slid =
    let none : 0 ≡ min - (taken + length piece) = omega arith in
    let left : length (drop (length front) (window ++ front)) ≤ 64 =
    omega (arith, length-drop (length front) (window ++ front), length-append window front) in
    is ∙ ap remainder (take_all 64 (drop (length front) (window ++ front)) left ∙ sym (last_filled window front wide)
    ∙ ap (λ p. last 64 (window ++ p)) whole ∙ sym slid)
    ∙ ap (λ k. remainder (drop k after)) none

-- no byte counts yet
pub none_count : (window : List ℕ) (lacking : ℕ) → length window ≤ lacking → 0 ≡ remainder (drop lacking window)
unfolding remainder
none_count window lacking all = ap remainder (sym (drop_all lacking window all))

module _ (params : Parameters) where
  -- ---- bytes that go on

  pub EndsAt-append : (bytes more : List ℕ) (n : ℕ) → EndsAt params bytes n → EndsAt params (bytes ++ more) n
  EndsAt-append bytes more n e =
      let Reason : List ℕ → Type 0 = λ front. (n ≡ params.max) ⊎ IsMarked params front in
      record {
        present = omega (arith, length-append bytes more, e.present);
        least = e.least;
        greatest = e.greatest;
        reason = subst Reason (sym (take-append-le n bytes more e.present)) e.reason;
      }

  pub EndsAt-front : (bytes more : List ℕ) (n : ℕ) → n ≤ length bytes → EndsAt params (bytes ++ more) n → EndsAt params bytes n
  EndsAt-front bytes more n within e =
      let Reason : List ℕ → Type 0 = λ front. (n ≡ params.max) ⊎ IsMarked params front in
      record {
        present = within;
        least = e.least;
        greatest = e.greatest;
        reason = subst Reason (take-append-le n bytes more within) e.reason;
      }

  pub IsCut-append : (bytes more : List ℕ) (n : ℕ) → IsCut params bytes n → IsCut params (bytes ++ more) n
  IsCut-append bytes more n c = record {
    ends = EndsAt-append bytes more n c.ends;
    first = λ k less e. c.first k less (EndsAt-front bytes more k (omega (arith, c.ends.present)) e);
  }

  -- the test of a chunker at a length, with the window's bytes
  abbrev pub PassesAt : ℕ → List ℕ → Type 0
  PassesAt n window = (params.min ≤ n) × ((n ≡ params.max) ⊎ (remainder window % 2 ^ params.bits ≡ 0))

  -- the window of a chunker that holds so many bytes is the last 64 of them
  window_of_all : (filling bytes window : List ℕ) (n : ℕ) → length filling ≡ 64 → 64 ≤ params.min → params.min ≤ n
      → n ≡ length bytes → window ≡ last 64 (filling ++ bytes) → window ≡ last 64 (take n bytes)
  window_of_all filling bytes window n wide least long all is =
      is ∙ last_unfilled filling bytes wide (omega arith) ∙ ap (last 64) (sym (take_all n bytes (omega arith)))

  pub ends_from_pass : (filling bytes window : List ℕ) (n : ℕ) → length filling ≡ 64 → 64 ≤ params.min → n ≤ params.max
      → n ≡ length bytes → window ≡ last 64 (filling ++ bytes) → PassesAt n window → EndsAt params bytes n
  ends_from_pass filling bytes window n wide least greatest all is pass =
      let Reason : List ℕ → Type 0 = λ w. (n ≡ params.max) ⊎ (remainder w % 2 ^ params.bits ≡ 0) in
      record {
        present = omega arith;
        least = pass.0;
        greatest = greatest;
        reason = subst Reason (window_of_all filling bytes window n wide least pass.0 all is) pass.1;
      }

  pub pass_from_ends : (filling bytes window : List ℕ) (n : ℕ) → length filling ≡ 64 → 64 ≤ params.min
      → n ≡ length bytes → window ≡ last 64 (filling ++ bytes) → EndsAt params bytes n → PassesAt n window
  pass_from_ends filling bytes window n wide least all is e =
      let Reason : List ℕ → Type 0 = λ w. (n ≡ params.max) ⊎ (remainder w % 2 ^ params.bits ≡ 0) in
      (e.least, subst Reason (sym (window_of_all filling bytes window n wide least e.least all is)) e.reason)

  -- ---- bytes up to the least length

  module _ (filling bytes window : List ℕ) (n fingerprint : ℕ) (wide : length filling ≡ 64) (lawful : AreLawful params)
      (all : n ≡ length bytes) (early : n ≤ params.min) (is : window ≡ last 64 (filling ++ bytes))
      (counted : fingerprint ≡ remainder (drop (params.min - n) window)) where
    -- the test with the remainder that was made
    abbrev pub Passes : Type 0
    Passes = (params.min ≤ n) × ((n ≡ params.max) ⊎ (fingerprint % 2 ^ params.bits ≡ 0))

    whole : params.min ≤ n → fingerprint ≡ remainder window
    whole reached =
        let none : params.min - n ≡ 0 = omega arith in
        counted ∙ ap (λ k. remainder (drop k window)) none

    pub gathered_cut : Passes → IsCut params bytes n
    gathered_cut pass =
        let Test : ℕ → Type 0 = λ r. (n ≡ params.max) ⊎ (r % 2 ^ params.bits ≡ 0) in
        record {
          ends = ends_from_pass filling bytes window n wide lawful.least (omega (arith, lawful.ordered)) all is
              (pass.0, subst Test (whole pass.0) pass.1);
          first = λ k less e. absurd (omega (arith, e.least));
        }

    pub gathered_uncut : ¬ Passes → HasNoCut params bytes
    gathered_uncut fails k e =
        let here : k ≡ n = omega (arith, e.least, e.present) in
        let reached : params.min ≤ n = omega (arith, e.least) in
        let Ends : ℕ → Type 0 = λ j. EndsAt params bytes j in
        let Test : ℕ → Type 0 = λ r. (n ≡ params.max) ⊎ (r % 2 ^ params.bits ≡ 0) in
        let pass = pass_from_ends filling bytes window n wide lawful.least all is (subst Ends here e) in
        fails (reached, subst Test (sym (whole reached)) pass.1)

  -- ---- bytes from the least length on

  module _ (filling m window piece : List ℕ) (wide : length filling ≡ 64) (long : 64 ≤ length m)
      (uncut : HasNoCut params m) (is : window ≡ last 64 (filling ++ m)) where
    window_is : (k : ℕ) → k ≤ length piece → last 64 (take (length m + k) (m ++ piece)) ≡ window_at (window ++ piece) k
    window_is k within = last_window m window piece k long (is ∙ last_unfilled filling m wide long) within

    -- up to a place without a mark before it, and short of the greatest length, nothing ends
    no_end_before : (n j : ℕ) → n ≤ length piece + 1 → HasNoMarkBefore params.bits (window ++ piece) n → j < length m + n
        → j < params.max → ¬ EndsAt params (m ++ piece) j
    no_end_before n j within none less short e = elim (cases_lt (length m) j) [
      | inl beyond ↦
          (let k : ℕ = j - length m in
          let place : j ≡ length m + k = omega arith in
          elim e.reason [
            | inl full ↦ absurd (omega arith)
            | inr marked ↦ none k (omega arith) (omega arith)
                (ap (λ w. remainder w % 2 ^ params.bits)
                (sym (ap (λ p. last 64 (take p (m ++ piece))) place ∙ window_is k (omega (arith, e.present, length-append m piece))))
                ∙ marked)
          ])
      | inr front ↦ uncut j (EndsAt-front m piece j front e)
    ]

    pub rolled_cut : (n : ℕ) → 1 ≤ n → n ≤ length piece → params.min ≤ length m → length m + n ≤ params.max
        → HasNoMarkBefore params.bits (window ++ piece) n
        → (length m + n ≡ params.max) ⊎ IsMarkedAt params.bits (window ++ piece) n
        → IsCut params (m ++ piece) (length m + n)
    rolled_cut n some within least greatest none reason = record {
      ends = record {
        present = omega (arith, length-append m piece);
        least = omega arith;
        greatest = greatest;
        reason = elim reason [
          | inl full ↦ inl full
          | inr marked ↦ inr (ap (λ w. remainder w % 2 ^ params.bits) (window_is n within) ∙ marked)
        ];
      };
      first = λ j less e. no_end_before n j (omega arith) none less (omega arith) e;
    }

    pub rolled_uncut : length m + length piece < params.max
        → HasNoMarkBefore params.bits (window ++ piece) (length piece + 1) → HasNoCut params (m ++ piece)
    rolled_uncut short none j e =
        no_end_before (length piece + 1) j (omega arith) none (omega (arith, e.present, length-append m piece))
        (omega (arith, e.present, length-append m piece)) e

  -- a cut in the front of a piece is one of all that was fed
  pub cut_in_front : (m front back piece : List ℕ) (n : ℕ) → front ++ back ≡ piece → IsCut params (m ++ front) n
      → IsCut params (m ++ piece) n
  cut_in_front m front back piece n whole cut =
      let Bytes : List ℕ → Type 0 = λ bytes. IsCut params bytes n in
      subst Bytes (append_assoc m front back ∙ ap (λ t. m ++ t) whole) (IsCut-append (m ++ front) back n cut)

  -- so is one behind the front, counted from there
  pub cut_behind : (m front back piece : List ℕ) (n : ℕ) → front ++ back ≡ piece
      → IsCut params ((m ++ front) ++ back) (length (m ++ front) + n) → IsCut params (m ++ piece) (length m + (length front + n))
  cut_behind m front back piece n whole cut =
      let Bytes : List ℕ → Type 0 = λ bytes. IsCut params bytes (length m + (length front + n)) in
      let Length : ℕ → Type 0 = λ k. IsCut params ((m ++ front) ++ back) k in
      let count : length (m ++ front) + n ≡ length m + (length front + n) = omega (arith, length-append m front) in
      subst Bytes (append_assoc m front back ∙ ap (λ t. m ++ t) whole) (subst Length count cut)
