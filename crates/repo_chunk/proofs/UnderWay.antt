-- A run under way: what a call of feed or of finish makes of it.
use Rattle.std.proofs.Common.{◌≡◌, ℕ, zero, suc, ◌+◌, ◌<◌, ◌≤◌, List, [], ◌∷◌, ◌++◌, length, take, drop, get_or, refl, sym, ap, ◌∙◌, subst, arith}
use Rattle.std.specs.Borrow.{Bor}
use Rattle.std.proofs.lemmas.Grind.{flat_map-append}
use Rattle.std.proofs.lemmas.List.{length-append, append_assoc, append-nil, take-append-drop, length-take-le, take_more, drop_all}
use Rattle.repo_chunk.specs.Parameters.{Parameters}
use Rattle.repo_chunk.specs.Cuts.{IsCut, HasNoCut, AreCuts, AreFirstCuts, unfinished}
use Rattle.repo_chunk.specs.Chunkers.{params_of, Holds}
use Rattle.repo_chunk.specs.Runs.{stream_of, IsCalledAt, HoldsLength, IsUnderWay}
use Rattle.repo_chunk.specs.declared.chunkers.Chunker.{Chunker}
use Rattle.repo_chunk.proofs.CutLaws.{cuts_lie_in_front, uncut_is_short}
use Rattle.repo_chunk.proofs.FirstCuts.{first_cuts_grow, first_cuts_gain, first_cuts_end}
use Rattle.repo_name.specs.Limits.{blob_limit}

-- the stream of the first pieces and the next
pub stream_more : (pieces : List (Bor (List ℕ))) (i : ℕ) (d : Bor (List ℕ)) → i < length pieces
    → stream_of (take i pieces) ++ (get_or pieces i d).now ≡ stream_of (take (i + 1) pieces)
stream_more pieces i d within =
    let one : stream_of (get_or pieces i d ∷ []) ≡ (get_or pieces i d).now = append-nil ((get_or pieces i d).now) in
    ap (λ xs. stream_of (take i pieces) ++ xs) (sym one)
    ∙ sym (flat_map-append (λ piece. piece.now) (take i pieces) (get_or pieces i d ∷ []))
    ∙ ap stream_of (sym (take_more pieces i d within))

-- a piece that was taken whole leaves a chunk under the greatest length
pub fits_more : (old : Chunker) (before : ℕ) (piece : List ℕ) → HoldsLength old before
    → ((m : List ℕ) → Holds old m → HasNoCut (params_of old) (m ++ piece)) → before + length piece < blob_limit
fits_more old before piece held uncut =
    let short : length (held.rest ++ piece) < (params_of old).max =
    uncut_is_short (params_of old) (held.rest ++ piece) held.lawful (uncut held.rest held.held) in
    omega (arith, length-append held.rest piece, held.count, held.lawful.greatest, short)

module _ {F : Type 0} (step : F → ℕ → Unit {0} → F → Type 0) where
  -- one call more
  pub IsCalledAt-push : (start : F) (numbers : List ℕ) (f g : F) (n : ℕ)
      → IsCalledAt step start numbers f → step f n tt g → IsCalledAt step start (numbers ++ n ∷ []) g
  IsCalledAt-push start [] f g n same call =
      let Start : F → Type 0 = λ h. step h n tt g in
      (g, subst Start (sym same) call, refl)
  IsCalledAt-push start (k ∷ ks) f g n calls call = (calls.0, calls.1, IsCalledAt-push calls.0 ks f g n calls.2 call)

  module _ (start : F) (params : Parameters) (bytes piece : List ℕ) (old new : Chunker) (before : ℕ) (report : F)
      (under_way : IsUnderWay step start params bytes old before report) (kept : params_of new ≡ params_of old) where
    -- the whole piece was taken
    pub under_way_more : ((m : List ℕ) → Holds old m → Holds new (m ++ piece))
        → IsUnderWay step start params (bytes ++ piece) new (before + length piece) report
    under_way_more more = record {
      lengths = under_way.lengths;
      rest = under_way.rest ++ piece;
      cuts = first_cuts_grow params bytes under_way.lengths under_way.rest piece under_way.cuts;
      calls = under_way.calls;
      same = kept ∙ under_way.same;
      held = more under_way.rest under_way.held;
      count = omega (arith, length-append under_way.rest piece, under_way.count);
    }

    -- the chunk ended after n bytes of the piece, and its length was reported
    pub under_way_cut : (n : ℕ) (after : F) → n ≤ length piece
        → ((m : List ℕ) → Holds old m → IsCut (params_of old) (m ++ piece) (length m + n)) → Holds new []
        → step report (before + n) tt after → IsUnderWay step start params (bytes ++ take n piece) new 0 after
    under_way_cut n after within cut begun call =
        let m : List ℕ = under_way.rest in
        let front : List ℕ = m ++ take n piece in
        let Params : Parameters → Type 0 = λ p. IsCut p (m ++ piece) (length m + n) in
        let Whole : List ℕ → Type 0 = λ xs. IsCut params xs (length m + n) in
        let Rest : List ℕ → Type 0 = λ xs. AreFirstCuts params (bytes ++ take n piece) (under_way.lengths ++ (length m + n) ∷ []) xs in
        let Calls : ℕ → Type 0 = λ k. IsCalledAt step start (under_way.lengths ++ k ∷ []) after in
        let size : length front ≡ length m + n = length-append m (take n piece) ∙ ap (λ k. length m + k) (length-take-le n piece within) in
        let split : m ++ piece ≡ front ++ drop n piece =
        ap (λ xs. m ++ xs) (sym (take-append-drop n piece)) ∙ sym (append_assoc m (take n piece) (drop n piece)) in
        let here : IsCut params front (length m + n) =
        cuts_lie_in_front params front (drop n piece) (length m + n)
        (subst Whole split (subst Params under_way.same (cut m under_way.held))) (omega (arith, size)) in
        let grown : AreFirstCuts params (bytes ++ take n piece) under_way.lengths front =
        first_cuts_grow params bytes under_way.lengths m (take n piece) under_way.cuts in
        let none : drop (length m + n) front ≡ [] = drop_all (length m + n) front (omega (arith, size)) in
        let number : before + n ≡ length m + n = ap (λ k. k + n) under_way.count in
        record {
          lengths = under_way.lengths ++ (length m + n) ∷ [];
          rest = [];
          cuts = subst Rest none (first_cuts_gain params (bytes ++ take n piece) under_way.lengths front (length m + n) grown here);
          calls = subst Calls number (IsCalledAt-push start under_way.lengths report after (before + n) under_way.calls call);
          same = kept ∙ under_way.same;
          held = begun;
          count = refl;
        }

  -- the end: the cuts are those that were reported, and the rest if it isn't empty
  module _ (start : F) (params : Parameters) (bytes : List ℕ) (chunker : Chunker) (n : ℕ) (report : F)
      (under_way : IsUnderWay step start params bytes chunker n report)
      (uncut : (m : List ℕ) → Holds chunker m → HasNoCut (params_of chunker) m) where
    all_cuts : AreCuts params bytes (under_way.lengths ++ unfinished (length under_way.rest))
    all_cuts =
        let Params : Parameters → Type 0 = λ p. HasNoCut p under_way.rest in
        first_cuts_end params bytes under_way.lengths under_way.rest under_way.cuts
        (subst Params under_way.same (uncut under_way.rest under_way.held))

    pub ends_whole : 0 ≡ length under_way.rest → (lengths : List ℕ) × AreCuts params bytes lengths × ((last : F) × IsCalledAt step start lengths last)
    ends_whole none =
        let Lengths : ℕ → Type 0 = λ k. AreCuts params bytes (under_way.lengths ++ unfinished k) in
        let Cuts : List ℕ → Type 0 = λ ns. AreCuts params bytes ns in
        (under_way.lengths, subst Cuts (append-nil under_way.lengths) (subst Lengths (sym none) all_cuts), (report, under_way.calls))

    pub ends_unfinished : (rest : ℕ) (after : F) → 0 < rest → rest ≡ length under_way.rest → step report rest tt after
        → (lengths : List ℕ) × AreCuts params bytes lengths × ((last : F) × IsCalledAt step start lengths last)
    ends_unfinished rest after some is call =
        let Lengths : List ℕ → Type 0 = λ ns. AreCuts params bytes (under_way.lengths ++ ns) in
        let one : unfinished (length under_way.rest) ≡ rest ∷ [] = ap unfinished (sym is) ∙ unfinished_some rest some in (
          under_way.lengths ++ rest ∷ [],
          subst Lengths one all_cuts,
          (after, IsCalledAt-push start under_way.lengths report after rest under_way.calls call),
        )
      where
        unfinished_some : (k : ℕ) → 0 < k → unfinished k ≡ k ∷ []
        unfinished_some zero h = absurd (omega arith)
        unfinished_some (suc k) h = refl
