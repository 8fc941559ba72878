-- The pieces of some bytes, one by one.
use Rattle.std.proofs.Common.{◌≡◌, ℕ, zero, suc, ◌+◌, ◌<◌, List, [], ◌∷◌, length, sum, take, drop, slice_index, slice_index_or, refl, sym, ap, ◌∙◌, arith}
use Rattle.std.proofs.lemmas.List.{drop-drop, drop_more}
use Rattle.std.proofs.lemmas.List.Sums.{sum_by-cons}
use Rattle.repo_sha.specs.Pieces.{pieces}

-- how many pieces there are
pub length-pieces : (bytes lengths : List ℕ) → length (pieces bytes lengths) ≡ length lengths
length-pieces bytes [] = refl
length-pieces bytes (n ∷ ns) = ap suc (length-pieces (drop n bytes) ns)

-- the next piece, and those behind it
pub next_piece : (bytes lengths rest : List ℕ) (number : ℕ) → number < length lengths
    → pieces rest (drop number lengths) ≡ drop number (pieces bytes lengths)
    → (take (slice_index lengths number) rest ≡ slice_index_or (pieces bytes lengths) number [])
    × (pieces (drop (slice_index lengths number) rest) (drop (number + 1) lengths) ≡ drop (number + 1) (pieces bytes lengths))
next_piece bytes lengths rest number lt e =
    let n = slice_index lengths number in
    let texts = pieces bytes lengths in
    let both : (take n rest ∷ pieces (drop n rest) (drop (number + 1) lengths)) ≡ (slice_index_or texts number [] ∷ drop (number + 1) texts) =
    ap (pieces rest) (sym (drop_more lengths number 0 lt)) ∙ e ∙ drop_more texts number [] (omega (arith, length-pieces bytes lengths)) in
    (cc, cc)

-- a piece is the bytes behind the pieces before it
pub piece_at : (bytes lengths : List ℕ) (i : ℕ) → i < length lengths
    → slice_index_or (pieces bytes lengths) i [] ≡ take (slice_index lengths i) (drop (sum (take i lengths)) bytes)
piece_at bytes [] i lt = absurd (omega arith)
piece_at bytes (n ∷ ns) zero lt = refl
piece_at bytes (n ∷ ns) (suc i) lt =
    piece_at (drop n bytes) ns i (omega arith)
    ∙ ap (take (slice_index ns i)) (drop-drop (sum (take i ns)) n bytes ∙ ap (λ k. drop k bytes) (sym (sum_by-cons (λ k. k) n (take i ns))))
