-- Eight lanes of pieces, lane by lane.
use Rattle.std.proofs.Common.{◌≡◌, ℕ, zero, suc, ◌+◌, ◌<◌, List, [], ◌∷◌, length, Option, None, Some, IfSome, slice_index, slice_index_or, refl, sym, ap, ◌∙◌, arith}
use Rattle.sha2.specs.Sha256.{compress, hash_after, initial_hash_256, padded_message}
use Rattle.sha2.proofs.Absorbing256.{hash_after_next}
use Rattle.repo_sha.specs.declared.pieces.Piece.{Piece}
use Rattle.repo_sha.specs.inner.Batches.{HasLeft}
use Rattle.repo_sha.specs.inner.Lanes.{lane, lane_word}
use Rattle.repo_sha.specs.inner.Messages.{block_at, hash_to}
use Rattle.repo_sha.proofs.LaneLemmas.{eight_items}

-- an item that is there is the same whatever stands for one that isn't
pub at_any : {X : Type 0} (P : X → Type 0) (xs : List X) (i : ℕ) (d e : X) → i < length xs → P (slice_index_or xs i d) → P (slice_index_or xs i e)
at_any P [] i d e lt p = absurd (omega arith)
at_any P (x ∷ xs) zero d e lt p = p
at_any P (x ∷ xs) (suc i) d e lt p = at_any P xs i d e (omega arith) p

-- a hash value has eight words
pub length-hash_to : (m : List ℕ) (n : ℕ) → length (hash_to m n) ≡ 8
unfolding hash_after compress
length-hash_to m zero = refl
length-hash_to m (suc n) = refl

-- eight words in a lane
pub lane_is : (v : List (List ℕ)) (j : ℕ) (hash : List ℕ) → ((k : ℕ) → k < 8 → lane_word v k j ≡ slice_index hash k) → length hash ≡ 8 → lane j v ≡ hash
lane_is v j hash words long =
    rw (words 0 (omega arith), words 1 (omega arith), words 2 (omega arith), words 3 (omega arith), words 4 (omega arith), words 5 (omega arith), words 6 (omega arith), words 7 (omega arith))
    (eight_items (λ h. (slice_index h 0 ∷ slice_index h 1 ∷ slice_index h 2 ∷ slice_index h 3 ∷ slice_index h 4 ∷ slice_index h 5 ∷ slice_index h 6 ∷ slice_index h 7 ∷ []) ≡ h)
    (λ a b c d e f g h. refl) hash long)

-- a lane has the hash value of its piece
pub read : (x : Option Piece) (v : List (List ℕ)) (j : ℕ) (hash : List ℕ) → IfSome x (λ piece. hash ≡ piece.hash)
    → ((k : ℕ) → k < 8 → lane_word v k j ≡ slice_index hash k) → IfSome x (λ piece. lane j v ≡ piece.hash)
read None v j hash is words = tt
read (Some piece) v j hash is words =
    let long : length hash ≡ 8 = ap length (is ∙ piece.hashed) ∙ length-hash_to piece.message.bytes.now piece.place in
    lane_is v j hash words long ∙ is

-- a lane takes in the block of its piece
pub stepped : (x : Option Piece) (step : ℕ) (block before after : List ℕ)
    → IfSome x (λ piece. piece.place + step < piece.message.count → block ≡ block_at piece.message.bytes.now (piece.place + step))
    → after ≡ compress before block
    → IfSome x (λ piece. piece.place + step < piece.message.count → after ≡ compress before (block_at piece.message.bytes.now (piece.place + step)))
stepped None step block before after is e = tt
stepped (Some piece) step block before after is e = λ lt. e ∙ ap (compress before) (is lt)

-- the hash value of a lane's piece one step on
pub went_on : (x : Option Piece) (steps step : ℕ) (before after : List ℕ) → step < steps → HasLeft steps x
    → IfSome x (λ piece. before ≡ hash_to piece.message.bytes.now (piece.place + step))
    → IfSome x (λ piece. piece.place + step < piece.message.count → after ≡ compress before (block_at piece.message.bytes.now (piece.place + step)))
    → IfSome x (λ piece. after ≡ hash_to piece.message.bytes.now (piece.place + (step + 1)))
went_on None steps step before after lt left was goes = tt
went_on (Some piece) steps step before after lt left was goes =
    let m = piece.message.bytes.now in
    let at = piece.place + step in
    let on : at + 1 ≡ piece.place + (step + 1) = omega arith in
    goes (omega arith) ∙ ap (λ h. compress h (block_at m at)) was
    ∙ sym (hash_after_next initial_hash_256 (padded_message m) at) ∙ ap (hash_to m) on
