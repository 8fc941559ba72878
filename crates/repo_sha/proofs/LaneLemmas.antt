-- What holds of vectors of eight lanes, lane by lane.
use Rattle.std.proofs.Common.{◌≡◌, ◌∙◌, map, ℕ, zero, suc, ◌<◌, ◌-◌, ◌*◌, ◌/◌, ◌%◌, ◌^◌, List, [], ◌∷◌, length, slice_index, slice_index_or, slice_set, bit_or, arith, refl, w32}
use Rattle.std.specs.Simd.Lanes.{zip2}
use Rattle.std.specs.Int.{rotate_right}
use Rattle.std.proofs.lemmas.List.{get_or-map, map-set, length-map}
use Rattle.std.specs.Borrow.{Bor}
use Rattle.sha2.specs.Sha256.{word_at}
use Rattle.sha2.proofs.Schedule256.{IsWindow_first}
use Rattle.repo_sha.specs.inner.Lanes.{lane_word, words_in}
use Rattle.repo_sha.specs.inner.Schedules.{Begins, blocks_of}

-- what holds of each of the eight lanes
pub below_eight : (P : ℕ → Type 0) → P 0 → P 1 → P 2 → P 3 → P 4 → P 5 → P 6 → P 7 → (j : ℕ) → j < 8 → P j
below_eight P p0 p1 p2 p3 p4 p5 p6 p7 zero h = p0
below_eight P p0 p1 p2 p3 p4 p5 p6 p7 (suc zero) h = p1
below_eight P p0 p1 p2 p3 p4 p5 p6 p7 (suc (suc zero)) h = p2
below_eight P p0 p1 p2 p3 p4 p5 p6 p7 (suc (suc (suc zero))) h = p3
below_eight P p0 p1 p2 p3 p4 p5 p6 p7 (suc (suc (suc (suc zero)))) h = p4
below_eight P p0 p1 p2 p3 p4 p5 p6 p7 (suc (suc (suc (suc (suc zero))))) h = p5
below_eight P p0 p1 p2 p3 p4 p5 p6 p7 (suc (suc (suc (suc (suc (suc zero)))))) h = p6
below_eight P p0 p1 p2 p3 p4 p5 p6 p7 (suc (suc (suc (suc (suc (suc (suc zero))))))) h = p7
below_eight P p0 p1 p2 p3 p4 p5 p6 p7 (suc (suc (suc (suc (suc (suc (suc (suc n)))))))) h = absurd (omega arith)

-- what holds of each list of eight elements
pub eight_items : {X : Type 0} (P : List X → Type 0) → ((a b c d e f g h : X) → P (a ∷ b ∷ c ∷ d ∷ e ∷ f ∷ g ∷ h ∷ []))
    → (xs : List X) → length xs ≡ 8 → P xs
eight_items P p (a ∷ b ∷ c ∷ d ∷ e ∷ f ∷ g ∷ h ∷ []) l = p a b c d e f g h
eight_items P p [] l = absurd (omega arith)
eight_items P p (a ∷ []) l = absurd (omega arith)
eight_items P p (a ∷ b ∷ []) l = absurd (omega arith)
eight_items P p (a ∷ b ∷ c ∷ []) l = absurd (omega arith)
eight_items P p (a ∷ b ∷ c ∷ d ∷ []) l = absurd (omega arith)
eight_items P p (a ∷ b ∷ c ∷ d ∷ e ∷ []) l = absurd (omega arith)
eight_items P p (a ∷ b ∷ c ∷ d ∷ e ∷ f ∷ []) l = absurd (omega arith)
eight_items P p (a ∷ b ∷ c ∷ d ∷ e ∷ f ∷ g ∷ []) l = absurd (omega arith)
eight_items P p (a ∷ b ∷ c ∷ d ∷ e ∷ f ∷ g ∷ h ∷ i ∷ xs) l = absurd (omega arith)

-- eight items, each put through a function
pub eight_mapped : {X Y : Type 0} (f : X → Y) (d : X) (xs : List X) → length xs ≡ 8
    → (f (slice_index_or xs 0 d) ∷ f (slice_index_or xs 1 d) ∷ f (slice_index_or xs 2 d) ∷ f (slice_index_or xs 3 d)
    ∷ f (slice_index_or xs 4 d) ∷ f (slice_index_or xs 5 d) ∷ f (slice_index_or xs 6 d) ∷ f (slice_index_or xs 7 d) ∷ []) ≡ map f xs
eight_mapped f d = eight_items (λ xs.
    (f (slice_index_or xs 0 d) ∷ f (slice_index_or xs 1 d) ∷ f (slice_index_or xs 2 d) ∷ f (slice_index_or xs 3 d)
    ∷ f (slice_index_or xs 4 d) ∷ f (slice_index_or xs 5 d) ∷ f (slice_index_or xs 6 d) ∷ f (slice_index_or xs 7 d) ∷ []) ≡ map f xs)
    (λ a b c d e g h i. refl)

-- the same number in each lane
abbrev all_eight : ℕ → List ℕ
all_eight n = n ∷ n ∷ n ∷ n ∷ n ∷ n ∷ n ∷ n ∷ []

-- two shifts of each lane and an or are a rotation
abbrev Rotates : ℕ → List ℕ → Type 0
Rotates k x = (j : ℕ) → j < 8
    → slice_index (zip2 bit_or (zip2 (λ x n. x / 2 ^ n) x (all_eight k)) (zip2 (λ x n. x * 2 ^ n % 2 ^ 32) x (all_eight (32 - k)))) j
    ≡ rotate_right w32 (slice_index x j) k

pub shifts_rotate : (k : ℕ) → 0 < k → k < 32 → (x : List ℕ) → length x ≡ 8 → Rotates k x
shifts_rotate k low high =
    let left : k % 32 ≡ k = omega arith in
    let right : (32 - k) % 32 ≡ 32 - k = omega arith in
    eight_items (Rotates k) (λ a b c d e f g h.
    below_eight _ (rw (left, right) refl) (rw (left, right) refl) (rw (left, right) refl) (rw (left, right) refl) (rw (left, right) refl) (rw (left, right) refl) (rw (left, right) refl) (rw (left, right) refl))

-- a shift of each lane
abbrev Shifts : ℕ → List ℕ → Type 0
Shifts k x = (j : ℕ) → j < 8 → slice_index (zip2 (λ x n. x / 2 ^ n) x (all_eight k)) j ≡ slice_index x j / 2 ^ k

pub shifts_down : (k : ℕ) → (x : List ℕ) → length x ≡ 8 → Shifts k x
shifts_down k = eight_items (Shifts k) (λ a b c d e f g h. below_eight _ refl refl refl refl refl refl refl refl)

-- a word in a lane
pub word_in : (j : ℕ) (vectors : List (List ℕ)) (place : ℕ) → place < length vectors → slice_index (words_in j vectors) place ≡ lane_word vectors place j
word_in j vectors place lt = get_or-map (λ v. slice_index v j) vectors place [] 0 lt

-- the words in a lane after one vector is set
pub words_set : (j : ℕ) (vectors : List (List ℕ)) (place : ℕ) (v : List ℕ)
    → words_in j (slice_set vectors place v) ≡ slice_set (words_in j vectors) place (slice_index v j)
words_set j vectors place v = map-set (λ v. slice_index v j) vectors place v

-- the window whose lane has a block's words
pub begins_from : (j : ℕ) (window : List (List ℕ)) (block : List ℕ) → length window ≡ 16
    → ((k : ℕ) → k < 16 → lane_word window k j ≡ word_at block (4 * k)) → Begins j window block
begins_from j window block l h =
    IsWindow_first block (words_in j window) (length-map window (λ v. slice_index v j) ∙ l) (λ k lt. word_in j window k (omega arith) ∙ h k lt)

-- the words of eight blocks at a place, lane by lane
pub blocks_word : (blocks : List (Bor (List ℕ))) (k j : ℕ) → j < 8 → length blocks ≡ 8
    → slice_index (map (λ block. word_at block.now (4 * k)) blocks) j ≡ word_at (slice_index_or (blocks_of blocks) j []) (4 * k)
blocks_word blocks k j lt long =
    eight_items (λ xs. slice_index (map (λ block. word_at block.now (4 * k)) xs) j ≡ word_at (slice_index_or (blocks_of xs) j []) (4 * k))
    (λ a b c d e f g h. below_eight (λ i. slice_index (map (λ block. word_at block.now (4 * k)) (a ∷ b ∷ c ∷ d ∷ e ∷ f ∷ g ∷ h ∷ [])) i
    ≡ word_at (slice_index_or (blocks_of (a ∷ b ∷ c ∷ d ∷ e ∷ f ∷ g ∷ h ∷ [])) i []) (4 * k)) refl refl refl refl refl refl refl refl j lt)
    blocks long

-- a word of eight hash values, lane by lane
pub hashes_word : (hashes : List (List ℕ)) (k j : ℕ) → j < 8 → length hashes ≡ 8
    → slice_index (map (λ hash. slice_index hash k) hashes) j ≡ slice_index (slice_index_or hashes j []) k
hashes_word hashes k j lt long = get_or-map (λ hash. slice_index hash k) hashes j [] 0 (omega arith)
