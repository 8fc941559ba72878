-- The sums of a schedule and its constants, one by one.
use Rattle.std.proofs.Common.{◌≡◌, ℕ, ◌+◌, ◌%◌, ◌*◌, ◌<◌, ◌≤◌, List, [], slice_index, slice_set, refl, ap, ◌∙◌, arith, inl, inr}
use Rattle.std.proofs.lemmas.List.{get_or-set_same, get_or-set_other, length-set}
use Rattle.std.proofs.lemmas.Bool.{cases_lt}
use Rattle.sha2.specs.Sha256.{IsWindow, add32, rounds, round, round_constants, window_word}
use Rattle.sha2.proofs.Schedule256.{IsWindow_next, rounds_next, window_word_at, window_word_place}
use Rattle.repo_sha.specs.inner.Lanes.{words_in}
use Rattle.repo_sha.specs.inner.Schedules.{HasSums, IsScheduledTo, schedule_of}
use Rattle.repo_sha.proofs.LaneLemmas.{words_set}

-- one more sum
pub sums_next : (j : ℕ) (block : List ℕ) (sums : List (List ℕ)) (t : ℕ) (x : List ℕ) → t < 64 → HasSums j sums block t
    → slice_index x j ≡ add32 (slice_index round_constants t) (slice_index (schedule_of block) t) → HasSums j (slice_set sums t x) block (t + 1)
sums_next j block sums t x lt held e = (
  length-set sums t x ∙ held.0,
  λ i h. elim (cases_lt i t) [
    | inl a ↦ ap (λ v. slice_index v j) (get_or-set_other sums t i x [] (omega arith)) ∙ held.1 i a
    | inr c ↦
        let same : t ≡ i = omega arith in
        rw (← same) (ap (λ v. slice_index v j) (get_or-set_same sums t x [] (omega (arith, held.0))) ∙ e)
  ],
)

-- one more word, made from the window and put at its place, and its sum
pub scheduled_next : (j : ℕ) (block : List ℕ) (window next sums : List (List ℕ)) (turn place : ℕ) (word x : List ℕ) → 1 ≤ turn → turn < 4 → place < 16
    → IsScheduledTo j window sums block (16 * turn + place)
    → slice_index word j ≡ window_word (words_in j window) place → next ≡ slice_set window place word
    → slice_index x j ≡ add32 (slice_index round_constants (16 * turn + place)) (slice_index word j)
    → IsScheduledTo j next (slice_set sums (16 * turn + place) x) block (16 * turn + (place + 1))
scheduled_next j block window next sums turn place word x low high lt held ew en ex =
    let t = 16 * turn + place in
    let before = words_in j window in
    let at : t % 16 ≡ place = omega arith in
    let on : 16 * turn + (place + 1) ≡ t + 1 = omega arith in
    let is : slice_index word j ≡ slice_index (schedule_of block) t =
    ew ∙ window_word_place before turn place ∙ window_word_at block before t (omega arith) (omega arith) held.0 in
    let moved : IsWindow (slice_set before (t % 16) (slice_index (schedule_of block) t)) (schedule_of block) (t + 1) =
    IsWindow_next block before t (omega arith) (omega arith) held.0 in
    let after : words_in j next ≡ slice_set before place (slice_index word j) = ap (words_in j) en ∙ words_set j window place word in
    rw on (rw (after, is) (rw at at moved), sums_next j block sums t x (omega arith) held.1 (ex ∙ ap (add32 (slice_index round_constants t)) is))

-- the same place, spelled another way
pub IsScheduledTo_at : (j : ℕ) (block : List ℕ) (window sums : List (List ℕ)) (n k : ℕ) → n ≡ k → IsScheduledTo j window sums block n → IsScheduledTo j window sums block k
IsScheduledTo_at j block window sums n k e held = rw (← e) held

-- one more round
pub rounds_on : (block h v next : List ℕ) (t : ℕ) → v ≡ rounds h (schedule_of block) t
    → next ≡ round v (slice_index round_constants t) (slice_index (schedule_of block) t) → next ≡ rounds h (schedule_of block) (t + 1)
rounds_on block h v next t ev en = rw en (rw (rounds_next h (schedule_of block) t, ← ev) refl)
