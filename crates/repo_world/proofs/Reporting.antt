-- The lines of a report, one after another.
use Rattle.std.proofs.Common.{zero, ◌<◌, map, slice_index_or, take, ◌≡◌, ◌∙◌, ◌+◌, ◌++◌, ◌∷◌, [], ℕ, suc, List, length, sym, ap, arith, append-nil, append_assoc}
use Rattle.repo_world.specs.Reports.{client_lines, line_of}
use Rattle.repo_world.specs.Seats.{Seated}

-- one seat more, of those whose lines stand there
next_from : (m : ℕ) (seats : List Seated) (n : ℕ) (d : Seated) → n < length seats
    → client_lines m (take (suc n) (map (λ (x : Seated). x.client) seats)) ≡ client_lines m (take n (map (λ (x : Seated). x.client) seats)) ++ line_of (m + n) (slice_index_or seats n d).client
next_from m [] n d h = absurd (omega (arith, h))
next_from m (x ∷ seats) zero d h = append-nil (line_of m x.client) ∙ ap (λ k. line_of k x.client) (by_arith m)
  where
    by_arith : (k : ℕ) → k ≡ k + 0
    by_arith k = omega arith
next_from m (x ∷ seats) (suc n) d h = ap (λ l. line_of m x.client ++ l) (next_from (m + 1) seats n d (below h)
    ∙ ap (λ k. client_lines (m + 1) (take n (map (λ (y : Seated). y.client) seats)) ++ line_of k (slice_index_or seats n d).client) (by_arith m n))
    ∙ sym (append_assoc (line_of m x.client) (client_lines (m + 1) (take n (map (λ (y : Seated). y.client) seats))) (line_of (m + suc n) (slice_index_or seats n d).client))
  where
    by_arith : (i j : ℕ) → i + 1 + j ≡ i + suc j
    by_arith i j = omega arith

    below : suc n < suc (length seats) → n < length seats
    below l = omega (arith, l)

pub lines_next : (seats : List Seated) (n : ℕ) (d : Seated) → n < length seats
    → client_lines 0 (take (n + 1) (map (λ (x : Seated). x.client) seats)) ≡ client_lines 0 (take n (map (λ (x : Seated). x.client) seats)) ++ line_of n (slice_index_or seats n d).client
lines_next seats n d h = ap (λ k. client_lines 0 (take k (map (λ (x : Seated). x.client) seats))) (by_arith n) ∙ next_from 0 seats n d h
    ∙ ap (λ k. client_lines 0 (take n (map (λ (x : Seated). x.client) seats)) ++ line_of k (slice_index_or seats n d).client) (by_zero n)
  where
    by_arith : (k : ℕ) → k + 1 ≡ suc k
    by_arith k = omega arith

    by_zero : (k : ℕ) → 0 + k ≡ k
    by_zero k = omega arith
