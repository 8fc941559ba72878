-- A table is held against a definition at each of its entries, by computing.
use Rattle.std.proofs.Common.{◌≡◌, ℕ, ◌<◌, true, List, get_or}
use Rattle.std.proofs.Math.Dec.{eqb}
use Rattle.std.proofs.lemmas.Bool.{agree_below, agree_below_at, eqb-true}

-- where the test of all entries computes to true, each has its value
pub entry_at : (table : List ℕ) (value : ℕ → ℕ) (place : ℕ) → place < 256
    → agree_below (λ k. eqb (get_or table k 0) (value k)) (λ k. true) 256 ≡ true → get_or table place 0 ≡ value place
entry_at table value place within agree =
    eqb-true (get_or table place 0) (value place)
    (agree_below_at (λ k. eqb (get_or table k 0) (value k)) (λ k. true) 256 place agree within)
