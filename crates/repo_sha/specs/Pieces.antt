-- The pieces of some bytes.
use Rattle.std.specs.Prelude.{ℕ, List, [], ◌∷◌, take, drop}

-- The pieces that stand one after another in some bytes, by their lengths: where the bytes end early, the last pieces
-- are shorter or empty, and bytes behind the last piece belong to none.
abbrev pub pieces : List ℕ → List ℕ → List (List ℕ)
pieces bytes [] = []
pieces bytes (n ∷ ns) = take n bytes ∷ pieces (drop n bytes) ns
