-- Eight hash values or blocks side by side: each word is a vector, with a lane for each.
use Rattle.std.specs.Prelude.{ℕ, List, [], ◌∷◌, map, slice_index, slice_index_or}

-- the word at a place in a lane
abbrev pub lane_word : List (List ℕ) → ℕ → ℕ → ℕ
lane_word vectors place j = slice_index (slice_index_or vectors place []) j

-- the words in a lane
abbrev pub words_in : ℕ → List (List ℕ) → List ℕ
words_in j vectors = map (λ v. slice_index v j) vectors

-- the eight words of a hash value, or working variables, in a lane
abbrev pub lane : ℕ → List (List ℕ) → List ℕ
lane j v =
    lane_word v 0 j ∷ lane_word v 1 j ∷ lane_word v 2 j ∷ lane_word v 3 j
    ∷ lane_word v 4 j ∷ lane_word v 5 j ∷ lane_word v 6 j ∷ lane_word v 7 j ∷ []
