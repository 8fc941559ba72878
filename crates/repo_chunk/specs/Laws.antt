-- What holds of the cuts of every byte list, and of byte lists that go on.
use Rattle.std.specs.Prelude.{◌≡◌, ℕ, ◌-◌, ◌<◌, ◌≤◌, List, [], ◌∷◌, ◌++◌, length, take, drop, sum, All}
use Rattle.repo_chunk.specs.Parameters.{Parameters, AreLawful}
use Rattle.repo_chunk.specs.Cuts.{IsCut, HasNoCut, AreCuts, AreFirstCuts, unfinished}

-- the chunks of a list make up the list
abbrev pub CutsSumToLength : Type 0
CutsSumToLength = (params : Parameters) (bytes lengths : List ℕ) → AreCuts params bytes lengths → sum lengths ≡ length bytes

-- each chunk but the last is within the least and the greatest length
abbrev pub CutsAreWithin : Type 0
CutsAreWithin = (params : Parameters) (bytes lengths : List ℕ) → AreCuts params bytes lengths
    → All (λ n. (params.min ≤ n) × (n ≤ params.max)) (take (length lengths - 1) lengths)

-- no chunk is empty or above the greatest length, the last neither
abbrev pub CutsAreSome : Type 0
CutsAreSome = (params : Parameters) (bytes lengths : List ℕ) → AreLawful params → AreCuts params bytes lengths
    → All (λ n. (1 ≤ n) × (n ≤ params.max)) lengths

-- a list is cut in one way
abbrev pub CutsAreUnique : Type 0
CutsAreUnique = (params : Parameters) (bytes lengths others : List ℕ) → AreLawful params
    → AreCuts params bytes lengths → AreCuts params bytes others → lengths ≡ others

-- each list is cut
abbrev pub CutsExist : Type 0
CutsExist = (params : Parameters) (bytes : List ℕ) → AreLawful params → (lengths : List ℕ) × AreCuts params bytes lengths

-- a cut stays one however the bytes go on
abbrev pub CutsStay : Type 0
CutsStay = (params : Parameters) (bytes more : List ℕ) (n : ℕ) → IsCut params bytes n → IsCut params (bytes ++ more) n

-- the cut of bytes that go on is that of their front, where it lies in the front
abbrev pub CutsLieInFront : Type 0
CutsLieInFront = (params : Parameters) (bytes more : List ℕ) (n : ℕ)
    → IsCut params (bytes ++ more) n → n ≤ length bytes → IsCut params bytes n

-- where a front has no cut, the cut of all the bytes lies beyond it
abbrev pub CutsLieBeyond : Type 0
CutsLieBeyond = (params : Parameters) (bytes more : List ℕ) (n : ℕ)
    → HasNoCut params bytes → IsCut params (bytes ++ more) n → length bytes < n

-- bytes without a cut are shorter than the greatest length
abbrev pub UncutIsShort : Type 0
UncutIsShort = (params : Parameters) (bytes : List ℕ) → AreLawful params → HasNoCut params bytes → length bytes < params.max

-- bytes that go on have the same first cuts, and more is left
abbrev pub FirstCutsGrow : Type 0
FirstCutsGrow = (params : Parameters) (bytes lengths rest more : List ℕ)
    → AreFirstCuts params bytes lengths rest → AreFirstCuts params (bytes ++ more) lengths (rest ++ more)

-- a cut of what is left is the next cut
abbrev pub FirstCutsGain : Type 0
FirstCutsGain = (params : Parameters) (bytes lengths rest : List ℕ) (n : ℕ)
    → AreFirstCuts params bytes lengths rest → IsCut params rest n
    → AreFirstCuts params bytes (lengths ++ n ∷ []) (drop n rest)

-- first cuts with a rest without a cut are all, the rest the last
abbrev pub FirstCutsEnd : Type 0
FirstCutsEnd = (params : Parameters) (bytes lengths rest : List ℕ)
    → AreFirstCuts params bytes lengths rest → HasNoCut params rest
    → AreCuts params bytes (lengths ++ unfinished (length rest))

-- what is left is what stands behind the first chunks
abbrev pub FirstCutsLeave : Type 0
FirstCutsLeave = (params : Parameters) (bytes lengths rest : List ℕ)
    → AreFirstCuts params bytes lengths rest → (sum lengths ≤ length bytes) × (rest ≡ drop (sum lengths) bytes)
