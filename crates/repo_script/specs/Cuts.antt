-- Where lines, words and paths are cut.
use Rattle.std.specs.Prelude.{◌≡◌, ℕ, ◌==◌, ◌++◌, List}
use Rattle.std.specs.List.{slice_split}

-- what stands between the bytes of this value: just one part more than there are such bytes, and any part may be empty
abbrev pub cut : ℕ → List ℕ → List (List ℕ)
cut at bytes = slice_split (λ b. b == at) bytes

-- the byte that ends a line
abbrev pub line_feed : ℕ
line_feed = 10

-- the words of a line: it is cut at each space
abbrev pub words : List ℕ → List (List ℕ)
words line = cut 32 line

-- the components of a path: it is cut at each slash
abbrev pub components : List ℕ → List (List ℕ)
components path = cut 47 path

-- what comes next changes no line that has ended: where a stream is these lines and then this, it is with one more piece the same lines, and then that
abbrev pub LinesGoOn : Type 0
LinesGoOn = (stream : List ℕ) (lines : List (List ℕ)) (rest piece : List ℕ) → cut line_feed stream ≡ lines ++ cut line_feed rest → cut line_feed (stream ++ piece) ≡ lines ++ cut line_feed (rest ++ piece)
