-- How pieces go through eight lanes.
use Rattle.std.specs.Prelude.{◌≡◌, ℕ, ◌+◌, ◌<◌, ◌≤◌, List, [], length, Option, None, Some, IfSome, IsSomeAnd, slice_index_or, slice_set}
use Rattle.sha2.specs.Sha256.{sha256}
use Rattle.repo_sha.specs.declared.pieces.Piece.{Piece}

-- what a lane has: a piece, or nothing
abbrev pub at : List (Option Piece) → ℕ → Option Piece
at lanes j = slice_index_or lanes j None

-- a lane that has a piece has so many blocks of it left
abbrev pub HasLeft : ℕ → Option Piece → Type 0
HasLeft steps lane = IfSome lane (λ piece. piece.place + steps ≤ piece.message.count)

-- the piece is the same, so many blocks on
abbrev pub IsOnBy : ℕ → Piece → Piece → Type 0
IsOnBy steps old new = (new.number ≡ old.number) × (new.message.bytes.now ≡ old.message.bytes.now) × (new.place ≡ old.place + steps)

-- a lane goes on by so many blocks with the piece that it has
abbrev pub GoesOn : ℕ → Option Piece → Option Piece → Type 0
GoesOn steps None new = new ≡ None
GoesOn steps (Some piece) new = IsSomeAnd new (IsOnBy steps piece)

-- a lane has the piece of this number
abbrev pub Has : ℕ → Option Piece → Type 0
Has k None = ⊥
Has k (Some piece) = piece.number ≡ k

-- the digests with that of a lane's piece at its number
abbrev pub with_digest : Option Piece → List (List ℕ) → List (List ℕ)
with_digest None digests = digests
with_digest (Some piece) digests = slice_set digests piece.number (sha256 piece.message.bytes.now)

-- each piece that a lane has is one of so many
abbrev pub AreAmong : ℕ → List (Option Piece) → Type 0
AreAmong count lanes = (j : ℕ) → j < 8 → IfSome (at lanes j) (λ piece. piece.number < count)

-- Of some texts the first ones were begun: each of them is in a lane, or its digest stands at its number.
pub record IsUnderWay (texts : List (List ℕ)) (begun : ℕ) (lanes : List (Option Piece)) (digests : List (List ℕ)) : Type 0 where
  pub count : length digests ≡ length texts
  pub among : begun ≤ length texts
  pub held : (j : ℕ) → j < 8 → IfSome (at lanes j) (λ piece. (piece.number < begun)
      × (piece.message.bytes.now ≡ slice_index_or texts piece.number []))
  pub done : (k : ℕ) → k < begun → ((j : ℕ) → j < 8 → ¬ Has k (at lanes j))
      → slice_index_or digests k [] ≡ sha256 (slice_index_or texts k [])
