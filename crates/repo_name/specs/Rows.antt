use Rattle.std.specs.Prelude.{◌≡◌, ◌≤◌, ◌<◌, ◌^◌, ◌++◌, ◌∷◌, ℕ, Bool, true, false, List, length, IsUtf8, ◌≢◌, All}
use Rattle.std.specs.Int.{w16, w64, to_be_bytes}
use Rattle.std.specs.List.{flat_map}
use Rattle.repo_name.specs.declared.rows.LockRow.{LockRow}

-- a number of 64 bits in bytes, the highest first
abbrev pub number : ℕ → List ℕ
number n = to_be_bytes w64 n

-- a count in two bytes, the higher first
abbrev pub count : ℕ → List ℕ
count n = to_be_bytes w16 n

-- a truth value in a byte
abbrev pub truth : Bool → ℕ
truth false = 0
truth true = 1

-- a host within its limits: 1 to 255 bytes of UTF-8
abbrev pub IsHost : List ℕ → Type 0
IsHost host = (1 ≤ length host) × (length host ≤ 255) × IsUtf8 host

-- a host in bytes, behind their count
abbrev pub host_field : List ℕ → List ℕ
host_field host = length host ∷ host

-- a row as programs make them: numbers of 64 bits, and a host within its limits
pub record IsRow (row : LockRow) : Type 0 where
  pub token : row.token.0 < 2 ^ 64
  pub time : row.time < 2 ^ 64
  pub host : IsHost row.host

-- a row in bytes: token, whether it is exclusive, time, and host
abbrev pub row_bytes : LockRow → List ℕ
row_bytes row = number row.token.0 ++ truth row.exclusive ∷ number row.time ++ host_field row.host

-- rows in bytes: how many, and each
abbrev pub rows_bytes : List LockRow → List ℕ
rows_bytes rows = count (length rows) ++ flat_map row_bytes rows

-- numbers in bytes read in one way, whatever follows them
abbrev pub NumbersAreOne : Type 0
NumbersAreOne = (a b : ℕ) (x y : List ℕ) → a < 2 ^ 64 → b < 2 ^ 64 → number a ++ x ≡ number b ++ y → (a ≡ b) × (x ≡ y)

-- hosts in bytes read in one way, whatever follows them
abbrev pub HostsAreOne : Type 0
HostsAreOne = (a b x y : List ℕ) → host_field a ++ x ≡ host_field b ++ y → (a ≡ b) × (x ≡ y)

-- rows in bytes read in one way, whatever follows them
abbrev pub RowsAreOne : Type 0
RowsAreOne = (a b : LockRow) (x y : List ℕ) → IsRow a → IsRow b → row_bytes a ++ x ≡ row_bytes b ++ y → (a ≡ b) × (x ≡ y)

-- the bytes of no so many rows stand at the front
abbrev pub HasNoRows : ℕ → List ℕ → Type 0
HasNoRows n bytes = (rows : List LockRow) (rest : List ℕ) → length rows ≡ n → All IsRow rows → bytes ≢ flat_map row_bytes rows ++ rest

-- the bytes of no rows, at most so many, stand behind their count at the front
abbrev pub HasNoRowsWithin : ℕ → List ℕ → Type 0
HasNoRowsWithin limit bytes = (rows : List LockRow) (rest : List ℕ) → length rows ≤ limit → All IsRow rows → bytes ≢ rows_bytes rows ++ rest
