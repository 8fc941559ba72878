-- How the rows of each host are gone down, from the newest on.
use Rattle.std.specs.Prelude.{◌≡◌, ◌≢◌, ◌<◌, ◌⊎◌, ◌&&◌, ◌↔◌, ◌+◌, ◌-◌, ◌^◌, ℕ, Bool, true, false, IsTrue, List, Option, Some, None, length, min, take, slice_get}
use Rattle.std.specs.List.{count_by}
use Rattle.std.specs.Ordering.{nat_cmp, ordering_then, is_lt, is_eq}
use Rattle.std.specs.declared.cmp.Ordering.{Ordering}
use Rattle.std.specs.Cmp.Lexicographic.{slice_cmp}
use Rattle.repo_name.specs.Naming.{name_cmp}
use Rattle.repo_prune.specs.declared.keeping.Policy.{Policy}
use Rattle.repo_prune.specs.declared.standings.Standing.{Standing}
use Rattle.repo_prune.specs.Keeping.{Row, day, IsLastOfDay, AreLaterDays}

-- rows go by their hosts, then by time, and then by name
abbrev pub row_cmp : Row → Row → Ordering
row_cmp a b = ordering_then (slice_cmp nat_cmp a.1.host b.1.host) (ordering_then (nat_cmp a.1.time b.1.time) (name_cmp a.0 b.0))

-- the first goes before the second
abbrev pub is_before : Row → Row → Bool
is_before a b = is_lt (row_cmp a b)

-- one host, twice
abbrev pub same_host : Row → Row → Bool
same_host a b = is_eq (slice_cmp nat_cmp a.1.host b.1.host)

-- the second is a later row of the first one's host
abbrev pub is_later : Row → Row → Bool
is_later a b = same_host a b && is_before a b

-- each row is at or below the one before it
abbrev pub Descends : List Row → Type 0
Descends rows = (k : ℕ) (a b : Row) → slice_get rows k ≡ Some a → slice_get rows (k + 1) ≡ Some b → is_before a b ≡ false

-- a count that stays at the greatest number of 64 bits
abbrev pub Counts : ℕ → ℕ → Type 0
Counts count n = count ≡ min n (2 ^ 64 - 1)

-- the next row of the host, after the one that stands so
pub record GoesDown (old : Standing) (row : Row) (new : Standing) : Type 0 where
  pub seen : new.seen ≡ min (old.seen + 1) (2 ^ 64 - 1)
  pub equal : row_cmp row old.row.now ≡ Ordering.Equal → (new.later ≡ old.later) × (new.days ≡ old.days) × (new.is_last ≡ old.is_last)
  pub same_day : row_cmp row old.row.now ≢ Ordering.Equal → day row ≡ day old.row.now → (new.later ≡ old.seen) × (new.days ≡ old.days) × (new.is_last ≡ false)
  pub other_day : row_cmp row old.row.now ≢ Ordering.Equal → day row ≢ day old.row.now → (new.later ≡ old.seen) × (new.days ≡ min (old.days + 1) (2 ^ 64 - 1)) × (new.is_last ≡ true)

-- where a row stands, with so many rows before it: how many of its host up to it, how many later, how many later days, whether it is the last of its day
pub record RowStandsAt (rows : List Row) (place : ℕ) (row : Row) (s : Standing) : Type 0 where
  pub here : slice_get rows place ≡ Some row
  pub same : s.row.now ≡ row
  pub seen : Counts s.seen (count_by (same_host row) (take (place + 1) rows))
  pub later : Counts s.later (count_by (is_later row) rows)
  pub days : (days : List ℕ) × AreLaterDays rows row days × Counts s.days (length days)
  pub last : IsTrue s.is_last ↔ IsLastOfDay rows row

-- where the row before it stands, if there is one
abbrev pub RowsBefore : List Row → ℕ → Option Standing → Type 0
RowsBefore rows place None = place ≡ 0
RowsBefore rows place (Some s) = (before : ℕ) × (place ≡ before + 1) × RowStandsAt rows before s.row.now s

-- so a row is kept
abbrev pub IsKeptAt : Policy → List Row → Row → Type 0
IsKeptAt policy rows row = (count_by (is_later row) rows < policy.last)
    ⊎ (IsLastOfDay rows row × ((days : List ℕ) × AreLaterDays rows row days × (length days < policy.daily)))

-- wherever a row comes after those of a standing, it stands so
abbrev pub RowStandsAfter : Option Standing → Row → Standing → Type 0
RowStandsAfter before row s = (rows : List Row) (place : ℕ) → Descends rows → slice_get rows place ≡ Some row → RowsBefore rows place before → RowStandsAt rows place row s
