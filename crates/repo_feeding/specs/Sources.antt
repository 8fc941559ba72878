-- What comes from a source of items, and what is still to come.
use Rattle.std.specs.Prelude.{◌≡◌, ◌⊎◌, ◌≤◌, ◌+◌, ◌++◌, ◌∷◌, [], ⊤, ℕ, true, List, length, take, Option, Some, None, Result, Ok, Err}
use Rattle.repo_tree.specs.declared.entries.Entry.{Entry}
use Rattle.repo_session.specs.Feeds.{Fed, fed_dir, fed_file, fed_bytes, fed_close, fed_end}
use Rattle.repo_backup.specs.Items.{Place, MayTake, at_root, after}
use Rattle.repo_feeding.specs.declared.sources.Found.{Found}

-- what a source was made to give, in order, and what of it is still to come
pub record Told : Type 0 where
  pub whole : List Fed
  pub coming : List Fed

-- all that a source was made to give, where that is known
abbrev pub whole_of : Option Told → Option (List Fed)
whole_of None = None
whole_of (Some told) = Some told.whole

-- a source that hasn't failed, for whatever reason
abbrev pub IsSound : {E : Type 0} → (E → Type 0) → Type 0
IsSound {E} failed = (error : E) → ¬ failed error

-- one that hadn't failed has failed for the reason that it gives, and where something came it hasn't; of one that had failed nothing is said: it isn't to be asked
abbrev pub Fails : {E : Type 0} → (E → Type 0) → Result Found E → (E → Type 0) → Type 0
Fails old (Ok found) new = IsSound old → IsSound new
Fails old (Err error) new = IsSound old → new error

-- nothing is behind the end of these items
abbrev pub EndsThere : List Fed → Type 0
EndsThere [] = ⊤
EndsThere (fed_end ∷ items) = items ≡ []
EndsThere (item ∷ items) = EndsThere items

-- nothing of what it was made to give came so far, where that is known, and nothing of that is behind its end
abbrev pub IsUntouched : Option Told → Type 0
IsUntouched None = ⊤
IsUntouched (Some told) = (told.coming ≡ told.whole) × EndsThere told.whole

-- nothing came so far, and it hasn't failed
abbrev pub IsFresh : {E : Type 0} → Option Told → (E → Type 0) → Type 0
IsFresh told failed = IsUntouched told × IsSound failed

-- the bytes that were found are in the room, one at least
abbrev pub FitsRoom : ℕ → Found → Type 0
FitsRoom room (Found.Bytes count) = (1 ≤ count) × (count ≤ room)
FitsRoom room found = ⊤

-- what was found, as an item: a directory or a file of this name; of bytes those at the front of the room
abbrev pub fed_found : List ℕ → List ℕ → Found → Fed
fed_found name room Found.Dir = fed_dir name
fed_found name room Found.File = fed_file name
fed_found name room (Found.Bytes count) = fed_bytes (take count room)
fed_found name room Found.Close = fed_close
fed_found name room Found.End = fed_end

-- the item that came, if one did
abbrev pub came : {E : Type 0} → List ℕ → List ℕ → Result Found E → Option Fed
came name room (Ok found) = Some (fed_found name room found)
came name room (Err error) = None

-- the rest of a piece of bytes, unless that is none, and then these
abbrev pub rest_then : List ℕ → List Fed → List Fed
rest_then [] later = later
rest_then (b ∷ bytes) later = fed_bytes (b ∷ bytes) ∷ later

-- the item comes first of some, and then the others; a part of a piece of bytes comes first, and then its rest
abbrev pub ComesFirst : Fed → List Fed → List Fed → Type 0
ComesFirst (fed_bytes part) coming then = (rest : List ℕ) × (later : List Fed) × (coming ≡ fed_bytes (part ++ rest) ∷ later) × (then ≡ rest_then rest later)
ComesFirst item coming then = coming ≡ item ∷ then

-- where some items more lead, the next one first
abbrev pub leads : Place → List Fed → Place
leads p [] = p
leads p (item ∷ items) = leads (after p item) items

-- all of it came, its end too
abbrev pub IsSpent : Told → Type 0
IsSpent told = (told.coming ≡ []) × ((leads at_root told.whole).over ≡ true)

-- what came was the first of these, and then come the others; a source that fails is as before
abbrev pub ComesOf : Option Fed → List Fed → List Fed → Type 0
ComesOf None coming then = then ≡ coming
ComesOf (Some item) coming then = ComesFirst item coming then

-- what comes is the first of what was to come; behind the end anything may come
abbrev pub Comes : Option Told → Option Fed → Option Told → Type 0
Comes None item new = new ≡ None
Comes (Some old) item new = (now : Told) × (new ≡ Some now) × (now.whole ≡ old.whole) × (IsSpent old ⊎ ComesOf item old.coming now.coming)

-- with an item that came, and comes once more
abbrev pub told_with : Option Told → Option Fed → Option Told
told_with None item = None
told_with (Some told) None = Some told
told_with (Some told) (Some item) = Some (record { whole = told.whole; coming = item ∷ told.coming })

-- all that it was made to give is to come once more
abbrev pub Rewinds : Option Told → Option Told → Type 0
Rewinds None new = new ≡ None
Rewinds (Some old) new = new ≡ Some (record { whole = old.whole; coming = old.whole })

-- each of these items, the next one first, may be taken where those before it lead
abbrev pub AreTakenFrom : Place → List Fed → Type 0
AreTakenFrom p [] = ⊤
AreTakenFrom p (item ∷ items) = MayTake p item × AreTakenFrom (after p item) items

-- these items come first of some, one after another, and then the others
abbrev pub ComeFirst : List Fed → List Fed → List Fed → Type 0
ComeFirst [] coming then = coming ≡ then
ComeFirst (item ∷ items) coming then = (mid : List Fed) × ComesFirst item coming mid × ComeFirst items mid then

-- some first items of those that a source was made to give, its bytes in any parts, each of which may be taken where those before it lead, lead here, and these come then: so none is
-- among the first that came out of order there
abbrev pub IsAt : List Fed → Place → List Fed → Type 0
IsAt whole p coming = (before : List Fed) × ComeFirst before whole coming × AreTakenFrom at_root before × (leads at_root before ≡ p)

-- an item counts one, and each of its bytes one more
abbrev pub count_of : Fed → ℕ
count_of (fed_bytes bytes) = 1 + length bytes
count_of item = 1

-- how many items and bytes these are in all
abbrev pub count_in : List Fed → ℕ
count_in [] = 0
count_in (item ∷ items) = count_of item + count_in items

-- the entries that all of these items spell, the first one first
abbrev pub spelled_in : List Fed → List Entry
spelled_in items = (leads at_root items).entries
