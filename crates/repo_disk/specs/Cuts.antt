-- What a power cut may leave, in plain words; and that what names come to is just that.
use Rattle.std.specs.Prelude.{◌≡◌, ◌≢◌, ◌⊎◌, ◌∷◌, [], ℕ, Bool, true, List, Option}
use Rattle.repo_disk.specs.Disks.{State, StandsIn, Leaves, ChangesDrafts, Gives, MakesRoom, IsSynced}
use Rattle.repo_disk.specs.declared.files.File.{File}
use Rattle.repo_disk.specs.declared.rooms.Room.{Room}

-- what each name comes to
abbrev pub Fates : Type 0
Fates = Room → List ℕ → Option (List ℕ)

-- A disk without what nobody can know: what has each name now; what else it had since its folder's last sync that succeeded while the folder lasted, the
-- newest first; and which folders last.
pub record Seen : Type 0 where
  pub now : Room → List ℕ → Option File
  pub since : Room → List ℕ → List (Option File)
  pub lasting : Room → Bool

-- the same with what each name comes to
abbrev pub with_fates : Seen → Fates → State
with_fates s fates = record { now = s.now; fate = fates; lasting = s.lasting }

-- what one of these leaves
abbrev pub IsOneOf : List (Option File) → Option (List ℕ) → Type 0
IsOneOf [] left = ⊥
IsOneOf (had ∷ hads) left = Leaves had left ⊎ IsOneOf hads left

-- A cut leaves of each name what it has, or what it had since its folder's last sync, each by itself; of files that are being written, anything.
abbrev pub MayLeave : Seen → Fates → Type 0
MayLeave s left = (r : Room) (n : List ℕ) → (r ≡ Room.Temporary) ⊎ (Leaves (s.now r n) (left r n) ⊎ IsOneOf (s.since r n) (left r n))

-- what a call did. One that changed nothing isn't among them; a change was told as done or as failed.
pub data Deed : Type 0 where
  Drafts : Deed
  Changes : Room → List ℕ → Option File → Deed
  Makes : Room → Deed
  Syncs : Room → Deed

-- at a name that isn't one among files that are being written nothing changes
abbrev pub SameAt : Seen → Seen → Room → List ℕ → Type 0
SameAt old new r n = (r ≡ Room.Temporary) ⊎ ((new.now r n ≡ old.now r n) × (new.since r n ≡ old.since r n))

-- a name is given this, or loses what it has, which it has had since then
pub record IsChanged (room : Room) (name : List ℕ) (given : Option File) (old new : Seen) : Type 0 where
  pub here : new.now room name ≡ given
  pub before : new.since room name ≡ old.now room name ∷ old.since room name
  pub others : (r : Room) (n : List ℕ) → ((r ≡ room) × (n ≡ name)) ⊎ SameAt old new r n
  pub lasting : new.lasting ≡ old.lasting

-- a folder was synced: where it lasts itself, each name has had nothing else since then, and the folders that stand in it last
pub record IsSeenSynced (room : Room) (old new : Seen) : Type 0 where
  pub kept : room ≢ Room.Temporary
  pub now : new.now ≡ old.now
  pub here : old.lasting room ≡ true → (n : List ℕ) → new.since room n ≡ []
  pub others : (r : Room) (n : List ℕ) → ((r ≡ room) × (old.lasting room ≡ true)) ⊎ (new.since r n ≡ old.since r n)
  pub stays : (r : Room) → old.lasting r ≡ true → new.lasting r ≡ true
  pub below : (r : Room) → StandsIn r room → old.lasting room ≡ true → new.lasting r ≡ true

-- a call, as it is seen
abbrev pub Happens : Deed → Seen → Seen → Type 0
Happens Deed.Drafts old new = ((r : Room) (n : List ℕ) → SameAt old new r n) × (new.lasting ≡ old.lasting)
Happens (Deed.Changes room name given) old new = IsChanged room name given old new
Happens (Deed.Makes room) old new = (new.now ≡ old.now) × (new.since ≡ old.since) × ((r : Room) → (r ≡ room) ⊎ (new.lasting r ≡ old.lasting r))
Happens (Deed.Syncs room) old new = IsSeenSynced room old new

-- the same call, as the clauses of a disk say it
abbrev pub IsFated : Deed → State → State → Type 0
IsFated Deed.Drafts old new = ChangesDrafts old new
IsFated (Deed.Changes room name given) old new = Gives room name given old new
IsFated (Deed.Makes room) old new = MakesRoom room old new
IsFated (Deed.Syncs room) old new = IsSynced room old new

-- calls one after another, as they are seen
abbrev pub Run : List Deed → Seen → Seen → Type 0
Run [] old new = new ≡ old
Run (deed ∷ deeds) old new = (mid : Seen) × Happens deed old mid × Run deeds mid new

-- the same calls, with what each name comes to
abbrev pub FatedRun : List Deed → Seen → Fates → Seen → Fates → Type 0
FatedRun [] old fates new left = (new ≡ old) × (left ≡ fates)
FatedRun (deed ∷ deeds) old fates new left = (mid : Seen) × (next : Fates) × Happens deed old mid × IsFated deed (with_fates old fates) (with_fates mid next) × FatedRun deeds mid next new left

-- after any calls, each content that a cut may leave is what the names came to in a run of these calls
abbrev pub EachCutIsFated : Type 0
EachCutIsFated = (deeds : List Deed) (old new : Seen) (left : Fates) → Run deeds old new → MayLeave new left → (fates : Fates) × MayLeave old fates × FatedRun deeds old fates new left

-- and no other content is
abbrev pub EachFateMayBeLeft : Type 0
EachFateMayBeLeft = (deeds : List Deed) (old new : Seen) (fates left : Fates) → MayLeave old fates → FatedRun deeds old fates new left → MayLeave new left
