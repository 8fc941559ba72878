-- Room for large frames: who has some, and who waits for it in a queue.
use Rattle.std.specs.Prelude.{◌≡◌, ◌≢◌, ◌≤◌, ◌<◌, ◌+◌, ◌-◌, ◌*◌, ◌^◌, ◌⊎◌, ◌++◌, ◌∷◌, ◌&&◌, ◌||◌, if◌then◌else◌, [], ⊤, ℕ, Bool, false, List, Option, Some, None, eqb, leb, ltb, not, length, min, take, slice_get, slice_set}
use Rattle.std.specs.List.{remove}
use Rattle.repo_many.specs.declared.large_frames.LargeFrame.{LargeFrame}
use Rattle.repo_many.specs.declared.large_frames.LargeFrames.{LargeFrames}
use Rattle.repo_many.specs.declared.large_frames.Room.{Room}
use Rattle.repo_many.specs.declared.manners.Manner.{Manner}

-- how many bytes of room frames take together
abbrev pub room_of : List LargeFrame → ℕ
room_of [] = 0
room_of (f ∷ fs) = f.bytes + room_of fs

-- where the frame of a place stands among others; behind all of them if it isn't there
abbrev pub index_of : List LargeFrame → ℕ → ℕ
index_of [] place = 0
index_of (f ∷ fs) place = if eqb f.place place then 0 else (1 + index_of fs place)

-- the frames once this one is there: it stands behind all others, unless there is one of its place
abbrev pub queued : List LargeFrame → LargeFrame → List LargeFrame
queued fs f = if ltb (index_of fs f.place) (length fs) then fs else (fs ++ f ∷ [])

-- How many of the first have room once the one at an index asked for it: one more if it is the first that waits, and either none has room or it
-- fits beside those that have.
abbrev pub given_to : ℕ → List LargeFrame → ℕ → ℕ → ℕ
given_to limit fs given index = if eqb index given && (eqb index 0 || leb (room_of (take (index + 1) fs)) limit) then (index + 1) else given

-- what the connection of a place may read: its large frame if that has room
abbrev pub room_at : LargeFrames → ℕ → Room
room_at q place = if ltb (index_of q.frames.items place) q.given then Room.Large else Room.Barred

-- The first of these frames, so many, take no more room than there is, or only one has some.
abbrev pub AreBounded : ℕ → List LargeFrame → ℕ → Type 0
AreBounded limit fs given = (given ≤ length fs) × ((given ≤ 1) ⊎ (room_of (take given fs) ≤ limit))

-- the frames that have room take no more than there is, or only one has some
abbrev pub IsBounded : LargeFrames → Type 0
IsBounded q = AreBounded q.limit q.frames.items q.given

-- none of these frames is of this place
abbrev pub NoneOf : ℕ → List LargeFrame → Type 0
NoneOf place [] = ⊤
NoneOf place (f ∷ fs) = (f.place ≢ place) × NoneOf place fs

-- no two of these frames are of one place
abbrev pub AreApart : List LargeFrame → Type 0
AreApart [] = ⊤
AreApart (f ∷ fs) = NoneOf f.place fs × AreApart fs

-- each of these frames is of one of so many places
abbrev pub AreBelow : ℕ → List LargeFrame → Type 0
AreBelow n [] = ⊤
AreBelow n (f ∷ fs) = (f.place < n) × AreBelow n fs

-- Of frames of so many places, no two of one place, in front of each stand fewer than there are places. As others come only behind all, each gets its turn
-- after that of the others at most.
abbrev pub QueuesAreFair : Type 0
QueuesAreFair = (n : ℕ) (fs : List LargeFrame) → AreApart fs → AreBelow n fs → (place : ℕ) → index_of fs place < length fs → index_of fs place + 1 ≤ n

-- how many bytes large frames may take together: as many as is said, or enough for the greatest of each connection
abbrev pub limit_by : ℕ → Option ℕ → ℕ
limit_by places None = min (26214404 * places) (2 ^ 64 - 1)
limit_by places (Some bytes) = bytes

abbrev pub limit_of : Manner → ℕ
limit_of manner = limit_by manner.at_once manner.memory

-- ---- minutes, of 60,000,000,000 nanoseconds

-- a frame that holds others up came too slowly: its minute is over, and fewer bytes came in it than 64 KiB a second
abbrev pub is_slow : Bool → ℕ → LargeFrame → Bool
is_slow free time f = not free && (leb 60000000000 (time - f.since) && ltb f.came 3932160)

-- a frame whose minute begins at this time
abbrev pub begun : ℕ → LargeFrame → LargeFrame
begun time f = record { place = f.place; bytes = f.bytes; since = time; came = 0 }

-- a frame's minute goes on: it begins anew once it is over, and while the frame holds nobody up; that of a slow one stays
abbrev pub next_minute : Bool → ℕ → LargeFrame → LargeFrame
next_minute free time f = if not (is_slow free time f) && (free || leb 60000000000 (time - f.since)) then begun time f else f

-- the frame at an index holds nobody up: none waited when the round began, or it waits itself
abbrev pub is_free : LargeFrames → ℕ → Bool
is_free q index = not q.wanted || leb q.given index

-- whether that frame came too slowly, if it is there
abbrev pub is_slow_if : Bool → ℕ → Option LargeFrame → Bool
is_slow_if free time None = false
is_slow_if free time (Some f) = is_slow free time f

-- whether the frame of a place came too slowly while others waited
abbrev pub is_slow_at : LargeFrames → ℕ → ℕ → Bool
is_slow_at q place time = is_slow_if (is_free q (index_of q.frames.items place)) time (slice_get q.frames.items (index_of q.frames.items place))

-- these frames, with another one at an index, if one is there
abbrev pub changed : (LargeFrame → LargeFrame) → List LargeFrame → ℕ → Option LargeFrame → List LargeFrame
changed change fs index None = fs
changed change fs index (Some f) = slice_set fs index (change f)

-- the frames once the minute of a place's went on
abbrev pub paced_at : LargeFrames → ℕ → ℕ → List LargeFrame
paced_at q place time =
    changed (next_minute (is_free q (index_of q.frames.items place)) time) q.frames.items (index_of q.frames.items place) (slice_get q.frames.items (index_of q.frames.items place))

-- a frame of which so many bytes came
abbrev pub came_more : ℕ → LargeFrame → LargeFrame
came_more count f = record { place = f.place; bytes = f.bytes; since = f.since; came = min (f.came + count) (2 ^ 64 - 1) }

-- the frames once so many bytes came of a place's
abbrev pub with_came : List LargeFrame → ℕ → ℕ → List LargeFrame
with_came fs place count = changed (came_more count) fs (index_of fs place) (slice_get fs (index_of fs place))

-- The frame of a place is there no more. All others stay in their order, and no other one loses its room.
abbrev pub HasLeft : LargeFrames → ℕ → LargeFrames → Type 0
HasLeft old place new =
    (new.frames.items ≡ (if ltb (index_of old.frames.items place) (length old.frames.items) then remove old.frames.items (index_of old.frames.items place) else old.frames.items))
    × (new.given ≡ (if ltb (index_of old.frames.items place) (length old.frames.items) && ltb (index_of old.frames.items place) old.given then (old.given - 1) else old.given))
