-- What is known while a prune moves blobs to new packs.
use Rattle.std.specs.Prelude.{◌≡◌, ◌≢◌, ◌≤◌, ◌⊎◌, ◌+◌, ◌++◌, ◌∷◌, [], List, Option, length, map, take, slice_get, Some, None, ℕ}
use Rattle.repo_pack.specs.PackLayout.{Item, IsBlobLength}
use Rattle.repo_pack.specs.PackWriting.{IsDue, IsOpen}
use Rattle.repo_pack.specs.declared.places.Place.{Place}
use Rattle.repo_pack.specs.declared.writers.Sealed.{Sealed}
use Rattle.repo_index.specs.IndexText.{fact_of}
use Rattle.repo_index.specs.declared.facts.Fact.{Fact}
use Rattle.repo_index.specs.declared.facts.PackFacts.{PackFacts}
use Rattle.repo_writing.specs.Filling.{WasOpen, IsJustDue}
use Rattle.repo_writing.specs.Sealing.{IsSealed, IsListedAs}
use Rattle.repo_writing.specs.Writing.{AreCounts}
use Rattle.repo_prune.specs.Pruning.{pair_of_item, pair_of_fact}
use Rattle.repo_prune.specs.declared.moving.Moved.{Moved}
use Rattle.repo_prune.specs.declared.moving.Moving.{Moving}

-- a place, or else this one
abbrev pub place_or : Place → Option Place → Place
place_or else None = else
place_or else (Some place) = place

-- the copy of a fact's blob at a place; the fact itself if none is said
abbrev pub copy_at : Fact → Option Place → Fact
copy_at fact place = fact_of fact.kind fact.name (place_or fact.place place)

-- the blobs so far: those of the packs sent, of the pack that is sealed, and of the pack that is being written
abbrev pub items_so_far : List Item → List Item → Moving → List Item
items_so_far sent sealed m = (sent ++ sealed) ++ m.packer.writer.items

-- all blobs that move were added to packs
abbrev pub AreAdded : Moving → Type 0
AreAdded m = length m.moves.items ≤ m.added

-- a pack of these blobs is full: their bytes reach what packs are to reach, or they are 4,096
abbrev pub IsFull : Moving → List Item → Type 0
IsFull m items = IsDue (record { items = items; target = m.packer.target.bytes })

-- before its last blob it wasn't
abbrev pub IsPrompt : Moving → List Item → Type 0
IsPrompt m items = WasOpen m.packer.target.bytes items

-- a pack may be sealed: one is, or the one that is being written is due, or has the last blobs
abbrev pub MayBeSealed : Moving → Type 0
MayBeSealed m = (m.packer.sealed ≢ None) ⊎ (IsDue m.packer.writer ⊎ AreAdded m)

-- of the packs sent these were the blobs, of the sealed one these; all are those of the first facts, in order; and those sent are counted; the one that
-- is written is to reach what packs are, is open or just due, and has nothing while one is sealed; and the sealed one wasn't full before its last blob, and is,
-- or has the last blobs
pub record IsMoving (m : Moving) (sent sealed : List Item) : Type 0 where
  pub sealed_is : IsSealed m.packer.sealed sealed
  pub moved : map pair_of_item (items_so_far sent sealed m) ≡ map pair_of_fact (take m.added m.moves.items)
  pub within : m.added ≤ length m.moves.items
  pub counted : AreCounts m.counts sent
  pub aim : m.packer.writer.target ≡ m.packer.target.bytes
  pub due : IsOpen m.packer.writer ⊎ IsJustDue m.packer.target.bytes m.packer.writer.items
  pub alone : m.packer.sealed ≢ None → m.packer.writer.items ≡ []
  pub prompt : m.packer.sealed ≢ None → IsPrompt m sealed
  pub full : m.packer.sealed ≢ None → IsFull m sealed ⊎ AreAdded m

-- the blob of this fact is to be asked for: it is the next one, or it was added, and nothing more was sent since; what was sent is of facts before it
pub record AwaitsBlob (m : Moving) (fact : Fact) (sent sealed : List Item) : Type 0 where
  pub moving : IsMoving m sent sealed
  pub before : length sent ≤ m.asked
  pub asked : slice_get m.moves.items m.asked ≡ Some fact
  pub next : ((m.added ≡ m.asked) × IsOpen m.packer.writer × (m.packer.sealed ≡ None)) ⊎ (m.added ≡ m.asked + 1)

-- a pack is sent: it has these blobs, wasn't full before the last of them, and is or has the last of all, and is listed with exactly them behind those listed before; no blob is behind them
pub record SendsPack (sent : List Item) (old : List PackFacts) (sealed : Sealed) (new : Moving) : Type 0 where
  pub items : List Item
  pub listed : PackFacts
  pub lists : IsListedAs (Some sealed) items sealed listed
  pub behind : new.listed.items ≡ old ++ listed ∷ []
  pub moving : IsMoving new (sent ++ items) []
  pub none : new.packer.sealed ≡ None
  pub written : new.packer.writer.items ≡ []
  pub prompt : IsPrompt new items
  pub full : IsFull new items ⊎ AreAdded new

-- what comes next: a pack; a blob, the first that wasn't added, while the pack that is being written is open; or nothing, once all were sent
abbrev pub MovesOn : List Item → List PackFacts → Moved → Moving → Type 0
MovesOn sent old (Moved.Ask fact) new = AwaitsBlob new fact sent [] × (new.listed.items ≡ old) × (new.added ≡ new.asked) × IsOpen new.packer.writer
MovesOn sent old (Moved.Put sealed) new = SendsPack sent old sealed new
MovesOn sent old Moved.Done new = IsMoving new sent [] × (new.packer.writer.items ≡ []) × (length new.moves.items ≤ new.added) × (new.listed.items ≡ old)
MovesOn sent old Moved.Nothing new = ⊥

-- where memory was wanting, the pack that is sealed may be another, and all else that is known stays
pub record StaysMoving (old new : Moving) (sent : List Item) : Type 0 where
  pub sealed : List Item
  pub moving : IsMoving new sent sealed
  pub listed : new.listed.items ≡ old.listed.items
  pub moves : new.moves ≡ old.moves
  pub added : new.added ≡ old.added
  pub asked : new.asked ≡ old.asked

-- where memory was wanting, the blob that was awaited is awaited, at the same place
pub record AwaitsStill (old new : Moving) (fact : Fact) (sent : List Item) : Type 0 where
  pub sealed : List Item
  pub awaits : AwaitsBlob new fact sent sealed
  pub listed : new.listed.items ≡ old.listed.items
  pub moves : new.moves ≡ old.moves
  pub asked : new.asked ≡ old.asked

-- a blob was added to the pack that is being written
pub record BlobWasAdded (old new : Moving) (sent sealed : List Item) : Type 0 where
  pub moving : IsMoving new sent sealed
  pub listed : new.listed ≡ old.listed
  pub moves : new.moves ≡ old.moves
  pub added : new.added ≡ new.asked + 1
  pub asked : new.asked ≡ old.asked

-- no pack is due: none is sealed, the one that is being written is open, and holds nothing where no blob is left
abbrev pub TakesMore : Moving → Type 0
TakesMore m = (m.packer.sealed ≡ None) × IsOpen m.packer.writer × (length m.moves.items ≤ m.added → m.packer.writer.items ≡ [])

-- a blob that is awaited comes to the pack that is being written
abbrev pub AddsBlob : Fact → Moving → Moving → Type 0
AddsBlob fact old new = (sent sealed : List Item) → AwaitsBlob old fact sent sealed → old.added ≡ old.asked → BlobWasAdded old new sent sealed

-- and it goes on
abbrev pub MovesBlob : Fact → List ℕ → Moving → Moved → Moving → Type 0
MovesBlob fact bytes old moved new = (sent sealed : List Item) → AwaitsBlob old fact sent sealed → IsBlobLength (length bytes) → MovesOn sent old.listed.items moved new

-- and it is the last one that was added
abbrev pub AddsAwaited : Fact → List ℕ → Moving → Moving → Type 0
AddsAwaited fact bytes old new = (sent sealed : List Item) → AwaitsBlob old fact sent sealed → IsBlobLength (length bytes) → new.added ≡ old.asked + 1
