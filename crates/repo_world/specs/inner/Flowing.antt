-- What becomes of a world's clients and messages.
use Rattle.repo_world.specs.Flows.{Flow, seat_at, messages_in, world_of}
use Rattle.std.specs.Prelude.{◌≡◌, ◌⊎◌, ◌<◌, slice_get, slice_index_or, ℕ}
use Rattle.repo_wire.specs.declared.messages.Say.{Say}
use Rattle.repo_world.specs.declared.events.Applied.{Applied}
use Rattle.repo_world.specs.Events.{Delivers, Arrives, Serves}
use Rattle.repo_wire.specs.declared.messages.Ask.{Ask}
use Rattle.repo_store.specs.Stores.{Store}
use Rattle.repo_backup.specs.Items.{size_of}
use Rattle.repo_backup.specs.declared.items.Item.{Item}
use Rattle.repo_world.specs.Seats.{silence, nothing}

-- the store serves the request at a place of a client's
abbrev pub FlowServes : (Store → Ask → Say → Store → Type 0) → Store → Flow → ℕ → ℕ → Store → Flow → Type 0
FlowServes How from old client place to new = Serves How (world_of from old) client (slice_index_or (seat_at old.seats client).requests place nothing) (world_of to new)

-- the reply at a place of a client's arrives
abbrev pub ReplyArrives : Store → Flow → ℕ → ℕ → Applied → Flow → Type 0
ReplyArrives store old client place applied new = Arrives (world_of store old) client (slice_index_or (seat_at old.seats client).replies place silence) applied (world_of store new)

-- the message of a number is delivered
abbrev pub FlowDelivers : (Store → Ask → Say → Store → Type 0) → Store → Flow → ℕ → Applied → Store → Flow → Type 0
FlowDelivers How from old number applied to new = Delivers How (world_of from old) (slice_get (messages_in old) number) applied (world_of to new)

-- so many bytes of an item were taken: all, and it is told as done; or fewer, and it is told how many
abbrev pub TellsTaken : ℕ → Item → Applied → Type 0
TellsTaken n item applied = ((applied ≡ Applied.Done) × (n ≡ size_of item)) ⊎ ((applied ≡ Applied.Took n) × (n < size_of item))
