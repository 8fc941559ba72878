-- The states for which players stand.
use Rattle.std.specs.Prelude.{◌≡◌, ℕ}
use Rattle.repo_store.specs.Memory.{store_of}
use Rattle.repo_store.specs.Stores.{Store, appending}
use Rattle.repo_world.specs.Stages.{seen}
use Rattle.repo_play.specs.Lines.{State}
use Rattle.repo_play.specs.declared.players.Player.{Player}
use Rattle.repo_play.specs.declared.stages.Stage.{Stage}

-- no device of this sort ever fails by itself
abbrev pub NeverFails : {S : Type 0} → (S → ℕ) → Type 0
NeverFails {S} failed = (device : S) → failed device ≡ 0

-- where a script stands, by the one who plays it
abbrev pub state_of : {S : Type 0} → (S → Store) → Player S → State
state_of store player = record { world = seen store player.world; entries = player.entries.items }

-- the same, whether the store only appends or not
abbrev pub state_on : Stage → State
state_on (Stage.Keeping player) = state_of store_of player
state_on (Stage.Appending player) = state_of (λ device. appending (store_of device.inner)) player
