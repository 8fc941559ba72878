-- Why every run is safe: what keeps the bag invariant, and what it gives.
use Rattle.std.specs.Prelude.{⊤, ℕ}
use Rattle.repo_wire.specs.declared.messages.Request.{Request}
use Rattle.repo_store.specs.StoreMachine.{Step}
use Rattle.repo_store.specs.Stores.{Store}
use Rattle.repo_world.specs.Bag.{HasBag}
use Rattle.repo_world.specs.Events.{Happens, Serves}
use Rattle.repo_world.specs.Laws.{IsEmpty}
use Rattle.repo_world.specs.Safe.{HandedIsOne, HasNoClash, IsSafe}
use Rattle.repo_world.specs.World.{World, IsOneOf, Asked, beginning}
use Rattle.repo_world.specs.declared.events.Event.{Event}
use Rattle.repo_world.specs.declared.events.Applied.{Applied}

-- where nothing was sent the bag is in order
abbrev pub BeginningHasBag : Type 0
BeginningHasBag = (store : Store) → IsEmpty store → HasBag (beginning store)

-- a request among the messages is delivered, and the store makes a step
abbrev pub IsServed : World → ℕ → Request → World → Type 0
IsServed w k request v = IsOneOf w.messages (Asked k request) × Serves Step w k request v

-- any event keeps it so
abbrev pub EachEventKeepsBag : Type 0
EachEventKeepsBag = (w v : World) (e : Event) (applied : Applied) → HasBag w → HasNoClash v → Happens ⊤ w e applied v → HasBag v

-- and that gives safety
abbrev pub BagGivesSafety : Type 0
BagGivesSafety = (w : World) → HasBag w → HasNoClash w → IsSafe w × HandedIsOne w
