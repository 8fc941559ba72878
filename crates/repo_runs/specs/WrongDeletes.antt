-- A wrong rule, as an example: a store that deletes under any token that was ever granted, live or not.
use Rattle.std.specs.Prelude.{◌≡◌, ℕ, List}
use Rattle.repo_name.specs.declared.kinds.Kind.{Kind}
use Rattle.repo_name.specs.declared.names.Name.{Name}
use Rattle.repo_name.specs.declared.tokens.Token.{Token}
use Rattle.repo_wire.specs.declared.messages.Ask.{Ask}
use Rattle.repo_wire.specs.declared.messages.Request.{Request}
use Rattle.repo_wire.specs.declared.messages.Say.{Say}
use Rattle.repo_store.specs.Stores.{Store, RemovesObject}
use Rattle.repo_session.specs.Traces.{Exchanged}
use Rattle.repo_world.specs.Bag.{HasDeleted, IsLive, WasUsed, StillSays}
use Rattle.repo_world.specs.Events.{Serves}
use Rattle.repo_world.specs.Safe.{Took}
use Rattle.repo_world.specs.World.{World, client}

-- its step: the token of the delete isn't fresh any more, and the object goes
pub record DeletesForEver (old : Store) (ask : Ask) (say : Say) (new : Store) : Type 0 where
  pub token : Token
  pub kind : Kind
  pub name : Name
  pub asks : ask ≡ Ask.Delete token kind name
  pub granted : WasUsed old.tokens token
  pub says : say ≡ Say.Done
  pub removes : RemovesObject kind name old new

-- What a client got goes while the client's token is live, by a delete that isn't its own, as one of a prune whose lock was removed, delivered late. So the
-- reply doesn't say so any more that it is to say in a bag that is in order.
abbrev pub DeletesForEverBreakBag : Type 0
DeletesForEverBreakBag = (w v : World) (k i : ℕ) (request : Request) (t u : Token) (j : Kind) (n : Name) (x : List ℕ)
    → Exchanged (client w i).trace (Ask.Get j n) (Say.Bytes x) → Took w i u → IsLive w u → ¬ HasDeleted w i j n
    → request.ask ≡ Ask.Delete t j n → Serves DeletesForEver w k request v → ¬ StillSays v i (Ask.Get j n) (Say.Bytes x)
