-- A wrong rule, as an example: a store that grants the lock of a dead token again.
use Rattle.std.specs.Prelude.{◌≡◌, ◌≢◌, ℕ, List, Some, None}
use Rattle.repo_name.specs.declared.kinds.Kind.{Kind}
use Rattle.repo_name.specs.declared.names.Name.{Name}
use Rattle.repo_name.specs.declared.rows.LockRow.{LockRow}
use Rattle.repo_wire.specs.declared.messages.Ask.{Ask}
use Rattle.repo_wire.specs.declared.messages.Request.{Request}
use Rattle.repo_wire.specs.declared.messages.Say.{Say}
use Rattle.repo_locks.specs.TokenMachine.{live_as, granted}
use Rattle.repo_store.specs.Stores.{Store, SavesTokens}
use Rattle.repo_world.specs.Bag.{HasDeleted, WasUsed, StillSays}
use Rattle.repo_world.specs.Events.{Serves}
use Rattle.repo_world.specs.Safe.{Took}
use Rattle.repo_world.specs.World.{World}

-- its step: the token is dead, and becomes live
pub record GrantsAgain (old : Store) (ask : Ask) (say : Say) (new : Store) : Type 0 where
  pub row : LockRow
  pub asks : ask ≡ Ask.Lock row
  pub spent : WasUsed old.tokens row.token
  pub dead : live_as old.tokens row.token ≡ None
  pub says : say ≡ Say.Done
  pub saves : SavesTokens (granted old.tokens row) old new

-- What the token's client got may be gone by then, as a prune deleted it: now that the token is live, the reply is to say again that it is there.
abbrev pub GrantsAgainBreakBag : Type 0
GrantsAgainBreakBag = (w v : World) (k : ℕ) (request : Request) (row : LockRow) (j : Kind) (n : Name) (x : List ℕ)
    → Took w k row.token → ¬ HasDeleted w k j n → w.store.objects j n ≢ Some x
    → request.ask ≡ Ask.Lock row → Serves GrantsAgain w k request v → ¬ StillSays v k (Ask.Get j n) (Say.Bytes x)
