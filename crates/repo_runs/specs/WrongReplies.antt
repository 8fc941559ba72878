-- A wrong rule, as an example: a client that takes any reply to its instance, whichever request it answers.
use Rattle.std.specs.Prelude.{◌≡◌, ◌≢◌, ◌++◌, ◌∷◌, ℕ, List, slice_set, Some}
use Rattle.repo_name.specs.Naming as naming
use Rattle.repo_name.specs.declared.kinds.Kind.{Kind}
use Rattle.repo_name.specs.declared.names.Name.{Name}
use Rattle.repo_wire.specs.declared.messages.Ask.{Ask}
use Rattle.repo_wire.specs.declared.messages.Reply.{Reply}
use Rattle.repo_wire.specs.declared.messages.Request.{Request}
use Rattle.repo_wire.specs.declared.messages.Say.{Say}
use Rattle.repo_session.specs.Traces.{silent}
use Rattle.repo_world.specs.Bag.{HasBag}
use Rattle.repo_world.specs.Clients.{Client}
use Rattle.repo_world.specs.World.{World, client, sends}

-- it takes the reply, whose number isn't looked at
pub record TakesAny (w : World) (k : ℕ) (reply : Reply) (v : World) : Type 0 where
  pub request : Request
  pub pending : (client w k).next ≡ Some request
  pub instance : reply.instance ≡ request.instance
  pub new : Client
  pub here : client v k ≡ new
  pub trace : new.trace ≡ silent request.ask reply.say ∷ (client w k).trace
  pub is : v ≡ record { store = w.store; clients = slice_set w.clients k new; messages = w.messages ++ sends k new.next }

-- it waits for an object, and takes the bytes of another, as in a late repeat of an older reply: they were never put under this name, as the bag has it of
-- what was got
abbrev pub TakesAnyBreakBag : Type 0
TakesAnyBreakBag = (w v : World) (k : ℕ) (reply : Reply) (j : Kind) (n : Name) (x : List ℕ) → (t : TakesAny w k reply v)
    → t.request.ask ≡ Ask.Get j n → reply.say ≡ Say.Bytes x → naming.name x ≢ n → ¬ HasBag v
