-- A run, as an example: a lock is granted but a failure told, the client's request is delivered once more, the client ends, its lock is removed, and the store
-- is closed and opened.
use Rattle.std.specs.Prelude.{◌∷◌, [], ℕ, true, false, List, Some, None}
use Rattle.repo_name.specs.declared.rows.LockRow.{LockRow}
use Rattle.repo_name.specs.declared.tokens.Token.{Token}
use Rattle.repo_wire.specs.declared.messages.Ask.{Ask}
use Rattle.repo_wire.specs.declared.messages.Code.{Code}
use Rattle.repo_wire.specs.declared.messages.Reply.{Reply}
use Rattle.repo_wire.specs.declared.messages.Request.{Request}
use Rattle.repo_wire.specs.declared.messages.Say.{Say}
use Rattle.repo_locks.specs.TokenMachine.{Tokens, start, issued, granted, unlocked}
use Rattle.repo_store.specs.declared.faults.Fail.{Fail}
use Rattle.repo_store.specs.Stores.{Store, empty}
use Rattle.repo_session.specs.declared.versions.Versions.{Versions}
use Rattle.repo_session.specs.Askers.{asker, row_of}
use Rattle.repo_session.specs.Clients.{exchange}
use Rattle.repo_session.specs.declared.outcomes.End.{End}
use Rattle.repo_session.specs.declared.outcomes.Outcome.{Outcome}
use Rattle.repo_world.specs.Clients.{Client}
use Rattle.repo_world.specs.Events.{Run}
use Rattle.repo_world.specs.Safe.{HasNoClash}
use Rattle.repo_world.specs.World.{World, Asked, Said, beginning, instance_of, first_of}
use Rattle.repo_world.specs.declared.jobs.Job.{Job}
use Rattle.repo_world.specs.declared.events.Event.{Event}

-- the client's host, and its token
abbrev pub host : List ℕ
host = 97 ∷ []

abbrev pub token : Token
token = record { 0 = 1 }

-- what it sends and is told: a ticket; a lock, with a failure and then without
abbrev pub given : Reply
given = record { instance = instance_of 0; sequence = 1; say = Say.Token token }

abbrev pub row : LockRow
row = row_of token false 5 host

abbrev pub second : Request
second = record { instance = instance_of 0; sequence = 2; ask = Ask.Lock row }

abbrev pub failed : Reply
failed = record { instance = instance_of 0; sequence = 2; say = Say.Refused Code.Fault }

abbrev pub done : Reply
done = record { instance = instance_of 0; sequence = 2; say = Say.Done }

-- somebody who is no client removes the lock, under the client's own instance and number
abbrev pub removal : Request
removal = record { instance = instance_of 0; sequence = 2; ask = Ask.Unlock token }

-- the store without objects, with these tokens
abbrev pub with_tokens : Tokens → Store
with_tokens tokens = record { config = None; objects = λ k n. None; tokens = tokens; append_only = false }

-- the client at its end: its lock was answered by a failure
abbrev pub refused : Client
refused = record {
  job = Job.Backup [];
  who = asker (instance_of 0) host 5 Versions.Both;
  trace = exchange second failed [] ∷ exchange (first_of 0) given [] ∷ [];
  next = None;
  outcome = Some (Outcome.Ended (End.Refused Code.Fault));
  crashed = false;
}

-- the world at the end
abbrev pub last : World
last = record { store = with_tokens (unlocked (granted (issued start) row) token); clients = refused ∷ []; messages = Asked 0 (first_of 0) ∷ Said 0 given ∷ Asked 0 second ∷ Said 0 failed ∷ Said 0 done ∷ [] }

abbrev pub events : List Event
events = Event.Start (Job.Backup []) host 5 false ∷ Event.Deliver 0 ∷ Event.Deliver 1 ∷ Event.Fault 2 (Fail.Write true) ∷ Event.Deliver 2 ∷ Event.Deliver 3 ∷ Event.Ask removal ∷ Event.Restart ∷ []

-- these events are a run from an empty store to this world, in which nothing clashes
abbrev pub ExampleIsARun : Type 0
ExampleIsARun = Run (beginning empty) events last × HasNoClash last
