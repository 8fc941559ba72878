-- A client that waits for the reply to its request.
use Rattle.std.proofs.Common.{ℕ, ◌+◌, List, length, refl, subst, false, Option, Some, None}
use Rattle.std.proofs.lemmas.Option.{none-some, same_Some}
use Rattle.repo_wire.specs.declared.messages.Ask.{Ask}
use Rattle.repo_wire.specs.declared.messages.Request.{Request}
use Rattle.repo_session.specs.declared.versions.Versions.{Versions}
use Rattle.repo_session.specs.declared.outcomes.Outcome.{Outcome}
use Rattle.repo_session.specs.Askers.{Asker, asker}
use Rattle.repo_session.specs.Clients.{IsNextRequest}
use Rattle.repo_session.specs.Order.{May, IsPermitted, Obeys}
use Rattle.repo_session.specs.Traces.{Trace}
use Rattle.repo_world.specs.Clients.{Client, task_of}
use Rattle.repo_world.specs.Duties.{GivesAny, IsDutiful, Owes}
use Rattle.repo_world.specs.World.{instance_of}
use Rattle.repo_world.specs.declared.jobs.Job.{Job}

-- a client's request, as the one after these exchanges
abbrev pub asked_of : ℕ → Trace → Ask → Request
asked_of k es a = record { instance = instance_of k; sequence = length es + 1; ask = a }

module _ (k : ℕ) (job : Job) (host : List ℕ) (time : ℕ) where
  abbrev pub who : Asker
  who = asker (instance_of k) host time Versions.Both

  abbrev pub talking : Trace → Option Request → Option Outcome → Client
  talking es next o = record { job = job; who = asker (instance_of k) host time Versions.Both; trace = es; next = next; outcome = o; crashed = false }

  -- a client that waits is dutiful
  pub waits_dutiful : (es : Trace) (a : Ask) → Obeys (task_of job who) (Owes job) GivesAny es → May (task_of job who) es a → IsPermitted (Owes job) es a → IsDutiful (talking es (Some (asked_of k es a)) None)
  waits_dutiful es a obeys may permitted = record {
    obeys = obeys;
    pending = λ r q. subst (λ (z : Request). IsNextRequest (task_of job who) (Owes job) es z) (same_Some (asked_of k es a) r q) (record { instance = refl; sequence = refl; may = may; permitted = permitted });
    concluded = λ x q. absurd (none-some x q);
  }
