-- What clients of the world are fed between their exchanges.
use Rattle.std.specs.Prelude.{◌≡◌, ◌∷◌, [], ⊤, ℕ, false, List, Option}
use Rattle.repo_wire.specs.declared.messages.Ask.{Ask}
use Rattle.repo_wire.specs.declared.messages.Request.{Request}
use Rattle.repo_wire.specs.declared.messages.Say.{Say}
use Rattle.repo_session.specs.Askers.{asker}
use Rattle.repo_session.specs.Feeds.{Fed}
use Rattle.repo_session.specs.Traces.{Exchange, Trace}
use Rattle.repo_session.specs.declared.emissions.Emission.{Emission}
use Rattle.repo_session.specs.declared.outcomes.Outcome.{Outcome}
use Rattle.repo_session.specs.declared.versions.Versions.{Versions}
use Rattle.repo_feeding.specs.FedRules.{AreWelcomeOn}
use Rattle.repo_world.specs.Clients.{Client}
use Rattle.repo_world.specs.World.{instance_of}
use Rattle.repo_world.specs.declared.jobs.Job.{Job}

-- an exchange on which these items were fed, the newest first
abbrev pub with_items : List Fed → Exchange → Exchange
with_items items e = record { ask = e.ask; say = e.say; emitted = e.emitted; fed = items }

-- a job may be fed these items on an exchange after others: none; or it is a backup that is fed, and each of them is welcome
abbrev pub AreWelcomeTo : Job → List Fed → Ask → Say → List Emission → Trace → Type 0
AreWelcomeTo job [] ask say emitted es = ⊤
AreWelcomeTo job (item ∷ items) ask say emitted es = (job ≡ Job.Pieces) × AreWelcomeOn (item ∷ items) ask say emitted es

-- it may be fed what was fed on each exchange
abbrev pub IsFedWell : Job → Trace → Type 0
IsFedWell job [] = ⊤
IsFedWell job (e ∷ es) = AreWelcomeTo job e.fed e.ask e.say e.emitted es × IsFedWell job es

-- a client that runs, at these exchanges, with this pending, and this outcome
abbrev pub running : ℕ → Job → List ℕ → ℕ → Trace → Option Request → Option Outcome → Client
running k job host time es next outcome = record { job = job; who = asker (instance_of k) host time Versions.Both; trace = es; next = next; outcome = outcome; crashed = false }
