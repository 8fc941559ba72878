-- A session that is driven to its end over one connection after another.
use Rattle.std.proofs.Common.{◌≡◌, [], ℕ, Bool, Result, refl, subst}
use Rattle.repo_wire.specs.declared.messages.Ask.{Ask}
use Rattle.repo_session.specs.declared.emissions.Emission.{Emission}
use Rattle.repo_session.specs.declared.outcomes.Outcome.{Outcome}
use Rattle.repo_session.specs.declared.sessions.Session.{Session}
use Rattle.repo_session.specs.Clients.{IsObedientBy}
use Rattle.repo_session.specs.Jobs.{Rule}
use Rattle.repo_session.specs.Obedience.{session_obeys}
use Rattle.repo_session.specs.Sessions.{Given, FitsWanting, who_in, next_in, ended_in, token_in}
use Rattle.repo_session.specs.Tickets.{session_tells}
use Rattle.repo_session.specs.Traces.{Trace}
use Rattle.repo_dial.specs.Bringing.{BroughtInto}
use Rattle.repo_dial.specs.Dialing.{Connections, Driven, DrivesAgain, driven_by}
use Rattle.repo_dial.specs.declared.again.TryError.{TryError}
use Rattle.repo_dial.proofs.BringLemmas.{ComesTo, Stands, brought_into}

module _ {J H : Type 0} (handed : J → H) (rule : H → Rule) (fresh : J → Type 0) (knows : J → Ask → Trace → Type 0) (wants : J → Trace → Type 0) where
  -- what a driver is told of it
  abbrev pub session_driven : Driven (Session J) (Given H)
  session_driven = driven_by (λ (j : Given H). j.who) (λ (s : Session J). record { who = who_in s; handed = handed s.job }) (λ (s : Session J) (es : Trace). FitsWanting handed rule fresh knows wants s es)
      (λ (s : Session J). next_in s) (λ (s : Session J). token_in s)

  module _ (old : Session J) (fits : FitsWanting handed rule fresh knows wants old []) where
    obeys : (s : Session J) → session_driven.job s ≡ session_driven.job old → (es : Trace) → session_driven.fits s es → Stands (rule (handed old.job)) (who_in old) (next_in s) (ended_in s) (token_in s) es
    obeys s same es f =
        (subst (λ (j : Given H). IsObedientBy (rule j.handed) j.who (next_in s) (ended_in s) es) same (session_obeys handed rule fresh knows wants s es f), session_tells handed rule fresh knows wants s es f)

    pub session_brought : {F : Type 0} (Called : F → Emission → Bool → F → Type 0) (retry : ℕ) (from : F) (result : Result ℕ TryError) (new : Session J) (to : F) (coming after : Connections) (came : Result Outcome TryError)
        → DrivesAgain session_driven Called retry old from result new to coming after → ComesTo result (ended_in new) came → BroughtInto Called from (rule (handed old.job)) (who_in old) came retry coming after to
    session_brought Called retry from result new to coming after came a comes =
        brought_into session_driven (λ (s : Session J). ended_in s) (rule (handed old.job)) (who_in old) Called old obeys refl fits retry from result new to coming after came a comes
