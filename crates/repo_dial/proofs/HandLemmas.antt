-- What is handed to a sink over one connection after another.
use Rattle.std.proofs.Common.{◌≡◌, ◌≢◌, [], ℕ, Bool, List, Option, Some, None, Result, Ok, Err, refl, subst}
use Rattle.repo_wire.specs.declared.messages.Reply.{Reply}
use Rattle.repo_wire.specs.declared.messages.Request.{Request}
use Rattle.repo_store.specs.Channels.{said_in}
use Rattle.repo_session.specs.declared.driving.DriveError.{DriveError}
use Rattle.repo_session.specs.declared.emissions.Emission.{Emission}
use Rattle.repo_session.specs.Sinks.{IsHandedOn}
use Rattle.repo_session.specs.Talks.{Talk, Said, AskGives, DriveCause, GaveOut}
use Rattle.repo_session.proofs.Handing.{handed_all, handed_as}
use Rattle.repo_dial.specs.Dialing.{Asking, HasMet, IsStopped, Meets, as_try}
use Rattle.repo_dial.specs.declared.again.TryError.{TryError}
use Rattle.repo_dial.specs.declared.peers.Acquaintance.{Acquaintance}
use Rattle.repo_dial.proofs.MeetLemmas.{IsTold, told_error}

-- asking one request doesn't end by a sink
asked_error : (request : Request) (error : DriveError) (said : Said) (start contents : Option (List ℕ)) → AskGives request (Err error) said start contents → error ≢ DriveError.Sink
asked_error request error said start contents a is =
    let gave = (subst (λ e. DriveCause e said (Some request)) is a.1).2 in
    subst GaveOut a.0 gave

-- meeting a store doesn't either
met_error : (known : Option (List ℕ)) (request : Request) (answer : Result Reply DriveError) (said : Said) (start contents : Option (List ℕ)) (error : TryError) (after : Option (List ℕ))
    → AskGives request answer said start contents → Meets known answer (Err error) after → error ≢ TryError.Drive DriveError.Sink
met_error known request (Ok reply) said start contents error after a m is = let told = subst (λ e. IsTold e) is (told_error known reply.say error after m) in told
met_error known request (Err e) said start contents error after a m is =
    let same = m.0 in
    let sink : e ≡ DriveError.Sink = cc in
    asked_error request e said start contents a sink

pub not_stopped : (next : Option Request) (known : Acquaintance) (asking : Option Asking) (error : TryError) (after : Acquaintance) → HasMet next known asking (Err error) after → error ≢ TryError.Drive DriveError.Sink
not_stopped next known None error after m is = let q = m.0 in absurd (cc)
not_stopped next known (Some asking) error after m is = met_error known.config asking.request asking.answer asking.said (Some []) (Some (said_in asking.passages)) error after.config m.3.gives m.4 is

module _ {F : Type 0} (Called : F → Emission → Bool → F → Type 0) where
  -- what driving a client gives, as a try gives it
  pub handed_as_try : (result : Result ℕ DriveError) (talk : Talk) (a b : F) → IsHandedOn Called (result ≡ Err DriveError.Sink) a talk b → IsHandedOn Called (IsStopped (as_try result)) a talk b
  handed_as_try (Ok n) talk a b h = handed_as Called _ _ talk a b (λ one. absurd (cc)) (λ other. absurd (cc)) h
  handed_as_try (Err error) talk a b h = handed_as Called _ _ talk a b (λ one. cc) (λ other. cc) h

  -- where nothing was given out
  pub handed_none : (error : TryError) (a : F) → error ≢ TryError.Drive DriveError.Sink → IsHandedOn Called (IsStopped {T = ℕ} (Err error)) a [] a
  handed_none error a other = handed_all Called _ [] a a (λ stopped. other (cc)) refl
