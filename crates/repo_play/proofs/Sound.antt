-- Events over a device that never fails by itself.
use Rattle.std.proofs.Common.{◌≡◌, ◌<◌, ◌+◌, ◌^◌, inl, inr, ℕ, Some, arith, slice_get}
use Rattle.std.specs.Prelude.{Result, Ok, Err, IfOk}
use Rattle.std.specs.declared.alloc.AllocError.{AllocError}
use Rattle.repo_wire.specs.declared.messages.Ask.{Ask}
use Rattle.repo_wire.specs.declared.messages.Say.{Say}
use Rattle.repo_store.specs.Failing.{Failing, FailsItself, HasFailed, Plainly}
use Rattle.repo_store.specs.Stores.{Store}
use Rattle.repo_store.specs.declared.faults.Fail.{Fail}
use Rattle.repo_wire.specs.declared.messages.Reply.{Reply}
use Rattle.repo_wire.specs.declared.messages.Request.{Request}
use Rattle.repo_world.specs.Events.{AnswersNobody, Happens}
use Rattle.repo_world.specs.Stages.{Leads, Stage, Tells, seen}
use Rattle.repo_world.specs.World.{World}
use Rattle.repo_world.specs.declared.events.Applied.{Applied}
use Rattle.repo_world.specs.declared.events.Event.{Event}
use Rattle.repo_world.proofs.Standing.{delivers_so, sends_so}
use Rattle.repo_play.specs.inner.Players.{NeverFails}

module _ (Own Other : Type 0) (f : Own → Other) where
  plainly_so : (old : Store) (ask : Ask) (say : Say) (new : Store) → Plainly Own old ask say new → Plainly Other old ask say new
  plainly_so old ask say new p = (p.0, λ e. f (p.1 e))

  itself_so : (old : Store) (ask : Ask) (say : Say) (new : Store) → FailsItself Own old ask say new → FailsItself Other old ask say new
  itself_so old ask say new (l, s, inl h) = (l, s, inl (h.0, f h.1))
  itself_so old ask say new (l, s, inr h) = (l, s, inr h)

  failing_so : (fail : Fail) (old : Store) (ask : Ask) (say : Say) (new : Store) → Failing Own fail old ask say new → Failing Other fail old ask say new
  failing_so (Fail.Write applied) old ask say new (inl h) = inl h
  failing_so (Fail.Write applied) old ask say new (inr (inl h)) = inr (inl h)
  failing_so (Fail.Write applied) old ask say new (inr (inr h)) = inr (inr (itself_so old ask say new h))
  failing_so Fail.Read old ask say new (inl h) = inl h
  failing_so Fail.Read old ask say new (inr h) = inr (h.0, plainly_so old ask say new h.1)

  pub happens_so : (w : World) (e : Event) (a : Applied) (v : World) → Happens Own w e a v → Happens Other w e a v
  happens_so w (Event.Start job host time old) a v h = h
  happens_so w (Event.Deliver i) a v h = delivers_so (Plainly Own) (Plainly Other) plainly_so w (slice_get w.messages i) a v h
  happens_so w (Event.Fault i fail) a v h = delivers_so (Failing Own fail) (Failing Other fail) (failing_so fail) w (slice_get w.messages i) a v h
  happens_so w (Event.Ask request) a v h = sends_so Own Other f w request a v h
  happens_so w (Event.Feed k item) a v h = h
  happens_so w (Event.Crash k) a v h = h
  happens_so w Event.Restart a v h = h

-- it fails never, so it didn't fail here
pub fails_never : {S : Type 0} (failed : S → ℕ) (old new : S) → NeverFails failed → HasFailed (failed old) (failed new) → ⊥
fails_never failed old new never (inl h) = absurd (omega (arith, h, never old, never new))
fails_never failed old new never (inr h) = absurd (omega (arith, h, never new))

pub leads_soundly : {S : Type 0} (store : S → Store) (failed : S → ℕ) (old new : Stage S) → NeverFails failed → (e : Event) (result : Result Applied AllocError)
    → IfOk result (λ a. Leads store failed old e a new) → IfOk result (λ a. Happens ⊥ (seen store old) e a (seen store new))
leads_soundly store failed old new never e (Ok a) h = happens_so (HasFailed (failed old.device) (failed new.device)) ⊥ (fails_never failed old.device new.device never) (seen store old) e a (seen store new) h
leads_soundly store failed old new never e (Err x) h = tt

pub tells_soundly : {S : Type 0} (store : S → Store) (failed : S → ℕ) (old new : Stage S) → NeverFails failed → (request : Request) (reply : Reply) → Tells store failed old request (Some reply) new
    → (a : AnswersNobody ⊥ (seen store old) request (seen store new)) × (reply ≡ a.reply)
tells_soundly store failed old new never request reply (a, is) = (
  record { may = a.may; reply = a.reply; store = a.store; answers = a.answers; step = (a.step.0, λ e. fails_never failed old.device new.device never (a.step.1 e)); memory = a.memory; is = a.is },
  is,
)
