-- The laws of an upgrade that is alone with its store.
use Rattle.std.proofs.Common.{◌≡◌, ◌⊎◌, ◌∷◌, ◌∙◌, [], Option, Some, None, refl, sym, ap, subst, inl, inr, ⊎_elim}
use Rattle.repo_wire.specs.declared.messages.Ask.{Ask}
use Rattle.repo_wire.specs.declared.messages.Code.{Code}
use Rattle.repo_wire.specs.declared.messages.Say.{Say}
use Rattle.repo_store.specs.StoreMachine.{Step}
use Rattle.repo_store.specs.Stores.{Store}
use Rattle.repo_session.specs.declared.outcomes.End.{End}
use Rattle.repo_session.specs.declared.outcomes.Outcome.{Outcome}
use Rattle.repo_session.specs.Alone.{EndsWell}
use Rattle.repo_session.specs.Askers.{Asker}
use Rattle.repo_session.specs.Ends.{before_unlock}
use Rattle.repo_session.specs.Order.{IsPermitted, Obeys}
use Rattle.repo_session.specs.Soundness.{IsSound}
use Rattle.repo_session.specs.Talks.{Talk, trace_of}
use Rattle.repo_session.specs.Traces.{Trace}
use Rattle.repo_session.proofs.Concluding.{DeletesNothing, IsSoundThroughout, calm_of, ends_well, no_delete, puts_none, reads_first, suits_either}
use Rattle.repo_session.proofs.Growing.{Led, led, step_goes}
use Rattle.repo_prune.specs.UpgradeLaws.{IsUpgradedOrMemory, UpgradeChangesNoObject, UpgradeEndsWell}
use Rattle.repo_prune.specs.Upgrading.{upgrade_task, UpgradeAllows, UpgradeGives, UpgradeConcludes}

deletes_nothing : DeletesNothing UpgradeAllows
deletes_nothing es token k n h = h

-- ---- no object changes

same_step : (es : Trace) (old : Store) (ask : Ask) (say : Say) (new : Store) → IsPermitted UpgradeAllows es ask → Step old ask say new → new.objects ≡ old.objects
same_step es old ask say new permitted step = ⊎_elim (λ same. same)
    (λ p. absurd (subst (λ a. IsPermitted UpgradeAllows es a) p.asked permitted tt)) (step_goes old ask say new (no_delete UpgradeAllows deletes_nothing es ask permitted) step)

module _ (who : Asker) where
  same_run : (from : Store) (talk : Talk) (to : Store) → Obeys (upgrade_task who) UpgradeAllows UpgradeGives (trace_of talk) → Led from talk to → to.objects ≡ from.objects
  same_run from [] to o h = ap (λ (s : Store). s.objects) h
  same_run from (turn ∷ talk) to o h = same_step (trace_of talk) h.0 turn.request.ask turn.reply.say to o.1 h.2.step ∙ same_run from talk h.0 o.3 h.1

  throughout : (from : Store) (talk : Talk) → IsSound from.objects → Obeys (upgrade_task who) UpgradeAllows UpgradeGives (trace_of talk) → IsSoundThroughout from talk
  throughout from [] sound o = sound
  throughout from (turn ∷ talk) sound o = ((λ to h. subst IsSound (sym (same_run from (turn ∷ talk) to o h)) sound), throughout from talk sound o.3)

pub upgrade_changes : UpgradeChangesNoObject
upgrade_changes who from mid to failed failing talk None outcome ran may is = ap (λ (s : Store). s.objects) may ∙ same_run who from talk mid is.obeys (led from talk mid ran.run)
upgrade_changes who from mid to failed failing talk (Some request) outcome ran may is =
    ⊎_elim (λ (same : to ≡ mid). ap (λ (s : Store). s.objects) same ∙ same_run who from talk mid is.obeys (led from talk mid ran.run))
    (λ step. same_step (trace_of talk) mid request.ask step.0.say to (is.pending request refl).permitted step.1.step ∙ same_run who from talk mid is.obeys (led from talk mid ran.run)) may

-- ---- how it ends

upgraded_well : (es : Trace) (outcome : Outcome) → (outcome ≡ Outcome.Ended (End.Refused Code.NoMemory)) ⊎ UpgradeConcludes es outcome → IsUpgradedOrMemory (Some outcome)
upgraded_well es Outcome.Upgraded h = tt
upgraded_well es (Outcome.Stored name blobs bytes) (inl h) = h
upgraded_well es (Outcome.Stored name blobs bytes) (inr h) = absurd h
upgraded_well es (Outcome.Complete entries) (inl h) = h
upgraded_well es (Outcome.Complete entries) (inr h) = absurd h
upgraded_well es (Outcome.Listed rows) (inl h) = h
upgraded_well es (Outcome.Listed rows) (inr h) = absurd h
upgraded_well es (Outcome.Forgotten names) (inl h) = h
upgraded_well es (Outcome.Forgotten names) (inr h) = absurd h
upgraded_well es (Outcome.Pruned packs bytes) (inl h) = h
upgraded_well es (Outcome.Pruned packs bytes) (inr h) = absurd h
upgraded_well es (Outcome.Clean snapshots indexes packs blobs) (inl h) = h
upgraded_well es (Outcome.Clean snapshots indexes packs blobs) (inr h) = absurd h
upgraded_well es (Outcome.Faults faults) (inl h) = h
upgraded_well es (Outcome.Faults faults) (inr h) = absurd h
upgraded_well es (Outcome.Ended end) (inl h) = h
upgraded_well es (Outcome.Ended end) (inr h) = absurd h

upgrade_well : (es : Trace) (outcome : Option Outcome) → EndsWell UpgradeConcludes es outcome → IsUpgradedOrMemory outcome
upgrade_well es None h = h
upgrade_well es (Some outcome) h = upgraded_well (before_unlock es) outcome h

pub upgrade_ends : UpgradeEndsWell
upgrade_ends who from to failed talk outcome fit versions low ran few is =
    upgrade_well (trace_of talk) outcome
    (ends_well (upgrade_task who) UpgradeAllows UpgradeGives UpgradeConcludes (reads_first (upgrade_task who) UpgradeAllows UpgradeGives deletes_nothing) from fit tt versions
    (puts_none (upgrade_task who) UpgradeAllows (λ es t n x h. h)) (suits_either UpgradeAllows from deletes_nothing) talk to outcome is (led from talk to ran.run)
    (throughout who from talk fit.sound is.obeys) (calm_of failed talk low ran.cause) few)
