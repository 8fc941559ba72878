-- The laws of a forget that is alone with its store.
use Rattle.std.proofs.Common.{◌≡◌, ◌⊎◌, ◌++◌, ◌∷◌, [], List, cond, Option, Some, None, refl, sym, ap, subst, inl, inr, ⊎_elim, ◌∙◌}
use Rattle.repo_name.specs.declared.kinds.Kind.{Kind}
use Rattle.repo_name.specs.declared.names.Name.{Name}
use Rattle.repo_name.specs.declared.tokens.Token.{Token}
use Rattle.repo_wire.specs.declared.messages.Ask.{Ask}
use Rattle.repo_wire.specs.declared.messages.Code.{Code}
use Rattle.repo_wire.specs.declared.messages.Say.{Say}
use Rattle.repo_store.specs.StoreMachine.{Step}
use Rattle.repo_store.specs.Stores.{Store, Removed}
use Rattle.repo_session.specs.declared.outcomes.End.{End}
use Rattle.repo_session.specs.declared.outcomes.Outcome.{Outcome}
use Rattle.repo_session.specs.Alone.{IsSent, EndsWell}
use Rattle.repo_session.specs.Askers.{Asker}
use Rattle.repo_session.specs.Deletions.{NoneDeleted, name_deleted}
use Rattle.repo_session.specs.Ends.{before_unlock}
use Rattle.repo_session.specs.Order.{IsPermitted, IsReading, Obeys}
use Rattle.repo_session.specs.Soundness.{IsSound}
use Rattle.repo_session.specs.Talks.{Talk, trace_of}
use Rattle.repo_session.specs.Traces.{Trace}
use Rattle.repo_session.proofs.Changing.{removing_snapshot_keeps_sound}
use Rattle.repo_session.proofs.Concluding.{IsSoundThroughout, IsUndeleted, calm_of, ends_well, puts_none}
use Rattle.repo_session.proofs.Growing.{Led, led, step_moves}
use Rattle.repo_session.proofs.Rolling.{same_self}
use Rattle.repo_session.proofs.Spoken.{held_agree}
use Rattle.repo_prune.specs.declared.choices.Choice.{Choice}
use Rattle.repo_prune.specs.Forgetting.{forget_task, ForgetAllows, ForgetGives, ForgetConcludes}
use Rattle.repo_prune.specs.Laws.{IsForgottenOrMemory, AreStoredApart, HasFewerSnapshots, ForgetKeepsSound, ForgetEndsWell}

-- ---- what its rule says

none_first : {A : Type 0} (xs ys : List A) → xs ++ ys ≡ [] → xs ≡ []
none_first [] ys h = refl
none_first (x ∷ xs) ys h = absurd (cc)

none_last : {A : Type 0} (xs ys : List A) → xs ++ ys ≡ [] → ys ≡ []
none_last [] ys h = h
none_last (x ∷ xs) ys h = absurd (cc)

no_name : (k : Kind) (token : Token) (n : Name) → name_deleted k (Ask.Delete token k n) ≡ [] → ⊥
no_name k token n none =
    let there : name_deleted k (Ask.Delete token k n) ≡ n ∷ [] = ap (λ b. cond b (n ∷ []) []) (same_self k) in
    let both : n ∷ [] ≡ [] = sym there ∙ none in
    absurd (cc)

pub undeleted : (es : Trace) → NoneDeleted es → IsUndeleted es
undeleted [] none = tt
undeleted (e ∷ es) none = (
  λ token k n q. no_name k token n (subst (λ a. name_deleted k a ≡ []) q (none_last _ (name_deleted k e.ask) (none k))),
  undeleted es (λ k. none_first _ (name_deleted k e.ask) (none k)),
)

pub read_first : (choice : Choice) (es : Trace) (ask : Ask) → IsPermitted (ForgetAllows choice) es ask → IsReading ask → NoneDeleted es
read_first choice es (Ask.List k after) h r = (h tt).1
read_first choice es (Ask.Get k n) h r = (h tt).1
read_first choice es (Ask.Range pack offset len) h r = (h tt).1
read_first choice es Ask.Ticket h r = absurd r
read_first choice es (Ask.Lock row) h r = absurd r
read_first choice es (Ask.Refresh token time) h r = absurd r
read_first choice es (Ask.Unlock token) h r = absurd r
read_first choice es Ask.Locks h r = absurd r
read_first choice es (Ask.Put token k n x) h r = absurd r
read_first choice es (Ask.Delete token k n) h r = absurd r
read_first choice es (Ask.Upgrade token) h r = absurd r
read_first choice es Ask.Config h r = absurd r

-- ---- what a step leaves

module _ (who : Asker) (choice : Choice) (from : Store) (start : IsSound from.objects) (clash : AreStoredApart from) where
  abbrev Keeps : Trace → Type 0
  Keeps es = Obeys (forget_task who) (ForgetAllows choice) (ForgetGives choice) es

  -- what is known after some turns
  abbrev Knows : Store → Type 0
  Knows store = HasFewerSnapshots from store × IsSound store.objects

  removes : (old new : Store) (name : Name) → Knows old → Removed old.objects Kind.Snapshot name new.objects → Knows new
  removes old new name known removed = (
    record {
      fewer = λ k n x h. known.0.fewer k n x (removed.only k n x h);
      others = λ k n x other h. ⊎_elim (λ there. there) (λ this. absurd (other this.0)) (removed.kept k n x (known.0.others k n x other h));
    },
    removing_snapshot_keeps_sound old.objects new.objects name known.1 removed
        (held_agree from (IsSent [] None) (λ x. ⊥) clash old.objects (λ k n x h. inl (n, known.0.fewer k n x h)) known.1.named),
  )

  next_known : (es : Trace) (old : Store) (ask : Ask) (say : Say) (new : Store) → Knows old → IsPermitted (ForgetAllows choice) es ask → Step old ask say new → Knows new
  next_known es old ask say new known permitted step = elim (step_moves old ask say new step) [
    | inl same ↦ (
      record { fewer = λ k n x h. known.0.fewer k n x (ap (λ o. o k n) (sym same) ∙ h); others = λ k n x other h. ap (λ o. o k n) same ∙ known.0.others k n x other h },
      subst IsSound (sym same) known.1,
    )
    | inr (inl p) ↦ absurd ((subst (λ a. IsPermitted (ForgetAllows choice) es a) p.asked permitted tt).0)
    | inr (inr d) ↦
        let rule : ForgetAllows choice es (Ask.Delete d.token d.kind d.name) = subst (λ a. IsPermitted (ForgetAllows choice) es a) d.asked permitted tt in
        removes old new d.name known (subst (λ k. Removed old.objects k d.name new.objects) rule.0 d.removed)
  ]

  lone : (talk : Talk) (to : Store) → Keeps (trace_of talk) → Led from talk to → Knows to
  lone [] to o h = subst (λ (s : Store). Knows s) (sym h) (record { fewer = λ k n x g. g; others = λ k n x other g. g }, start)
  lone (turn ∷ talk) to o h = next_known (trace_of talk) h.0 turn.request.ask turn.reply.say to (lone talk h.0 o.3 h.1) o.1 h.2.step

  pub throughout : (talk : Talk) → Keeps (trace_of talk) → IsSoundThroughout from talk
  throughout [] o = start
  throughout (turn ∷ talk) o = ((λ to h. (lone (turn ∷ talk) to o h).1), throughout talk o.3)

pub forget_sound : ForgetKeepsSound
forget_sound who choice from mid to failed failing talk None outcome sound apart ran may is =
    subst (λ (s : Store). HasFewerSnapshots from s × IsSound s.objects) (sym may) (lone who choice from sound apart talk mid is.obeys (led from talk mid ran.run))
forget_sound who choice from mid to failed failing talk (Some request) outcome sound apart ran may is =
    let known = lone who choice from sound apart talk mid is.obeys (led from talk mid ran.run) in
    ⊎_elim (λ (same : to ≡ mid). subst (λ (s : Store). HasFewerSnapshots from s × IsSound s.objects) (sym same) known)
    (λ step. next_known who choice from sound apart (trace_of talk) mid request.ask step.0.say to known (is.pending request refl).permitted step.1.step) may

-- ---- how it ends

forgotten_well : (choice : Choice) (es : Trace) (outcome : Outcome) → (outcome ≡ Outcome.Ended (End.Refused Code.NoMemory)) ⊎ ForgetConcludes choice es outcome → IsForgottenOrMemory (Some outcome)
forgotten_well choice es (Outcome.Forgotten names) h = tt
forgotten_well choice es (Outcome.Stored name blobs bytes) (inl h) = h
forgotten_well choice es (Outcome.Stored name blobs bytes) (inr h) = absurd h
forgotten_well choice es (Outcome.Complete entries) (inl h) = h
forgotten_well choice es (Outcome.Complete entries) (inr h) = absurd h
forgotten_well choice es (Outcome.Listed rows) (inl h) = h
forgotten_well choice es (Outcome.Listed rows) (inr h) = absurd h
forgotten_well choice es (Outcome.Pruned packs bytes) (inl h) = h
forgotten_well choice es (Outcome.Pruned packs bytes) (inr h) = absurd h
forgotten_well choice es (Outcome.Clean snapshots indexes packs blobs) (inl h) = h
forgotten_well choice es (Outcome.Clean snapshots indexes packs blobs) (inr h) = absurd h
forgotten_well choice es (Outcome.Faults faults) (inl h) = h
forgotten_well choice es (Outcome.Faults faults) (inr h) = absurd h
forgotten_well choice es Outcome.Upgraded (inl h) = h
forgotten_well choice es Outcome.Upgraded (inr h) = absurd h
forgotten_well choice es (Outcome.Ended end) (inl h) = h
forgotten_well choice es (Outcome.Ended end) (inr h) = absurd h

forget_well : (choice : Choice) (es : Trace) (outcome : Option Outcome) → EndsWell (ForgetConcludes choice) es outcome → IsForgottenOrMemory outcome
forget_well choice es None h = h
forget_well choice es (Some outcome) h = forgotten_well choice (before_unlock es) outcome h

pub forget_ends : ForgetEndsWell
forget_ends who choice from to failed talk outcome fit versions deletes apart low ran few is =
    forget_well choice (trace_of talk) outcome
    (ends_well (forget_task who) (ForgetAllows choice) (ForgetGives choice) (ForgetConcludes choice) (λ es ask o permitted reading. undeleted es (read_first choice es ask permitted reading)) from fit tt versions (puts_none (forget_task who) (ForgetAllows choice) (λ es token n x h. h.0)) (λ es token k n allowed. deletes) talk to outcome is (led from talk to ran.run)
    (throughout who choice from fit.sound apart talk is.obeys) (calm_of failed talk low ran.cause) few)
