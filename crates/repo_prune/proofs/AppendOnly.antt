-- What a forget and a prune come to that are alone with a store that only appends.
use Rattle.std.proofs.Common.{◌≡◌, ◌++◌, ◌∷◌, ◌^◌, ◌-◌, [], ℕ, true, false, List, length, min, Option, Some, None, refl, sym, ap, subst, inl, inr, ⊎_elim, ◌∙◌}
use Rattle.repo_name.specs.declared.kinds.Kind.{Kind}
use Rattle.repo_name.specs.declared.names.Name.{Name}
use Rattle.repo_name.specs.declared.tokens.Token.{Token}
use Rattle.repo_name.proofs.Containing.{first_contained, contains_flat}
use Rattle.repo_wire.specs.declared.messages.Ask.{Ask}
use Rattle.repo_wire.specs.declared.messages.Code.{Code}
use Rattle.repo_wire.specs.declared.messages.Say.{Say}
use Rattle.repo_index.specs.declared.facts.Fact.{Fact}
use Rattle.repo_index.specs.declared.facts.PackFacts.{PackFacts}
use Rattle.repo_store.specs.Pages.{Has}
use Rattle.repo_store.specs.StoreMachine.{Answers, DeleteAnswer}
use Rattle.repo_store.specs.Stores.{Store}
use Rattle.repo_session.specs.declared.outcomes.Outcome.{Outcome}
use Rattle.repo_session.specs.Alone.{IsFit, IsSent}
use Rattle.repo_session.specs.Askers.{Asker}
use Rattle.repo_session.specs.Deletions.{DeleteDone, name_deleted, names_deleted}
use Rattle.repo_session.specs.Ends.{before_unlock}
use Rattle.repo_session.specs.Order.{Task, IsPermitted, Obeys}
use Rattle.repo_session.specs.Talks.{Talk, trace_of}
use Rattle.repo_session.specs.Told.{AskedToDelete}
use Rattle.repo_session.specs.Traces.{Exchange, Trace, WasAsked, Lists, page_names}
use Rattle.repo_session.proofs.Concluding.{EndsEither, calm_of, either, ends_either, exchanged_before, known, puts_none}
use Rattle.repo_session.proofs.Growing.{Led, led, answered, no_done}
use Rattle.repo_session.proofs.Spoken.{held_agree, was_asked}
use Rattle.repo_writing.specs.Writing.{Listing, IsDone, ListsPack}
use Rattle.repo_writing.proofs.Keeping.{fact_of_listed}
use Rattle.repo_writing.proofs.Replacing.{put_says}
use Rattle.repo_prune.specs.declared.choices.Choice.{Choice}
use Rattle.repo_prune.specs.Forgetting.{forget_task, ForgetAllows, ForgetGives, ForgetConcludes, IsForgotten}
use Rattle.repo_prune.specs.Laws.{ForgetsNothing, ForgetOfAppendOnly}
use Rattle.repo_prune.specs.PruneLaws.{IsPrunedOrMemory, PrunesNoPack, PruneOfAppendOnly}
use Rattle.repo_prune.specs.Pruning.{prune_task, MayDeletePack, IsPruned, PruneAllows, PruneGives, PruneConcludes}
use Rattle.repo_prune.proofs.ForgetRuns as forgets
use Rattle.repo_prune.proofs.PruneEnds.{own_before, prune_reads_first}
use Rattle.repo_prune.proofs.PruneRuns as prunes

-- ---- deletes

-- a store that only appends says of no delete that it is done
undone : (old : Store) (token : Token) (k : Kind) (n : Name) (say : Say) (new : Store) → old.append_only ≡ true → say ≡ Say.Done → DeleteAnswer old token k n say new → ⊥
undone old token k n say new appends done (inl h) = no_done say done Code.AppendOnly h.1
undone old token k n say new appends done (inr h) = let w : true ≡ false = sym appends ∙ h.0 in absurd (cc)

-- no delete is done
abbrev NoneDone : Trace → Type 0
NoneDone es = (k : Kind) (n : Name) → ¬ DeleteDone es k n

module _ (task : Task) (Allows : Trace → Ask → Type 0) (Gives : Trace → Exchange → Type 0) (from : Store) (fit : IsFit from) (appends : from.append_only ≡ true) where
  none_done : (talk : Talk) (to : Store) → Led from talk to → Obeys task Allows Gives (trace_of talk) → NoneDone (trace_of talk)
  none_done [] to h o k n d = d.1
  none_done (turn ∷ talk) to h o k n (token, inl (asked, done)) =
      let answer = answered h.0 turn.request.ask turn.reply.say to (no_done turn.reply.say done) h.2.step in
      undone h.0 token k n turn.reply.say to ((known task Allows Gives from fit talk h.0 h.1 o.3).mode ∙ appends) done (subst (λ a. Answers h.0 a turn.reply.say to) asked answer)
  none_done (turn ∷ talk) to h o k n (token, inr before) = none_done talk h.0 h.1 o.3 k n (token, before)

-- ---- a forget

-- what is forgotten has its delete done
forgotten_none : (choice : Choice) (es : Trace) (names : List Name) → NoneDone es → IsForgotten choice es names → names ≡ []
forgotten_none choice es [] none f = refl
forgotten_none choice es (n ∷ names) none f = absurd (none Kind.Snapshot n (f.done n (first_contained n names)))

forgets_none : (choice : Choice) (es : Trace) → NoneDone es → (outcome : Outcome) → ForgetConcludes choice es outcome → outcome ≡ Outcome.Forgotten []
forgets_none choice es none (Outcome.Forgotten names) own = ap Outcome.Forgotten (forgotten_none choice es names none own)
forgets_none choice es none (Outcome.Stored name blobs bytes) own = absurd own
forgets_none choice es none (Outcome.Complete entries) own = absurd own
forgets_none choice es none (Outcome.Listed rows) own = absurd own
forgets_none choice es none (Outcome.Pruned packs bytes) own = absurd own
forgets_none choice es none (Outcome.Clean snapshots indexes packs blobs) own = absurd own
forgets_none choice es none (Outcome.Faults faults) own = absurd own
forgets_none choice es none Outcome.Upgraded own = absurd own
forgets_none choice es none (Outcome.Ended end) own = absurd own

forgets_nothing : (from : Store) (choice : Choice) (es : Trace) (outcome : Option Outcome) → NoneDone (before_unlock es) → EndsEither from (ForgetConcludes choice) es outcome → ForgetsNothing outcome
forgets_nothing from choice es None none h = h
forgets_nothing from choice es (Some outcome) none h = ⊎_elim inl (λ other. inr (⊎_elim (λ barred. inl barred.0) (λ own. inr (forgets_none choice (before_unlock es) none outcome own)) other)) h

pub forget_barred : ForgetOfAppendOnly
forget_barred who choice from to failed talk outcome fit versions appends apart low ran few is =
    let es : Trace = trace_of talk in
    let h = led from talk to ran.run in
    forgets_nothing from choice es outcome (λ k n d. none_done (forget_task who) (ForgetAllows choice) (ForgetGives choice) from fit appends talk to h is.obeys k n (d.0, exchanged_before es (Ask.Delete d.0 k n) Say.Done d.1))
    (ends_either (forget_task who) (ForgetAllows choice) (ForgetGives choice) (ForgetConcludes choice) (λ fs ask o permitted reading. forgets.undeleted fs (forgets.read_first choice fs ask permitted reading)) from fit tt versions (puts_none (forget_task who) (ForgetAllows choice) (λ fs token n x p. p.0)) talk to outcome is h
    (forgets.throughout who choice from fit.sound apart talk is.obeys) (calm_of failed talk low ran.cause) few)

-- ---- a prune

has_first : (ns ms : List Name) (n : Name) → Has ns n → Has (ns ++ ms) n
has_first [] ms n h = absurd h
has_first (m ∷ ns) ms n (inl here) = inl here
has_first (m ∷ ns) ms n (inr more) = inr (has_first ns ms n more)

-- the exchanges before the delete of a pack allow it, and all indexes were put by then
record DeletedBy (es : Trace) (n : Name) : Type 0 where
  then : Trace
  rule : MayDeletePack then n
  among : Lists es Kind.Pack n
  put : (token : Token) (m : Name) (x : List ℕ) → WasAsked es (Ask.Put token Kind.Index m x) → WasAsked then (Ask.Put token Kind.Index m x)

deleted_by : (who : Asker) (es : Trace) (n : Name) → Obeys (prune_task who) PruneAllows PruneGives es → AskedToDelete es Kind.Pack n → DeletedBy es n
deleted_by who [] n o d = absurd d.1
deleted_by who (e ∷ es) n o (token, inl now) =
    let rule : MayDeletePack es n = (subst (λ a. IsPermitted PruneAllows es a) now o.1 tt).1 in
    record { then = es; rule = rule; among = has_first _ (page_names Kind.Pack e.ask e.say) n rule.among; put = λ t m x p. ⊎_elim (λ here. absurd (cc)) (λ before. before) p }
deleted_by who (e ∷ es) n o (token, inr before) =
    let d = deleted_by who es n o.3 (token, before) in
    record {
      then = d.then;
      rule = d.rule;
      among = has_first _ (page_names Kind.Pack e.ask e.say) n d.among;
      put = λ t m x p. ⊎_elim
          (λ now. absurd (prunes.nothing_deleted es (prunes.put_first es t Kind.Index m x (subst (λ a. IsPermitted PruneAllows es a) now o.1 tt)) Kind.Pack n (token, before)))
          (λ older. d.put t m x older) p;
    }

-- a pack that the indexes put list by the end was listed by them before the delete
was_listed : (es : Trace) (packs bytes : ℕ) (p : IsPruned es packs bytes) (n : Name) → ListsPack p.packs n → (d : DeletedBy es n) → ListsPack d.rule.packs n
was_listed es packs bytes p n l d =
    let found = prunes.listing_of es p.packs p.settled.listed l.0 l.1 in
    let listing : Listing = found.0 in
    let done : IsDone es listing = found.1 in
    let token = done.put.0 in
    let some = p.settled.full l.0 l.1 in
    let fact : Fact = some.0 in
    let put = d.put token listing.index.name listing.index.bytes (was_asked es (Ask.Put token Kind.Index listing.index.name listing.index.bytes) Say.Done done.put.1) in
    let among = contains_flat (λ (q : PackFacts). q.facts) listing.packs l.0 fact found.2 some.1 in
    let says = put_says d.rule.packs d.then d.rule.settled.listed token listing.index.name listing.index.bytes fact put (record { packs = listing.packs; text = done.reads; among = among }) in
    let pack : fact.place.pack ≡ l.0.pack = fact_of_listed listing.index.bytes listing.packs l.0 fact done.reads found.2 some.1 in
    (says.0, says.1, sym says.3 ∙ (pack ∙ l.2))

-- ---- the packs that are counted

no_name : (ask : Ask) → ((token : Token) (n : Name) → ask ≡ Ask.Delete token Kind.Pack n → ⊥) → name_deleted Kind.Pack ask ≡ []
no_name (Ask.Delete token Kind.Pack n) none = absurd (none token n refl)
no_name (Ask.Delete token Kind.Index n) none = refl
no_name (Ask.Delete token Kind.Snapshot n) none = refl
no_name Ask.Ticket none = refl
no_name (Ask.Lock row) none = refl
no_name (Ask.Refresh token time) none = refl
no_name (Ask.Unlock token) none = refl
no_name Ask.Locks none = refl
no_name (Ask.List k after) none = refl
no_name (Ask.Get k n) none = refl
no_name (Ask.Range pack offset len) none = refl
no_name (Ask.Put token k n x) none = refl
no_name Ask.Config none = refl
no_name (Ask.Upgrade token) none = refl

no_names : (es : Trace) → ((n : Name) → ¬ AskedToDelete es Kind.Pack n) → names_deleted Kind.Pack es ≡ []
no_names [] none = refl
no_names (e ∷ es) none = ap (λ ns. ns ++ name_deleted Kind.Pack e.ask) (no_names es (λ n d. none n (d.0, inr d.1))) ∙ no_name e.ask (λ token n q. none n (token, inl q))

-- a pack whose delete was asked for was listed, so it is done, or the indexes put list the pack
pruned_none : (who : Asker) (packs bytes : ℕ) (es : Trace) → Obeys (prune_task who) PruneAllows PruneGives es → NoneDone es → IsPruned es packs bytes → packs ≡ 0
pruned_none who packs bytes es o none p =
    let names : names_deleted Kind.Pack es ≡ [] = no_names es (λ n asked. let d = deleted_by who es n o asked in d.rule.unlisted (was_listed es packs bytes p n (⊎_elim (λ l. l) (λ gone. absurd (none Kind.Pack n gone)) (p.gone n d.among)) d)) in
    p.deleted_are ∙ ap (λ (ns : List Name). min (length ns) (2 ^ 64 - 1)) names

pruned_before : (who : Asker) (packs bytes : ℕ) (es : Trace) → Obeys (prune_task who) PruneAllows PruneGives es → NoneDone es → IsPruned (before_unlock es) packs bytes → packs ≡ 0
pruned_before who packs bytes [] o none p = pruned_none who packs bytes [] o none p
pruned_before who packs bytes (e ∷ es) o none p = ⊎_elim (pruned_none who packs bytes (e ∷ es) o none) (pruned_none who packs bytes es o.3 (λ k n d. none k n (d.0, inr d.1))) (either (λ fs. IsPruned fs packs bytes) e.ask (e ∷ es) es p)

-- what else a prune tells by its own rule, it doesn't tell of a fit store
prunes_none : (who : Asker) (es : Trace) → Obeys (prune_task who) PruneAllows PruneGives es → NoneDone es → (outcome : Outcome) → IsPrunedOrMemory (Some outcome) → PruneConcludes (before_unlock es) outcome → PrunesNoPack (Some outcome)
prunes_none who es o none (Outcome.Pruned packs bytes) well own = inr (inr (bytes, ap (λ n. Outcome.Pruned n bytes) (pruned_before who packs bytes es o none own.1)))
prunes_none who es o none (Outcome.Stored name blobs bytes) well own = inl well
prunes_none who es o none (Outcome.Complete entries) well own = inl well
prunes_none who es o none (Outcome.Listed rows) well own = inl well
prunes_none who es o none (Outcome.Forgotten names) well own = inl well
prunes_none who es o none (Outcome.Clean snapshots indexes packs blobs) well own = inl well
prunes_none who es o none (Outcome.Faults faults) well own = inl well
prunes_none who es o none Outcome.Upgraded well own = inl well
prunes_none who es o none (Outcome.Ended end) well own = inl well

prunes_no_pack : (from : Store) (es : Trace) (outcome : Option Outcome) → ((o : Outcome) → PruneConcludes (before_unlock es) o → PrunesNoPack (Some o)) → EndsEither from PruneConcludes es outcome → PrunesNoPack outcome
prunes_no_pack from es None own h = h
prunes_no_pack from es (Some outcome) own h = ⊎_elim inl (λ other. ⊎_elim (λ barred. inr (inl barred.0)) (own outcome) other) h

pub prune_barred : PruneOfAppendOnly
prune_barred who from to failed talk outcome fit versions appends apart low ran few is =
    let es : Trace = trace_of talk in
    let h = led from talk to ran.run in
    let agree = held_agree from (IsSent es None) (λ x. ⊥) apart from.objects (λ k n x p. inl (n, p)) fit.sound.named in
    let none = none_done (prune_task who) PruneAllows PruneGives from fit appends talk to h is.obeys in
    let sound = prunes.throughout who from fit.sound (IsSent es None) apart talk is.obeys (λ ask w. w) in
    prunes_no_pack from es outcome (λ other own. prunes_none who es is.obeys none other (own_before who from fit agree talk to is.obeys h sound other own) own)
    (ends_either (prune_task who) PruneAllows PruneGives PruneConcludes (λ fs ask o permitted reading. forgets.undeleted fs (prune_reads_first fs ask permitted reading)) from fit tt versions (puts_none (prune_task who) PruneAllows (λ fs token n x p. p.1)) talk to outcome is h
    sound (calm_of failed talk low ran.cause) few)
