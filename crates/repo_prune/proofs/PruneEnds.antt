-- How a prune ends that is alone with its store.
use Rattle.std.proofs.Common.{◌≡◌, ◌∷◌, [], ℕ, List, Option, Some, None, refl, sym, subst, inl, inr, ⊎_elim, Contains, ◌∙◌}
use Rattle.std.proofs.lemmas.Option.{same_Some}
use Rattle.repo_name.specs.declared.kinds.BlobKind.{BlobKind}
use Rattle.repo_name.specs.declared.kinds.Kind.{Kind}
use Rattle.repo_name.specs.declared.kinds.Thing.{Thing}
use Rattle.repo_name.specs.declared.names.Name.{Name}
use Rattle.repo_name.specs.declared.tokens.Token.{Token}
use Rattle.repo_wire.specs.declared.messages.Ask.{Ask}
use Rattle.repo_wire.specs.declared.messages.Code.{Code}
use Rattle.repo_index.specs.IndexText.{Says}
use Rattle.repo_index.specs.declared.facts.Fact.{Fact}
use Rattle.repo_tree.specs.Laws.{Agree}
use Rattle.repo_tree.specs.Parts.{Blobs}
use Rattle.repo_tree.specs.Spelling.{Spells}
use Rattle.repo_tree.specs.declared.entries.Entry.{Entry}
use Rattle.repo_tree.specs.declared.snapshots.Snapshot.{Snapshot}
use Rattle.repo_tree.proofs.SnapshotLemmas.{snapshot_texts_one}
use Rattle.repo_store.specs.Stores.{Store}
use Rattle.repo_session.specs.declared.outcomes.End.{End}
use Rattle.repo_session.specs.declared.outcomes.Outcome.{Outcome}
use Rattle.repo_session.specs.Alone.{IsFit, IsSent, EndsWell}
use Rattle.repo_session.specs.Askers.{Asker}
use Rattle.repo_session.specs.Blobs.{IsBadPart}
use Rattle.repo_session.specs.Clients.{exchange}
use Rattle.repo_session.specs.Deletions.{NoneDeleted}
use Rattle.repo_session.specs.Ends.{before_unlock}
use Rattle.repo_session.specs.Order.{IsPermitted, IsReading, Obeys}
use Rattle.repo_session.specs.Received.{Received}
use Rattle.repo_session.specs.Soundness.{IsHeld}
use Rattle.repo_session.specs.Talks.{Talk, trace_of}
use Rattle.repo_session.specs.Told.{AskedToPut}
use Rattle.repo_session.specs.Traces.{Exchange, Trace, Object, WasAsked, IsListed, Lists, ReadFact}
use Rattle.repo_session.specs.Trees.{HasRoot, IsUnindexed}
use Rattle.repo_session.proofs.Causes.{part_good}
use Rattle.repo_session.proofs.Concluding.{IsSoundThroughout, calm_of, either, ends_well, known, puts_none}
use Rattle.repo_session.proofs.Deleting.{DeletesNone, none_deleted_on}
use Rattle.repo_name.proofs.Containing.{none_contained}
use Rattle.repo_session.proofs.Descending.{under_grows, reach_grows, broken_grows, needed_there, unbroken}
use Rattle.repo_session.proofs.Reaching.{reached_needed}
use Rattle.repo_session.proofs.Enumerating.{listed_or_put}
use Rattle.repo_session.proofs.Growing.{Led, Shares, led}
use Rattle.repo_session.proofs.Spoken.{held_agree}
use Rattle.repo_session.proofs.Telling.{seen_run}
use Rattle.repo_session.proofs.Wholeness.{given_held}
use Rattle.repo_writing.proofs.PutLemmas.{asked_put}
use Rattle.repo_prune.specs.PruneLaws.{IsPrunedOrMemory, PruneEndsWell}
use Rattle.repo_prune.specs.Pruning.{prune_task, IsUntouched, IsLastWanted, IsBadTree, IsMissingPack, PruneAllows, PruneGives, PruneConcludes}
use Rattle.repo_prune.proofs.Asides.{only_listed}
use Rattle.repo_prune.proofs.ForgetRuns.{undeleted}
use Rattle.repo_prune.proofs.PruneRuns.{throughout}
use Rattle.repo_prune.proofs.Wanting.{last_wanted, wanted_first, wanted_read}

pub prune_reads_first : (es : Trace) (ask : Ask) → IsPermitted PruneAllows es ask → IsReading ask → NoneDeleted es
prune_reads_first es (Ask.List k after) h r = (h tt).1.0
prune_reads_first es (Ask.Get k n) h r = (h tt).1.0
prune_reads_first es (Ask.Range pack offset len) h r = wanted_first es (h tt).1.0 (h tt).1.1
prune_reads_first es Ask.Ticket h r = absurd r
prune_reads_first es (Ask.Lock row) h r = absurd r
prune_reads_first es (Ask.Refresh token time) h r = absurd r
prune_reads_first es (Ask.Unlock token) h r = absurd r
prune_reads_first es Ask.Locks h r = absurd r
prune_reads_first es (Ask.Put token k n x) h r = absurd r
prune_reads_first es (Ask.Delete token k n) h r = absurd r
prune_reads_first es (Ask.Upgrade token) h r = absurd r
prune_reads_first es Ask.Config h r = absurd r

module _ (who : Asker) (from : Store) (fit : IsFit from) (agree : Agree (IsHeld from.objects) (IsHeld from.objects)) (talk : Talk) (to : Store) (o : Obeys (prune_task who) PruneAllows PruneGives (trace_of talk)) (h : Led from talk to)
    (untouched : IsUntouched (trace_of talk)) where
  abbrev B : Blobs
  B = IsHeld from.objects

  shares : Shares from (trace_of talk) to
  shares = (known (prune_task who) PruneAllows PruneGives from fit talk to h o).shares (undeleted (trace_of talk) untouched.none_deleted)

  unput : (token : Token) (k : Kind) (n : Name) (x : List ℕ) → WasAsked (trace_of talk) (Ask.Put token k n x) → ⊥
  unput token k n x asked =
      let object : Object = record { name = n; bytes = x } in
      none_contained object (subst (λ os. Contains os object) (untouched.none_put k) (asked_put (trace_of talk) token k n x asked))

  -- what is there was there at first
  first : (k : Kind) (n : Name) (x : List ℕ) → to.objects k n ≡ Some x → from.objects k n ≡ Some x
  first k n x there = ⊎_elim (λ was. was) (λ p. absurd (unput p.0 k n x p.1)) (shares.origin k n x there)

  received_held : (k : BlobKind) (x : List ℕ) → Received (trace_of talk) k x → B k x
  received_held k x r =
      let pack = shares.ranged r.fact.place.pack r.fact.place.offset r.fact.place.length x r.replied in
      record {
        index = r.given.index;
        text = r.given.text;
        fact = r.fact;
        pack = pack.0;
        listed = first Kind.Index r.given.index r.given.text (shares.got Kind.Index r.given.index r.given.text r.given.read.0);
        says = r.given.says;
        of_kind = r.of_kind;
        named = sym r.named;
        there = first Kind.Pack r.fact.place.pack pack.0 pack.1;
        stands = pack.2;
      }

  root_spelled : (name : Name) (version : ℕ) (root : Name) → HasRoot (trace_of talk) name version root → (e : List Entry) × Spells version B root [] e
  root_spelled name version root found =
      let there = first Kind.Snapshot name found.0 (shares.got Kind.Snapshot name found.0 found.2.0) in
      let s = fit.sound.snapshots name found.0 there in
      let one : s.snapshot ≡ found.1 = snapshot_texts_one found.0 s.snapshot found.1 s.reads found.3 in
      let spells : Spells found.1.version B found.1.tree [] s.entries = subst (λ (x : Snapshot). Spells x.version B x.tree [] s.entries) one s.spells in
      (s.entries, subst (λ v. Spells v B root [] s.entries) found.4 (subst (λ t. Spells found.1.version B t [] s.entries) found.5 spells))

  no_bad_tree : (tree : Name) → IsBadTree (trace_of talk) tree → ⊥
  no_bad_tree tree b =
      let got : Blobs = Received (trace_of talk) in
      let s = root_spelled b.snapshot b.version b.root b.found in
      unbroken b.version B agree b.root s.0 b.path tree s.1 (under_grows b.version got B received_held b.root b.path tree b.leads) (broken_grows b.version got B received_held b.root b.path tree b.broken)

  no_unindexed : (snapshot : Name) (thing : Thing) (name : Name) → IsUnindexed (trace_of talk) snapshot thing name → ⊥
  no_unindexed snapshot thing name u =
      let s = root_spelled snapshot u.version u.root u.found in
      let b = needed_there u.version B agree u.root s.0 u.kind name s.1 (reached_needed u.version B u.root u.kind name (reach_grows u.version (Received (trace_of talk)) B received_held u.root u.kind name u.reached)) in
      let held = b.among in
      let now : to.objects Kind.Index held.index ≡ Some held.text = shares.kept Kind.Index held.index held.text held.listed in
      let listed : Lists (trace_of talk) Kind.Index held.index = ⊎_elim (λ l. l) (λ p. absurd (unput p.0 Kind.Index held.index p.1 p.2))
      (listed_or_put (AskedToPut (trace_of talk)) (prune_task who) PruneAllows PruneGives Kind.Index held.index (trace_of talk) to.objects held.text o (seen_run from talk to h) u.indexes.listed now) in
      let read = u.indexes.each held.index listed in
      let one : held.text ≡ read.0 = same_Some held.text read.0 (sym held.listed ∙ first Kind.Index held.index read.0 (shares.got Kind.Index held.index read.0 read.2.0)) in
      let fact : ReadFact (trace_of talk) held.fact = record { index = held.index; text = read.0; read = read.2; says = subst (λ (x : List ℕ). Says x held.fact) one held.says } in
      u.ungiven (held.fact, fact, held.of_kind, held.named ∙ b.named)

  -- what an index that was read says, one that was there at first says, and its pack was there
  pack_listed : (fact : Fact) → IsListed Kind.Pack (trace_of talk) → ReadFact (trace_of talk) fact → Lists (trace_of talk) Kind.Pack fact.place.pack
  pack_listed fact listed read =
      let there = first Kind.Index read.index read.text (shares.got Kind.Index read.index read.text read.read.0) in
      let pack = given_held from.objects fit.sound read.index read.text fact there read.says in
      let now : to.objects Kind.Pack fact.place.pack ≡ Some pack.pack = shares.kept Kind.Pack fact.place.pack pack.pack pack.there in
      ⊎_elim (λ l. l) (λ p. absurd (unput p.0 Kind.Pack fact.place.pack p.1 p.2))
      (listed_or_put (AskedToPut (trace_of talk)) (prune_task who) PruneAllows PruneGives Kind.Pack fact.place.pack (trace_of talk) to.objects pack.pack o (seen_run from talk to h) listed now)

  no_missing_pack : (pack : Name) → IsMissingPack (trace_of talk) pack → ⊥
  no_missing_pack pack m = m.unlisted (subst (Lists (trace_of talk) Kind.Pack) m.of_pack (pack_listed m.fact m.packs m.read))

-- where the store is sound after each exchange, no blob that was wanted came bad
no_bad_part : (who : Asker) (from : Store) → IsFit from → (talk : Talk) (to : Store) → Obeys (prune_task who) PruneAllows PruneGives (trace_of talk) → Led from talk to → IsSoundThroughout from talk → (thing : Thing) (name : Name)
    → IsBadPart IsLastWanted (trace_of talk) thing name → ⊥
no_bad_part who from fit [] to o h sound thing name bad = bad
no_bad_part who from fit (turn ∷ talk) to o h sound thing name (fact, last, (is, x, said, bad), kind, called) =
    let es : Trace = trace_of talk in
    let wanted = last_wanted es fact last in
    let e : Exchange = exchange turn.request turn.reply turn.emitted in
    let none = none_deleted_on e es (subst DeletesNone (sym is) (λ k. refl)) (wanted_first es fact wanted) in
    let shares : Shares from (e ∷ es) to = (known (prune_task who) PruneAllows PruneGives from fit (turn ∷ talk) to h o).shares (undeleted (e ∷ es) none) in
    let read = wanted_read es fact wanted in
    let listed = shares.got Kind.Index read.index read.text (inr read.read.0) in
    let pack = shares.ranged fact.place.pack fact.place.offset fact.place.length x (inl (is, said)) in
    part_good to.objects (sound.0 to h) read.index read.text pack.0 x fact listed read.says pack.1 pack.2 bad

module _ (who : Asker) (from : Store) (fit : IsFit from) (agree : Agree (IsHeld from.objects) (IsHeld from.objects)) where
  own_well : (talk : Talk) (to : Store) → Obeys (prune_task who) PruneAllows PruneGives (trace_of talk) → Led from talk to → IsSoundThroughout from talk → (outcome : Outcome) → PruneConcludes (trace_of talk) outcome
      → IsPrunedOrMemory (Some outcome)
  own_well talk to o h sound (Outcome.Pruned packs bytes) own = tt
  own_well talk to o h sound (Outcome.Stored name blobs bytes) own = absurd own
  own_well talk to o h sound (Outcome.Complete entries) own = absurd own
  own_well talk to o h sound (Outcome.Listed rows) own = absurd own
  own_well talk to o h sound (Outcome.Forgotten names) own = absurd own
  own_well talk to o h sound (Outcome.Clean snapshots indexes packs blobs) own = absurd own
  own_well talk to o h sound (Outcome.Faults faults) own = absurd own
  own_well talk to o h sound Outcome.Upgraded own = absurd own
  own_well talk to o h sound (Outcome.Ended (End.BadObject Thing.Tree tree)) own =
      absurd (⊎_elim (λ broken. no_bad_tree who from fit agree talk to o h broken.0.untouched tree broken.2) (λ part. no_bad_part who from fit talk to o h sound Thing.Tree tree part) own)
  own_well talk to o h sound (Outcome.Ended (End.BadObject Thing.Content name)) own = absurd (no_bad_part who from fit talk to o h sound Thing.Content name own)
  own_well talk to o h sound (Outcome.Ended (End.BadObject Thing.Pack name)) own = absurd (no_bad_part who from fit talk to o h sound Thing.Pack name own)
  own_well talk to o h sound (Outcome.Ended (End.BadObject Thing.Index name)) own = absurd (no_bad_part who from fit talk to o h sound Thing.Index name own)
  own_well talk to o h sound (Outcome.Ended (End.BadObject Thing.Snapshot name)) own = absurd (no_bad_part who from fit talk to o h sound Thing.Snapshot name own)
  own_well talk to o h sound (Outcome.Ended (End.Missing Thing.Pack pack)) own = absurd (no_missing_pack who from fit agree talk to o h (only_listed (trace_of talk) own.0) pack own.1)
  own_well talk to o h sound (Outcome.Ended (End.Missing Thing.Tree name)) own = absurd (no_unindexed who from fit agree talk to o h own.0.untouched own.2.0 Thing.Tree name own.2.2)
  own_well talk to o h sound (Outcome.Ended (End.Missing Thing.Content name)) own = absurd (no_unindexed who from fit agree talk to o h own.0.untouched own.2.0 Thing.Content name own.2.2)
  own_well talk to o h sound (Outcome.Ended (End.Missing Thing.Index name)) own = absurd (no_unindexed who from fit agree talk to o h own.0.untouched own.2.0 Thing.Index name own.2.2)
  own_well talk to o h sound (Outcome.Ended (End.Missing Thing.Snapshot name)) own = absurd (no_unindexed who from fit agree talk to o h own.0.untouched own.2.0 Thing.Snapshot name own.2.2)
  own_well talk to o h sound (Outcome.Ended End.Busy) own = absurd own
  own_well talk to o h sound (Outcome.Ended End.Fenced) own = absurd own
  own_well talk to o h sound (Outcome.Ended (End.Refused code)) own = absurd own
  own_well talk to o h sound (Outcome.Ended End.BadReply) own = absurd own
  own_well talk to o h sound (Outcome.Ended End.Version) own = absurd own
  own_well talk to o h sound (Outcome.Ended End.DirectoryTooLarge) own = absurd own
  own_well talk to o h sound (Outcome.Ended End.FileTooLarge) own = absurd own
  own_well talk to o h sound (Outcome.Ended End.Abandoned) own = absurd own

  pub own_before : (talk : Talk) (to : Store) → Obeys (prune_task who) PruneAllows PruneGives (trace_of talk) → Led from talk to → IsSoundThroughout from talk → (outcome : Outcome) → PruneConcludes (before_unlock (trace_of talk)) outcome
      → IsPrunedOrMemory (Some outcome)
  own_before [] to o h sound outcome own = own_well [] to o h sound outcome own
  own_before (turn ∷ talk) to o h sound outcome own =
      ⊎_elim (λ now. own_well (turn ∷ talk) to o h sound outcome now) (λ before. own_well talk h.0 o.3 h.1 sound.1 outcome before)
      (either (λ es. PruneConcludes es outcome) turn.request.ask (trace_of (turn ∷ talk)) (trace_of talk) own)

prune_well : (es : Trace) (outcome : Option Outcome) → ((o : Outcome) → PruneConcludes (before_unlock es) o → IsPrunedOrMemory (Some o)) → EndsWell PruneConcludes es outcome → IsPrunedOrMemory outcome
prune_well es None own h = h
prune_well es (Some outcome) own h = ⊎_elim (λ (q : outcome ≡ Outcome.Ended (End.Refused Code.NoMemory)). subst (λ x. IsPrunedOrMemory (Some x)) (sym q) refl) (own outcome) h

pub prune_ends : PruneEndsWell
prune_ends who from to failed talk outcome fit versions deletes apart low ran few is =
    let h = led from talk to ran.run in
    let agree = held_agree from (IsSent (trace_of talk) None) (λ x. ⊥) apart from.objects (λ k n x p. inl (n, p)) fit.sound.named in
    let sound = throughout who from fit.sound (IsSent (trace_of talk) None) apart talk is.obeys (λ ask w. w) in
    prune_well (trace_of talk) outcome (own_before who from fit agree talk to is.obeys h sound)
    (ends_well (prune_task who) PruneAllows PruneGives PruneConcludes (λ es ask o permitted reading. undeleted es (prune_reads_first es ask permitted reading)) from fit tt versions (puts_none (prune_task who) PruneAllows (λ es token n x p. p.1)) (λ es token k n allowed. deletes) talk to outcome is h
    sound (calm_of failed talk low ran.cause) few)
