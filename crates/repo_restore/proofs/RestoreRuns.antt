-- The laws of a restore and of a list that are alone with their store.
use Rattle.std.proofs.Common.{arith, ◌≡◌, ◌↔◌, ◌⊎◌, ◌++◌, ◌∷◌, [], ℕ, Bool, false, List, length, Option, Some, None, refl, sym, ap, subst, inl, inr, ⊎_elim, length-append, ◌∙◌, Contains}
use Rattle.std.proofs.lemmas.Option.{same_Some}
use Rattle.repo_name.specs.Naming as naming
use Rattle.repo_name.specs.declared.kinds.BlobKind.{BlobKind}
use Rattle.repo_name.specs.declared.kinds.Kind.{Kind}
use Rattle.repo_name.specs.declared.kinds.Thing.{Thing}
use Rattle.repo_name.specs.declared.names.Name.{Name}
use Rattle.repo_wire.specs.declared.messages.Code.{Code}
use Rattle.repo_wire.specs.declared.messages.Say.{Say}
use Rattle.repo_index.specs.IndexText.{Says, fact_of}
use Rattle.repo_index.specs.declared.facts.Fact.{Fact}
use Rattle.repo_tree.specs.Laws.{Agree}
use Rattle.repo_tree.specs.Parts.{Blobs}
use Rattle.repo_tree.specs.SnapshotText.{IsSnapshotText}
use Rattle.repo_tree.specs.Spelling.{Joined, Spells, greatest_depth}
use Rattle.repo_tree.specs.declared.entries.Entry.{Entry}
use Rattle.repo_tree.specs.declared.snapshots.Snapshot.{Snapshot}
use Rattle.repo_tree.proofs.SnapshotLemmas.{snapshot_texts_one}
use Rattle.repo_tree.proofs.DirectoryLemmas.{lists_grow}
use Rattle.repo_store.specs.Stores.{Store, Objects}
use Rattle.repo_session.specs.declared.emissions.Emission.{Emission}
use Rattle.repo_session.specs.declared.outcomes.End.{End}
use Rattle.repo_session.specs.declared.outcomes.Outcome.{Outcome}
use Rattle.repo_session.specs.Alone.{EndsWell}
use Rattle.repo_session.specs.Askers.{Asker}
use Rattle.repo_session.specs.Ends.{before_unlock}
use Rattle.repo_session.specs.Order.{Obeys}
use Rattle.repo_session.specs.Soundness.{IsHeld, IsSound}
use Rattle.repo_session.specs.Rebuilding.{rebuilt, Follow}
use Rattle.repo_session.specs.Talks.{Talk, trace_of, given_in}
use Rattle.repo_session.specs.Told.{AskedToPut}
use Rattle.repo_session.specs.Blobs.{IsBadPart, range_of}
use Rattle.repo_session.specs.Traces.{Trace, Exchanged, Lists, ReadFact, emitted_in}
use Rattle.repo_session.proofs.Cataloguing.{fact_stays}
use Rattle.repo_session.proofs.Causes.{part_good, range_length}
use Rattle.repo_session.proofs.Concluding.{calm_of, either, ends_well, puts_none, reads_first, suits_either}
use Rattle.repo_session.proofs.Descending.{under_grows, needed_grows, broken_grows, root_spells_at, file_spelled, needed_there, unbroken}
use Rattle.repo_session.proofs.Enumerating.{listed_or_put}
use Rattle.repo_session.proofs.Growing.{Led, Shares, led}
use Rattle.repo_session.proofs.Reaching.{reached_needed}
use Rattle.repo_session.proofs.Taking.{given_is}
use Rattle.repo_session.proofs.Telling.{seen_run}
use Rattle.repo_session.proofs.Unchanging.{OnlyReads, same_run, same_after, puts_nothing, shares_run, sound_throughout}
use Rattle.repo_session.proofs.Wholeness.{given_held}
use Rattle.repo_session.proofs.Spoken.{held_agree}
use Rattle.repo_restore.specs.Laws.{RestoreChangesNothing, ListChangesNothing, IsListedOrMemory, ListEndsWell, IsCompleteOrMemory, RestoreEndsWell, BeginsSnapshot, AreFirstOf, RestoreGivesFirst}
use Rattle.repo_restore.specs.Listing.{list_task, ListAllows, ListGives, ListConcludes}
use Rattle.repo_session.specs.Received.{Received}
use Rattle.repo_session.specs.Trees.{HasRoot, Under, IsBroken, IsUnindexed}
use Rattle.repo_restore.specs.Restoring.{Wish, restore_task, Sums, IsUneven, IsBrokenNext, IsDueBlob, IsBadTree, RestoreAllows, RestoreGives, RestoreConcludes}
use Rattle.repo_restore.proofs.Firsts.{first_is_of_all}
use Rattle.repo_restore.proofs.Advancing.{only_reads}
use Rattle.repo_session.proofs.KindReads.{kind_reads}
use Rattle.repo_restore.proofs.Refusing.{broken_in_place}
use Rattle.repo_restore.proofs.Replied.{begun_of}

-- ---- nothing changes

restore_never : (snapshot : Name) → OnlyReads (RestoreAllows snapshot)
restore_never snapshot es ask h = only_reads snapshot es ask h

list_never : {J : Type 0} (j : J) → OnlyReads (ListAllows j)
list_never j es ask h = kind_reads Kind.Snapshot es ask h

pub restore_changes_nothing : RestoreChangesNothing
restore_changes_nothing w from mid to failed failing talk next outcome ran may is =
    same_after (restore_task w) (RestoreAllows w.snapshot) (RestoreGives w.snapshot) (restore_never w.snapshot) (RestoreConcludes w.snapshot) from mid to talk next outcome is (led from talk mid ran.run) may

pub list_changes_nothing : ListChangesNothing
list_changes_nothing who from mid to failed failing talk next outcome ran may is =
    same_after (list_task who) (ListAllows who) (ListGives who) (list_never who) (ListConcludes who) from mid to talk next outcome is (led from talk mid ran.run) may

-- ---- how a list ends

listed_well : (who : Asker) (es : Trace) (outcome : Outcome) → (outcome ≡ Outcome.Ended (End.Refused Code.NoMemory)) ⊎ ListConcludes who es outcome → IsListedOrMemory (Some outcome)
listed_well who es (Outcome.Listed rows) h = tt
listed_well who es (Outcome.Stored name blobs bytes) (inl h) = h
listed_well who es (Outcome.Stored name blobs bytes) (inr h) = absurd h
listed_well who es (Outcome.Complete entries) (inl h) = h
listed_well who es (Outcome.Complete entries) (inr h) = absurd h
listed_well who es (Outcome.Forgotten names) (inl h) = h
listed_well who es (Outcome.Forgotten names) (inr h) = absurd h
listed_well who es (Outcome.Pruned packs bytes) (inl h) = h
listed_well who es (Outcome.Pruned packs bytes) (inr h) = absurd h
listed_well who es (Outcome.Clean snapshots indexes packs blobs) (inl h) = h
listed_well who es (Outcome.Clean snapshots indexes packs blobs) (inr h) = absurd h
listed_well who es (Outcome.Faults faults) (inl h) = h
listed_well who es (Outcome.Faults faults) (inr h) = absurd h
listed_well who es Outcome.Upgraded (inl h) = h
listed_well who es Outcome.Upgraded (inr h) = absurd h
listed_well who es (Outcome.Ended end) (inl h) = h
listed_well who es (Outcome.Ended end) (inr h) = absurd h

list_well : (who : Asker) (es : Trace) (outcome : Option Outcome) → EndsWell (ListConcludes who) es outcome → IsListedOrMemory outcome
list_well who es None h = h
list_well who es (Some outcome) h = listed_well who (before_unlock es) outcome h

pub list_ends : ListEndsWell
list_ends who from to failed talk outcome fit versions low ran few is =
    list_well who (trace_of talk) outcome
    (ends_well (list_task who) (ListAllows who) (ListGives who) (ListConcludes who) (reads_first (list_task who) (ListAllows who) (ListGives who) (λ es t k n h. h)) from fit tt versions (puts_none (list_task who) (ListAllows who) (λ es t n x h. h)) (suits_either (ListAllows who) from (λ es t k n h. h)) talk to outcome is (led from talk to ran.run)
    (sound_throughout (list_task who) (ListAllows who) (ListGives who) (list_never who) from talk fit.sound is.obeys) (calm_of failed talk low ran.cause) few)

-- ---- how a restore ends

broken_next : (es : Trace) (version : ℕ) (root : Name) (path : List (List ℕ)) (tree : Name) → IsBrokenNext es version root path tree → IsBroken version (Received es) root path tree
broken_next [] version root path tree h = absurd h
broken_next (e ∷ es) version root path tree h = broken_in_place version (Received (e ∷ es)) root (emitted_in es) path tree h.2

module _ (w : Wish) (from : Store) (sound : IsSound from.objects) (agree : Agree (IsHeld from.objects) (IsHeld from.objects)) (talk : Talk) (to : Store) (o : Obeys (restore_task w) (RestoreAllows w.snapshot) (RestoreGives w.snapshot) (trace_of talk))
    (h : Led from talk to) where
  abbrev B : Blobs
  B = IsHeld from.objects

  shares : Shares from (trace_of talk) to
  shares = shares_run (restore_task w) (RestoreAllows w.snapshot) (RestoreGives w.snapshot) (restore_never w.snapshot) from talk to o h

  same : to.objects ≡ from.objects
  same = same_run (restore_task w) (RestoreAllows w.snapshot) (RestoreGives w.snapshot) (restore_never w.snapshot) from talk to o h

  first : (k : Kind) (n : Name) (x : List ℕ) → to.objects k n ≡ Some x → from.objects k n ≡ Some x
  first k n x p = sym (ap (λ (s : Objects). s k n) same) ∙ p

  received_held : (k : BlobKind) (x : List ℕ) → Received (trace_of talk) k x → B k x
  received_held k x r =
      let pack = shares.ranged r.fact.place.pack r.fact.place.offset r.fact.place.length x r.replied in
      record {
        index = r.given.index;
        text = r.given.text;
        fact = r.fact;
        pack = pack.0;
        listed = first Kind.Index r.given.index r.given.text (shares.got Kind.Index r.given.index r.given.text r.given.read.0);
        says = r.given.says;
        of_kind = r.of_kind;
        named = sym r.named;
        there = first Kind.Pack r.fact.place.pack pack.0 pack.1;
        stands = pack.2;
      }

  root_spelled : (version : ℕ) (root : Name) → HasRoot (trace_of talk) w.snapshot version root → (e : List Entry) × Spells version B root [] e
  root_spelled version root found =
      let there = first Kind.Snapshot w.snapshot found.0 (shares.got Kind.Snapshot w.snapshot found.0 found.2.0) in
      let s = sound.snapshots w.snapshot found.0 there in
      let one : s.snapshot ≡ found.1 = snapshot_texts_one found.0 s.snapshot found.1 s.reads found.3 in
      let spells : Spells found.1.version B found.1.tree [] s.entries = subst (λ (x : Snapshot). Spells x.version B x.tree [] s.entries) one s.spells in
      (s.entries, subst (λ v. Spells v B root [] s.entries) found.4 (subst (λ t. Spells found.1.version B t [] s.entries) found.5 spells))

  -- what was given out is the first of what the snapshot spells here
  spelled_here : (version : ℕ) (root : Name) (text : List ℕ) (snapshot : Snapshot) (entries : List Entry) → HasRoot (trace_of talk) w.snapshot version root → from.objects Kind.Snapshot w.snapshot ≡ Some text → IsSnapshotText text snapshot
      → Spells snapshot.version B snapshot.tree [] entries → Spells version B root [] entries
  spelled_here version root text snapshot entries found there reads spells =
      let same_text : text ≡ found.0 = same_Some text found.0 (sym there ∙ first Kind.Snapshot w.snapshot found.0 (shares.got Kind.Snapshot w.snapshot found.0 found.2.0)) in
      let one : snapshot ≡ found.1 = snapshot_texts_one found.0 snapshot found.1 (subst (λ (x : List ℕ). IsSnapshotText x snapshot) same_text reads) found.3 in
      let own : Spells found.1.version B found.1.tree [] entries = subst (λ (s : Snapshot). Spells s.version B s.tree [] entries) one spells in
      subst (λ v. Spells v B root [] entries) found.4 (subst (λ t. Spells found.1.version B t [] entries) found.5 own)

  first_here : (given : List Emission) (text : List ℕ) (snapshot : Snapshot) (entries : List Entry) → from.objects Kind.Snapshot w.snapshot ≡ Some text → IsSnapshotText text snapshot → Spells snapshot.version B snapshot.tree [] entries
      → BeginsSnapshot (trace_of talk) w.snapshot given → (within : Bool) × Follow false given within × AreFirstOf within (rebuilt given) entries
  first_here given text snapshot entries there reads spells (inl none) =
      subst (λ (g : List Emission). (within : Bool) × Follow false g within × AreFirstOf within (rebuilt g) entries) (sym none) (false, refl, (entries, refl))
  first_here given text snapshot entries there reads spells (inr begun) =
      let alike : Agree (Received (trace_of talk)) B = λ k x y r held same_name. agree k x y (received_held k x r) held same_name in
      let here = spelled_here begun.0 begun.1 text snapshot entries begun.2 there reads spells in
      let begins = begun.3 in
      (begins.0, begins.1, first_is_of_all (Received (trace_of talk)) B begun.0 alike begun.1 [] begins.0 (rebuilt given) entries begins.2 here)

  fact_length : (fact : Fact) (x : List ℕ) → ReadFact (trace_of talk) fact → fact.kind ≡ BlobKind.Content → B BlobKind.Content x → naming.name x ≡ fact.name → fact.place.length ≡ length x
  fact_length fact x read kind held named =
      let b = given_held from.objects sound read.index read.text fact (first Kind.Index read.index read.text (shares.got Kind.Index read.index read.text read.read.0)) read.says in
      let one : b.bytes ≡ x = agree BlobKind.Content b.bytes x (subst (λ k. B k b.bytes) kind b.held) held (b.named ∙ sym named) in
      sym (range_length b.pack fact.place.offset fact.place.length b.bytes b.stands) ∙ ap length one

  lengths_are : (facts : List Fact) → ((fact : Fact) → Contains facts fact ↔ ReadFact (trace_of talk) fact) → (content : List Name) (total : ℕ) (bytes : List ℕ) → Sums facts content total → Joined B content bytes → total ≡ length bytes
  lengths_are facts gives [] total bytes l j = l ∙ sym (ap length j)
  lengths_are facts gives (n ∷ content) total bytes l j =
      let fact : Fact = fact_of BlobKind.Content n l.0 in
      let here : l.0.length ≡ length j.0 = fact_length fact j.0 ((gives fact).0 l.2.among) refl j.2 j.3 in
      let rest = lengths_are facts gives content l.1 j.1 l.3 j.4 in
      let whole : length bytes ≡ length (j.0 ++ j.1) = ap length j.5 in
      omega (arith, here, rest, l.4, whole, length-append j.0 j.1)

  no_uneven : (version : ℕ) (root : Name) (entries : List Entry) (path : List (List ℕ)) (tree : Name) → Spells version B root [] entries → Under version B root path tree → IsUneven (trace_of talk) version root tree → ⊥
  no_uneven version root entries path tree spells leads u =
      let lists = lists_grow version (Received (trace_of talk)) B received_held tree u.nodes u.read in
      let at = root_spells_at version B agree root entries path tree spells leads in
      let f = file_spelled version B agree greatest_depth path tree u.nodes u.file u.size u.content at lists u.among in
      u.other (lengths_are u.lengths.facts u.lengths.gives u.content u.total f.0 u.lengths.sums f.1 ∙ f.2)

  no_bad_tree : (tree : Name) → IsBadTree (trace_of talk) w.snapshot tree → ⊥
  no_bad_tree tree b =
      let got : Blobs = Received (trace_of talk) in
      let s = root_spelled b.version b.root b.found in
      let leads = under_grows b.version got B received_held b.root b.path tree b.leads in
      ⊎_elim (λ broken. unbroken b.version B agree b.root s.0 b.path tree s.1 leads (broken_grows b.version got B received_held b.root b.path tree (broken_next (trace_of talk) b.version b.root b.path tree broken)))
      (λ n. no_uneven b.version b.root s.0 b.path tree s.1 leads n) b.unfit

  no_unindexed : (thing : Thing) (name : Name) → IsUnindexed (trace_of talk) w.snapshot thing name → ⊥
  no_unindexed thing name u =
      let s = root_spelled u.version u.root u.found in
      let b = needed_there u.version B agree u.root s.0 u.kind name s.1 (needed_grows u.version (Received (trace_of talk)) B received_held u.root u.kind name (reached_needed u.version (Received (trace_of talk)) u.root u.kind name u.reached)) in
      let held = b.among in
      let now : to.objects Kind.Index held.index ≡ Some held.text = ap (λ (s : Objects). s Kind.Index held.index) same ∙ held.listed in
      let listed : Lists (trace_of talk) Kind.Index held.index = ⊎_elim (λ l. l)
      (λ put. absurd (puts_nothing (restore_task w) (RestoreAllows w.snapshot) (RestoreGives w.snapshot) (restore_never w.snapshot) (trace_of talk) Kind.Index held.index o put))
      (listed_or_put (AskedToPut (trace_of talk)) (restore_task w) (RestoreAllows w.snapshot) (RestoreGives w.snapshot) Kind.Index held.index (trace_of talk) to.objects held.text o (seen_run from talk to h) u.indexes.listed now) in
      let read = u.indexes.each held.index listed in
      let one : held.text ≡ read.0 = same_Some held.text read.0 (sym held.listed ∙ first Kind.Index held.index read.0 (shares.got Kind.Index held.index read.0 read.2.0)) in
      let fact : ReadFact (trace_of talk) held.fact = record { index = held.index; text = read.0; read = read.2; says = subst (λ (x : List ℕ). Says x held.fact) one held.says } in
      u.ungiven (held.fact, fact, held.of_kind, held.named ∙ b.named)

  -- here no part comes with other bytes than those of its blob
  no_bad_part : (thing : Thing) (name : Name) (es : Trace) → es ≡ trace_of talk → IsBadPart (IsDueBlob w.snapshot) es thing name → ⊥
  no_bad_part thing name [] is b = b
  no_bad_part thing name (e ∷ es) is b =
      let fact = b.0 in
      let read = subst (λ fs. ReadFact fs fact) is (fact_stays e es fact b.1.0) in
      let came = b.2 in
      let asked = subst (λ fs. Exchanged fs (range_of fact) (Say.Bytes came.1)) is (inl (came.0, came.2)) in
      let pack = shares.ranged fact.place.pack fact.place.offset fact.place.length came.1 asked in
      part_good from.objects sound read.index read.text pack.0 came.1 fact (first Kind.Index read.index read.text (shares.got Kind.Index read.index read.text read.read.0)) read.says
      (first Kind.Pack fact.place.pack pack.0 pack.1) pack.2 came.3

  own_well : (outcome : Outcome) → RestoreConcludes w.snapshot (trace_of talk) outcome → IsCompleteOrMemory (Some outcome)
  own_well (Outcome.Complete entries) own = tt
  own_well (Outcome.Stored name blobs bytes) own = absurd own
  own_well (Outcome.Listed rows) own = absurd own
  own_well (Outcome.Forgotten names) own = absurd own
  own_well (Outcome.Pruned packs bytes) own = absurd own
  own_well (Outcome.Clean snapshots indexes packs blobs) own = absurd own
  own_well (Outcome.Faults faults) own = absurd own
  own_well Outcome.Upgraded own = absurd own
  own_well (Outcome.Ended (End.BadObject Thing.Tree tree)) own = absurd (⊎_elim (λ b. no_bad_tree tree b.0) (λ b. no_bad_part Thing.Tree tree (trace_of talk) refl b) own)
  own_well (Outcome.Ended (End.BadObject Thing.Content name)) own = absurd (no_bad_part Thing.Content name (trace_of talk) refl own)
  own_well (Outcome.Ended (End.BadObject Thing.Pack name)) own = absurd (no_bad_part Thing.Pack name (trace_of talk) refl own)
  own_well (Outcome.Ended (End.BadObject Thing.Index name)) own = absurd (no_bad_part Thing.Index name (trace_of talk) refl own)
  own_well (Outcome.Ended (End.BadObject Thing.Snapshot name)) own = absurd (no_bad_part Thing.Snapshot name (trace_of talk) refl own)
  own_well (Outcome.Ended (End.Missing thing name)) own = absurd (no_unindexed thing name own.0.0)
  own_well (Outcome.Ended End.Busy) own = absurd own
  own_well (Outcome.Ended End.Fenced) own = absurd own
  own_well (Outcome.Ended (End.Refused code)) own = absurd own
  own_well (Outcome.Ended End.BadReply) own = absurd own
  own_well (Outcome.Ended End.Version) own = absurd own
  own_well (Outcome.Ended End.DirectoryTooLarge) own = absurd own
  own_well (Outcome.Ended End.FileTooLarge) own = absurd own
  own_well (Outcome.Ended End.Abandoned) own = absurd own

own_before : (w : Wish) (from : Store) → IsSound from.objects → Agree (IsHeld from.objects) (IsHeld from.objects) → (talk : Talk) (to : Store) → Obeys (restore_task w) (RestoreAllows w.snapshot) (RestoreGives w.snapshot) (trace_of talk) → Led from talk to
    → (outcome : Outcome) → RestoreConcludes w.snapshot (before_unlock (trace_of talk)) outcome → IsCompleteOrMemory (Some outcome)
own_before w from sound agree [] to o h outcome own = own_well w from sound agree [] to o h outcome own
own_before w from sound agree (turn ∷ talk) to o h outcome own =
    ⊎_elim (λ now. own_well w from sound agree (turn ∷ talk) to o h outcome now) (λ before. own_well w from sound agree talk h.0 o.3 h.1 outcome before)
    (either (λ es. RestoreConcludes w.snapshot es outcome) turn.request.ask (trace_of (turn ∷ talk)) (trace_of talk) own)

memory_well : (outcome : Outcome) → outcome ≡ Outcome.Ended (End.Refused Code.NoMemory) → IsCompleteOrMemory (Some outcome)
memory_well outcome h = subst (λ x. IsCompleteOrMemory (Some x)) (sym h) refl

restore_well : (w : Wish) (es : Trace) (outcome : Option Outcome) → ((o : Outcome) → RestoreConcludes w.snapshot (before_unlock es) o → IsCompleteOrMemory (Some o)) → EndsWell (RestoreConcludes w.snapshot) es outcome → IsCompleteOrMemory outcome
restore_well w es None own h = h
restore_well w es (Some outcome) own h = ⊎_elim (memory_well outcome) (own outcome) h

pub restore_ends : RestoreEndsWell
restore_ends w from to failed talk outcome text fit versions there low ran few clash is =
    let h = led from talk to ran.run in
    let agree = held_agree from (λ ask. ⊥) (λ x. ⊥) clash from.objects (λ k n x p. inl (n, p)) fit.sound.named in
    restore_well w (trace_of talk) outcome (own_before w from fit.sound agree talk to is.obeys h)
    (ends_well (restore_task w) (RestoreAllows w.snapshot) (RestoreGives w.snapshot) (RestoreConcludes w.snapshot) (reads_first (restore_task w) (RestoreAllows w.snapshot) (RestoreGives w.snapshot) (λ es t k n x. x.0)) from fit (text, there) versions (puts_none (restore_task w) (RestoreAllows w.snapshot) (λ es t n x h. h.0)) (suits_either (RestoreAllows w.snapshot) from (λ es t k n x. x.0)) talk to outcome is h
    (sound_throughout (restore_task w) (RestoreAllows w.snapshot) (RestoreGives w.snapshot) (restore_never w.snapshot) from talk fit.sound is.obeys) (calm_of failed talk low ran.cause) few)

-- ---- what it gives out on the way

pub restore_gives_first : RestoreGivesFirst
restore_gives_first w from to failed failing talk next outcome text snapshot entries sound there reads spells ran clash is =
    let h = led from talk to ran.run in
    let agree = held_agree from (λ ask. ⊥) (λ x. ⊥) clash from.objects (λ k n x p. inl (n, p)) sound.named in
    let begun = begun_of w (trace_of talk) is.obeys in
    first_here w from sound agree talk to is.obeys h (given_in talk) text snapshot entries there reads spells (subst (λ given. BeginsSnapshot (trace_of talk) w.snapshot given) (sym (given_is talk)) begun)
