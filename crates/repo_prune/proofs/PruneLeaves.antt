-- What a prune leaves that is alone with its store.
use Rattle.std.proofs.Common.{◌≡◌, ◌∷◌, [], ℕ, List, slice_get, Option, Some, None, refl, sym, ap, subst, inl, inr, ⊎_elim, Contains, ◌∙◌}
use Rattle.std.proofs.lemmas.Option.{same_Some}
use Rattle.repo_name.specs.declared.kinds.BlobKind.{BlobKind}
use Rattle.repo_name.specs.declared.kinds.BlobKind.TheVariants.{Tree}
use Rattle.repo_name.specs.declared.kinds.Kind.{Kind}
use Rattle.repo_name.specs.declared.names.Name.{Name}
use Rattle.repo_name.specs.declared.tokens.Token.{Token}
use Rattle.repo_wire.specs.declared.messages.Ask.{Ask}
use Rattle.repo_wire.specs.declared.messages.Request.{Request}
use Rattle.repo_wire.specs.declared.messages.Say.{Say}
use Rattle.repo_pack.specs.PackLayout.{Item, IsTruePack}
use Rattle.repo_pack.proofs.Packs.{packs_one}
use Rattle.repo_index.specs.Exactness.{fact_at, IsExactFor}
use Rattle.repo_index.specs.IndexText.{facts_in, IsIndexText}
use Rattle.repo_index.specs.declared.facts.Fact.{Fact}
use Rattle.repo_index.specs.declared.facts.PackFacts.{PackFacts}
use Rattle.repo_index.proofs.OneLemmas.{index_texts_one}
use Rattle.repo_reach.specs.Collected.{tree_blobs}
use Rattle.repo_tree.specs.SnapshotText.{IsSnapshotText}
use Rattle.repo_tree.specs.Spelling.{Reach, HasPair, greatest_depth}
use Rattle.repo_tree.specs.declared.snapshots.Snapshot.{Snapshot}
use Rattle.repo_tree.proofs.SnapshotLemmas.{snapshot_texts_one}
use Rattle.repo_tree.proofs.SpellingLemmas.{reach_within}
use Rattle.repo_store.specs.StoreMachine.{Step}
use Rattle.repo_store.specs.Stores.{Store}
use Rattle.repo_session.specs.declared.outcomes.Outcome.{Outcome}
use Rattle.repo_session.specs.Alone.{IsSent, IsSpoken, NoClash}
use Rattle.repo_session.specs.Askers.{Asker}
use Rattle.repo_session.specs.Deletions.{DeleteDone}
use Rattle.repo_session.specs.Ends.{before_unlock}
use Rattle.repo_session.specs.Listings.{IsReadRow}
use Rattle.repo_session.specs.Order.{Obeys}
use Rattle.repo_session.specs.Soundness.{IsHeld, IsSound, IsExactPack}
use Rattle.repo_session.specs.Talks.{Talk, trace_of}
use Rattle.repo_session.specs.Told.{AskedToDelete, AskedToPut, Told, Seen}
use Rattle.repo_session.specs.Traces.{Trace, WasAsked}
use Rattle.repo_name.proofs.Containing.{none_contained, contained_or, contains_flat}
use Rattle.repo_session.proofs.Enumerating.{listed_or_put}
use Rattle.repo_session.proofs.Growing.{Led, led, step_moves}
use Rattle.repo_session.proofs.Spoken.{was_asked}
use Rattle.repo_session.proofs.Telling.{told_run, seen_run}
use Rattle.repo_writing.specs.Blobs.{HasFact, AreFactsOnce}
use Rattle.repo_writing.specs.Writing.{Listing, IsDone, ListsPack}
use Rattle.repo_writing.proofs.Keeping.{put_is_there, fact_of_listed}
use Rattle.repo_writing.proofs.PutLemmas.{each_contained, asked_put}
use Rattle.repo_writing.proofs.Replacing.{put_says, each_index_put}
use Rattle.repo_prune.specs.Keeping.{Row}
use Rattle.repo_prune.specs.PruneLaws.{IsReachedIn, IsListedIn, HaveJustWhatIsNeeded, PruneLeavesWhatIsNeeded}
use Rattle.repo_prune.specs.Pruning.{prune_task, IsNeededBy, IsSettled, IsPruned, PruneAllows, PruneGives}
use Rattle.repo_prune.proofs.Leaving.{unlock_or}
use Rattle.repo_prune.proofs.PruneRuns.{listing_of, either_or, no_delete, trees_agree, stand, lone}

-- facts of one pair are one, where none is there twice
pair_here : (facts : List Fact) (a b : Fact) → ¬ HasFact facts a.kind a.name → Contains facts b → a.kind ≡ b.kind → a.name ≡ b.name → ⊥
pair_here facts a b none has kind name =
    let P : BlobKind → Name → Type 0 = λ k n. HasFact facts k n in
    none (subst (λ n. P a.kind n) (sym name) (subst (λ k. P k b.name) (sym kind) (b.place, has)))

facts_one : (facts : List Fact) (a b : Fact) → AreFactsOnce facts → Contains facts a → Contains facts b → a.kind ≡ b.kind → a.name ≡ b.name → a ≡ b
facts_one [] a b once has other kind name = absurd (none_contained a has)
facts_one (f ∷ facts) a b once has other kind name = elim (contained_or f facts a has) [
  | inl here ↦ elim (contained_or f facts b other) [
    | inl there ↦ sym here ∙ there
    | inr later ↦ absurd (pair_here facts f b once.0 later (ap (λ (x : Fact). x.kind) here ∙ kind) (ap (λ (x : Fact). x.name) here ∙ name))
  ]
  | inr more ↦ elim (contained_or f facts b other) [
    | inl there ↦ absurd (pair_here facts f a once.0 more (ap (λ (x : Fact). x.kind) there ∙ sym kind) (ap (λ (x : Fact). x.name) there ∙ sym name))
    | inr later ↦ facts_one facts a b once.1 more later kind name
  ]
]

module _ (who : Asker) (from : Store) (start : IsSound from.objects) (Sent : Ask → Type 0) (clash : NoClash (IsSpoken (λ x. ⊥) from Sent)) (talk : Talk) (to : Store) (o : Obeys (prune_task who) PruneAllows PruneGives (trace_of talk))
    (sent : (ask : Ask) → WasAsked (trace_of talk) ask → Sent ask) (h : Led from talk to) (deleted bytes : ℕ) (p : IsPruned (trace_of talk) deleted bytes) where
  s : IsSettled (trace_of talk) p.packs
  s = p.settled

  sound : IsSound to.objects
  sound = lone who from start Sent clash talk to o sent h

  told : Told (AskedToDelete (trace_of talk)) (trace_of talk) to.objects
  told = told_run from talk to h

  seen : Seen (AskedToPut (trace_of talk)) (trace_of talk) to.objects
  seen = seen_run from talk to h

  -- ---- facts

  in_packs : (fact : Fact) → IsListedIn to.objects fact → Contains (facts_in p.packs) fact
  in_packs fact l =
      let put = each_index_put (AskedToPut (trace_of talk)) (prune_task who) PruneAllows PruneGives (trace_of talk) to.objects o seen (stand who from start Sent clash talk to o sent h) s.indexes.listed p.replaced (λ i q. q) l.index l.text l.there in
      let says = put_says p.packs (trace_of talk) s.listed put.0 l.index l.text fact put.1 l.says in
      contains_flat (λ (listed : PackFacts). listed.facts) p.packs says.0 fact says.1 says.2

  row_there : (row : Row) → Contains s.rows row → (x : List ℕ) × (to.objects Kind.Snapshot row.0 ≡ Some x) × IsSnapshotText x row.1
  row_there row among =
      let is : IsReadRow (trace_of talk) row = each_contained (IsReadRow (trace_of talk)) s.rows row s.snapshots.each among in
      (is.0, ⊎_elim (λ there. there) (λ d. absurd (no_delete who from start Sent clash talk to o sent h sound row.0 d)) (told.got Kind.Snapshot row.0 is.0 is.1.0), is.2)

  is_needed : (fact : Fact) → IsListedIn to.objects fact → IsReachedIn to.objects fact.kind fact.name
  is_needed fact l =
      let n : IsNeededBy s.rows s.covered.texts fact.kind fact.name = s.covered.just fact (in_packs fact l) in
      let there = row_there n.row n.among in
      let snapshot = sound.snapshots n.row.0 there.0 there.1 in
      let one : snapshot.snapshot ≡ n.row.1 = snapshot_texts_one there.0 snapshot.snapshot n.row.1 snapshot.reads there.2 in
      let whole : (k : BlobKind) (m : Name) → Reach n.row.1.version (IsHeld to.objects) n.row.1.tree k m → HasPair (IsHeld to.objects) k m =
      subst (λ (z : Snapshot). (k : BlobKind) (m : Name) → Reach z.version (IsHeld to.objects) z.tree k m → HasPair (IsHeld to.objects) k m) one snapshot.is_whole in
      record {
        name = n.row.0;
        text = there.0;
        snapshot = n.row.1;
        there = there.1;
        reads = there.2;
        reaches = reach_within n.row.1.version (IsHeld to.objects) (tree_blobs s.covered.texts)
            (λ k x y held tree same. sym (trees_agree who from start Sent clash talk to o sent h sound s.rows p.packs s.covered k y x tree held (sym same)))
            greatest_depth n.row.1.tree fact.kind fact.name (λ m r. whole Tree m r) n.reaches;
      }

  is_given : (k : BlobKind) (n : Name) → IsReachedIn to.objects k n → (fact : Fact) × IsListedIn to.objects fact × (fact.kind ≡ k) × (fact.name ≡ n)
  is_given k n r =
      let snapshot = sound.snapshots r.name r.text r.there in
      let one : snapshot.snapshot ≡ r.snapshot = snapshot_texts_one r.text snapshot.snapshot r.snapshot snapshot.reads r.reads in
      let whole : (j : BlobKind) (m : Name) → Reach r.snapshot.version (IsHeld to.objects) r.snapshot.tree j m → HasPair (IsHeld to.objects) j m =
      subst (λ (z : Snapshot). (j : BlobKind) (m : Name) → Reach z.version (IsHeld to.objects) z.tree j m → HasPair (IsHeld to.objects) j m) one snapshot.is_whole in
      let pair = whole k n r.reaches in
      let held = pair.among in
      (held.fact, record { index = held.index; text = held.text; there = held.listed; says = held.says }, held.of_kind, held.named ∙ pair.named)

  -- ---- packs

  -- each pack that is there is listed by the indexes put
  lists_pack : (n : Name) (x : List ℕ) → to.objects Kind.Pack n ≡ Some x → ListsPack p.packs n
  lists_pack n x there = ⊎_elim
      (λ lists. ⊎_elim (λ l. l)
      (λ (d : DeleteDone (trace_of talk) Kind.Pack n). absurd (either_or who (trace_of talk) Kind.Pack n o (seen.deleted d.0 Kind.Pack n x d.1 there) (d.0, was_asked (trace_of talk) (Ask.Delete d.0 Kind.Pack n) Say.Done d.1)))
      (p.gone n lists))
      (λ put. s.stand (record { name = n; bytes = put.1 }) (asked_put (trace_of talk) put.0 Kind.Pack n put.1 put.2))
      (listed_or_put (AskedToPut (trace_of talk)) (prune_task who) PruneAllows PruneGives Kind.Pack n (trace_of talk) to.objects x o seen p.all there)

  -- an index that is there lists the pack
  record IsIndexFor (listed : PackFacts) : Type 0 where
    index : Name
    text : List ℕ
    packs : List PackFacts
    there : to.objects Kind.Index index ≡ Some text
    reads : IsIndexText text packs
    among : Contains packs listed

  index_for : (listed : PackFacts) → Contains p.packs listed → IsIndexFor listed
  index_for listed among =
      let found = listing_of (trace_of talk) p.packs s.listed listed among in
      let listing : Listing = found.0 in
      let done : IsDone (trace_of talk) listing = found.1 in
      record {
        index = listing.index.name;
        text = listing.index.bytes;
        packs = listing.packs;
        there = put_is_there (AskedToDelete (trace_of talk)) (trace_of talk) to.objects told (stand who from start Sent clash talk to o sent h)
            (λ k n x q. either_or who (trace_of talk) k n o (q.0, x, was_asked (trace_of talk) (Ask.Put q.0 k n x) Say.Done q.1)) Kind.Index listing.index.name listing.index.bytes done.put;
        reads = done.reads;
        among = found.2;
      }

  is_packed : (n : Name) (x : List ℕ) (items : List Item) → to.objects Kind.Pack n ≡ Some x → IsTruePack x items → (place : ℕ) (item : Item) → slice_get items place ≡ Some item → IsListedIn to.objects (fact_at n items place item)
  is_packed n x items there true place item at =
      let l = lists_pack n x there in
      let listed : PackFacts = l.0 in
      let i = index_for listed l.1 in
      let some = s.full listed l.1 in
      let sound_index = sound.indexes i.index i.text i.there in
      let one : sound_index.packs ≡ i.packs = index_texts_one i.text sound_index.packs i.packs sound_index.reads i.reads in
      let has : Contains (facts_in i.packs) some.0 = contains_flat (λ (q : PackFacts). q.facts) i.packs listed some.0 i.among some.1 in
      let pack : some.0.place.pack ≡ n = fact_of_listed i.text i.packs listed some.0 i.reads i.among some.1 ∙ l.2 in
      let e : IsExactPack to.objects sound_index.packs n = subst (λ m. IsExactPack to.objects sound_index.packs m) pack (sound_index.each some.0 (subst (λ (ps : List PackFacts). Contains (facts_in ps) some.0) (sym one) has)) in
      let same : e.bytes ≡ x = same_Some e.bytes x (sym e.there ∙ there) in
      let blobs : e.items ≡ items = packs_one x e.items items (subst (λ b. IsTruePack b e.items) same e.true_pack).pack true.pack in
      let back = (subst (λ (is : List Item). IsExactFor sound_index.packs n is) blobs e.exact (fact_at n items place item)).1 (place, item, at, refl) in
      record { index = i.index; text = i.text; there = i.there; says = record { packs = sound_index.packs; text = sound_index.reads; among = back.0 } }

  pub just_needed : HaveJustWhatIsNeeded to.objects
  just_needed = record {
    needed = is_needed;
    given = is_given;
    once = λ a b l m kind name. facts_one (facts_in p.packs) a b s.covered.once (in_packs a l) (in_packs b m) kind name;
    packed = is_packed;
  }

-- the end of the lock changes no object
unlock_same : (old : Store) (ask : Ask) (say : Say) (new : Store) (token : Token) → ask ≡ Ask.Unlock token → Step old ask say new → new.objects ≡ old.objects
unlock_same old ask say new token q step = elim (step_moves old ask say new step) [
  | inl same ↦ same
  | inr (inl p) ↦ (let asked = p.asked in absurd (cc))
  | inr (inr d) ↦ (let asked = d.asked in absurd (cc))
]

module _ (who : Asker) (from : Store) (start : IsSound from.objects) (Sent : Ask → Type 0) (clash : NoClash (IsSpoken (λ x. ⊥) from Sent)) (packs bytes : ℕ) where
  left_by : (talk : Talk) (to : Store) → Obeys (prune_task who) PruneAllows PruneGives (trace_of talk) → ((ask : Ask) → WasAsked (trace_of talk) ask → Sent ask) → Led from talk to → IsPruned (before_unlock (trace_of talk)) packs bytes
      → HaveJustWhatIsNeeded to.objects
  left_by [] to o sent h p = just_needed who from start Sent clash [] to o sent h packs bytes p
  left_by (turn ∷ talk) to o sent h p = ⊎_elim
      (λ same. just_needed who from start Sent clash (turn ∷ talk) to o sent h packs bytes (subst (λ (es : Trace). IsPruned es packs bytes) same p))
      (λ u.
      let before = just_needed who from start Sent clash talk h.0 o.3 (λ ask w. sent ask (inr w)) h.1 packs bytes (subst (λ (es : Trace). IsPruned es packs bytes) u.2 p) in
      subst HaveJustWhatIsNeeded (sym (unlock_same h.0 turn.request.ask turn.reply.say to u.0 u.1 h.2.step)) before)
      (unlock_or turn.request.ask (trace_of (turn ∷ talk)) (trace_of talk))

all_sent : (es : Trace) (next : Option Request) (ask : Ask) → WasAsked es ask → IsSent es next ask
all_sent es None ask w = w
all_sent es (Some request) ask w = inr w

pub prune_leaves : PruneLeavesWhatIsNeeded
prune_leaves who from to failed failing talk next packs bytes sound apart ran is =
    left_by who from sound (IsSent (trace_of talk) next) apart packs bytes talk to is.obeys (all_sent (trace_of talk) next) (led from talk to ran.run) (is.concluded (Outcome.Pruned packs bytes) refl).1
