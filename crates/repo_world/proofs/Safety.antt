-- The bag gives safety.
use Rattle.std.proofs.Common.{◌≡◌, ℕ, List, [], refl, sym, ◌∙◌, ap, subst, Some, inl, inr}
use Rattle.std.proofs.lemmas.Option.{same_Some}
use Rattle.repo_name.specs.declared.kinds.BlobKind.{BlobKind}
use Rattle.repo_name.specs.declared.kinds.Kind.{Kind}
use Rattle.repo_name.specs.declared.names.Name.{Name}
use Rattle.repo_name.specs.declared.tokens.Token.{Token}
use Rattle.repo_wire.specs.declared.messages.Ask.{Ask}
use Rattle.repo_wire.specs.declared.messages.Say.{Say}
use Rattle.repo_pack.specs.PackLayout.{Item}
use Rattle.repo_tree.specs.Parts.{Blobs}
use Rattle.repo_tree.specs.Spelling.{Spells}
use Rattle.repo_tree.specs.SnapshotText.{IsSnapshotText}
use Rattle.repo_tree.specs.declared.entries.Entry.{Entry}
use Rattle.repo_tree.specs.declared.snapshots.Snapshot.{Snapshot}
use Rattle.repo_tree.proofs.SpellingLemmas.{spells_once}
use Rattle.repo_tree.proofs.SnapshotLemmas.{snapshot_texts_one}
use Rattle.repo_session.specs.declared.outcomes.Outcome.{Outcome}
use Rattle.repo_session.specs.Rebuilding.{rebuilt, AreWhole}
use Rattle.repo_session.specs.Received.{Received}
use Rattle.repo_session.specs.Soundness.{IsHeld}
use Rattle.repo_session.specs.Traces.{emitted_in}
use Rattle.repo_writing.specs.Laws.{blobs_in}
use Rattle.repo_writing.specs.Putting.{PutDone}
use Rattle.repo_world.specs.Bag.{AskedAt, HasBag}
use Rattle.repo_world.specs.Clients.{handed_by, MadeOf, task_of}
use Rattle.repo_world.specs.Duties.{GivesAny, HasGivenBack, MayPutSnapshot, Owes, Tells}
use Rattle.repo_world.specs.Safe.{IsPutBy, IsAsked, IsForgotten, IsThereOrAsked, IsThereOrForgotten, Took, Handed, IsKnown, known_made, HasNoClash, IsSafe, HandedIsOne, known_spoken, by_put}
use Rattle.repo_world.specs.World.{World, client}
use Rattle.repo_world.proofs.Knowing.{sent_now, put_named, put_took, held_known, received_known, owner_of}
use Rattle.repo_world.proofs.Later.{handed_still, made_still}
use Rattle.repo_world.proofs.Sending.{before, dutiful, own_lock, sent_as_asked}
use Rattle.repo_world.specs.declared.jobs.Job.{Job}

-- where a snapshot's text comes from: client k, a backup that was handed these entries, made it, and its blobs
pub record Source (w : World) (k : ℕ) (x : List ℕ) (entries : List Entry) : Type 0 where
  pub handed : handed_by (client w k).job (client w k).trace ≡ Some entries
  pub snapshot : Snapshot
  pub reads : IsSnapshotText x snapshot
  pub took : Took w k snapshot.token
  pub host_is : snapshot.host ≡ (client w k).who.host
  pub time_is : snapshot.time ≡ (client w k).who.time
  pub items : List Item
  pub made : (b : BlobKind) (y : List ℕ) → blobs_in items b y → MadeOf (client w k).job (client w k).trace y
  pub spells : Spells snapshot.version (blobs_in items) snapshot.tree [] entries

module _ (w : World) (bag : HasBag w) (clash : HasNoClash w) where
  -- ---- where snapshots come from

  made_by : (x : List ℕ) (n : Name) (k q : ℕ) (t : Token) → AskedAt (client w k) q (Ask.Put t Kind.Snapshot n x) → (entries : List Entry) × Source w k x entries
  made_by x n k q t h =
      let s = sent_now w bag k q (Ask.Put t Kind.Snapshot n x) h in
      let r : MayPutSnapshot (client w k).job s.older t x = s.permitted tt in
      let lock = own_lock (task_of (client w k).job (client w k).who) (Owes (client w k).job) GivesAny s.older r.row Say.Done s.obeys r.locked in (
        r.entries,
        record {
          handed = handed_still (client w k).job s.older (client w k).trace s.since (bag.taken k) r.all ∙ r.handed;
          snapshot = r.snapshot;
          reads = r.reads;
          took = subst (Took w k) (sym r.token_is) (put_took w bag k q t Kind.Snapshot n x h);
          host_is = r.host_is ∙ lock.0;
          time_is = r.time_is ∙ lock.1;
          items = r.items;
          made = λ b y among. made_still (client w k).job s.older (client w k).trace s.within s.since (bag.taken k) r.all y (r.made b y among);
          spells = r.spells;
        },
      )

  source_of : (n : Name) (x : List ℕ) → (p : IsPutBy w Kind.Snapshot n x) → (entries : List Entry) × Source w p.by x entries
  source_of n x p = made_by x n p.by p.request.sequence p.token (subst (λ a. AskedAt (client w p.by) p.request.sequence a) p.asks (bag.asked p.by p.request p.message))

  handed_of : (n : Name) (x : List ℕ) (entries : List Entry) (p : IsPutBy w Kind.Snapshot n x) → Source w p.by x entries → Handed w n entries
  handed_of n x entries p s = record { text = x; put = p; snapshot = s.snapshot; reads = s.reads; took = s.took; handed = s.handed; host_is = s.host_is; time_is = s.time_is }

  source_known : (k : ℕ) (x : List ℕ) (own : List Entry) (s : Source w k x own) (b : BlobKind) (y : List ℕ) → blobs_in s.items b y → IsKnown w y
  source_known k x own s b y h = known_made k (s.made b y h)

  -- in each set of known blobs in which a snapshot spells anything, it spells what its source was handed
  same_entries : (k : ℕ) (x : List ℕ) (own : List Entry) (s : Source w k x own) (B : Blobs) → ((k : BlobKind) (y : List ℕ) → B k y → IsKnown w y) → (snapshot : Snapshot) (entries : List Entry) → IsSnapshotText x snapshot → Spells snapshot.version B snapshot.tree [] entries → own ≡ entries
  same_entries k x own s B known snapshot entries reads spells =
      let one : s.snapshot ≡ snapshot = snapshot_texts_one x s.snapshot snapshot s.reads reads in
      spells_once snapshot.version (blobs_in s.items) B (λ i y z a b. clash y z (source_known k x own s i y a) (known i z b)) _ snapshot.tree [] own entries
      (subst (λ (r : Snapshot). Spells r.version (blobs_in s.items) r.tree [] own) one s.spells) spells

  -- ---- what a complete restore gave

  restored_by : (k : ℕ) (s : Name) → HasGivenBack (client w k).trace s → Handed w s (rebuilt (emitted_in (client w k).trace)) × AreWhole (emitted_in (client w k).trace)
  restored_by k s h =
      let es = (client w k).trace in
      let x = h.found.0 in
      let snapshot = h.found.1 in
      let put : IsPutBy w Kind.Snapshot s x = (bag.told k (Ask.Get Kind.Snapshot s) (Say.Bytes x) h.found.2.0).0.got_put Kind.Snapshot s x refl refl in
      let source = source_of s x put in
      let spelled : Spells snapshot.version (Received es) snapshot.tree [] (rebuilt (emitted_in es)) =
      subst (λ (v : ℕ). Spells v (Received es) snapshot.tree [] (rebuilt (emitted_in es))) (sym h.found.4)
      (subst (λ (t : Name). Spells h.version (Received es) t [] (rebuilt (emitted_in es))) (sym h.found.5) h.spells) in
      let same = same_entries put.by x source.0 source.1 (Received es) (received_known w bag k es (λ ask say h. h)) snapshot (rebuilt (emitted_in es)) h.found.3 spelled in
      (subst (λ (l : List Entry). Handed w s l) same (handed_of s x source.0 put source.1), h.whole)

  restored_is : (k : ℕ) (s : Name) (count : ℕ) → (client w k).job ≡ Job.Restore s → (client w k).outcome ≡ Some (Outcome.Complete count) → Handed w s (rebuilt (emitted_in (client w k).trace)) × AreWhole (emitted_in (client w k).trace)
  restored_is k s count job outcome =
      restored_by k s (subst (λ (b : Job). Tells b (client w k).trace (Outcome.Complete count)) job ((dutiful (client w k) (bag.behave k)).concluded (Outcome.Complete count) outcome))

  -- ---- what is reported as stored

  stored_put : (k : ℕ) (s : Name) (x : List ℕ) → PutDone (client w k).trace Kind.Snapshot s x → IsThereOrAsked w s
  stored_put k s x (t, done) = (bag.told k (Ask.Put t Kind.Snapshot s x) Say.Done done).0.stored t s x refl refl

  stored_is : (k : ℕ) (s : Name) (blobs bytes : ℕ) → (client w k).outcome ≡ Some (Outcome.Stored s blobs bytes) → (x : List ℕ) × PutDone (client w k).trace Kind.Snapshot s x
  stored_is k s blobs bytes outcome = (dutiful (client w k) (bag.behave k)).concluded (Outcome.Stored s blobs bytes) outcome

  spelled_in : (s : Name) (x : List ℕ) (snapshot : Snapshot) → w.store.objects Kind.Snapshot s ≡ Some x → IsSnapshotText x snapshot
      → (entries : List Entry) × (handed : Handed w s entries) × (handed.text ≡ x) × Spells snapshot.version (IsHeld w.store.objects) snapshot.tree [] entries
  unfolding handed_of
  spelled_in s x snapshot here reads =
      let put = bag.origin Kind.Snapshot s x here in
      let source = source_of s x put in
      let h = bag.sound.snapshots s x here in
      let same : source.0 ≡ h.entries = same_entries put.by x source.0 source.1 (IsHeld w.store.objects) (held_known w bag) h.snapshot h.entries h.reads h.spells in
      let one : h.snapshot ≡ snapshot = snapshot_texts_one x h.snapshot snapshot h.reads reads in
      let handed = subst (λ (es : List Entry). (handed : Handed w s es) × (handed.text ≡ x)) same (handed_of s x source.0 put source.1, refl) in
      (h.entries, handed.0, handed.1, subst (λ (z : Snapshot). Spells z.version (IsHeld w.store.objects) z.tree [] h.entries) one h.spells)

  -- ---- what was handed is one list

  pub handed_is_one : HandedIsOne w
  handed_is_one s some others a b =
      let texts : a.text ≡ b.text = clash a.text b.text (known_spoken (by_put Kind.Snapshot s a.put)) (known_spoken (by_put Kind.Snapshot s b.put)) (put_named w bag Kind.Snapshot s a.text a.put ∙ sym (put_named w bag Kind.Snapshot s b.text b.put)) in
      let snapshots : a.snapshot ≡ b.snapshot = snapshot_texts_one b.text a.snapshot b.snapshot (subst (λ (x : List ℕ). IsSnapshotText x a.snapshot) texts a.reads) b.reads in
      let by : a.put.by ≡ b.put.by = owner_of w bag a.put.by b.put.by b.snapshot.token (subst (λ (z : Snapshot). Took w a.put.by z.token) snapshots a.took) b.took in
      same_Some some others (sym a.handed ∙ (ap (λ k. handed_by (client w k).job (client w k).trace) by ∙ b.handed))

  -- the snapshot that a backup reports is of what it was handed itself
  own_source : (k : ℕ) (s : Name) (x : List ℕ) (entries : List Entry) → handed_by (client w k).job (client w k).trace ≡ Some entries → PutDone (client w k).trace Kind.Snapshot s x → Handed w s entries
  own_source k s x entries same (t, done) =
      let q = sent_as_asked (client w k) (Ask.Put t Kind.Snapshot s x) Say.Done done in
      let sent = bag.sent k q.0 (Ask.Put t Kind.Snapshot s x) q.1 in
      let source = made_by x s k q.0 t q.1 in
      let own : source.0 ≡ entries = same_Some source.0 entries (sym source.1.handed ∙ same) in
      subst (λ (es : List Entry). Handed w s es) own (handed_of s x source.0 (record { by = k; request = sent.0; token = t; message = sent.1; asks = sent.2 }) source.1)

  -- ---- who asked for a deletion

  asked_by : (s : Name) → IsAsked w s → IsForgotten w s
  asked_by s a =
      let c = client w a.by in
      let asked = subst (λ (x : Ask). AskedAt c a.request.sequence x) a.asks (bag.asked a.by a.request a.message) in
      let b = before c a.request.sequence (Ask.Delete a.token Kind.Snapshot s) (dutiful c (bag.behave a.by)) asked in
      let owed : Owes c.job b.older (Ask.Delete a.token Kind.Snapshot s) = b.permitted tt in
      record { asked = a; choice = owed.0; forgets = owed.1; later = b.later; before = b.older; trace = b.trace; at = b.at; chosen = owed.2 }

  there_or_forgotten : (s : Name) → IsThereOrAsked w s → IsThereOrForgotten w s
  there_or_forgotten s (inl there) = inl there
  there_or_forgotten s (inr a) = inr (asked_by s a)

  pub bag_safe : IsSafe w
  bag_safe = record {
    sound = bag.sound;
    snapshots = spelled_in;
    restored = restored_is;
    stored = λ k s blobs bytes outcome. record {
      there = (let put = stored_is k s blobs bytes outcome in there_or_forgotten s (stored_put k s put.0 put.1));
      own = λ entries same. (let put = stored_is k s blobs bytes outcome in own_source k s put.0 entries same put.1);
    };
  }
