-- What a backup stored which fed itself.
use Rattle.std.proofs.Common.{◌≡◌, ◌⊎◌, ◌∷◌, [], ℕ, true, List, Option, Some, None, Contains, refl, sym, subst, inl, inr}
use Rattle.repo_name.specs.Naming as naming
use Rattle.repo_name.specs.declared.kinds.BlobKind.{BlobKind}
use Rattle.repo_name.specs.declared.kinds.Kind.{Kind}
use Rattle.repo_name.specs.declared.names.Name.{Name}
use Rattle.repo_name.specs.declared.tokens.Token.{Token}
use Rattle.repo_pack.specs.PackLayout.{item_of}
use Rattle.repo_tree.specs.Spelling.{greatest_depth}
use Rattle.repo_tree.proofs.SpellingLemmas.{spells_move}
use Rattle.repo_wire.specs.declared.messages.Ask.{Ask}
use Rattle.repo_wire.specs.declared.messages.Say.{Say}
use Rattle.repo_session.specs.Askers.{Asker}
use Rattle.repo_session.specs.Feeds.{Fed}
use Rattle.repo_session.specs.Order.{Task, IsWork, Obeys}
use Rattle.repo_session.specs.Traces.{Trace, Exchanged, fed_in, IsGiven}
use Rattle.repo_session.specs.declared.outcomes.Outcome.{Outcome}
use Rattle.repo_writing.specs.Putting.{PutDone, IsIndexed}
use Rattle.repo_backup.specs.Folders.{blobs_of}
use Rattle.repo_backup.specs.Items.{place_of, spelled_by}
use Rattle.repo_backup.specs.PieceStates.{piece_task}
use Rattle.repo_backup.proofs.Spelling.{spelled_are_handed}
use Rattle.repo_feeding.proofs.Among.{before_exchanged}
use Rattle.repo_feeding.specs.FedLaws.{IsIndexedBlob, AreOfSource, IsSpelledSnapshot, StoredIsSpelled}
use Rattle.repo_feeding.specs.FedRules.{IsAsTold, FedAllows}
use Rattle.repo_feeding.specs.Unseen.{exchanged_so}

-- what was asked was allowed after some of the exchanges, whose exchanges are among all
asked_at : (task : Task) (Allows : Trace → Ask → Type 0) (es : Trace) (token : Token) (k : Kind) (n : Name) (x : List ℕ) (say : Say) → Obeys task Allows (λ before e. ⊥) es → Exchanged es (Ask.Put token k n x) say
    → (older : Trace) × Allows older (Ask.Put token k n x) × ((ask : Ask) (said : Say) → Exchanged older ask said → Exchanged es ask said)
asked_at task Allows [] token k n x say h was = absurd was
asked_at task Allows (e ∷ es) token k n x say h (inl (is, said)) = (es, subst (λ ask. Allows es ask) is (h.1 (subst (λ ask. IsWork ask) (sym is) tt)), λ ask said was. inr was)
asked_at task Allows (e ∷ es) token k n x say h (inr was) =
    let p = asked_at task Allows es token k n x say h.3 was in
    (p.0, p.1, λ ask said there. inr (p.2 ask said there))

-- ---- what was read and put, among more exchanges

module _ (fs es : Trace) (on : (ask : Ask) (say : Say) → Exchanged fs ask say → Exchanged es ask say) where
  pub given_on : (k : BlobKind) (n : Name) → IsGiven fs k n → IsGiven es k n
  given_on k n h =
      let read = h.1 in
      (h.0, record { index = read.index; text = read.text; read = (on (Ask.Get Kind.Index read.index) (Say.Bytes read.text) read.read.0, read.read.1); says = read.says }, h.2, h.3)

  pub indexed_on : (k : BlobKind) (n : Name) → IsIndexed fs k n → IsIndexed es k n
  indexed_on k n h = record {
    index = h.index;
    text = h.text;
    fact = h.fact;
    put = (h.put.0, on (Ask.Put h.put.0 Kind.Index h.index h.text) Say.Done h.put.1);
    says = h.says;
    kind = h.kind;
    name = h.name;
  }

  blob_on : (k : BlobKind) (x : List ℕ) → IsGiven fs k (naming.name x) ⊎ IsIndexed fs k (naming.name x) → IsIndexedBlob es k x
  blob_on k x (inl h) = inl (given_on k (naming.name x) h)
  blob_on k x (inr h) = inr (indexed_on k (naming.name x) h)

-- ---- the law

of_source : (whole : Option (List Fed)) (fs : Trace) → IsAsTold whole (place_of (fed_in fs)) → (place_of (fed_in fs)).over ≡ true → AreOfSource whole (spelled_by (fed_in fs))
of_source None fs told over = tt
of_source (Some whole) fs told over = told over

-- a snapshot that was put is spelled
put_is_spelled : (who : Asker) (whole : Option (List Fed)) (es : Trace) (name : Name) (text : List ℕ) → Obeys (piece_task who) (FedAllows who whole) (λ before e. ⊥) es → PutDone es Kind.Snapshot name text → IsSpelledSnapshot whole es name
unfolding greatest_depth
put_is_spelled who whole es name text obeys put =
    let p = asked_at (piece_task who) (FedAllows who whole) es put.0 Kind.Snapshot name text Say.Done obeys put.1 in
    let fs = p.1.0 in
    let so = p.1.1 in
    let rule = p.1.3 in
    let over = rule.0 in
    let taken = rule.1 in
    let snap = rule.2 in
    let on : (ask : Ask) (say : Say) → Exchanged fs ask say → Exchanged es ask say = λ ask say was. p.2 ask say (subst (λ t. Exchanged t ask say) so.same (exchanged_so fs ask say was)) in
    record {
      text = text;
      snapshot = snap.snapshot;
      entries = spelled_by (fed_in fs);
      put = put;
      reads = snap.reads;
      handed = spelled_are_handed (fed_in fs) taken;
      spells = spells_move snap.snapshot.version (λ k y. Contains (blobs_of snap.cut.config.version snap.folder) (item_of k y)) (IsIndexedBlob es) greatest_depth snap.snapshot.tree [] (spelled_by (fed_in fs)) snap.spells
          (λ k n r x among is. blob_on fs es on k x (snap.given (item_of k x) among));
      of_source = of_source whole fs so.told over;
    }

pub stored_is_spelled : StoredIsSpelled
stored_is_spelled who whole next es name blobs bytes h =
    let stored = (h.concluded (Outcome.Stored name blobs bytes) refl) in
    let fs = stored.0 in
    let done = stored.2.put in
    put_is_spelled who whole es name stored.2.text h.obeys
    (done.0, before_exchanged es (Ask.Put done.0 Kind.Snapshot name stored.2.text) Say.Done (subst (λ t. Exchanged t (Ask.Put done.0 Kind.Snapshot name stored.2.text) Say.Done) stored.1.same (exchanged_so fs (Ask.Put done.0 Kind.Snapshot name stored.2.text) Say.Done done.1)))
