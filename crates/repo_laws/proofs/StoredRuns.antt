-- What a restore gives out of a snapshot that a backup reported as stored.
use Rattle.std.proofs.Common.{◌≡◌, ◌⊎◌, ◌++◌, ◌∷◌, [], ℕ, Bool, false, List, Option, Some, refl, sym, ap, subst, inl, inr, ⊎_elim, append-nil, ◌∙◌, Contains}
use Rattle.std.proofs.lemmas.Option.{same_Some}
use Rattle.repo_name.specs.Naming as naming
use Rattle.repo_name.specs.declared.kinds.BlobKind.{BlobKind}
use Rattle.repo_name.specs.declared.kinds.Kind.{Kind}
use Rattle.repo_name.specs.declared.names.Name.{Name}
use Rattle.repo_name.specs.declared.tokens.Token.{Token}
use Rattle.repo_wire.specs.declared.messages.Ask.{Ask}
use Rattle.repo_wire.specs.declared.messages.Request.{Request}
use Rattle.repo_wire.specs.declared.messages.Say.{Say}
use Rattle.repo_pack.specs.PackLayout.{item_of}
use Rattle.repo_tree.specs.Laws.{Agree}
use Rattle.repo_tree.specs.Parts.{Blobs}
use Rattle.repo_tree.specs.Spelling.{Spells}
use Rattle.repo_tree.specs.SnapshotText.{IsSnapshotText}
use Rattle.repo_tree.specs.declared.entries.Entry.{Entry}
use Rattle.repo_tree.specs.declared.configs.Config.{Config}
use Rattle.repo_tree.specs.declared.snapshots.Snapshot.{Snapshot}
use Rattle.repo_tree.proofs.SnapshotLemmas.{snapshot_texts_one}
use Rattle.repo_tree.proofs.SpellingLemmas.{spells_once}
use Rattle.repo_store.specs.Stores.{Store, Objects}
use Rattle.repo_session.specs.declared.emissions.Emission.{Emission}
use Rattle.repo_session.specs.declared.outcomes.Outcome.{Outcome}
use Rattle.repo_session.specs.Alone.{WasThere, IsSent, IsSpoken, NoClash}
use Rattle.repo_session.specs.Askers.{Asker}
use Rattle.repo_session.specs.Clients.{exchange}
use Rattle.repo_session.specs.Ends.{before_unlock, without_unlock}
use Rattle.repo_session.specs.Order.{IsPermitted, Obeys}
use Rattle.repo_session.specs.Rebuilding.{rebuilt, Follow}
use Rattle.repo_session.specs.Soundness.{IsSound}
use Rattle.repo_session.specs.Talks.{Turn, Talk, trace_of, given_in, TalkRan}
use Rattle.repo_session.specs.Traces.{Exchange, Trace, WasAsked, emitted_in}
use Rattle.repo_session.proofs.Concluding.{exchanged_before, was_put}
use Rattle.repo_session.specs.Trees.{HasRoot}
use Rattle.repo_session.proofs.Growing.{Led, led, Shares}
use Rattle.repo_session.proofs.Taking.{given_is}
use Rattle.repo_session.proofs.Unchanging.{same_run, shares_run}
use Rattle.repo_backup.specs.BackupStates.{backup_task}
use Rattle.repo_backup.specs.Folders.{Folder, blobs_of}
use Rattle.repo_backup.specs.Laws.{AreApart, IsBackup, IsMadeOf}
use Rattle.repo_backup.specs.Rules.{IsMade, SnapshotRule, BackupAllows, BackupGives}
use Rattle.repo_session.proofs.Spoken.{was_asked}
use Rattle.repo_backup.proofs.LoneRuns.{lone, covers_all}
use Rattle.repo_backup.proofs.Ruling.{is_made_later}
use Rattle.repo_laws.specs.Laws.{RestoredIsFirst, RestoredIsHanded}
use Rattle.repo_session.specs.Received.{Received}
use Rattle.repo_restore.specs.Laws.{BeginsSnapshot, AreFirstOf}
use Rattle.repo_restore.proofs.Firsts.{first_is_of_all}
use Rattle.repo_restore.proofs.Replied.{begun_of}
use Rattle.repo_restore.proofs.Advancing.{only_reads}
use Rattle.repo_restore.specs.Restoring.{Wish, restore_task, IsRestored, RestoreAllows, RestoreGives}
use Rattle.repo_session.specs.Ends.{AsksPart}

-- the rule under which a snapshot was put, and what is made by then
pub record PutThen (entries : List Entry) (es : Trace) (token : Token) (x : List ℕ) : Type 0 where
  pub older : Trace
  pub rule : SnapshotRule entries older token x
  pub made : (folder : Folder) (m : IsMade entries older folder) → (k : IsMade entries es folder) × (k.config ≡ m.config)

put_then : (who : Asker) (entries : List Entry) (es : Trace) (token : Token) (n : Name) (x : List ℕ) → Obeys (backup_task who) (BackupAllows entries) (BackupGives entries) es → WasAsked es (Ask.Put token Kind.Snapshot n x)
    → PutThen entries es token x
put_then who entries [] token n x o h = absurd h
put_then who entries (e ∷ es) token n x o (inl here) = record { older = es; rule = subst (λ a. IsPermitted (BackupAllows entries) es a) here o.1 tt; made = λ folder m. (is_made_later entries e es folder m, refl) }
put_then who entries (e ∷ es) token n x o (inr before) =
    let p = put_then who entries es token n x o.3 before in
    record { older = p.older; rule = p.rule; made = λ folder m. (let k = p.made folder m in (is_made_later entries e es folder k.0, k.1)) }

-- what a snapshot in the store was made from
pub record IsMadeFrom (entries : List Entry) (Made : List ℕ → Type 0) (objects : Objects) (name : Name) : Type 0 where
  pub text : List ℕ
  pub token : Token
  pub there : objects Kind.Snapshot name ≡ Some text
  pub older : Trace
  pub rule : SnapshotRule entries older token text
  pub made : (k : BlobKind) (x : List ℕ) → Contains (blobs_of rule.cut.config.version rule.folder) (item_of k x) → Made x

module _ (w : Wish) (entries : List Entry) (from mid : Store) (Made : List ℕ → Type 0) (Sent : Ask → Type 0) (clash : NoClash (IsSpoken Made from Sent))
    (there : (k : Kind) (n : Name) (x : List ℕ) → mid.objects k n ≡ Some x → WasThere from Sent k x) (names : (k : Kind) (n : Name) (x : List ℕ) → mid.objects k n ≡ Some x → naming.name x ≡ n) (source : IsMadeFrom entries Made mid.objects w.snapshot) where
  -- what was received agrees with what was made
  agrees : (talk : Talk) (to : Store) → Shares mid (trace_of talk) to → to.objects ≡ mid.objects → Agree (λ k y. Contains (blobs_of source.rule.cut.config.version source.rule.folder) (item_of k y)) (Received (trace_of talk))
  agrees talk to shares same k x y made r named =
      let first : (j : Kind) (n : Name) (z : List ℕ) → to.objects j n ≡ Some z → mid.objects j n ≡ Some z = λ j n z p. sym (ap (λ (s : Objects). s j n) same) ∙ p in
      let pack = shares.ranged r.fact.place.pack r.fact.place.offset r.fact.place.length y r.replied in
      let index = first Kind.Index r.given.index r.given.text (shares.got Kind.Index r.given.index r.given.text r.given.read.0) in
      clash x y (inr (inr (source.made k x made)))
      (inr (inl (record {
        index = r.given.text;
        fact = r.fact;
        pack = pack.0;
        listed = there Kind.Index r.given.index r.given.text index;
        says = r.given.says;
        there = there Kind.Pack r.fact.place.pack pack.0 (first Kind.Pack r.fact.place.pack pack.0 pack.1);
        named = names Kind.Pack r.fact.place.pack pack.0 (first Kind.Pack r.fact.place.pack pack.0 pack.1);
        stands = pack.2;
      })))
      named

  -- what the backup made
  abbrev Makes : Blobs
  Makes = λ k y. Contains (blobs_of source.rule.cut.config.version source.rule.folder) (item_of k y)

  -- in what it made the snapshot spells what was handed in, and what was received agrees with that
  spelled : (talk : Talk) (to : Store) → Obeys (restore_task w) (RestoreAllows w.snapshot) (RestoreGives w.snapshot) (trace_of talk) → Led mid talk to → (version : ℕ) (root : Name) → HasRoot (trace_of talk) w.snapshot version root
      → Spells version Makes root [] entries × Agree Makes (Received (trace_of talk))
  spelled talk to o h version root found =
      let shares = shares_run (restore_task w) (RestoreAllows w.snapshot) (RestoreGives w.snapshot) (λ fs a x. only_reads w.snapshot fs a x) mid talk to o h in
      let same = same_run (restore_task w) (RestoreAllows w.snapshot) (RestoreGives w.snapshot) (λ fs a x. only_reads w.snapshot fs a x) mid talk to o h in
      let got = sym (ap (λ (s : Objects). s Kind.Snapshot w.snapshot) same) ∙ shares.got Kind.Snapshot w.snapshot found.0 found.2.0 in
      let one : source.text ≡ found.0 = same_Some source.text found.0 (sym source.there ∙ got) in
      let snapshot : source.rule.snapshot ≡ found.1 = snapshot_texts_one found.0 source.rule.snapshot found.1 (subst (λ (x : List ℕ). IsSnapshotText x source.rule.snapshot) one source.rule.reads) found.3 in
      let spells : Spells found.1.version Makes found.1.tree [] entries = subst (λ (s : Snapshot). Spells s.version Makes s.tree [] entries) snapshot source.rule.spells in
      (subst (λ v. Spells v Makes root [] entries) found.4 (subst (λ t. Spells found.1.version Makes t [] entries) found.5 spells), agrees talk to shares same)

  -- what was given out is what was handed in
  handed : (talk : Talk) (to : Store) (count : ℕ) → Obeys (restore_task w) (RestoreAllows w.snapshot) (RestoreGives w.snapshot) (trace_of talk) → Led mid talk to → IsRestored (trace_of talk) w.snapshot count → rebuilt (emitted_in (trace_of talk)) ≡ entries
  handed talk to count o h r =
      let made = spelled talk to o h r.0 r.1 r.2 in
      sym (spells_once r.0 Makes (Received (trace_of talk)) made.1 _ r.1 [] entries (rebuilt (emitted_in (trace_of talk))) made.0 r.3)

  -- or the first of it
  begun_handed : (talk : Talk) (to : Store) (given : List Emission) → Obeys (restore_task w) (RestoreAllows w.snapshot) (RestoreGives w.snapshot) (trace_of talk) → Led mid talk to → BeginsSnapshot (trace_of talk) w.snapshot given
      → (within : Bool) × Follow false given within × AreFirstOf within (rebuilt given) entries
  begun_handed talk to given o h (inl none) = subst (λ (g : List Emission). (within : Bool) × Follow false g within × AreFirstOf within (rebuilt g) entries) (sym none) (false, refl, (entries, refl))
  begun_handed talk to given o h (inr begun) =
      let made = spelled talk to o h begun.0 begun.1 begun.2 in
      let begins = begun.3 in
      (begins.0, begins.1, first_is_of_all (Received (trace_of talk)) Makes begun.0 (λ k x y r m same. sym (made.1 k y x m r (sym same))) begun.1 [] begins.0 (rebuilt given) entries begins.2 made.0)

  pub first_handed : (talk : Talk) (to : Store) → Obeys (restore_task w) (RestoreAllows w.snapshot) (RestoreGives w.snapshot) (trace_of talk) → Led mid talk to
      → (within : Bool) × Follow false (given_in talk) within × AreFirstOf within (rebuilt (given_in talk)) entries
  first_handed talk to o h = begun_handed talk to (given_in talk) o h (subst (λ given. BeginsSnapshot (trace_of talk) w.snapshot given) (sym (given_is talk)) (begun_of w (trace_of talk) o))

  -- nothing is given out on the end of the lock
  nothing_given : (e : Exchange) (fs : Trace) (token : Token) → e.ask ≡ Ask.Unlock token → (e.emitted ≡ []) ⊎ RestoreGives w.snapshot fs e → emitted_in (e ∷ fs) ≡ emitted_in fs
  nothing_given e fs token q (inl none) = ap (λ x. emitted_in fs ++ x) none ∙ append-nil (emitted_in fs)
  nothing_given e fs token q (inr gives) = absurd (subst AsksPart q gives.0)

  handed_by : (ask : Ask) (turn : Turn) (talk : Talk) (to : Store) (count : ℕ) → turn.request.ask ≡ ask → Obeys (restore_task w) (RestoreAllows w.snapshot) (RestoreGives w.snapshot) (trace_of (turn ∷ talk)) → Led mid (turn ∷ talk) to
      → IsRestored (without_unlock ask (trace_of (turn ∷ talk)) (trace_of talk)) w.snapshot count → rebuilt (emitted_in (trace_of (turn ∷ talk))) ≡ entries
  handed_by (Ask.Unlock token) turn talk to count q o h r =
      ap (λ (x : List Emission). rebuilt x) (nothing_given (exchange turn.request turn.reply turn.emitted) (trace_of talk) token q o.2) ∙ handed talk h.0 count o.3 h.1 r
  handed_by Ask.Ticket turn talk to count q o h r = handed (turn ∷ talk) to count o h r
  handed_by (Ask.Lock row) turn talk to count q o h r = handed (turn ∷ talk) to count o h r
  handed_by (Ask.Refresh token time) turn talk to count q o h r = handed (turn ∷ talk) to count o h r
  handed_by Ask.Locks turn talk to count q o h r = handed (turn ∷ talk) to count o h r
  handed_by (Ask.List k after) turn talk to count q o h r = handed (turn ∷ talk) to count o h r
  handed_by (Ask.Get k n) turn talk to count q o h r = handed (turn ∷ talk) to count o h r
  handed_by (Ask.Range p offset len) turn talk to count q o h r = handed (turn ∷ talk) to count o h r
  handed_by (Ask.Put token k n x) turn talk to count q o h r = handed (turn ∷ talk) to count o h r
  handed_by (Ask.Delete token k n) turn talk to count q o h r = handed (turn ∷ talk) to count o h r
  handed_by (Ask.Upgrade token) turn talk to count q o h r = handed (turn ∷ talk) to count o h r
  handed_by Ask.Config turn talk to count q o h r = handed (turn ∷ talk) to count o h r

  pub handed_all : (talk : Talk) (to : Store) (count : ℕ) → Obeys (restore_task w) (RestoreAllows w.snapshot) (RestoreGives w.snapshot) (trace_of talk) → Led mid talk to → IsRestored (before_unlock (trace_of talk)) w.snapshot count
      → rebuilt (emitted_in (trace_of talk)) ≡ entries
  handed_all [] to count o h r = handed [] to count o h r
  handed_all (turn ∷ talk) to count o h r = handed_by turn.request.ask turn talk to count refl o h r

-- what a backup that reported a snapshot as stored leaves in the store
record IsLeft (entries : List Entry) (from mid : Store) (es : Trace) (next : Option Request) (name : Name) : Type 0 where
  there : (k : Kind) (n : Name) (x : List ℕ) → mid.objects k n ≡ Some x → WasThere from (IsSent es next) k x
  names : (k : Kind) (n : Name) (x : List ℕ) → mid.objects k n ≡ Some x → naming.name x ≡ n
  source : IsMadeFrom entries (IsMadeOf entries es) mid.objects name

left_by : (who : Asker) (entries : List Entry) (from mid : Store) (failed failing : ℕ) (talk : Talk) (next : Option Request) (name : Name) (blobs bytes : ℕ) → IsSound from.objects → TalkRan from failed talk mid failing
    → IsBackup who entries next (Some (Outcome.Stored name blobs bytes)) (trace_of talk) → AreApart entries from (trace_of talk) next → IsLeft entries from mid (trace_of talk) next name
left_by who entries from mid failed failing talk next name blobs bytes sound ran is apart =
    let es : Trace = trace_of talk in
    let knows = lone who entries from sound (IsSent es next) (IsMadeOf entries es) apart talk mid (covers_all entries es next) is.obeys (led from talk mid ran.run) in
    let covers = covers_all entries es next in
    let stored = is.concluded (Outcome.Stored name blobs bytes) refl in
    let put = stored.put in
    let done = exchanged_before es (Ask.Put put.0 Kind.Snapshot name stored.text) Say.Done put.1 in
    let asked = was_asked es (Ask.Put put.0 Kind.Snapshot name stored.text) Say.Done done in
    let found = knows.shares.put put.0 Kind.Snapshot name stored.text done in
    let there : (k : Kind) (n : Name) (x : List ℕ) → mid.objects k n ≡ Some x → WasThere from (IsSent es next) k x = λ k n x p. ⊎_elim (λ old. inl (n, old)) (λ now. inr (now.0, n, covers.sent (Ask.Put now.0 k n x) now.1)) (knows.shares.origin k n x p) in
    let named = (was_put (backup_task who) (BackupAllows entries) (BackupGives entries) es put.0 Kind.Snapshot name stored.text is.obeys asked).0 in
    let one : found.0 ≡ stored.text = apart found.0 stored.text (inl (Kind.Snapshot, there Kind.Snapshot name found.0 found.1)) (inl (Kind.Snapshot, inr (put.0, name, covers.sent (Ask.Put put.0 Kind.Snapshot name stored.text) asked)))
    (knows.sound.named Kind.Snapshot name found.0 found.1 ∙ sym named) in
    let then = put_then who entries es put.0 name stored.text is.obeys asked in
    record {
      there = there;
      names = knows.sound.named;
      source = record {
        text = stored.text;
        token = put.0;
        there = found.1 ∙ ap Some one;
        older = then.older;
        rule = then.rule;
        made = λ k x among. (
            let later = then.made then.rule.folder then.rule.cut in
            record { folder = then.rule.folder; kind = k; cut = later.0; among = subst (λ (c : Config). Contains (blobs_of c.version then.rule.folder) (item_of k x)) (sym later.1) among });
      };
    }

pub restored_handed : RestoredIsHanded
restored_handed who entries from mid to failed failing late last talk talk' next next' name blobs bytes count asker sound ran is apart ran' is' =
    let es : Trace = trace_of talk in
    let l = left_by who entries from mid failed failing talk next name blobs bytes sound ran is apart in
    handed_all (record { who = asker; snapshot = name }) entries from mid (IsMadeOf entries es) (IsSent es next) apart l.there l.names l.source talk' to count is'.obeys (led mid talk' to ran'.run) (is'.concluded (Outcome.Complete count) refl).0

pub restored_first : RestoredIsFirst
restored_first who entries from mid to failed failing late last talk talk' next next' name blobs bytes asker outcome sound ran is apart ran' is' =
    let es : Trace = trace_of talk in
    let l = left_by who entries from mid failed failing talk next name blobs bytes sound ran is apart in
    first_handed (record { who = asker; snapshot = name }) entries from mid (IsMadeOf entries es) (IsSent es next) apart l.there l.names l.source talk' to is'.obeys (led mid talk' to ran'.run)
