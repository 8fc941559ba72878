-- What a restore gives out of a snapshot that a backup reported as stored which fed itself.
use Rattle.std.proofs.Common.{◌≡◌, ◌++◌, ◌∷◌, [], ℕ, Bool, false, List, Option, Some, None, refl, sym, ap, subst, inl, inr, ⊎_elim, ◌∙◌, Contains}
use Rattle.repo_name.specs.Naming as naming
use Rattle.repo_name.specs.declared.kinds.BlobKind.{BlobKind}
use Rattle.repo_name.specs.declared.kinds.Kind.{Kind}
use Rattle.repo_name.specs.declared.names.Name.{Name}
use Rattle.repo_name.specs.declared.tokens.Token.{Token}
use Rattle.repo_pack.specs.PackLayout.{item_of}
use Rattle.repo_tree.specs.declared.entries.Entry.{Entry}
use Rattle.repo_wire.specs.declared.messages.Ask.{Ask}
use Rattle.repo_wire.specs.declared.messages.Request.{Request}
use Rattle.repo_wire.specs.declared.messages.Say.{Say}
use Rattle.repo_store.specs.Stores.{Store}
use Rattle.repo_session.specs.Alone.{RanBy, WasThere, IsSent}
use Rattle.repo_session.specs.Askers.{Asker}
use Rattle.repo_session.specs.Feeds.{Fed}
use Rattle.repo_session.specs.Order.{IsPermitted, Obeys}
use Rattle.repo_session.specs.Rebuilding.{rebuilt, Follow}
use Rattle.repo_session.specs.Soundness.{IsSound}
use Rattle.repo_session.specs.Talks.{Talk, trace_of, given_in, TalkRan}
use Rattle.repo_session.specs.Traces.{Exchange, Trace, WasAsked, emitted_in, fed_in}
use Rattle.repo_session.specs.declared.outcomes.Outcome.{Outcome}
use Rattle.repo_session.proofs.Concluding.{DeletesNothing, exchanged_before, was_put}
use Rattle.repo_session.proofs.Growing.{led, ran_by}
use Rattle.repo_session.proofs.Spoken.{was_asked}
use Rattle.repo_backup.specs.Folders.{blobs_of}
use Rattle.repo_backup.specs.Items.{place_of, spelled_by}
use Rattle.repo_backup.specs.Laws.{AreItemsApart, IsMadeOfItems}
use Rattle.repo_backup.specs.PieceRules.{AreOver, PieceAllows}
use Rattle.repo_backup.specs.PieceStates.{piece_task}
use Rattle.repo_backup.specs.Rules.{SnapshotRule}
use Rattle.repo_backup.proofs.Lone.{PutsRightly}
use Rattle.repo_backup.proofs.LoneRuns.{ArePutRightly, lone_by}
use Rattle.repo_feeding.proofs.Places.{over_more}
use Rattle.repo_feeding.specs.FedLaws.{AreOfSource, StandsAsFed}
use Rattle.repo_feeding.specs.FedRules.{AreWelcome, AreWelcomeOn, IsAsTold}
use Rattle.repo_feeding.specs.Unfed.{unfed}
use Rattle.repo_laws.proofs.StoredRuns.{IsMadeFrom, first_handed, handed_all}
use Rattle.repo_restore.specs.Laws.{AreFirstOf}
use Rattle.repo_laws.specs.Laws.{RestoredIsFed, RestoredIsFirstOfFed}

-- ---- what was sent, and what was made

sent_of : (es : Trace) (next : Option Request) (ask : Ask) → WasAsked es ask → IsSent es next ask
sent_of es None ask h = h
sent_of es (Some request) ask h = inr h

deletes_nothing : DeletesNothing PieceAllows
deletes_nothing es token k n h = h

made_now : (es : Trace) (token : Token) (x : List ℕ) → AreOver es → (rule : SnapshotRule (spelled_by (fed_in es)) es token x) → (k : BlobKind) (y : List ℕ) → Contains (blobs_of rule.cut.config.version rule.folder) (item_of k y) → IsMadeOfItems es y
made_now [] token x over rule k y among = absurd (cc)
made_now (e ∷ es) token x over rule k y among = inl (over, record { folder = rule.folder; kind = k; cut = rule.cut; among = among })

-- all that it puts is right, where what was made of later items may be spoken of, too
rightly : (Made : List ℕ → Type 0) (es : Trace) → ((x : List ℕ) → IsMadeOfItems es x → Made x) → PutsRightly PieceAllows Made es
rightly Made es made = record {
  pack = λ token n x r. (r.items, r.pack);
  index = λ token n x r. r.0;
  snapshot = λ token n x r. (spelled_by (fed_in es), r.2, λ k y among. made y (made_now es token x r.0 r.2 k y among));
}

all_rightly : (Made : List ℕ → Type 0) (es : Trace) → ((x : List ℕ) → IsMadeOfItems es x → Made x) → ArePutRightly PieceAllows Made es
all_rightly Made [] made = rightly Made [] made
all_rightly Made (e ∷ es) made = (rightly Made (e ∷ es) made, all_rightly Made es (λ x m. made x (inr m)))

-- ---- the snapshot that was put

-- the rule under which it was put, of what was fed by then, and of what was made
record PutThen (es : Trace) (token : Token) (x : List ℕ) : Type 0 where
  older : Trace
  over : AreOver older
  rule : SnapshotRule (spelled_by (fed_in older)) older token x
  made : (k : BlobKind) (y : List ℕ) → Contains (blobs_of rule.cut.config.version rule.folder) (item_of k y) → IsMadeOfItems es y
  same : fed_in es ≡ fed_in older

-- what ended was fed no more
none_over : (items : List Fed) (e : Exchange) (es : Trace) → AreWelcomeOn items e.ask e.say e.emitted es → AreOver es → items ++ fed_in es ≡ fed_in es
none_over [] e es welcome over = refl
none_over (item ∷ items) e es welcome over = let ended = over_more items (fed_in es) over in let open_still = welcome.1.goes_on in absurd (cc)

over_on : (es older : Trace) → fed_in es ≡ fed_in older → AreOver older → AreOver es
over_on es older same over = ap (λ items. (place_of items).over) same ∙ over

put_then : (who : Asker) (es : Trace) (token : Token) (n : Name) (x : List ℕ) → AreWelcome es → Obeys (piece_task who) PieceAllows (λ fs e. ⊥) es → WasAsked es (Ask.Put token Kind.Snapshot n x) → PutThen es token x
put_then who [] token n x welcome o h = absurd h
put_then who (e ∷ es) token n x welcome o (inl here) =
    let rule = subst (λ a. IsPermitted PieceAllows es a) here o.1 tt in
    record { older = es; over = rule.0; rule = rule.2; made = λ k y among. inr (made_now es token x rule.0 rule.2 k y among); same = none_over e.fed e es welcome.0 rule.0 }
put_then who (e ∷ es) token n x welcome o (inr before) =
    let p = put_then who es token n x welcome.1 o.3 before in
    record { older = p.older; over = p.over; rule = p.rule; made = λ k y among. inr (p.made k y among); same = none_over e.fed e es welcome.0 (over_on es p.older p.same p.over) ∙ p.same }

-- ---- the law

steps_so : (from : Store) (fs : Trace) (to : Store) → RanBy from (unfed fs) to → RanBy from fs to
steps_so from [] to h = h
steps_so from (e ∷ fs) to h = (h.0, steps_so from fs h.0 h.1, h.2)

of_source : (whole : Option (List Fed)) (fs : Trace) (entries : List Entry) → IsAsTold whole (place_of (fed_in fs)) → AreOver fs → entries ≡ spelled_by (fed_in fs) → AreOfSource whole entries
of_source None fs entries told over is = tt
of_source (Some whole) fs entries told over is = is ∙ told over

-- what a backup that fed itself and reported a snapshot as stored leaves in the store
record IsLeftFed (from mid : Store) (fs : Trace) (next : Option Request) (name : Name) : Type 0 where
  older : Trace
  over : AreOver older
  same : fed_in fs ≡ fed_in older
  there : (k : Kind) (n : Name) (x : List ℕ) → mid.objects k n ≡ Some x → WasThere from (IsSent fs next) k x
  names : (k : Kind) (n : Name) (x : List ℕ) → mid.objects k n ≡ Some x → naming.name x ≡ n
  source : IsMadeFrom (spelled_by (fed_in older)) (IsMadeOfItems fs) mid.objects name

left_fed : (who : Asker) (whole : Option (List Fed)) (from mid : Store) (failed failing : ℕ) (talk : Talk) (next : Option Request) (name : Name) (blobs bytes : ℕ) → IsSound from.objects → TalkRan from failed talk mid failing
    → (s : StandsAsFed who whole next (Some (Outcome.Stored name blobs bytes)) (trace_of talk)) → AreItemsApart from s.fs next → IsLeftFed from mid s.fs next name
left_fed who whole from mid failed failing talk next name blobs bytes sound ran s apart =
    let fs = s.fs in
    let is = s.fed in
    let run = steps_so from fs mid (subst (λ t. RanBy from t mid) (sym s.same) (ran_by from talk mid (led from talk mid ran.run))) in
    let knows = lone_by (piece_task who) PieceAllows (λ es e. ⊥) deletes_nothing from sound (IsSent fs next) (IsMadeOfItems fs) apart fs mid (sent_of fs next) (all_rightly (IsMadeOfItems fs) fs (λ x m. m)) is.obeys run in
    let stored = is.concluded (Outcome.Stored name blobs bytes) refl in
    let put = stored.put in
    let done = exchanged_before fs (Ask.Put put.0 Kind.Snapshot name stored.text) Say.Done put.1 in
    let asked = was_asked fs (Ask.Put put.0 Kind.Snapshot name stored.text) Say.Done done in
    let found = knows.shares.put put.0 Kind.Snapshot name stored.text done in
    let there : (k : Kind) (n : Name) (x : List ℕ) → mid.objects k n ≡ Some x → WasThere from (IsSent fs next) k x = λ k n x p. ⊎_elim (λ old. inl (n, old)) (λ now. inr (now.0, n, sent_of fs next (Ask.Put now.0 k n x) now.1)) (knows.shares.origin k n x p) in
    let named = (was_put (piece_task who) PieceAllows (λ es e. ⊥) fs put.0 Kind.Snapshot name stored.text is.obeys asked).0 in
    let one : found.0 ≡ stored.text = apart found.0 stored.text (inl (Kind.Snapshot, there Kind.Snapshot name found.0 found.1)) (inl (Kind.Snapshot, inr (put.0, name, sent_of fs next (Ask.Put put.0 Kind.Snapshot name stored.text) asked)))
    (knows.sound.named Kind.Snapshot name found.0 found.1 ∙ sym named) in
    let then = put_then who fs put.0 name stored.text s.welcome is.obeys asked in
    record {
      older = then.older;
      over = then.over;
      same = then.same;
      there = there;
      names = knows.sound.named;
      source = record { text = stored.text; token = put.0; there = found.1 ∙ ap Some one; older = then.older; rule = then.rule; made = then.made };
    }

pub restored_fed : RestoredIsFed
restored_fed who whole from mid to failed failing late last talk talk' next next' name blobs bytes count asker sound ran s apart ran' is' =
    let fs = s.fs in
    let l = left_fed who whole from mid failed failing talk next name blobs bytes sound ran s apart in
    let given : rebuilt (emitted_in (trace_of talk')) ≡ spelled_by (fed_in l.older) = handed_all (record { who = asker; snapshot = name }) (spelled_by (fed_in l.older)) from mid (IsMadeOfItems fs) (IsSent fs next) apart l.there l.names l.source
    talk' to count is'.obeys (led mid talk' to ran'.run) (is'.concluded (Outcome.Complete count) refl).0 in
    let spelled : rebuilt (emitted_in (trace_of talk')) ≡ spelled_by (fed_in fs) = given ∙ ap spelled_by (sym l.same) in
    (spelled, of_source whole fs (rebuilt (emitted_in (trace_of talk'))) s.told (over_on fs l.older l.same l.over) spelled)

pub restored_first_fed : RestoredIsFirstOfFed
restored_first_fed who whole from mid to failed failing late last talk talk' next next' name blobs bytes asker outcome sound ran s apart ran' is' =
    let fs = s.fs in
    let l = left_fed who whole from mid failed failing talk next name blobs bytes sound ran s apart in
    let first = first_handed (record { who = asker; snapshot = name }) (spelled_by (fed_in l.older)) from mid (IsMadeOfItems fs) (IsSent fs next) apart l.there l.names l.source talk' to is'.obeys (led mid talk' to ran'.run) in
    let F : List Entry → Type 0 = λ es. (within : Bool) × Follow false (given_in talk') within × AreFirstOf within (rebuilt (given_in talk')) es in
    (subst F (ap spelled_by (sym l.same)) first, of_source whole fs (spelled_by (fed_in fs)) s.told (over_on fs l.older l.same l.over) refl)
