-- Whoever goes by the whole rule of a job is dutiful.
use Rattle.std.proofs.Common.{◌≡◌, ◌++◌, ◌∷◌, [], inl, inr, ⊎_elim, ℕ, List, map, refl, sym, ◌∙◌, ap, subst, append-nil, false, Bool, Some, Contains}
use Rattle.repo_name.specs.declared.kinds.BlobKind.{BlobKind}
use Rattle.repo_name.specs.declared.kinds.Kind.{Kind}
use Rattle.repo_name.specs.declared.names.Name.{Name}
use Rattle.repo_name.specs.declared.tokens.Token.{Token}
use Rattle.repo_name.proofs.Containing.{first_contained, later_contained}
use Rattle.repo_wire.specs.declared.messages.Ask.{Ask}
use Rattle.repo_wire.specs.declared.messages.Request.{Request}
use Rattle.repo_pack.specs.PackLayout.{item_of}
use Rattle.repo_tree.specs.Spelling.{Spells}
use Rattle.repo_tree.specs.declared.entries.Entry.{Entry}
use Rattle.repo_tree.specs.declared.snapshots.Snapshot.{Snapshot}
use Rattle.repo_tree.proofs.SpellingLemmas.{spells_move}
use Rattle.repo_store.specs.Pages.{Has}
use Rattle.repo_session.specs.Askers.{Asker}
use Rattle.repo_session.specs.Clients.{IsNextRequest, IsObedientBy}
use Rattle.repo_session.specs.Ends as ends
use Rattle.repo_session.specs.Ends.{before_unlock, without_unlock}
use Rattle.repo_session.specs.Listings.{IsReadRow}
use Rattle.repo_session.specs.Order.{IsReading, IsWorking, May, Obeys, Task}
use Rattle.repo_session.specs.Rebuilding.{rebuilt, AreWhole}
use Rattle.repo_session.specs.Received.{Received}
use Rattle.repo_session.specs.Trees.{HasRoot}
use Rattle.repo_session.specs.Traces.{Each, Exchange, Trace, Object, emitted_in, fed_in}
use Rattle.repo_session.specs.Versions.{upto}
use Rattle.repo_session.specs.declared.emissions.Emission.{Emission}
use Rattle.repo_session.specs.declared.outcomes.Outcome.{Outcome}
use Rattle.repo_session.proofs.Concluding.{unasked}
use Rattle.repo_session.proofs.Descending.{received_grows}
use Rattle.repo_session.proofs.GoingOn.{concluded_of}
use Rattle.repo_writing.specs.Laws.{IsPutOrKept}
use Rattle.repo_writing.specs.Putting.{IsIndexOf, IsListedPack}
use Rattle.repo_writing.proofs.PutLemmas.{asked_put}
use Rattle.repo_writing.proofs.Replacing.{put_says}
use Rattle.repo_backup.specs.Folders.{blobs_of}
use Rattle.repo_backup.specs.Items.{spelled_by}
use Rattle.repo_backup.specs.Rules as backing
use Rattle.repo_session.specs.Ends.{AsksPart}
use Rattle.repo_prune.specs.declared.choices.Choice.{Choice}
use Rattle.repo_prune.specs.Pruning.{IsSettled, MayDeleteIndex, MayDeletePack}
use Rattle.repo_prune.proofs.PruneRuns.{nothing_deleted, row_replaced}
use Rattle.repo_prune.proofs.Staying.{lists_put_or_kept}
use Rattle.repo_world.specs.AnyClients.{FitsAny, any_obeys, client_of}
use Rattle.repo_world.specs.Clients.{Client, MadeOf, handed_by, task_of}
use Rattle.repo_world.specs.Duties.{GivesAny, IndexMayGo, IsAllHanded, IsDutiful, HasGivenBack, MayPutSnapshot, NothingDeleted, Owes, PackMayGo, Tells}
use Rattle.repo_world.specs.Rules.{rule_of}
use Rattle.repo_world.specs.declared.any_clients.AnyClient.{AnyClient}
use Rattle.repo_world.specs.declared.jobs.Job.{Job}
use Rattle.repo_session.specs.Jobs.{task_under}
use Rattle.repo_restore.proofs.Advancing.{only_reads}
use Rattle.repo_session.proofs.KindReads.{kind_reads}
use Rattle.repo_world.proofs.PieceMaking.{all_made}

-- ---- the order is that of the job's rule, for who notes nothing

abbrev quiet : Task → Task
quiet t = record { who = t.who; exclusive = t.exclusive; snapshot = t.snapshot; versions = t.versions; notes = false }

same_task : (job : Job) (who : Asker) → quiet (task_under (rule_of job) who) ≡ task_of job who
same_task (Job.Backup entries) who = refl
same_task Job.Pieces who = refl
same_task (Job.Restore s) who = refl
same_task Job.List who = refl
same_task (Job.Forget choice) who = refl
same_task Job.Prune who = refl
same_task Job.Check who = refl
same_task Job.Upgrade who = refl

works_quietly : (t : Task) (token : Token) (es : Trace) → IsWorking t token es → IsWorking (quiet t) token es
works_quietly t token es (config, o) = (config, record { later = o.later; text = o.text; since = o.since; reads = o.reads; known = o.known; held = o.held })

may_quietly : (t : Task) (es : Trace) (ask : Ask) → May t es ask → May (quiet t) es ask
may_quietly t es Ask.Ticket h = h
may_quietly t es (Ask.Lock row) h = h
may_quietly t es Ask.Config h = h
may_quietly t es (Ask.List k after) h = ((h.0.0, works_quietly t h.0.0 es h.0.1), h.1)
may_quietly t es (Ask.Get k n) h = ((h.0.0, works_quietly t h.0.0 es h.0.1), h.1)
may_quietly t es (Ask.Range pack offset len) h = ((h.0.0, works_quietly t h.0.0 es h.0.1), h.1)
may_quietly t es (Ask.Put token k n x) h = (works_quietly t token es h.0, h.1, h.2)
may_quietly t es (Ask.Delete token k n) h = (works_quietly t token es h.0, h.1)
may_quietly t es (Ask.Upgrade token) h = (works_quietly t token es h.0, h.1)
may_quietly t es (Ask.Unlock token) h = record { later = h.later; since = h.since; held = h.held }
may_quietly t es (Ask.Refresh token time) h = h
may_quietly t es Ask.Locks h = h

-- ---- what a backup asks

module _ (entries : List Entry) (es : Trace) (token : Token) (x : List ℕ) (job : Job) where
  -- the snapshot of a backup that was handed these entries
  owes_snapshot : (r : backing.SnapshotRule entries es token x) → handed_by job es ≡ Some entries → IsAllHanded job es
      → ((kind : BlobKind) (y : List ℕ) → Contains (blobs_of r.cut.config.version r.folder) (item_of kind y) → MadeOf job es y) → MayPutSnapshot job es token x
  owes_snapshot r handed all made = record {
    snapshot = r.snapshot;
    reads = r.reads;
    token_is = r.token_is;
    row = r.row;
    locked = r.locked;
    host_is = r.host_is;
    time_is = r.time_is;
    version_is = record { text = r.cut.text; config = r.cut.config; read = r.cut.read; reads = r.cut.reads; of_version = sym r.version_is };
    entries = entries;
    handed = handed;
    all = all;
    items = blobs_of r.cut.config.version r.folder;
    made = made;
    given = r.given;
    spells = r.spells;
  }

-- an index of packs that were put
put_alone : (es : Trace) (x : List ℕ) → IsIndexOf (IsListedPack es) x → IsIndexOf (IsPutOrKept es) x
put_alone es x l = record { packs = l.packs; reads = l.reads; some = l.some; each = λ listed among. inl (l.each listed among) }

backup_owes : (entries : List Entry) (es : Trace) → NothingDeleted es → (ask : Ask) → (rule_of (Job.Backup entries)).allows es ask → Owes (Job.Backup entries) es ask
backup_owes entries es none (Ask.Put token Kind.Pack n x) r = (none, (r.items, r.pack))
backup_owes entries es none (Ask.Put token Kind.Index n x) r = (none, put_alone es x r.0.lists)
backup_owes entries es none (Ask.Put token Kind.Snapshot n x) r =
    owes_snapshot entries es token x (Job.Backup entries) r refl tt (λ kind y among. record { folder = r.folder; kind = kind; cut = r.cut; among = among })
backup_owes entries es none (Ask.Delete token k n) r = absurd r
backup_owes entries es none _ r = tt

pieces_owe : (es : Trace) → NothingDeleted es → (ask : Ask) → (rule_of Job.Pieces).allows es ask → Owes Job.Pieces es ask
pieces_owe es none (Ask.Put token Kind.Pack n x) r = (none, (r.items, r.pack))
pieces_owe es none (Ask.Put token Kind.Index n x) r = (none, put_alone es x r.0.lists)
pieces_owe es none (Ask.Put token Kind.Snapshot n x) r =
    owes_snapshot (spelled_by (fed_in es)) es token x Job.Pieces r.2 refl r.0 (λ kind y among. (kind, all_made es r.2.folder r.1 r.0 r.2.cut (item_of kind y) among))
pieces_owe es none (Ask.Delete token k n) r = absurd r
pieces_owe es none _ r = tt

-- ---- what a prune asks

-- a listed name has its row
row_of : (es : Trace) (rows : List (Name × Snapshot)) (n : Name) → Each (IsReadRow es) rows → Has (map (λ (row : Name × Snapshot). row.0) rows) n → (row : Name × Snapshot) × Contains rows row × (row.0 ≡ n) × IsReadRow es row
row_of es [] n each h = absurd h
row_of es (row ∷ rows) n each (inl here) = (row, first_contained row rows, sym here, each.0)
row_of es (row ∷ rows) n each (inr more) = let found = row_of es rows n each.1 more in (found.0, later_contained row rows found.0 found.1, found.2, found.3)

prune_index : (es : Trace) (n : Name) → MayDeleteIndex es n → IndexMayGo es n
prune_index es n r =
    let s : IsSettled es r.packs = r.settled in
    record {
      listed = s.snapshots.listed;
      trees = s.covered.texts;
      received = s.covered.trees.received;
      carried = λ i lists.
          let found = row_of es s.rows i s.snapshots.each (subst (λ ns. Has ns i) (sym s.snapshots.names) lists) in
          let row : Name × Snapshot = found.0 in
          let read : IsReadRow es row = found.3 in
          let there = row_replaced es s.rows r.packs s.listed s.covered row found.1 in
          record {
            version = row.1.version;
            root = row.1.tree;
            found = subst (λ m. HasRoot es m row.1.version row.1.tree) found.2 (read.0, row.1, read.1, read.2, refl, refl);
            walked = there.walked;
            given = there.given;
          };
      done = λ token i x asked. let object : Object = record { name = i; bytes = x } in s.done Kind.Index object (asked_put es token Kind.Index i x asked);
      unput = λ put. r.unput put;
    }

prune_pack : (es : Trace) (n : Name) → MayDeletePack es n → PackMayGo es n
prune_pack es n r =
    let s : IsSettled es r.packs = r.settled in
    record {
      listed = s.indexes.listed;
      replaced = r.replaced;
      unput = r.unput;
      unnamed = λ u i x fact asked says same. let l = put_says r.packs es s.listed u i x fact asked says in r.unlisted (l.0, l.1, sym l.3 ∙ same);
    }

prune_owes : (es : Trace) (ask : Ask) → (rule_of Job.Prune).allows es ask → Owes Job.Prune es ask
prune_owes es (Ask.Put token Kind.Pack n x) r = (nothing_deleted es r.1.known.none, (r.1.items, r.1.pack))
prune_owes es (Ask.Put token Kind.Index n x) r = (nothing_deleted es r.1.known.none, lists_put_or_kept es x r.1)
prune_owes es (Ask.Put token Kind.Snapshot n x) r = absurd r.1
prune_owes es (Ask.Delete token Kind.Index n) r = prune_index es n r.1
prune_owes es (Ask.Delete token Kind.Pack n) r = prune_pack es n r.1
prune_owes es (Ask.Delete token Kind.Snapshot n) r = absurd r.1
prune_owes es _ r = tt

-- ---- what the others ask

forget_owes : (choice : Choice) (es : Trace) (ask : Ask) → (rule_of (Job.Forget choice)).allows es ask → Owes (Job.Forget choice) es ask
forget_owes choice es (Ask.Put token k n x) r = absurd r.0
forget_owes choice es (Ask.Delete token Kind.Snapshot n) r = (choice, refl, r.1)
forget_owes choice es (Ask.Delete token Kind.Pack n) r = let same : Kind.Pack ≡ Kind.Snapshot = r.0 in absurd (cc)
forget_owes choice es (Ask.Delete token Kind.Index n) r = let same : Kind.Index ≡ Kind.Snapshot = r.0 in absurd (cc)
forget_owes choice es _ r = tt

reading_owes : (job : Job) (es : Trace) (ask : Ask) → IsReading ask → Owes job es ask
reading_owes job es (Ask.List k after) r = tt
reading_owes job es (Ask.Get k n) r = tt
reading_owes job es (Ask.Range pack offset len) r = tt
reading_owes job es _ r = absurd r

upgrade_owes : (es : Trace) (ask : Ask) → (rule_of Job.Upgrade).allows es ask → Owes Job.Upgrade es ask
upgrade_owes es (Ask.Put token k n x) r = absurd r
upgrade_owes es (Ask.Delete token k n) r = absurd r
upgrade_owes es _ r = tt

-- ---- whatever the job

rule_owes : (job : Job) (who : Asker) (es : Trace) → Obeys (task_under (rule_of job) who) (rule_of job).allows (rule_of job).gives es → (ask : Ask) → (rule_of job).allows es ask → Owes job es ask
rule_owes (Job.Backup entries) who es o ask r =
    backup_owes entries es (λ k n d. unasked (task_under (rule_of (Job.Backup entries)) who) (rule_of (Job.Backup entries)).allows (rule_of (Job.Backup entries)).gives (Ask.Delete d.0 k n) (λ fs p. p tt) es o d.1) ask r
rule_owes Job.Pieces who es o ask r = pieces_owe es (λ k n d. unasked (task_under (rule_of Job.Pieces) who) (rule_of Job.Pieces).allows (rule_of Job.Pieces).gives (Ask.Delete d.0 k n) (λ fs p. p tt) es o d.1) ask r
rule_owes (Job.Restore s) who es o ask r = reading_owes (Job.Restore s) es ask (only_reads s es ask r)
rule_owes Job.List who es o ask r = reading_owes Job.List es ask (kind_reads Kind.Snapshot es ask r)
rule_owes (Job.Forget choice) who es o ask r = forget_owes choice es ask r
rule_owes Job.Prune who es o ask r = prune_owes es ask r
rule_owes Job.Check who es o ask r = reading_owes Job.Check es ask r.0
rule_owes Job.Upgrade who es o ask r = upgrade_owes es ask r

module _ (job : Job) (who : Asker) where
  abbrev Ruled : Trace → Type 0
  Ruled es = Obeys (task_under (rule_of job) who) (rule_of job).allows (rule_of job).gives es

  may_so : (es : Trace) (ask : Ask) → May (task_under (rule_of job) who) es ask → May (task_of job who) es ask
  may_so es ask h = subst (λ (t : Task). May t es ask) (same_task job who) (may_quietly (task_under (rule_of job) who) es ask h)

  obeys_so : (es : Trace) → Ruled es → Obeys (task_of job who) (Owes job) GivesAny es
  obeys_so [] o = tt
  obeys_so (e ∷ es) o = (may_so es e.ask o.0, λ work. rule_owes job who es o.3 e.ask (o.1 work), inr tt, obeys_so es o.3)

  next_so : (es : Trace) (request : Request) → Ruled es → IsNextRequest (task_under (rule_of job) who) (rule_of job).allows es request → IsNextRequest (task_of job who) (Owes job) es request
  next_so es request o n = record { instance = n.instance; sequence = n.sequence; may = may_so es request.ask n.may; permitted = λ work. rule_owes job who es o request.ask (n.permitted work) }

-- ---- what it tells

-- nothing is given out on the end of the lock
unlock_gives : (job : Job) (es : Trace) (e : Exchange) (token : Token) → e.ask ≡ Ask.Unlock token → (rule_of job).gives es e → ⊥
unlock_gives (Job.Restore s) es e token q gives = subst AsksPart q gives.0
unlock_gives (Job.Backup entries) es e token q gives = gives
unlock_gives Job.Pieces es e token q gives = gives
unlock_gives Job.List es e token q gives = gives
unlock_gives (Job.Forget choice) es e token q gives = gives
unlock_gives Job.Prune es e token q gives = gives
unlock_gives Job.Check es e token q gives = gives
unlock_gives Job.Upgrade es e token q gives = gives

-- an exchange more, on which nothing was given out
given_back_on : (e : Exchange) (es : Trace) (s : Name) → e.emitted ≡ [] → HasGivenBack es s → HasGivenBack (e ∷ es) s
given_back_on e es s none h =
    let same : emitted_in es ≡ emitted_in (e ∷ es) = sym (ap (λ l. emitted_in es ++ l) none ∙ append-nil (emitted_in es)) in
    let f = h.found in
    record {
      version = h.version;
      root = h.root;
      found = (f.0, f.1, (inr f.2.0, f.2.1), f.3, f.4, f.5);
      spells = subst (λ (l : List Emission). Spells h.version (Received (e ∷ es)) h.root [] (rebuilt l)) same
          (spells_move h.version (Received es) (Received (e ∷ es)) _ h.root [] (rebuilt (emitted_in es)) h.spells (λ k n r y b is. received_grows e es k y b));
      whole = subst AreWhole same h.whole;
    }

tells_on : (job : Job) (e : Exchange) (es : Trace) (o : Outcome) → e.emitted ≡ [] → Tells job es o → Tells job (e ∷ es) o
tells_on job e es (Outcome.Stored name blobs bytes) none h = (h.0, (h.1.0, inr h.1.1))
tells_on (Job.Restore s) e es (Outcome.Complete count) none h = given_back_on e es s none h
tells_on job e es Outcome.Upgraded none (inl h) = inl (record { text = h.text; config = h.config; read = inr h.read; reads = h.reads; of_version = h.of_version })
tells_on job e es Outcome.Upgraded none (inr h) = inr (h.0, inr h.1)
tells_on _ e es _ none h = tt

-- what holds without the end of the lock holds of all
with_unlock : (P : Trace → Type 0) (ask : Ask) (e : Exchange) (es : Trace) → e.ask ≡ ask → ((token : Token) → e.ask ≡ Ask.Unlock token → P es → P (e ∷ es)) → P (without_unlock ask (e ∷ es) es) → P (e ∷ es)
with_unlock P (Ask.Unlock token) e es q more h = more token q h
with_unlock P _ e es q more h = h

rule_tells : (job : Job) (es : Trace) (o : Outcome) (known : ℕ) → ends.Concludes known (rule_of job).concludes es o → Tells job es o
rule_tells (Job.Backup entries) es (Outcome.Stored name blobs bytes) known r = (r.text, r.put)
rule_tells Job.Pieces es (Outcome.Stored name blobs bytes) known r = (r.text, r.put)
rule_tells (Job.Restore s) es (Outcome.Complete count) known h = let is = h.0 in record { version = is.0; root = is.1; found = is.2; spells = is.3; whole = is.5 }
rule_tells Job.Upgrade es Outcome.Upgraded known r = r
rule_tells (Job.Restore s) es (Outcome.Stored name blobs bytes) known r = absurd r
rule_tells Job.List es (Outcome.Stored name blobs bytes) known r = absurd r
rule_tells (Job.Forget choice) es (Outcome.Stored name blobs bytes) known r = absurd r
rule_tells Job.Prune es (Outcome.Stored name blobs bytes) known r = absurd r
rule_tells Job.Check es (Outcome.Stored name blobs bytes) known r = absurd r
rule_tells Job.Upgrade es (Outcome.Stored name blobs bytes) known r = absurd r
rule_tells (Job.Backup entries) es Outcome.Upgraded known r = absurd r
rule_tells Job.Pieces es Outcome.Upgraded known r = absurd r
rule_tells (Job.Restore s) es Outcome.Upgraded known r = absurd r
rule_tells Job.List es Outcome.Upgraded known r = absurd r
rule_tells (Job.Forget choice) es Outcome.Upgraded known r = absurd r
rule_tells Job.Prune es Outcome.Upgraded known r = absurd r
rule_tells Job.Check es Outcome.Upgraded known r = absurd r
rule_tells _ es _ known r = tt

told_so : (job : Job) (who : Asker) (es : Trace) (o : Outcome) → Ruled job who es → Tells job (before_unlock es) o → Tells job es o
told_so job who [] o obeys h = h
told_so job who (e ∷ es) o obeys h =
    with_unlock (λ t. Tells job t o) e.ask e es refl (λ token q older. tells_on job e es o (⊎_elim (λ none. none) (λ gives. absurd (unlock_gives job es e token q gives)) obeys.2) older) h

-- ---- whoever goes by the rule is dutiful

pub ruled_dutiful : (c : Client) → IsObedientBy (rule_of c.job) c.who c.next c.outcome c.trace → IsDutiful c
ruled_dutiful c o =
    let known = upto (task_under (rule_of c.job) c.who).versions in
    record {
      obeys = obeys_so c.job c.who c.trace o.obeys;
      pending = λ request e. next_so c.job c.who c.trace request o.obeys (o.pending request e);
      concluded = λ outcome e. told_so c.job c.who c.trace outcome o.obeys
          (rule_tells c.job (before_unlock c.trace) outcome known (concluded_of (task_under (rule_of c.job) c.who).notes known (rule_of c.job).concludes (before_unlock c.trace) outcome (o.concluded outcome e)));
    }

-- so is each client of this repository
pub any_dutiful : (c : AnyClient) (es : Trace) (crashed : Bool) → FitsAny c es → IsDutiful (client_of c es crashed)
any_dutiful c es crashed fits = ruled_dutiful (client_of c es crashed) (any_obeys c es fits)
