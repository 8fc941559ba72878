-- What is known from one item of a backup's steps to the next, and from one request to the next.
use Rattle.std.proofs.Common.{arith, ◌≡◌, ◌≢◌, ◌<◌, ◌≤◌, ◌-◌, ◌↔◌, ◌++◌, ◌∷◌, [], ℕ, Bool, IsTrue, true, false, cond, List, length, drop, Some, None, is_some, slice_get, refl, sym, ap, subst, inl, inr, ◌⊎◌, ◌∙◌, Vec, Global, Contains}
use Rattle.std.proofs.lemmas.Option.{same_Some}
use Rattle.repo_index.specs.IndexText.{facts_in}
use Rattle.repo_index.specs.declared.facts.Fact.{Fact}
use Rattle.repo_index.specs.declared.facts.PackFacts.{PackFacts}
use Rattle.repo_name.specs.Limits.{blob_limit, facts_limit, pack_limit}
use Rattle.repo_name.specs.Naming as naming
use Rattle.repo_name.specs.declared.kinds.Kind.{Kind}
use Rattle.repo_name.specs.declared.names.Name.{Name}
use Rattle.repo_name.specs.declared.tokens.Token.{Token}
use Rattle.repo_session.specs.Askers.{Holding}
use Rattle.repo_session.specs.Feeds.{Fed}
use Rattle.repo_session.specs.Jobs.{MayGoOn}
use Rattle.repo_session.specs.Order.{ReadsKind, IsWorking}
use Rattle.repo_session.specs.Traces.{Trace}
use Rattle.repo_session.specs.declared.catalogs.Catalog.{Catalog}
use Rattle.repo_session.specs.declared.jobs.Step.{Step}
use Rattle.repo_tree.specs.declared.entries.Entry.{Entry}
use Rattle.repo_wire.specs.declared.messages.Ask.{Ask}
use Rattle.repo_writing.specs.Putting.{PutsIndexOf}
use Rattle.repo_writing.specs.Writing.{items_of}
use Rattle.repo_backup.specs.Backing.{HasWritten}
use Rattle.repo_backup.specs.BackupStates.{backup_task, IsUnderWay, GoesSo, BackupPuts, KnowsPut, IsDueNext, IsGoingOn}
use Rattle.repo_backup.specs.Backups.{handed_to, left_in, Knows, WalksOn, BackupSends}
use Rattle.repo_backup.specs.Items.{Feeding, Place, place_of, ItemFault, fed_part, fed_of, size_of}
use Rattle.repo_backup.specs.Packings.{AimsOn}
use Rattle.repo_backup.specs.PieceStates.{IsSameWay, IsBegunAnew, waits, HasBegun, PutsPack, PutsIndex, IsIdleAt, PutsSnapshotOf, LaysSo, large_end}
use Rattle.repo_session.specs.declared.outcomes.Outcome.{Outcome}
use Rattle.repo_backup.specs.Pieces.{IsReady, LeavesRoom, PieceStands, Goes, EndsTooLarge, Refuses, Stays, WorkTakes, LeavesPacked, sealing_at}
use Rattle.repo_backup.specs.Plans.{walked, left_fed, next_fed, behind, before, steps_left, LeadThrough}
use Rattle.repo_backup.specs.Rules.{AreLast, IsTooLarge, PackRule, SnapshotRule, BackupAllows, BackupConcludes, backup_rule}
use Rattle.repo_backup.specs.Folders.{blobs_of}
use Rattle.repo_backup.specs.PieceRules.{IsStandingOf}
use Rattle.repo_backup.specs.Standings.{Standing, made_at}
use Rattle.repo_name.specs.declared.kinds.BlobKind.TheVariants.{Tree}
use Rattle.repo_pack.specs.PackLayout.{item_of}
use Rattle.repo_tree.specs.declared.configs.Config.{Config}
use Rattle.repo_writing.specs.Filling.{IsFullIndex}
use Rattle.repo_backup.specs.declared.items.FeedError.{FeedError}
use Rattle.repo_backup.specs.declared.items.Item.{Item}
use Rattle.repo_backup.specs.declared.backups.Backup.{Backup}
use Rattle.repo_backup.specs.declared.piece_backing.PieceBacking.{PieceBacking}
use Rattle.repo_backup.specs.declared.piece_works.PieceWork.{PieceWork}
use Rattle.repo_backup.specs.declared.piece_works.Took.{Took}
use Rattle.repo_backup.specs.declared.steps.Position.{Position}
use Rattle.repo_backup.specs.declared.steps.WalkStep.{WalkStep}
use Rattle.repo_backup.specs.declared.walks.Went.{Went}
use Rattle.repo_backup.proofs.BackupRuling.{made_through, among_blobs, ended_spell, are_last}
use Rattle.repo_backup.proofs.Closing.{none_there}
use Rattle.repo_backup.proofs.Dues.{none_being_put}
use Rattle.repo_backup.proofs.Forbidding.{faults_forbid}
use Rattle.repo_backup.proofs.PieceFeeding.{large_at, stands_plain, stands_further, stands_unsealed, sealed_full, sealed_prompt, stands_still}
use Rattle.repo_backup.proofs.Piecing.{plain}
use Rattle.repo_backup.proofs.PieceRuling.{over_is, fed_snapshot}
use Rattle.repo_backup.proofs.PieceStepping.{index_out, none_waits, large_ends}
use Rattle.repo_backup.proofs.StepFeeding.{lead_further, item_may, going_open, next_no_abandon}

-- ---- one item

-- of what some first items made, the text of a tree is too large
large_so : (entries : List Entry) (left : List Fed) (items : Feeding) (es : Trace) (config : Config) (st : Standing) → LeadThrough entries left items → IsStandingOf items es config st → (text : List ℕ) → Contains (made_at config.version st) (item_of Tree text)
    → blob_limit < length text → IsTooLarge config.version entries es
large_so entries left items es config st leads at text made large =
    let t = made_through entries left items es config st leads at in
    record { folder = t.0; cut = t.1; of_version = ap (λ (c : Config). c.version) t.2; text = text; made = subst (λ (c : Config). Contains (blobs_of c.version t.0) (item_of Tree text)) (sym t.2) (among_blobs (made_at config.version st) t.3 (blobs_of config.version t.0) t.4 (item_of Tree text) made); large = large }

module _ (facts : List Fact) (steps : List WalkStep) (p : Position) (item : Item) (old new : PieceWork) (going : p.over ≡ false) (is : fed_of item ≡ next_fed p.within (slice_get steps p.at)) where
  no_abandon : item ≡ Item.Abandon → ⊥
  no_abandon = next_no_abandon p.within (slice_get steps p.at) item is

  module _ (ready : IsReady old) (aims : AimsOn old.packing new.packing) (params : new.walk.params ≡ old.walk.params) (version : new.walk.version ≡ old.walk.version) where
    -- it was taken, and no pack is sealed
    pub went_on : (n : ℕ) → WorkTakes facts item old (Took.All n None) new → LeavesPacked (sealing_at item) (Took.All n None) new → LeavesRoom (Took.All n None) new
        → GoesSo facts old (left_fed p steps) Went.On new (left_fed (before (size_of item - n) (behind p (fed_of item))) steps)
    went_on n takes left room entries b puts next es work h = record {
      items = fed_part n item ∷ h.items;
      leads = lead_further entries steps p going n item h.items takes.0.0 is h.leads;
      at = stands_unsealed facts b (record b { work = new }) puts next h.items es h.at (subst IsReady (sym work) ready) refl refl refl n item no_abandon (subst (λ w. Goes facts (sealing_at item) (fed_part n item) w new) (sym work) takes.2)
          (params ∙ ap (λ w. w.walk.params) (sym work)) (version ∙ ap (λ w. w.walk.version) (sym work)) (subst (λ (w : PieceWork). AimsOn w.packing new.packing) (sym work) aims) None left.1 room left.0;
      unsealed = left.0;
    }

    -- and one is
    pub went_pack : (n : ℕ) (listed : PackFacts) → WorkTakes facts item old (Took.All n (Some listed)) new → LeavesPacked (sealing_at item) (Took.All n (Some listed)) new → LeavesRoom (Took.All n (Some listed)) new
        → GoesSo facts old (left_fed p steps) (Went.Pack listed) new (left_fed (before (size_of item - n) (behind p (fed_of item))) steps)
    went_pack n listed takes left room entries b puts next es work h =
        let c : PieceBacking = record b { work = new } in
        let goes = subst (λ w. Goes facts (sealing_at item) (fed_part n item) w new) (sym work) takes.2 in
        let by = params ∙ ap (λ w. w.walk.params) (sym work) in
        let of_version = version ∙ ap (λ w. w.walk.version) (sym work) in
        let to = subst (λ (w : PieceWork). AimsOn w.packing new.packing) (sym work) aims in
        let able = subst IsReady (sym work) ready in
        record {
          items = fed_part n item ∷ h.items;
          leads = lead_further entries steps p going n item h.items takes.0.0 is h.leads;
          sealed = (goes h.at.st (items_of (puts ++ next)) (stands_plain facts b c puts next h.items es h.at able)).2;
          at = stands_further facts b c puts next h.items es h.at able refl refl refl n item no_abandon goes by of_version to (Some listed) left.1 room;
          lists = left.0;
          prompt = sealed_prompt facts b c puts next h.items es h.at able refl refl refl n item no_abandon goes by of_version to (Some listed) left.1 room listed left.0;
          full = sealed_full facts b c puts next h.items es h.at able refl refl refl n item no_abandon goes by of_version to (Some listed) left.1 room listed left.0;
        }

    -- there was no memory for it
    pub went_nowhere : Stays facts old new → IsReady new → GoesSo facts old (left_fed p steps) Went.On new (left_fed p steps)
    went_nowhere stays able entries b puts next es work h = record {
      items = h.items;
      leads = h.leads;
      at = stands_still facts b (record b { work = new }) puts next h.items es h.at refl refl refl (subst (λ w. Stays facts w new) (sym work) stays) (subst IsReady (sym work) ready) able (params ∙ ap (λ w. w.walk.params) (sym work)) (version ∙ ap (λ w. w.walk.version) (sym work))
          (subst (λ (w : PieceWork). AimsOn w.packing new.packing) (sym work) aims);
      unsealed = able.unsealed;
    }

  module _ (ready : IsReady old) (left : List Fed) where
    -- the text of a tree is too large
    pub went_large : new.walk.version ≡ old.walk.version → WorkTakes facts item old Took.TooLarge new → GoesSo facts old (left_fed p steps) Went.TooLarge new left
    went_large version takes entries b puts next es work h =
        let fed = fed_part 0 item in
        let k = large_at facts b b puts next h.items es h.at (subst IsReady (sym work) ready) fed (subst (λ w. EndsTooLarge facts fed w) (sym work) takes.1) in
        let leads = lead_further entries steps p going 0 item h.items (omega arith) is h.leads in
        let is_version : new.walk.version ≡ h.at.config.version = version ∙ ap (λ w. w.walk.version) (sym work) ∙ h.at.goes_by.version in
        subst (λ (v : ℕ). IsTooLarge v entries es) (sym is_version) (large_so entries (left_fed (before (size_of item - 0) (behind p (fed_of item))) steps) (fed ∷ h.items) es h.at.config k.1.0 leads k.1.2 k.1.1 k.1.3 k.1.4)

    -- an item of the steps has no fault
    pub went_wrong : (e : FeedError) → e ≢ FeedError.Memory → Refuses facts (fed_of item) old e → GoesSo facts old (left_fed p steps) Went.Nothing new left
    went_wrong e other refuses entries b puts next es work h =
        let fault = subst (λ q. ItemFault q (fed_of item) e) h.at.at.lead.place (refuses h.at.st (items_of (puts ++ next)) (subst (λ w. PieceStands w facts h.at.st (items_of (puts ++ next)) []) work (stands_plain facts b b puts next h.items es h.at (subst IsReady (sym work) ready)))) in
        faults_forbid (place_of h.items) (fed_of item) e other fault (item_may entries steps p going item h.items is h.leads)

-- where the work is under way, no part is left, and not all was fed, it may be fed
pub way_ready : (facts : List Fact) (steps : List WalkStep) (p : Position) (old : PieceWork) (left : List Fed) → p.over ≡ false → old.parts ≡ None → ¬ IsReady old → GoesSo facts old (left_fed p steps) Went.Nothing old left
way_ready facts steps p old left going unlaid not entries b puts next es work h =
    let none : b.work.parts ≡ None = ap (λ w. w.parts) work ∙ unlaid in
    let stands = plain b.work facts h.at.st (items_of (puts ++ next)) [] none h.at.stands in
    let over : is_some b.work.walk.root ≡ false = stands.at.over ∙ ap (λ (q : Place). q.over) h.at.at.lead.place ∙ going_open entries steps p going h.items h.leads in
    let ready : IsReady b.work = record { unsealed = h.unsealed; unlaid = none; opened = h.at.opened; unended = none_there b.work.walk.root over } in
    absurd (not (subst IsReady work ready))

-- where parts were made, it went so
pub goes_laid : (facts : List Fact) (old new : PieceWork) (left : List Fed) (went : Went) → LaysSo facts old went new → GoesSo facts old left went new left
goes_laid facts old new left Went.On lays entries b puts next es work h =
    let k = lays b puts next h.items es work h.at (ap (λ w. w.packing.packer.sealed) (sym work) ∙ h.unsealed) in
    record { items = h.items; leads = h.leads; at = k.0; unsealed = k.1 }
goes_laid facts old new left (Went.Pack listed) lays entries b puts next es work h =
    let k = lays b puts next h.items es work h.at (ap (λ w. w.packing.packer.sealed) (sym work) ∙ h.unsealed) in
    record { items = h.items; leads = h.leads; sealed = k.0; at = k.1; lists = k.2; prompt = k.3; full = k.4 }
goes_laid facts old new left Went.TooLarge lays entries b puts next es work h =
    let k = lays b puts next h.items es work h.at (ap (λ w. w.packing.packer.sealed) (sym work) ∙ h.unsealed) in
    subst (λ (v : ℕ). IsTooLarge v entries es) (sym k.version_is) (large_so entries left h.items es k.config k.st h.leads k.at k.text k.made k.large)
goes_laid facts old new left Went.Nothing lays entries b puts next es work h = lays b puts next h.items es work h.at (ap (λ w. w.packing.packer.sealed) (sym work) ∙ h.unsealed)

-- ---- one after another

pub goes_then : (facts : List Fact) (w0 w1 w2 : PieceWork) (l0 l1 l2 : List Fed) (went : Went) → GoesSo facts w0 l0 Went.On w1 l1 → GoesSo facts w1 l1 went w2 l2 → GoesSo facts w0 l0 went w2 l2
goes_then facts w0 w1 w2 l0 l1 l2 went first second entries b puts next es work h = second entries (record b { work = w1 }) puts next es refl (first entries b puts next es work h)

pub goes_same : (facts : List Fact) (w : PieceWork) (l : List Fed) → GoesSo facts w l Went.On w l
goes_same facts w l entries b puts next es work h = subst (λ x. IsUnderWay entries facts (record b { work = x }) l puts next es) work h

pub way_then : (a b c : PieceWork) → IsSameWay a b → IsSameWay b c → IsSameWay a c
way_then a b c p q = record { params = q.params ∙ p.params; version = q.version ∙ p.version; target = q.target ∙ p.target }

pub all_fed : (p : Position) (steps : List WalkStep) → p.over ≡ true → left_fed p steps ≡ []
all_fed p steps over = ap (λ b. cond b [] (steps_left p.within (drop p.at steps))) over

-- ---- what comes next

pub few_left : (b : Bool) (n : ℕ) → IsTrue b ↔ (facts_limit ≤ n) → b ≡ false → n < facts_limit
few_left b n is not_full =
    let under : (facts_limit ≤ n) → ⊥ = λ le. (let yes : b ≡ true = is.1 le in absurd (cc)) in
    omega (arith, under)

-- where 20,000 facts wait, something does
pub some_waits : (waiting : List PackFacts) → facts_limit ≤ length (facts_in waiting) → waiting ≢ []
some_waits waiting many none =
    let few = none_waits waiting none in
    omega (arith, many, few)

-- indexes may be read
pub may_read : (entries : List Entry) (es : Trace) (ask : Ask) → ReadsKind Kind.Index es ask → BackupAllows entries es ask
may_read entries es (Ask.List k after) r = r
may_read entries es (Ask.Get k n) r = r
may_read entries es (Ask.Range pack offset len) r = r
may_read entries es Ask.Ticket r = r
may_read entries es (Ask.Lock row) r = r
may_read entries es (Ask.Refresh token time) r = r
may_read entries es (Ask.Unlock token) r = r
may_read entries es Ask.Locks r = r
may_read entries es (Ask.Put token k n x) r = absurd r
may_read entries es (Ask.Delete token k n) r = absurd r
may_read entries es (Ask.Upgrade token) r = absurd r
may_read entries es Ask.Config r = r

pub put_known : (j : Backup) (token : Token) (k : Kind) (n : Name) (x : List ℕ) (es : Trace) → Knows j (Ask.Put token k n x) es → KnowsPut (handed_to j) j.catalog.lookup j.backing (left_in j) (Ask.Put token k n x) es
put_known j token k n x es (inl reading) = absurd reading.knows
put_known j token k n x es (inr put) = put

module _ (j : Backup) (holding : Holding) (es : Trace) (working : IsWorking (backup_task holding.who) holding.token es) (b : PieceBacking) (is : j.backing ≡ Some b) (items : Feeding) (leads : LeadThrough (handed_to j) (left_in j) items) where
  abbrev pub Does : Step → Type 0
  Does step = MayGoOn (backup_rule (handed_to j)) holding.who (Knows j) (λ fs. ⊥) es step

  -- a pack is put
  pub pack_sent : (n : Name) (x : List ℕ) → naming.name x ≡ n → length x ≤ pack_limit → PackRule (handed_to j) es x → PutsPack j.catalog.lookup b n x items es → Does (Step.Ask (Ask.Put holding.token Kind.Pack n x))
  pack_sent n x named small rule puts = record { work = tt; may = (working, named, small); allowed = rule; knows = inr (b, is, (items, leads, puts)) }

  module _ (h : IsIdleAt j.catalog.lookup b items es) where
    last_now : b.work.parts ≡ None → (place_of items).over ≡ true → AreLast (handed_to j) es []
    last_now unlaid over = are_last (handed_to j) (left_in j) j.catalog.lookup b h.puts [] items es leads h.at unlaid over

    -- an index is put
    pub index_sent : (token : Token) (step : Step) → token ≡ holding.token → b.waiting ≢ [] → (facts_limit ≤ length (facts_in b.waiting)) ⊎ (((place_of items).over ≡ true) × (b.work.parts ≡ None)) → PutsIndexOf token b.waiting step → Does step
    index_sent token step own some why puts =
        let k = index_out j.catalog.lookup b token step items es h some puts in
        let x = k.0 in
        let full : IsFullIndex x ⊎ AreLast (handed_to j) es [] = elim why [ inl many ↦ inl (b.waiting, k.1, many) | inr over ↦ inr (last_now over.1 over.0) ] in
        let T : Token → Type 0 = λ t. Does (Step.Ask (Ask.Put t Kind.Index (naming.name x) x)) in
        let may : T holding.token = record { work = tt; may = (working, refl, k.2); allowed = (k.3, k.4, full); knows = inr (b, is, (items, leads, k.5)) } in
        subst Does (sym k.6) (subst T (sym own) may)

    -- the snapshot is put
    pub snapshot_sent : (root : Name) (step : Step) → b.work.parts ≡ None → b.work.walk.root ≡ Some root → b.waiting ≡ [] → PutsSnapshotOf holding root b.work.walk.version step → Does step
    snapshot_sent root step unlaid root_is none p =
        let all : waits b ≡ [] = none_being_put b h.listed ∙ none in
        let over : (place_of items).over ≡ true = sym (over_is j.catalog.lookup b h.puts [] items es h.at unlaid) ∙ ap is_some root_is in
        let rule = subst (λ en. SnapshotRule en es holding.token p.text) (ended_spell (handed_to j) (left_in j) items leads over) (fed_snapshot j.catalog.lookup b h.puts items es h.at unlaid root holding step p root_is all working) in
        let may : Does (Step.Ask (Ask.Put holding.token Kind.Snapshot (naming.name p.text) p.text)) = record {
          work = tt;
          may = (working, refl, p.reads.json.short);
          allowed = rule;
          knows = inr (b, is, record { puts = h.puts; written = subst (λ ws. HasWritten j.catalog.lookup ws b.counts h.puts [] es) all h.at.written });
        } in
        subst Does (sym p.puts) may

-- where the text of a tree is too large, it ends so
pub backup_large : (entries : List Entry) (es : Trace) (of_version version : ℕ) → version ≡ of_version → IsTooLarge of_version entries es → BackupConcludes entries es (Outcome.Ended (large_end version))
backup_large entries es of_version version is h =
    large_ends (BackupConcludes entries es) h.cut.config es version (record { text = h.cut.text; read = h.cut.read; reads = h.cut.reads; known = h.cut.known }) (is ∙ sym h.of_version) (λ v. too_large v) (λ v. too_large v)
  where
    too_large : {n : ℕ} → h.cut.config.version ≡ n → IsTooLarge n entries es
    too_large v = record { folder = h.folder; cut = h.cut; of_version = v; text = h.text; made = h.made; large = h.large }

-- where all was fed, the items ended
pub all_ended : (entries : List Entry) (left : List Fed) (items : Feeding) → left ≡ [] → LeadThrough entries left items → (place_of items).over ≡ true
all_ended entries left items none leads = (subst (λ l. LeadThrough entries l items) none leads).ends

-- ---- begun anew

pub anew_after : (b c d : PieceBacking) → IsSameWay b.work c.work → IsBegunAnew c d → IsBegunAnew b d
anew_after b c d way anew = record {
  params = anew.params ∙ way.params;
  version = anew.version ∙ way.version;
  aim = anew.aim ∙ way.target;
  aims = anew.aims ∙ ap (λ t. t.bytes) way.target;
  stands = anew.stands;
  ready = anew.ready;
  waiting = anew.waiting;
  listed = anew.listed;
  counted = anew.counted;
}

pub anew_begun : (b d : PieceBacking) (es : Trace) → IsBegunAnew b d → HasBegun b es → HasBegun d es
anew_begun b d es anew h = record {
  config = h.config;
  has = h.has;
  none_put = h.none_put;
  goes_by = record { params = anew.params ∙ h.goes_by.params; version = anew.version ∙ h.goes_by.version; aim = ap (λ t. t.bytes) anew.aim ∙ h.goes_by.aim; aims = anew.aims ∙ h.goes_by.aim };
  stands = anew.stands;
  ready = anew.ready;
  waiting = anew.waiting;
  listed = anew.listed;
  counted = anew.counted;
}

-- where the work was under way, and went so, what is due next is sent
pub sent_so : (old mid new : Backup) (holding : Holding) (went : Went) (step : Step) → mid.steps ≡ old.steps → mid.catalog ≡ old.catalog → WalksOn went old mid → ((b : PieceBacking) → old.backing ≡ Some b → went ≡ Went.On → left_in mid ≡ []) → ((b : PieceBacking) → mid.backing ≡ Some b → went ≡ Went.On → b.work.parts ≡ None)
    → BackupSends mid holding went step new → (b : PieceBacking) (es : Trace) → IsWorking (backup_task holding.who) holding.token es → old.backing ≡ Some b → IsGoingOn (handed_to old) old.catalog.lookup b (left_in old) es
    → length (facts_in b.waiting) < facts_limit → MayGoOn (backup_rule (handed_to old)) holding.who (Knows new) (λ fs. ⊥) es step
sent_so old mid new holding went step steps catalog walks all laid sends b es working is due room =
    let k = walks b is in
    let c : PieceBacking = record b { work = k.0.work } in
    let handed : handed_to mid ≡ handed_to old = ap (λ (s : Vec WalkStep Global). walked [] s.items) steps in
    let facts : mid.catalog.lookup ≡ old.catalog.lookup = ap (λ (x : Catalog). x.lookup) catalog in
    let goes = k.4 (handed_to old) b due.puts [] es refl due.goes in
    let next : IsDueNext (handed_to old) old.catalog.lookup went c (left_in mid) es = record { puts = due.puts; goes = goes; none = due.none; all = all b is; unlaid = laid k.0 k.1; room = room } in
    let D : List Entry → List Fact → PieceBacking → Type 0 = λ en fs d. IsDueNext en fs went d (left_in mid) es in
    let there : D (handed_to mid) mid.catalog.lookup k.0 = subst (λ en. D en mid.catalog.lookup k.0) (sym handed) (subst (λ fs. D (handed_to old) fs k.0) (sym facts) (subst (λ d. D (handed_to old) old.catalog.lookup d) (sym k.2) next)) in
    subst (λ en. MayGoOn (backup_rule en) holding.who (Knows new) (λ fs. ⊥) es step) handed (sends k.0 es working k.1 there)

pub walked_so : (went : Went) (old new : Backup) (a c : PieceBacking) → old.backing ≡ Some a → new.backing ≡ Some c → c ≡ record a { work = c.work } → IsSameWay a.work c.work → GoesSo old.catalog.lookup a.work (left_in old) went c.work (left_in new) → WalksOn went old new
walked_so went old new a c there now same way goes b is =
    let one : a ≡ b = same_Some a b (sym there ∙ is) in
    (c, now, subst (λ x. c ≡ record x { work = c.work }) one same, subst (λ (x : PieceBacking). IsSameWay x.work c.work) one way, subst (λ (x : PieceBacking). GoesSo old.catalog.lookup x.work (left_in old) went c.work (left_in new)) one goes)

-- ---- where there was no memory for what comes next

-- the same is known of a put
known_so : (old new : Backup) → new.steps ≡ old.steps → new.catalog ≡ old.catalog → (token : Token) (kind : Kind) (n : Name) (x : List ℕ) (es : Trace) → KnowsPut (handed_to old) old.catalog.lookup new.backing (left_in new) (Ask.Put token kind n x) es
    → Knows new (Ask.Put token kind n x) es
known_so old new steps catalog token kind n x es h =
    let E : List Entry → Type 0 = λ en. KnowsPut en old.catalog.lookup new.backing (left_in new) (Ask.Put token kind n x) es in
    let C : Catalog → Type 0 = λ c. KnowsPut (handed_to new) c.lookup new.backing (left_in new) (Ask.Put token kind n x) es in
    inr (subst C (sym catalog) (subst E (sym (ap (λ (s : Vec WalkStep Global). walked [] s.items) steps)) h))

-- a pack
pub pack_kept : (old new : Backup) (b : PieceBacking) → old.backing ≡ Some b → new.steps ≡ old.steps → new.catalog ≡ old.catalog → WalksOn Went.On old new → (token : Token) (n : Name) (x : List ℕ) (es : Trace)
    → BackupPuts (handed_to old) (left_in old) (λ items. PutsPack old.catalog.lookup b n x items es) → Knows new (Ask.Put token Kind.Pack n x) es
pack_kept old new b is steps catalog walks token n x es h =
    let k = walks b is in
    let puts = h.2 in
    let u = k.4 (handed_to old) b puts.puts (puts.put ∷ []) es refl (record { items = h.0; leads = h.1; at = puts.at; unsealed = puts.unsealed }) in
    let c : PieceBacking = record b { work = k.0.work } in
    let now : PutsPack old.catalog.lookup c n x u.items es = record { puts = puts.puts; put = puts.put; at = u.at; unsealed = u.unsealed; pack_is = puts.pack_is; few = puts.few } in
    known_so old new steps catalog token Kind.Pack n x es (k.0, k.1, (u.items, u.leads, subst (λ d. PutsPack old.catalog.lookup d n x u.items es) (sym k.2) now))

-- an index, whose packs wait again
pub index_kept : (old new : Backup) (a e : PieceBacking) (w : PieceWork) → new.steps ≡ old.steps → new.catalog ≡ old.catalog → new.backing ≡ Some e → e ≡ record a { work = w } → GoesSo old.catalog.lookup a.work (left_in old) Went.On w (left_in new)
    → (token : Token) (n : Name) (x : List ℕ) (es : Trace) → BackupPuts (handed_to old) (left_in old) (λ items. PutsIndex old.catalog.lookup a x items es) → Knows new (Ask.Put token Kind.Index n x) es
index_kept old new a e w steps catalog there so goes token n x es h =
    let puts = h.2 in
    let u = goes (handed_to old) a puts.puts [] es refl (record { items = h.0; leads = h.1; at = puts.at; unsealed = puts.unsealed }) in
    let c : PieceBacking = record a { work = w } in
    let now : PutsIndex old.catalog.lookup c x u.items es = record { puts = puts.puts; at = u.at; unsealed = u.unsealed; listed = puts.listed; reads = puts.reads } in
    known_so old new steps catalog token Kind.Index n x es (e, there, (u.items, u.leads, subst (λ d. PutsIndex old.catalog.lookup d x u.items es) (sym so) now))
