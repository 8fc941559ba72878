-- What is known while a snapshot is restored.
use Rattle.std.proofs.Common.{◌≡◌, ◌⊎◌, ◌≢◌, ◌≤◌, ◌∷◌, ◌++◌, [], ℕ, Bool, true, false, List, length, Option, Some, refl, sym, ap, subst, inl, inr, ◌∙◌, ⊎_elim}
use Rattle.std.proofs.lemmas.List.{append-nil}
use Rattle.repo_name.specs.Naming as naming
use Rattle.repo_name.specs.declared.kinds.Kind.{Kind}
use Rattle.repo_name.specs.declared.kinds.BlobKind.{BlobKind}
use Rattle.repo_name.specs.declared.names.Name.{Name}
use Rattle.repo_name.specs.declared.tokens.Token.{Token}
use Rattle.repo_wire.specs.declared.messages.Ask.{Ask}
use Rattle.repo_wire.specs.declared.messages.Say.{Say}
use Rattle.repo_index.specs.declared.facts.Fact.{Fact}
use Rattle.repo_tree.specs.declared.configs.Config.{Config}
use Rattle.repo_tree.specs.ConfigText.{IsConfigText}
use Rattle.repo_tree.specs.Parts.{Blobs}
use Rattle.repo_tree.specs.Spelling.{Spells, Reach, greatest_depth}
use Rattle.repo_index.specs.IndexText.{fact_of}
use Rattle.repo_session.specs.declared.catalogs.Catalog.{Catalog}
use Rattle.repo_session.specs.declared.emissions.Emission.{Emission}
use Rattle.repo_session.specs.declared.outcomes.End.{End}
use Rattle.repo_session.specs.declared.outcomes.Outcome.{Outcome}
use Rattle.repo_session.specs.Askers.{Asker}
use Rattle.repo_session.specs.Catalogs.{Catalogs, IsAll, IsBlobNowhere}
use Rattle.repo_session.specs.Ends.{Concludes, blob_thing}
use Rattle.repo_session.specs.Jobs.{task_under, known_under, MayAsk}
use Rattle.repo_session.specs.Blobs.{HasCome, IsBadBlob, IsBadPart, range_of}
use Rattle.repo_session.specs.Order.{IsReading, IsWorking, ReadsKind, opened}
use Rattle.repo_session.specs.Readings.{KnowsIndexes}
use Rattle.repo_session.specs.Rebuilding.{rebuilt, Follow}
use Rattle.repo_session.specs.Traces.{Each, Exchange, Trace, emitted_in, page_names, is_last_page, object_got, ReadFact, IsGiven, WasAsked}
use Rattle.repo_session.proofs.Cataloguing.{are_indexed, catalog_fresh, catalog_on}
use Rattle.repo_session.proofs.Descending.{fact_read, received_grows, root_grows, not_given}
use Rattle.repo_session.proofs.Holding.{opened_working}
use Rattle.repo_session.proofs.Receiving.{each_more}
use Rattle.repo_session.proofs.Rolling.{opened_rolled}
use Rattle.repo_restore.specs.declared.nodes.Level.{Level}
use Rattle.repo_restore.specs.declared.restores.Restore.{Restore}
use Rattle.repo_restore.specs.declared.restores.Stage.{Stage}
use Rattle.repo_restore.specs.declared.walks.Turn.{Turn}
use Rattle.repo_restore.specs.declared.walks.Walk.{Walk}
use Rattle.repo_session.specs.Received.{Received}
use Rattle.repo_session.specs.Trees.{HasRoot, Under, IsUnindexed}
use Rattle.repo_restore.specs.Restoring.{HasLength, IsMissing, IsDueBlob, IsBadTree, HasGoneOn, IsAskedOnce, MayGive, counted, restore_rule, RestoreAllows, RestoreConcludes, Sums}
use Rattle.repo_session.specs.Ends.{AsksPart}
use Rattle.repo_restore.specs.RestoreStates.{IsRefused, IsRangeOf, IsBefore, IsNewRestore, IsWalking, KnowsAtStage, KnowsRestore, RestoreTurnIs, TurnIsOnce}
use Rattle.repo_restore.specs.Positions.{IsOwnTree, IsFurtherTree, IsNextFile}
use Rattle.repo_restore.specs.Moves.{BlobMoves}
use Rattle.repo_restore.specs.Walking.{LacksBlob, WalkEnds, WaitsByKind, TreeWaitsBy, WaitsForBlob, Turns, TurnGives, IsUnevenIn, RefusesTree}
use Rattle.repo_restore.specs.Walks.{WalkGives, is_open}
use Rattle.repo_restore.proofs.Growing.{walk_grows}
use Rattle.repo_restore.proofs.Positioning.{waits_next, own_next, further_next}
use Rattle.repo_restore.proofs.Trees.{part_lists, text_part}

-- what is reckoned by the catalog is reckoned by just the facts that were read
length_by : (c : Catalog) (es : Trace) (content : List Name) (total : ℕ) → Catalogs c true es → Sums c.lookup content total → HasLength es content total
length_by c es content total h s = record { facts = c.lookup; gives = h.gives; sums = s }

bad_tree : (c : Catalog) (s : Name) (version : ℕ) (root : Name) (es : Trace) (tree : Name) → Catalogs c true es → HasRoot es s version root → (path : List (List ℕ)) × Under version (Received es) root path tree × (length path ≤ greatest_depth)
    → IsUnevenIn c.lookup version (Received es) root (emitted_in es) tree → IsBadTree es s tree
bad_tree c s version root es tree h found at u = record {
  version = version;
  root = root;
  path = at.0;
  found = found;
  leads = at.1;
  shallow = at.2;
  unfit = inr (record {
    directory = u.directory;
    parts = u.parts;
    behind = u.behind;
    nodes = u.nodes;
    read = u.read;
    file = u.file;
    size = u.size;
    content = u.content;
    among = u.among;
    next = u.next;
    total = u.total;
    lengths = length_by c es u.content u.total h u.sums;
    other = u.other;
  });
}

-- the names of content blobs that have places are given
all_given : (c : Catalog) (es : Trace) (names : List Name) (total : ℕ) → Catalogs c true es → Sums c.lookup names total → Each (IsGiven es BlobKind.Content) names
all_given c es [] total h s = tt
all_given c es (n ∷ names) total h s =
    let fact : Fact = fact_of BlobKind.Content n s.0 in
    ((fact, (h.gives fact).0 s.2.among, refl, refl), all_given c es names s.1 h s.3)

-- a blob that has no place is missing
missing : (c : Catalog) (s : Name) (version : ℕ) (root : Name) (es : Trace) (name : Name) → Catalogs c true es → IsAll c → HasRoot es s version root → (kind : BlobKind) → IsBlobNowhere c.lookup kind name → Reach version (Received es) root kind name
    → LacksBlob kind c.lookup version (Received es) root (emitted_in es) name → IsMissing es s (blob_thing kind) name
missing c s version root es name h all found kind none reached lacks = by kind none reached lacks
  where
    nowhere : (kind : BlobKind) → IsBlobNowhere c.lookup kind name → Reach version (Received es) root kind name → IsUnindexed es s (blob_thing kind) name
    nowhere kind none reached = record {
      kind = kind;
      called = refl;
      version = version;
      root = root;
      found = found;
      reached = reached;
      indexes = are_indexed c.roll.kind c.roll.names.items c.roll.read c.lookup es h all;
      ungiven = not_given c es kind name h none;
    }

    by : (kind : BlobKind) → IsBlobNowhere c.lookup kind name → Reach version (Received es) root kind name → LacksBlob kind c.lookup version (Received es) root (emitted_in es) name → IsMissing es s (blob_thing kind) name
    by BlobKind.Tree none reached next = (nowhere BlobKind.Tree none reached, next)
    by BlobKind.Content none reached l = (
      nowhere BlobKind.Content none reached,
      record {
        directory = l.0;
        file = l.1;
        size = l.2;
        earlier = l.5.earlier;
        later = l.5.later;
        next = subst (λ ns. IsNextFile version (Received es) root (emitted_in es) l.0 l.1 l.2 ns) l.5.all l.4;
        found = all_given c es l.5.earlier l.5.total h l.5.sums;
      },
    )

-- a walk's end by itself is one that a restore may have
walk_ended : (known : ℕ) (c : Catalog) (s : Name) (version : ℕ) (root : Name) (es : Trace) (end : End) → Catalogs c true es → IsAll c → HasRoot es s version root → WalkEnds c.lookup version (Received es) root (emitted_in es) end
    → HasCome (IsDueBlob s) es → Concludes known (RestoreConcludes s) es (Outcome.Ended end)
walk_ended known c s version root es (End.Missing thing name) h all found e came = inr (subst (λ t. IsMissing es s t name) (sym e.1) (missing c s version root es name h all found e.0 e.2 e.3 e.4), came)
walk_ended known c s version root es (End.BadObject thing tree) h all found e came =
    subst (λ t. Concludes known (RestoreConcludes s) es (Outcome.Ended (End.BadObject t tree))) (sym e.0) (inr (inl (bad_tree c s version root es tree h found e.1 e.2, came)))
walk_ended known c s version root es End.Busy h all found e came = absurd e
walk_ended known c s version root es End.Fenced h all found e came = absurd e
walk_ended known c s version root es (End.Refused code) h all found e came = absurd e
walk_ended known c s version root es End.BadReply h all found e came = absurd e
walk_ended known c s version root es End.Version h all found e came = absurd e
walk_ended known c s version root es End.DirectoryTooLarge h all found e came = absurd e
walk_ended known c s version root es End.FileTooLarge h all found e came = absurd e
walk_ended known c s version root es End.Abandoned h all found e came = absurd e

-- and a tree that was refused
refused_concludes : (known : ℕ) (s : Name) (version : ℕ) (root : Name) (es : Trace) (end : End) → HasRoot es s version root → IsRefused es version root end → HasCome (IsDueBlob s) es → Concludes known (RestoreConcludes s) es (Outcome.Ended end)
refused_concludes known s version root es end found r came =
    subst (λ x. Concludes known (RestoreConcludes s) es (Outcome.Ended x)) (sym r.2) (inr (inl (record { version = version; root = root; path = r.1; found = found; leads = r.3; shallow = r.4; unfit = inl r.5 }, came)))

-- a walk's end is one that a restore may have
pub walk_concludes : (known : ℕ) (c : Catalog) (s : Name) (version : ℕ) (root : Name) (es : Trace) (end : End) → Catalogs c true es → IsAll c → HasRoot es s version root
    → WalkEnds c.lookup version (Received es) root (emitted_in es) end ⊎ IsRefused es version root end → HasCome (IsDueBlob s) es → Concludes known (RestoreConcludes s) es (Outcome.Ended end)
walk_concludes known c s version root es end h all found e came = ⊎_elim (λ w. walk_ended known c s version root es end h all found w came) (λ r. refused_concludes known s version root es end found r came) e

-- the tree that the newest exchange brought was refused
pub refused_now : (e : Exchange) (es : Trace) (version : ℕ) (root name : Name) (x : List ℕ) (out : List Emission) (end : End) → e.say ≡ Say.Bytes x → naming.name x ≡ name → e.emitted ≡ out
    → RefusesTree (Some name) version (Received (e ∷ es)) root (emitted_in es) out end → IsRefused (e ∷ es) version root end
refused_now e es version root name x out end said named is r = (name, r.2.0, r.0, r.2.1, r.2.2, ((x, said, named), is ∙ r.1, r.2.3))

-- nothing was given out yet
pub before_on : (walk : Walk) (given : List Emission) (e : Exchange) (es : Trace) → e.emitted ≡ given → IsBefore walk given es → IsBefore walk given (e ∷ es)
before_on walk given e es p h = record {
  no_levels = h.no_levels;
  no_entries = h.no_entries;
  not_onward = h.not_onward;
  none_given = h.none_given;
  nothing = ap (λ x. emitted_in es ++ x) (p ∙ h.none_given) ∙ append-nil (emitted_in es) ∙ h.nothing;
}

-- an exchange that is neither a page nor an index
pub snapshot_on : (c : Catalog) (e : Exchange) (n : Name) (x : List ℕ) (whole : Bool) (es : Trace) → e.ask ≡ Ask.Get Kind.Snapshot n → e.say ≡ Say.Bytes x → Catalogs c whole es → Catalogs c whole (e ∷ es)
snapshot_on c e n x whole es q t h =
    let none : (m : Name) → e.ask ≢ Ask.Get Kind.Index m = λ m a. (let w : Ask.Get Kind.Snapshot n ≡ Ask.Get Kind.Index m = sym q ∙ a in let k : Kind.Snapshot ≡ Kind.Index = cc in absurd (cc)) in
    let page : (after : Option Name) → e.ask ≢ Ask.List Kind.Index after = λ after a. (let w : Ask.Get Kind.Snapshot n ≡ Ask.List Kind.Index after = sym q ∙ a in absurd (cc)) in
    catalog_on e c.roll.kind c.roll.names.items c.roll.read c.lookup whole es (ap (λ a. page_names Kind.Index a e.say) q) (ap (λ a. is_last_page Kind.Index a e.say) q)
    (ap (λ a. object_got Kind.Index a e.say) q ∙ ap (λ b. object_got Kind.Index (Ask.Get Kind.Snapshot n) b) t) page none h

pub range_on : (c : Catalog) (e : Exchange) (pack : Name) (offset len : ℕ) (whole : Bool) (es : Trace) → e.ask ≡ Ask.Range pack offset len → Catalogs c whole es → Catalogs c whole (e ∷ es)
range_on c e pack offset len whole es q h =
    let none : (m : Name) → e.ask ≢ Ask.Get Kind.Index m = λ m a. (let w : Ask.Range pack offset len ≡ Ask.Get Kind.Index m = sym q ∙ a in absurd (cc)) in
    let page : (after : Option Name) → e.ask ≢ Ask.List Kind.Index after = λ after a. (let w : Ask.Range pack offset len ≡ Ask.List Kind.Index after = sym q ∙ a in absurd (cc)) in
    catalog_on e c.roll.kind c.roll.names.items c.roll.read c.lookup whole es (ap (λ a. page_names Kind.Index a e.say) q) (ap (λ a. is_last_page Kind.Index a e.say) q) (ap (λ a. object_got Kind.Index a e.say) q) page none h

-- the snapshot is asked for first
pub first_ask : (j : Restore) (who : Asker) (token : Token) (text : List ℕ) (config : Config) → IsNewRestore j → IsConfigText text config → config.version ≤ known_under (restore_rule j.snapshot) who
    → MayAsk (restore_rule j.snapshot) who (KnowsRestore j) (opened (task_under (restore_rule j.snapshot) who) token text) (Ask.Get Kind.Snapshot j.snapshot)
first_ask j who token text config new reads known =
    let task = task_under (restore_rule j.snapshot) who in
    let ask = Ask.Get Kind.Snapshot j.snapshot in
    let es : Trace = opened task token text in
    let indexes = catalog_fresh task token text j.catalog.roll.kind j.catalog.roll.names.items j.catalog.roll.read j.catalog.lookup es new.of_indexes new.no_names new.none_read new.no_facts refl in
    let before : IsBefore j.walk j.given.items es = record { no_levels = new.no_levels; no_entries = new.no_entries; not_onward = new.not_onward; none_given = new.none_given; nothing = refl } in
    let S : Stage → Type 0 = λ stage. KnowsAtStage j stage ask es in
    record { work = tt; may = ((token, opened_working task token text config reads known), inr (refl, refl)); allowed = (refl, λ was. (opened_rolled Kind.Snapshot task token text).asked j.snapshot was); knows = subst S (sym new.at_start) (refl, new.none_read, indexes, before) }

-- what reads indexes is allowed once the snapshot was read
pub reads_allowed : (snapshot : Name) (es : Trace) (ask : Ask) → WasAsked es (Ask.Get Kind.Snapshot snapshot) → ReadsKind Kind.Index es ask → RestoreAllows snapshot es ask
reads_allowed snapshot es (Ask.Get Kind.Index n) before h = (h, before)
reads_allowed snapshot es (Ask.Get Kind.Pack n) before h = (h, before)
reads_allowed snapshot es (Ask.Get Kind.Snapshot n) before h = absurd (cc h.0)
reads_allowed snapshot es (Ask.List k after) before h = (h, before)
reads_allowed snapshot es (Ask.Range pack offset len) before h = absurd h
reads_allowed snapshot es Ask.Ticket before h = (h, before)
reads_allowed snapshot es (Ask.Lock row) before h = (h, before)
reads_allowed snapshot es (Ask.Refresh t time) before h = (h, before)
reads_allowed snapshot es (Ask.Unlock t) before h = (h, before)
reads_allowed snapshot es Ask.Locks before h = (h, before)
reads_allowed snapshot es (Ask.Put t k n x) before h = (h, before)
reads_allowed snapshot es (Ask.Delete t k n) before h = (h, before)
reads_allowed snapshot es Ask.Config before h = (h, before)
reads_allowed snapshot es (Ask.Upgrade t) before h = (h, before)

-- nothing else is
pub only_reads : (snapshot : Name) (es : Trace) (ask : Ask) → RestoreAllows snapshot es ask → IsReading ask
only_reads snapshot es (Ask.Get k n) h = tt
only_reads snapshot es (Ask.List k after) h = tt
only_reads snapshot es (Ask.Range pack offset len) h = tt
only_reads snapshot es Ask.Ticket h = absurd h.0
only_reads snapshot es (Ask.Lock row) h = absurd h.0
only_reads snapshot es (Ask.Refresh t time) h = absurd h.0
only_reads snapshot es (Ask.Unlock t) h = absurd h.0
only_reads snapshot es Ask.Locks h = absurd h.0
only_reads snapshot es (Ask.Put t k n x) h = absurd h.0
only_reads snapshot es (Ask.Delete t k n) h = absurd h.0
only_reads snapshot es Ask.Config h = absurd h.0
only_reads snapshot es (Ask.Upgrade t) h = absurd h.0

-- the blob that a walk waits for may be asked for
pub waits_asks : (j : Restore) (version : ℕ) (fact : Fact) (who : Asker) (token : Token) (es : Trace) → j.stage ≡ Stage.Walk fact version → IsWorking (task_under (restore_rule j.snapshot) who) token es → (k : IsWalking j version fact es) → IsAskedOnce es version k.root fact.kind fact.name
    → MayAsk (restore_rule j.snapshot) who (KnowsRestore j) es (range_of fact)
waits_asks j version fact who token es at w k once =
    let read = fact_read j.catalog es fact k.indexes k.waits.least in
    let S : Stage → Type 0 = λ stage. KnowsAtStage j stage (range_of fact) es in
    record {
      work = tt;
      may = ((token, w), (fact, read, refl, refl, refl));
      allowed = record {
        indexes = are_indexed j.catalog.roll.kind j.catalog.roll.names.items j.catalog.roll.read j.catalog.lookup es k.indexes k.all;
        facts = j.catalog.lookup;
        gives = k.indexes.gives;
        fact = fact;
        at = refl;
        least = k.waits.least;
        version = version;
        root = k.root;
        found = k.found;
        next = waits_next j.catalog.lookup version (Received es) k.root j.walk.levels.items j.walk.sent fact (emitted_in es) j.walk.onward j.walk.entries k.waits;
        once = once;
      };
      knows = subst S (sym at) (refl, k);
    }

-- what comes next of a walk, over the trace
pub turn_is : (came : Option Name) (facts : List Fact) (walk : Walk) (version : ℕ) (root : Name) (es : Trace) (old out : List Emission) (turn : Turn) → emitted_in es ≡ old ++ out → ((end : End) → RefusesTree came version (Received es) root old out end → IsRefused es version root end) → Turns came facts version (Received es) root walk old out turn
    → RestoreTurnIs facts walk version root es turn
turn_is came facts walk version root es old out (Turn.Ask fact) e refused h = subst (λ x. WaitsForBlob facts version (Received es) root walk fact x) (sym e) h.0
turn_is came facts walk version root es old out (Turn.Complete count) e refused h =
    (subst (λ x. Spells version (Received es) root [] (rebuilt x)) (sym e) h.0, subst (λ x. count ≡ counted (length (rebuilt x))) (sym e) h.1, subst (λ x. Follow false x false) (sym e) h.2.order)
turn_is came facts walk version root es old out (Turn.Ended end) e refused h = ⊎_elim (λ w. inl (subst (λ x. WalkEnds facts version (Received es) root x end) (sym e) w)) (λ r. inr (refused end r)) h.0

turn_gave : (came : Option Name) (facts : List Fact) (version : ℕ) (B : Blobs) (root : Name) (levels : List Level) (sent : ℕ) (onward : Bool) (entries : ℕ) (old out : List Emission) (turn : Turn) → TurnGives came facts version B root levels sent onward entries old out turn → Each (WalkGives facts version B root) out
turn_gave came facts version B root levels sent onward entries old out (Turn.Ask fact) h = h.1
turn_gave came facts version B root levels sent onward entries old out (Turn.Complete count) h = h.2.each
turn_gave came facts version B root levels sent onward entries old out (Turn.Ended end) h = h.1.each

may_give : (c : Catalog) (es : Trace) (version : ℕ) (root : Name) (given : Emission) → Catalogs c true es → WalkGives c.lookup version (Received es) root given → MayGive es version root given
may_give c es version root (Emission.Dir path) h g = g
may_give c es version root (Emission.File path) h g = (g.0, g.1, g.2, length_by c es g.1 g.0 h g.3)
may_give c es version root (Emission.Piece bytes) h g = g
may_give c es version root Emission.Close h g = g

-- each part that a turn gives out is one that may be
pub turn_may_give : (came : Option Name) (c : Catalog) (es : Trace) (version : ℕ) (root : Name) (levels : List Level) (sent : ℕ) (onward : Bool) (entries : ℕ) (old out : List Emission) (turn : Turn) → Catalogs c true es
    → TurnGives came c.lookup version (Received es) root levels sent onward entries old out turn → Each (MayGive es version root) out
turn_may_give came c es version root levels sent onward entries old out turn h t =
    each_more (WalkGives c.lookup version (Received es) root) (MayGive es version root) out (λ given g. may_give c es version root given h g) (turn_gave came c.lookup version (Received es) root levels sent onward entries old out turn t)

-- what is known where the bytes of the blob came that was asked for
pub record RangeTaken (j : Restore) (version : ℕ) (fact : Fact) (root : Name) (e : Exchange) (bytes : List ℕ) (es : Trace) : Type 0 where
  pub still : HasRoot (e ∷ es) j.snapshot version root
  pub indexes : Catalogs j.catalog true (e ∷ es)
  pub given : ReadFact (e ∷ es) fact
  pub waits : WaitsForBlob j.catalog.lookup version (Received (e ∷ es)) root j.walk fact (emitted_in es)
  pub got : length bytes ≡ fact.place.length → naming.name bytes ≡ fact.name → Received (e ∷ es) fact.kind bytes

pub range_taken : (j : Restore) (version : ℕ) (fact : Fact) (e : Exchange) (bytes : List ℕ) (es : Trace) → IsRangeOf fact e.ask → e.say ≡ Say.Bytes bytes → (k : IsWalking j version fact es) → RangeTaken j version fact k.root e bytes es
range_taken j version fact e bytes es of said k =
    let indexes = range_on j.catalog e fact.place.pack fact.place.offset fact.place.length true es of k.indexes in
    let given = fact_read j.catalog (e ∷ es) fact indexes k.waits.least in
    record {
      still = root_grows e es j.snapshot version k.root k.found;
      indexes = indexes;
      given = given;
      waits = walk_grows j.catalog.lookup version (Received es) (Received (e ∷ es)) (received_grows e es) k.root j.walk.levels.items j.walk.sent j.walk.onward j.walk.entries fact (emitted_in es) k.waits;
      got = λ long named. record { fact = fact; given = given; of_kind = refl; replied = inl (of, said); long = long; named = named };
    }

-- ---- nothing is asked for again

pub index_no_blob : (c : Catalog) (ask : Ask) (es : Trace) → KnowsIndexes c ask es → ¬ AsksPart ask
index_no_blob c (Ask.Range pack offset len) es h = absurd h
index_no_blob c (Ask.List k after) es h = λ x. x
index_no_blob c (Ask.Get k n) es h = λ x. x
index_no_blob c Ask.Ticket es h = absurd h
index_no_blob c (Ask.Lock row) es h = absurd h
index_no_blob c (Ask.Refresh t time) es h = absurd h
index_no_blob c (Ask.Unlock t) es h = absurd h
index_no_blob c Ask.Locks es h = absurd h
index_no_blob c (Ask.Put t j n x) es h = absurd h
index_no_blob c (Ask.Delete t j n) es h = absurd h
index_no_blob c Ask.Config es h = absurd h
index_no_blob c (Ask.Upgrade t) es h = absurd h

-- right behind the last index
pub once_first : (c : Catalog) (walk : Walk) (e : Exchange) (es : Trace) (version : ℕ) (root : Name) (turn : Turn) → KnowsIndexes c e.ask es → TurnIsOnce walk (e ∷ es) version root turn
once_first c walk e es version root (Turn.Ask fact) h = let gone = index_no_blob c e.ask es h in (inl (inl gone), λ off. inl gone)
once_first c walk e es version root (Turn.Complete count) h = tt
once_first c walk e es version root (Turn.Ended end) h = tt

-- and on the bytes of a blob
module _ (facts : List Fact) (version : ℕ) (root : Name) (old new : Walk) (fact : Fact) (e : Exchange) (es : Trace) (x : List ℕ) (waits : WaitsForBlob facts version (Received (e ∷ es)) root old fact (emitted_in es)) (said : e.say ≡ Say.Bytes x)
    (named : naming.name x ≡ fact.name) (got : Received (e ∷ es) fact.kind x) (went : old.onward ≡ false → HasGoneOn es) where
  abbrev B : Blobs
  B = Received (e ∷ es)

  -- the tree that came is that of the directory that was given out last
  own_came : old.onward ≡ false → fact.kind ≡ BlobKind.Tree → IsOwnTree version B root (emitted_in es) (naming.name x)
  own_came off kind =
      let K : BlobKind → Type 0 = λ k. WaitsByKind k facts version B root old.levels.items old.sent old.onward fact (emitted_in es) in
      let tree = subst (λ o. TreeWaitsBy o version B root old.levels.items fact (emitted_in es)) off (subst K kind waits.waits) in
      subst (λ n. IsOwnTree version B root (emitted_in es) n) (sym named) (own_next facts version B root old.levels.items old.sent fact (emitted_in es) tree (subst (λ k. Follow false (emitted_in es) (is_open k)) kind waits.order))

  -- and what comes next is a further part
  further_comes : (next : Fact) (emitted : List Emission) → new.onward ≡ true → next.kind ≡ BlobKind.Tree → WaitsForBlob facts version B root new next emitted → IsFurtherTree version B root emitted next.name
  further_comes next emitted on kind w =
      let K : BlobKind → Type 0 = λ k. WaitsByKind k facts version B root new.levels.items new.sent new.onward next emitted in
      let part = subst (λ o. TreeWaitsBy o version B root new.levels.items next emitted) on (subst K kind w.waits) in
      further_next facts version B root new.levels.items new.sent next emitted part (subst (λ k. Follow false emitted (is_open k)) kind w.order)

  ask_once : (next : Fact) (out : List Emission) → e.emitted ≡ out → WaitsForBlob facts version B root new next (emitted_in es ++ out) → BlobMoves version fact x old out (Turn.Ask next) new → IsAskedOnce (e ∷ es) version root next.kind next.name × (new.onward ≡ false → HasGoneOn (e ∷ es))
  ask_once next out is w (inl some) = let gone : e.emitted ≢ [] = λ none. some (sym is ∙ none) in (inl (inr gone), λ off. inr gone)
  ask_once next (first ∷ out) is w (inr none) = let gone : e.emitted ≢ [] = λ nothing. (let q : first ∷ out ≡ [] = sym is ∙ nothing in absurd (cc)) in (inl (inr gone), λ off. inr gone)
  ask_once next [] is w (inr (on, kind, off, tree, text)) =
      let same : emitted_in es ≡ emitted_in es ++ e.emitted = sym (ap (λ out. emitted_in es ++ out) is ∙ append-nil (emitted_in es)) in
      let whole : emitted_in es ++ [] ≡ emitted_in es ++ e.emitted = ap (λ out. emitted_in es ++ out) (sym is) in
      let further = subst (λ given. IsFurtherTree version B root given next.name) whole (further_comes next (emitted_in es ++ []) on kind w) in
      let own = subst (λ given. IsOwnTree version B root given (naming.name x)) same (own_came off tree) in
      let part = text_part version B (naming.name x) x [] text.0 (subst (λ k. Received (e ∷ es) k x) tree got) refl text.1 in
      (inr (kind, (further, (x, said, own, part_lists version B (naming.name x) [] text.0 part), went off)), λ none. (let w : true ≡ false = sym on ∙ none in absurd (cc)))

  pub once_next : (came : Option Name) (out : List Emission) (turn : Turn) → e.emitted ≡ out → Turns came facts version B root new (emitted_in es) out turn → BlobMoves version fact x old out turn new → TurnIsOnce new (e ∷ es) version root turn
  once_next came out (Turn.Ask next) is turns moves = ask_once next out is turns.0 moves
  once_next came out (Turn.Complete count) is turns moves = tt
  once_next came out (Turn.Ended end) is turns moves = tt

-- ---- other bytes came

-- the blob that the walk waits for is due
pub blob_due : (j : Restore) (version : ℕ) (fact : Fact) (es : Trace) → IsWalking j version fact es → IsDueBlob j.snapshot es fact
blob_due j version fact es k =
    let next = waits_next j.catalog.lookup version (Received es) k.root j.walk.levels.items j.walk.sent fact (emitted_in es) j.walk.onward j.walk.entries k.waits in
    (fact_read j.catalog es fact k.indexes k.waits.least, (version, k.root, k.found, next, k.once))

-- of a part that is bad a restore may tell so, be it a tree or content
part_concludes : (s : Name) (es : Trace) (kind : BlobKind) (name : Name) → IsBadPart (IsDueBlob s) es (blob_thing kind) name → RestoreConcludes s es (Outcome.Ended (End.BadObject (blob_thing kind) name))
part_concludes s es BlobKind.Tree name h = inr h
part_concludes s es BlobKind.Content name h = h

-- where other bytes came than those of the blob that was asked for, a restore may tell that this one is bad
pub part_refused : (known : ℕ) (j : Restore) (version : ℕ) (fact : Fact) (e : Exchange) (bytes : List ℕ) (es : Trace) → IsRangeOf fact e.ask → e.say ≡ Say.Bytes bytes → IsWalking j version fact es → IsBadBlob fact bytes
    → Concludes known (RestoreConcludes j.snapshot) (e ∷ es) (Outcome.Ended (End.BadObject (blob_thing fact.kind) fact.name))
part_refused known j version fact e bytes es of said k bad =
    inr (part_concludes j.snapshot (e ∷ es) fact.kind fact.name (fact, blob_due j version fact es k, (of, bytes, said, bad), refl, refl))
