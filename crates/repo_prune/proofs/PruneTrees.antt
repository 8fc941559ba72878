-- What is known while a prune reads trees, and once it did.
use Rattle.std.proofs.Common.{arith, Vec, Global, ◌≡◌, ◌≢◌, ◌⊎◌, ◌≤◌, ◌++◌, ◌∷◌, [], ℕ, Bool, true, false, List, length, map, Some, slice_get, get_or, refl, sym, ap, subst, inl, inr, ◌∙◌, Contains}
use Rattle.std.specs.List.{All}
use Rattle.std.proofs.lemmas.List.Elements.{All-contains, Contains-get_or, Contains-append_left, Contains-append_right, Contains-append_cases}
use Rattle.std.proofs.lemmas.List.{length-append}
use Rattle.std.proofs.lemmas.List.Quantifiers.{all_pairs_push}
use Rattle.std.proofs.lemmas.Option.{none-some}
use Rattle.repo_name.specs.Naming as naming
use Rattle.repo_wire.specs.declared.messages.Ask.{Ask}
use Rattle.repo_name.proofs.Containing.{contained_or, contains_map, first_contained, flat_contains, map_contains, none_contained}
use Rattle.repo_name.specs.declared.kinds.BlobKind.{BlobKind}
use Rattle.repo_name.specs.declared.kinds.BlobKind.TheVariants.{Content, Tree}
use Rattle.repo_name.specs.declared.kinds.Kind.{Kind}
use Rattle.repo_name.specs.declared.kinds.Thing.{Thing}
use Rattle.repo_name.specs.declared.names.Name.{Name}
use Rattle.repo_name.specs.declared.tokens.Token.{Token}
use Rattle.repo_wire.specs.declared.messages.Say.{Say}
use Rattle.repo_pack.specs.PackLayout.{IsWithin}
use Rattle.repo_index.proofs.OneLemmas.{index_texts_lawful}
use Rattle.repo_index.specs.IndexText.{fact_of}
use Rattle.repo_index.specs.Lookups.{IsLeast}
use Rattle.repo_index.specs.declared.facts.Fact.{Fact}
use Rattle.repo_index.specs.declared.facts.PackFacts.{PackFacts}
use Rattle.repo_tree.specs.Laws.{Grows}
use Rattle.repo_tree.specs.Parts.{ListsBy}
use Rattle.repo_tree.specs.Spelling.{Reach, greatest_depth}
use Rattle.repo_tree.specs.declared.nodes.Node.{Node}
use Rattle.repo_session.specs.declared.outcomes.End.{End}
use Rattle.repo_session.specs.declared.outcomes.Outcome.{Outcome}
use Rattle.repo_session.specs.Askers.{Asker}
use Rattle.repo_session.specs.Blobs.{range_of, HasCome, IsBadPart}
use Rattle.repo_session.specs.Catalogs.{IsBlobNowhere}
use Rattle.repo_session.specs.Ends.{blob_thing, Concludes}
use Rattle.repo_session.specs.Jobs.{MayAsk}
use Rattle.repo_session.specs.Listings.{IsSnapshotListing, IsReadRow}
use Rattle.repo_session.specs.Order.{IsWorking}
use Rattle.repo_session.specs.Received.{Received}
use Rattle.repo_session.specs.Traces.{Exchange, Trace, Lists, ReadFact, WasAsked}
use Rattle.repo_session.specs.Trees.{HasRoot, Under, IsBroken, IsUnindexed}
use Rattle.repo_session.proofs.Descending.{broken_grows, reach_grows, received_grows, under_grows}
use Rattle.repo_session.proofs.Growing.{bytes_same}
use Rattle.repo_session.proofs.Reaching.{under_reached}
use Rattle.repo_session.proofs.Spoken.{was_asked}
use Rattle.repo_reach.proofs.Reaching.{used_is_reached}
use Rattle.repo_reach.proofs.Leading.{same_version}
use Rattle.repo_reach.proofs.Reading.{read_by}
use Rattle.repo_reach.proofs.Using.{kept_links}
use Rattle.repo_reach.specs.Collected.{tree_blobs, root_of, version_by, IsReachedBy}
use Rattle.repo_reach.specs.Laws.{IsUsed}
use Rattle.repo_reach.specs.Walks.{IsLedTo, IsWalk, WasAt, links_by}
use Rattle.repo_reach.specs.declared.roots.Root.{Root}
use Rattle.repo_reach.specs.declared.looks.Seen.{Seen}
use Rattle.repo_reach.specs.declared.trees.Trees.{Trees}
use Rattle.repo_reach.specs.Used.{UsedHasPair}
use Rattle.repo_writing.proofs.PutLemmas.{each_contained}
use Rattle.repo_prune.specs.inner.Deciding.{IsPlanned}
use Rattle.repo_prune.specs.Keeping.{Row}
use Rattle.repo_prune.specs.PruneStates.{Known, HaveRead, IsWalkOver, HasWalked, ArePlanned, KnowsStage}
use Rattle.repo_prune.specs.Pruning.{AreFewParts, HasOnlyListed, earlier, parts_in, parts_asked, prune_rule, prune_task, IsNeededBy, IsUsedCopyBy, MayStayBy, AreWalked, IsTreeWanted, IsLastWanted, IsWanted, IsBadTree, IsWalking, PruneConcludes}
use Rattle.repo_prune.specs.Reading.{Walks, WalksOn, Awaits, IsPromised, TakesTree}
use Rattle.repo_prune.specs.declared.reading.Walked.{Walked}
use Rattle.repo_prune.proofs.Asides.{IsAside, IsNoChange, fact_same, only_listed, packs_whole, read_same, untouched_same}
use Rattle.repo_session.proofs.Cataloguing.{fact_stays}
use Rattle.repo_prune.specs.declared.plans.Plan.{Plan}
use Rattle.repo_prune.specs.declared.prunes.Stage.{Stage}
use Rattle.repo_prune.proofs.Choosing.{contained_has}
use Rattle.repo_prune.proofs.TreeReading.{path_to, walk_reads}

-- ---- a tree is asked for

pub awaited_read : (k : Known) (es : Trace) (texts : List (List ℕ)) (trees : Trees) (fact : Fact) → HaveRead k es → Awaits k.facts texts trees fact → ReadFact es fact
awaited_read k es texts trees fact read a =
    let is : fact_of Tree fact.name fact.place ≡ fact = λ i. record { kind = sym a.next.0 i; name = fact.name; place = fact.place } in
    (read.all.gives fact).0 (subst (Contains k.facts) is a.next.1.among)

-- ---- rows and roots

-- the root of a row's snapshot
abbrev row_root : Row → Root
row_root row = root_of row.1.tree row.1.version

-- a row's snapshot was read, is of a version that there is, and is listed
module _ (es : Trace) (rows : List Row) (l : IsSnapshotListing es rows) (row : Row) (among : Contains rows row) where
  row_is : IsReadRow es row
  row_is = each_contained (IsReadRow es) rows row l.each among

  pub row_version : version_by (row_root row).follows ≡ row.1.version
  row_version = same_version row.1.version row_is.2.known

  pub row_listed : Lists es Kind.Snapshot row.0
  row_listed = contained_has _ row.0 (subst (λ ns. Contains ns row.0) l.names (contains_map (λ (r : Row). r.0) rows row among))

  pub row_found : HasRoot es row.0 row.1.version row.1.tree
  row_found = (row_is.0, row.1, row_is.1, row_is.2, refl, refl)

  -- what holds by its root, holds by its version
  by_version : (P : ℕ → Name → Type 0) (root : Root) → row_root row ≡ root → P (version_by root.follows) root.tree → P row.1.version row.1.tree
  by_version P root is h = subst (λ v. P v row.1.tree) row_version (subst (λ (r : Root). P (version_by r.follows) r.tree) (sym is) h)

-- a tree to which the roots lead, a snapshot needs
tree_needed : (k : Known) (es : Trace) (texts : List (List ℕ)) (trees : Trees) (n : Name) → IsWalkOver k texts trees es → IsLedTo texts trees.roots.items n → IsNeededBy k.rows texts Tree n
tree_needed k es texts trees n over (follows, depth, within, leads) =
    let p = path_to texts trees.roots.items follows depth n leads in
    let root : Root = record { tree = p.top; follows = follows } in
    let found = map_contains row_root k.rows root (subst (λ rs. Contains rs root) over.roots p.among) in
    let reach : Reach (version_by follows) (tree_blobs texts) p.top Tree n = under_reached (version_by follows) (tree_blobs texts) p.top p.path n (subst (λ d. d ≤ greatest_depth) (sym p.long) within) p.under in
    record { row = found.0; among = found.1; reaches = by_version es k.rows over.read.all.snapshots found.0 found.1 (λ v t. Reach v (tree_blobs texts) t Tree n) root found.2 reach }

-- each part of a pack that was asked for brought a tree that reads
over_parts : (k : Known) (texts : List (List ℕ)) (trees : Trees) (es : Trace) → IsWalkOver k texts trees es → Walks k.facts texts trees → AreFewParts es 0
over_parts k texts trees es over walks = record { trees = texts; received = over.received; read = walk_reads k.facts texts trees walks; apart = over.apart; few = (let few = over.parts in omega (arith, few)) }

pub over_walking : (k : Known) (texts : List (List ℕ)) (trees : Trees) (es : Trace) → IsWalkOver k texts trees es → HasCome IsWanted es → IsWalking es
over_walking k texts trees es over come = record {
  untouched = over.untouched;
  packs = packs_whole k es over.read;
  there = over.read.there;
  parts = record { trees = texts; received = over.received; apart = over.apart; few = over.parts };
  come = come;
}

-- a tree that is to be asked for is wanted
tree_wanted : (k : Known) (es : Trace) (texts : List (List ℕ)) (trees : Trees) (fact : Fact) → IsWalkOver k texts trees es → Awaits k.facts texts trees fact → IsTreeWanted es fact
tree_wanted k es texts trees fact over a =
    let of_tree : Tree ≡ fact.kind = sym a.next.0 in
    record {
      known = record {
        none = over.untouched.none_deleted;
        rows = k.rows;
        snapshots = over.read.all.snapshots;
        indexes = over.read.all.indexes;
        packs = packs_whole k es over.read;
        there = over.read.there;
        texts = texts;
        trees = record { received = over.received; one = a.walks.walk.seen.one };
        facts = k.facts;
        gives = over.read.all.gives;
      };
      copy = record {
        is_used = subst (λ kind. IsNeededBy k.rows texts kind fact.name) of_tree (tree_needed k es texts trees fact.name over a.next.3);
        least = subst (λ kind. IsLeast k.facts kind fact.name fact.place) of_tree a.next.1;
      };
      tree = a.next.0;
      fresh = λ x received same. (let seen = a.walks.walk.seen.known x (over.all x received) in a.next.2 seen.0 seen.1 seen.2 (seen.3 ∙ same));
      few = over_parts k texts trees es over a.walks;
    }

pub tree_asked : (k : Known) (who : Asker) (token : Token) (es : Trace) (texts : List (List ℕ)) (trees : Trees) (fact : Fact) → IsWorking (prune_task who) token es → IsWalkOver k texts trees es → Awaits k.facts texts trees fact
    → HasCome IsWanted es → MayAsk prune_rule who (KnowsStage k (Stage.Walking trees fact)) es (range_of fact)
tree_asked k who token es texts trees fact w over a come =
    let wanted = tree_wanted k es texts trees fact over a in
    record {
      work = tt;
      may = ((token, w), (fact, awaited_read k es texts trees fact over.read a, refl, refl, refl));
      allowed = (inl come, (fact, inl wanted, refl));
      knows = record { texts = texts; over = over; awaits = a; asks = refl; wanted = wanted };
    }

texts_received : (es : Trace) (texts : List (List ℕ)) → ((x : List ℕ) → Contains texts x → Received es Tree x) → Grows (tree_blobs texts) (Received es)
texts_received es texts received k x h = subst (λ j. Received es j x) (sym h.0) (received x h.1)

-- ---- why it can't go on

module _ (k : Known) (es : Trace) (texts : List (List ℕ)) (trees : Trees) (over : IsWalkOver k texts trees es) where
  row_of : (root : Root) → Contains trees.roots.items root → (row : Row) × Contains k.rows row × (row_root row ≡ root)
  row_of root h = map_contains row_root k.rows root (subst (λ rs. Contains rs root) over.roots h)

  -- a blob that a snapshot needs, and no index gives
  pub unindexed : (kind : BlobKind) (n : Name) → IsBlobNowhere k.facts kind n → (root : Root) → Contains trees.roots.items root → Reach (version_by root.follows) (tree_blobs texts) root.tree kind n
      → (snapshot : Name) × Lists es Kind.Snapshot snapshot × IsUnindexed es snapshot (blob_thing kind) n
  unindexed kind n nowhere root among reached =
      let row = row_of root among in
      let version = row.0.1.version in
      let tree = row.0.1.tree in
      let by : Reach version (tree_blobs texts) tree kind n = by_version es k.rows over.read.all.snapshots row.0 row.1 (λ v t. Reach v (tree_blobs texts) t kind n) root row.2 reached in (
        row.0.0,
        row_listed es k.rows over.read.all.snapshots row.0 row.1,
        record {
          kind = kind;
          called = refl;
          version = version;
          root = tree;
          found = row_found es k.rows over.read.all.snapshots row.0 row.1;
          reached = reach_grows version (tree_blobs texts) (Received es) (texts_received es texts over.received) tree kind n by;
          indexes = over.read.all.indexes;
          ungiven = λ given.
              let fact : Fact = given.0 in
              let is : fact ≡ fact_of kind n fact.place = λ i. record { kind = given.2 i; name = given.3 i; place = fact.place } in
              nowhere fact.place (subst (Contains k.facts) is ((over.read.all.gives fact).1 given.1));
        },
      )

  pub bad_tree_there : (tree : Name) (root : Root) → Contains trees.roots.items root → (path : List (List ℕ)) → length path ≤ greatest_depth → Under (version_by root.follows) (tree_blobs texts) root.tree path tree → IsBroken (version_by root.follows) (tree_blobs texts) root.tree path tree → IsBadTree es tree
  bad_tree_there tree root among path shallow under broken =
      let row = row_of root among in
      let version = row.0.1.version in
      let top = row.0.1.tree in
      let at : Under version (tree_blobs texts) top path tree = by_version es k.rows over.read.all.snapshots row.0 row.1 (λ v t. Under v (tree_blobs texts) t path tree) root row.2 under in
      let bad : IsBroken version (tree_blobs texts) top path tree = by_version es k.rows over.read.all.snapshots row.0 row.1 (λ v t. IsBroken v (tree_blobs texts) t path tree) root row.2 broken in
      record {
        snapshot = row.0.0;
        among = row_listed es k.rows over.read.all.snapshots row.0 row.1;
        version = version;
        root = top;
        found = row_found es k.rows over.read.all.snapshots row.0 row.1;
        path = path;
        shallow = shallow;
        leads = under_grows version (tree_blobs texts) (Received es) (texts_received es texts over.received) top path tree at;
        broken = broken_grows version (tree_blobs texts) (Received es) (texts_received es texts over.received) top path tree bad;
      }

  -- a tree, or some content, that no index gives
  unindexed_ends : IsWalking es → AreFewParts es 0 → (kind : BlobKind) (n : Name) → ((snapshot : Name) × Lists es Kind.Snapshot snapshot × IsUnindexed es snapshot (blob_thing kind) n) → PruneConcludes es (Outcome.Ended (End.Missing (blob_thing kind) n))
  unindexed_ends walking parts Tree n u = (walking, parts, u)
  unindexed_ends walking parts Content n u = (walking, parts, u)

  pub cannot_go_on : HasCome IsWanted es → AreFewParts (earlier es) 0 → (end : End) → WalksOn k.facts texts trees (Walked.Ended end) → PruneConcludes es (Outcome.Ended end)
  cannot_go_on come before (End.Missing thing n) (h, walks) =
      let u = unindexed h.0 n h.2 h.3.0 h.3.1 h.3.2 in
      subst (λ t. PruneConcludes es (Outcome.Ended (End.Missing t n))) (sym h.1) (unindexed_ends (over_walking k texts trees es over come) (over_parts k texts trees es over walks) h.0 n u)
  cannot_go_on come before (End.BadObject thing tree) (h, walks) =
      let bad = bad_tree_there tree h.1.0 h.1.1 h.1.2.0 h.1.2.1 h.1.2.2 h.1.2.3 in
      subst (λ t. PruneConcludes es (Outcome.Ended (End.BadObject t tree))) (sym h.0) (inl (over_walking k texts trees es over come, before, bad))
  cannot_go_on come before End.Busy h = absurd h.0
  cannot_go_on come before End.Fenced h = absurd h.0
  cannot_go_on come before (End.Refused code) h = absurd h.0
  cannot_go_on come before End.BadReply h = absurd h.0
  cannot_go_on come before End.Version h = absurd h.0
  cannot_go_on come before End.DirectoryTooLarge h = absurd h.0
  cannot_go_on come before End.FileTooLarge h = absurd h.0
  cannot_go_on come before End.Abandoned h = absurd h.0

-- what an index says is within range
pub read_within : (es : Trace) (fact : Fact) → ReadFact es fact → IsWithin fact.place.offset fact.place.length
read_within es fact read =
    let says = read.says in
    let lawful = index_texts_lawful read.text says.packs says.text in
    let at = flat_contains (λ (p : PackFacts). p.facts) says.packs fact says.among in
    let here = All-contains (λ (p : PackFacts). All (λ (f : Fact). (f.place.pack ≡ p.pack) × IsWithin f.place.offset f.place.length) p.facts) says.packs at.0 lawful at.1 in
    (All-contains (λ (f : Fact). (f.place.pack ≡ at.0.pack) × IsWithin f.place.offset f.place.length) at.0.facts fact here at.2).1

-- ---- once all trees were read

module _ (k : Known) (trees : Trees) (es : Trace) (h : HasWalked k trees es) where
  listing : IsSnapshotListing es k.rows
  listing = h.over.read.all.snapshots

  -- what a row's snapshot reaches, its root does
  reach_one : (row : Row) (kind : BlobKind) (n : Name) → Contains k.rows row → Reach row.1.version (tree_blobs h.texts) row.1.tree kind n → IsReachedBy h.texts trees.roots.items (row_root row).follows kind n
  reach_one row kind n among reach = (
    row.1.tree,
    subst (λ rs. Contains rs (row_root row)) (sym h.over.roots) (contains_map row_root k.rows row among),
    subst (λ v. Reach v (tree_blobs h.texts) row.1.tree kind n) (sym (row_version es k.rows listing row among)) reach,
  )

  pub needed_used : (kind : BlobKind) (n : Name) → IsNeededBy k.rows h.texts kind n → IsUsed trees.seen.items kind n
  needed_used kind n need =
      let follows = (row_root need.row).follows in
      (follows, (used_is_reached h.texts trees h.walks.walk h.whole follows kind n).0 (reach_one need.row kind n need.among need.reaches))

  pub used_needed : (kind : BlobKind) (n : Name) → IsUsed trees.seen.items kind n → IsNeededBy k.rows h.texts kind n
  used_needed kind n (follows, used) =
      let reached = (used_is_reached h.texts trees h.walks.walk h.whole follows kind n).1 used in
      let root : Root = record { tree = reached.0; follows = follows } in
      let found = map_contains row_root k.rows root (subst (λ rs. Contains rs root) h.over.roots reached.1) in
      record { row = found.0; among = found.1; reaches = by_version es k.rows listing found.0 found.1 (λ v t. Reach v (tree_blobs h.texts) t kind n) root found.2 reached.2 }

  -- a tree that was looked at lists nodes, as it was read
  seen_lists : (follows : Bool) (seen : Seen) (i : ℕ) (depth : ℕ) → slice_get trees.seen.items i ≡ Some seen → WasAt seen follows depth → (nodes : List Node) × ListsBy (version_by follows) (tree_blobs h.texts) seen.name nodes
  seen_lists follows seen i depth there was =
      let links = h.whole.read i seen there in
      let read = read_by h.texts follows seen links.0 (h.walks.walk.seen.each i seen there).text (links_kept follows seen i depth there was ∙ links.1) in
      (read.nodes, read.lists)
    where
      links_kept : (follows : Bool) (seen : Seen) (i : ℕ) (depth : ℕ) → slice_get trees.seen.items i ≡ Some seen → WasAt seen follows depth → links_by follows seen ≡ seen.links
      links_kept true seen i depth there was = kept_links seen.joint.next seen.links (h.walks.parts i seen depth there was)
      links_kept false seen i depth there was = refl

  pub all_walked : AreWalked k.rows h.texts
  all_walked row n among reach =
      let follows = (row_root row).follows in
      let used = (used_is_reached h.texts trees h.walks.walk h.whole follows Tree n).0 (reach_one row Tree n among reach) in
      let l = used.1 in
      let lists = seen_lists follows l.1 l.0 used.0 l.2 l.4 in (
        lists.0,
        subst (λ v. ListsBy v (tree_blobs h.texts) n lists.0) (row_version es k.rows listing row among) (subst (λ m. ListsBy (version_by follows) (tree_blobs h.texts) m lists.0) l.3 lists.1),
      )

  needed_copy : {plan : Plan} (p : IsPlanned k.facts trees plan) (fact : Fact) → IsUsedCopyBy (UsedHasPair p.used) k.facts fact → IsUsedCopyBy (IsNeededBy k.rows h.texts) k.facts fact
  needed_copy p fact c = record { is_used = used_needed fact.kind fact.name ((p.pairs fact.kind fact.name).0 c.is_used); least = c.least }

  used_copy : {plan : Plan} (p : IsPlanned k.facts trees plan) (fact : Fact) → IsUsedCopyBy (IsNeededBy k.rows h.texts) k.facts fact → IsUsedCopyBy (UsedHasPair p.used) k.facts fact
  used_copy p fact c = record { is_used = (p.pairs fact.kind fact.name).1 (needed_used fact.kind fact.name c.is_used); least = c.least }

  stays_used : {plan : Plan} (p : IsPlanned k.facts trees plan) (listed : PackFacts) → MayStayBy (IsNeededBy k.rows h.texts) k.facts listed → MayStayBy (UsedHasPair p.used) k.facts listed
  stays_used p listed stays = record { all = stays.all; some = stays.some; few = stays.few; copies = λ fact among. used_copy p fact (stays.copies fact among) }

  stays_needed : {plan : Plan} (p : IsPlanned k.facts trees plan) (listed : PackFacts) → MayStayBy (UsedHasPair p.used) k.facts listed → MayStayBy (IsNeededBy k.rows h.texts) k.facts listed
  stays_needed p listed stays = record { all = stays.all; some = stays.some; few = stays.few; copies = λ fact among. needed_copy p fact (stays.copies fact among) }

  pub planned : (plan : Plan) → IsPlanned k.facts trees plan → ArePlanned k plan.kept.items plan.moves.items es
  planned plan p = record {
    texts = h.texts;
    trees = record { received = h.over.received; one = h.walks.walk.seen.one };
    walked = all_walked;
    given = λ kind n need.
        let pair = (p.pairs kind n).1 (needed_used kind n need) in
        p.covers.given kind n pair (p.given h.walks.found kind n pair);
    just = λ fact among. used_needed fact.kind fact.name ((p.pairs fact.kind fact.name).0 (p.covers.just fact among));
    once = p.covers.once;
    kept_are = λ listed among. stays_needed p listed ((p.plan_of.kept listed).0 among);
    listable = λ listed among.
        let stays = (p.plan_of.kept listed).0 among in
        record {
          some = stays.some;
          few = stays.few;
          within = λ fact has. let b = (stays.all.each fact).0 has in (b.1, read_within es fact ((h.over.read.all.gives fact).0 b.0));
        };
    moves_are = λ fact among. (h.over.read.all.gives fact).0 ((p.plan_of.moves fact).0 among).copy.least.among;
    must = λ fact. (
      λ among.
          let moves = (p.plan_of.moves fact).0 among in
          record { copy = needed_copy p fact moves.copy; leaves = λ listed stays. moves.leaves listed (stays_used p listed stays) },
      λ must. (p.plan_of.moves fact).1 (record { copy = used_copy p fact must.copy; leaves = λ listed stays. must.leaves listed (stays_needed p listed stays) }),
    );
    ascend = p.plan_of.moves_ascend;
  }

  -- some content that is used, and that no index gives
  pub content_unindexed : (n : Name) → IsUsed trees.seen.items Content n → IsBlobNowhere k.facts Content n → (snapshot : Name) × Lists es Kind.Snapshot snapshot × IsUnindexed es snapshot Thing.Content n
  content_unindexed n (follows, used) nowhere =
      let reached = (used_is_reached h.texts trees h.walks.walk h.whole follows Content n).1 used in
      let root : Root = record { tree = reached.0; follows = follows } in
      unindexed k es h.texts trees h.over Content n nowhere root reached.1 reached.2

pub walked_parts : (k : Known) (trees : Trees) (es : Trace) → HasWalked k trees es → AreFewParts es 0
walked_parts k trees es h = over_parts k h.texts trees es h.over h.walks

-- ---- at the begin

none_got : (all : List Seen) (i : ℕ) (seen : Seen) → all ≡ [] → slice_get all i ≡ Some seen → ⊥
none_got all i seen none there = let empty : List Seen = [] in let at : slice_get empty i ≡ Some seen = subst (λ xs. slice_get xs i ≡ Some seen) none there in none-some seen at

pub first_walk : (facts : List Fact) (trees : Trees) → IsWalk [] trees → trees.seen.items ≡ [] → Walks facts [] trees
first_walk facts trees walk none = record { walk = walk; found = λ i seen there. absurd (none_got trees.seen.items i seen none there); parts = λ i seen depth there was. absurd (none_got trees.seen.items i seen none there) }

-- a part of a pack is asked for, or none
part_or_none : (a : Ask) → ((pack : Name) × (offset : ℕ) × (len : ℕ) × (a ≡ Ask.Range pack offset len)) ⊎ (parts_in a ≡ 0)
part_or_none Ask.Ticket = inr refl
part_or_none (Ask.Lock row) = inr refl
part_or_none (Ask.Refresh token time) = inr refl
part_or_none (Ask.Unlock token) = inr refl
part_or_none Ask.Locks = inr refl
part_or_none (Ask.List k after) = inr refl
part_or_none (Ask.Get k n) = inr refl
part_or_none (Ask.Range pack offset len) = inl (pack, offset, len, refl)
part_or_none (Ask.Put token k n x) = inr refl
part_or_none (Ask.Delete token k n) = inr refl
part_or_none Ask.Config = inr refl
part_or_none (Ask.Upgrade token) = inr refl

-- where none was, there are none
none_asked : (es : Trace) → ((pack : Name) (offset len : ℕ) → ¬ WasAsked es (Ask.Range pack offset len)) → parts_asked es ≡ 0
none_asked [] none = refl
none_asked (e ∷ es) none =
    let more : parts_asked es ≡ 0 = none_asked es (λ pack offset len was. none pack offset len (inr was)) in
    elim (part_or_none e.ask) [
      | inl one ↦ absurd (none one.0 one.1 one.2 (inl one.3))
      | inr zero ↦ omega (arith, zero, more)
    ]

-- before any was
unasked_parts : (es : Trace) → parts_asked es ≡ 0 → AreFewParts es 0
unasked_parts es none = record {
  trees = [];
  received = λ x h. absurd (none_contained x h);
  read = λ x h. absurd (none_contained x h);
  apart = λ i j d before within. absurd (omega (arith, within));
  few = omega (arith, none);
}

pub first_parts : (es : Trace) → HasOnlyListed es → AreFewParts (earlier es) 0
first_parts [] listed = unasked_parts [] refl
first_parts (e ∷ es) listed = unasked_parts es (none_asked es (λ pack offset len was. listed.none_ranged pack offset len (inr was)))

pub first_over : (k : Known) (trees : Trees) (es : Trace) → HaveRead k es → HasOnlyListed es → trees.roots.items ≡ map (λ (row : Row). root_of row.1.tree row.1.version) k.rows → IsWalkOver k [] trees es
first_over k trees es read listed roots = record {
  read = read;
  untouched = only_listed es listed;
  roots = roots;
  received = λ x h. absurd (none_contained x h);
  all = λ x r. absurd (listed.none_ranged r.fact.place.pack r.fact.place.offset r.fact.place.length (was_asked es (range_of r.fact) (Say.Bytes x) r.replied));
  apart = λ i j d before within. absurd (omega (arith, within));
  parts = (let none = none_asked es listed.none_ranged in omega (arith, none));
}

-- ---- a tree came

pub walk_more : (k : Known) (texts : List (List ℕ)) (trees new : Trees) (fact : Fact) (e : Exchange) (es : Trace) (x : List ℕ) → IsWalkOver k texts trees es → Awaits k.facts texts trees fact → e.ask ≡ range_of fact → IsPromised fact e.say x
    → new.roots ≡ trees.roots → IsWalkOver k (texts ++ x ∷ []) new (e ∷ es)
walk_more k texts trees new fact e es x over a is promised roots =
    let aside : IsAside e.ask = subst IsAside (sym is) tt in
    let same : IsNoChange e.ask = subst IsNoChange (sym is) (record { puts = λ j. refl; deletes = λ j. refl }) in
    let given = awaited_read k es texts trees fact over.read a in
    let now : Received (e ∷ es) Tree x = record { fact = fact; given = fact_stays e es fact given; of_kind = a.next.0; replied = inl (is, promised.bytes); long = promised.long; named = promised.named } in
    record {
      read = read_same e es aside k over.read;
      untouched = untouched_same e es same over.untouched;
      roots = ap (λ (v : Vec Root Global). v.items) roots ∙ over.roots;
      received = λ y among. elim (Contains-append_cases texts (x ∷ []) y among) [
        | inl old ↦ received_grows e es Tree y (over.received y old)
        | inr last ↦ elim (contained_or x [] y last) [ inl same ↦ subst (Received (e ∷ es) Tree) same now | inr none ↦ absurd (none_contained y none) ]
      ];
      all = λ y r. elim r.replied [
        | inl here ↦ Contains-append_right texts (x ∷ []) y (subst (λ z. Contains (z ∷ []) y) (bytes_same e.say y x here.1 promised.bytes) (first_contained y []))
        | inr was ↦ Contains-append_left texts (x ∷ []) y (over.all y (record { fact = r.fact; given = fact_same e es aside r.fact r.given; of_kind = r.of_kind; replied = was; long = r.long; named = r.named }))
      ];
      apart = all_pairs_push (λ (y z : List ℕ). naming.name y ≢ naming.name z) texts x over.apart (λ i d within same.
          let y : List ℕ = get_or texts i d in
          let seen = a.walks.walk.seen.known y (Contains-get_or texts i d within) in
          a.next.2 seen.0 seen.1 seen.2 (seen.3 ∙ (same ∙ promised.named)));
      parts = (let one : parts_in e.ask ≡ 1 = ap parts_in is in let few = over.parts in omega (arith, one, few, length-append texts (x ∷ [])));
    }

-- a blob that came bad ends the prune
pub part_ends : (es : Trace) (thing : Thing) (name : Name) → IsBadPart IsLastWanted es thing name → PruneConcludes es (Outcome.Ended (End.BadObject thing name))
part_ends es Thing.Tree name bad = inr bad
part_ends es Thing.Content name bad = bad
part_ends es Thing.Pack name bad = bad
part_ends es Thing.Index name bad = bad
part_ends es Thing.Snapshot name bad = bad

-- the tree's bytes are bad, or it can't go on
pub tree_ended : (known : ℕ) (k : Known) (texts : List (List ℕ)) (trees new : Trees) (fact : Fact) (e : Exchange) (es : Trace) (end : End) → IsWalkOver k texts trees es → Awaits k.facts texts trees fact
    → e.ask ≡ range_of fact → IsTreeWanted es fact → new.roots ≡ trees.roots → TakesTree k.facts texts fact e.say new (Walked.Ended end) → Concludes known PruneConcludes (e ∷ es) (Outcome.Ended end)
tree_ended known k texts trees new fact e es end over a is wanted roots (inl (x, said, bad, same)) =
    let kind : Thing.Tree ≡ blob_thing fact.kind = sym (ap blob_thing a.next.0) in
    let part : IsBadPart IsLastWanted (e ∷ es) Thing.Tree fact.name = (fact, inl wanted, (is, x, said, bad), kind, refl) in
    subst (λ z. Concludes known PruneConcludes (e ∷ es) (Outcome.Ended z)) (sym same) (inr (part_ends (e ∷ es) Thing.Tree fact.name part))
tree_ended known k texts trees new fact e es end over a is wanted roots (inr (x, promised, why)) =
    let more = walk_more k texts trees new fact e es x over a is promised roots in
    let come : HasCome IsWanted (e ∷ es) = λ part. (fact, inl wanted, (is, x, promised.bytes, promised.long, promised.named)) in
    inr (cannot_go_on k (e ∷ es) (texts ++ x ∷ []) new more come (over_parts k texts trees es over a.walks) end why)
