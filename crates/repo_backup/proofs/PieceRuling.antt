-- What a backup may put that feeds items, or is fed them, from what it knows of its trace.
use Rattle.std.proofs.Common.{arith, ◌≡◌, ◌≢◌, ◌≤◌, ◌<◌, ◌+◌, ◌++◌, ◌∷◌, [], ℕ, zero, suc, Bool, true, false, List, length, map, Option, Some, None, is_some, refl, sym, ap, subst, inl, inr, ◌⊎◌, ◌∙◌, append-nil, length-append, Contains}
use Rattle.std.proofs.lemmas.List.Elements.{Contains-append_left, Contains-append_right}
use Rattle.repo_index.specs.IndexText.{facts_in}
use Rattle.repo_index.specs.declared.facts.Fact.{Fact}
use Rattle.repo_name.specs.Limits.{facts_limit}
use Rattle.repo_name.specs.declared.names.Name.{Name}
use Rattle.repo_pack.specs.PackLayout.{Item, item_of, IsTruePack}
use Rattle.repo_session.specs.Askers.{Holding}
use Rattle.repo_session.specs.Feeds.{Fed, fed_dir, fed_file, fed_bytes, fed_close, fed_end, fed_abandon}
use Rattle.repo_name.specs.declared.tokens.Token.{Token}
use Rattle.repo_session.specs.Order.{Task, opened, lock_row, IsWorking}
use Rattle.repo_session.specs.Traces.{Each, Trace, Exchanged, IsGiven, fed_in, feeding}
use Rattle.repo_session.specs.declared.jobs.Step.{Step}
use Rattle.repo_tree.specs.Spelling.{Spells, greatest_depth}
use Rattle.repo_tree.specs.Versions.{greatest_version, IsKnownTo}
use Rattle.repo_tree.specs.declared.configs.Config.{Config}
use Rattle.repo_tree.specs.declared.entries.Entry.{Entry}
use Rattle.repo_wire.specs.declared.messages.Ask.{Ask}
use Rattle.repo_wire.specs.declared.messages.Say.{Say}
use Rattle.repo_writing.proofs.BlobLemmas.{has_either, once_behind, once_left, each_left, each_right}
use Rattle.repo_writing.proofs.PutLemmas.{each_contained}
use Rattle.repo_writing.proofs.Writings.{listing_of, all_done, one_packed}
use Rattle.repo_writing.specs.Blobs.{AreOnce, HasFact}
use Rattle.repo_writing.specs.Filling.{HasConfig, IsPromptPack, IsFullPack}
use Rattle.repo_writing.specs.Putting.{IsPacked}
use Rattle.repo_writing.specs.Writing.{Put, items_of}
use Rattle.repo_backup.specs.Backing.{HasWritten}
use Rattle.repo_backup.specs.Folders.{Folder, nothing, file_then, dir_then, entries_of, blobs_of, IsFolderOf}
use Rattle.repo_backup.specs.Handed.{FollowAll, AreHanded}
use Rattle.repo_backup.specs.Items.{Feeding, FileSoFar, Place, after, closed, place_of, spelled_by, AreTaken}
use Rattle.repo_backup.specs.Packings.{IsCovered, IsPacking, all_items}
use Rattle.repo_backup.specs.PieceRules.{IsStandingOf, IsStandingAt, PieceAreLast, PiecePackRule, AreOver}
use Rattle.repo_backup.specs.PieceStates.{piece_task, waits, StandsAt, PieceAt, PutsSnapshotOf}
use Rattle.repo_backup.specs.Pieces.{IsRootAt, PieceStands, WorkStands}
use Rattle.repo_backup.specs.Plans.{IsWithinDepth, AreTreeTextsBelow, AreTreeTexts}
use Rattle.repo_backup.specs.Rules.{IsMade, SnapshotRule}
use Rattle.repo_backup.specs.Standings.{Standing, place_at, IsCutSoFar, LeadTo, made_at}
use Rattle.repo_backup.specs.declared.piece_backing.PieceBacking.{PieceBacking}
use Rattle.repo_backup.proofs.Closing.{some_here}
use Rattle.repo_backup.proofs.Dues.{index_undue}
use Rattle.repo_backup.proofs.FedOn.{fed_exchanged, fed_items}
use Rattle.repo_backup.proofs.FolderOrder.{folder_order}
use Rattle.repo_backup.proofs.Leading.{made_of_all}
use Rattle.repo_backup.proofs.NamePlaces.{some_open}
use Rattle.repo_backup.proofs.Orders.{sealed_order}
use Rattle.repo_backup.proofs.Piecing.{plain, packing_in, made_in, covered_whole}
use Rattle.repo_backup.proofs.Ruling.{spelled}
use Rattle.repo_backup.proofs.Spelling.{spelled_are_handed}
use Rattle.repo_backup.proofs.Written.{not_given, not_packed, covered_given, known_given}

-- ---- where the items lead

-- the config was read
pub config_on : (item : Fed) (es : Trace) (config : Config) → HasConfig es config → HasConfig (feeding item es) config
config_on item es config h = record { text = h.text; read = fed_exchanged item es Ask.Config (Say.Bytes h.text) h.read; reads = h.reads; known = h.known }

-- one item further, and where that is taken
pub standing_after : (item : Fed) (items : Feeding) (es : Trace) (config : Config) (st now : Standing) → IsStandingOf items es config st → place_at now ≡ after (place_at st) item → IsCutSoFar config.params now → IsStandingOf (item ∷ items) es config now
standing_after item items es config st now h place cut = record { has = h.has; lead = record { place = place ∙ ap (λ p. after p item) h.lead.place; cut = cut } }

pub standing_fed : (item : Fed) (es : Trace) (config : Config) (st : Standing) → es ≢ [] → IsStandingOf (item ∷ fed_in es) es config st → IsStandingAt (feeding item es) config st
standing_fed item es config st some h = record { has = config_on item es config h.has; lead = subst (λ l. LeadTo config.params l st) (sym (fed_items item es some)) h.lead }

-- ---- the end of the items

closed_over : (file : Option FileSoFar) (p : Place) → (closed file p).over ≡ p.over
closed_over None p = refl
closed_over (Some f) p = refl

both_ways : (b : Bool) → b ≡ false → b ≡ true → ⊥
both_ways b f t = absurd (cc)

-- items that ended have the end as the newest
pub ended_by : (items : Feeding) → AreTaken items → (place_of items).over ≡ true → (rest : Feeding) × (items ≡ fed_end ∷ rest)
ended_by [] taken over = absurd (cc)
ended_by (fed_end ∷ items) taken over = (items, refl)
ended_by (fed_dir name ∷ items) taken over = absurd (both_ways (place_of items).over taken.0 over)
ended_by (fed_file name ∷ items) taken over = absurd (both_ways (place_of items).over taken.0 over)
ended_by (fed_bytes bytes ∷ items) taken over = absurd (both_ways (place_of items).over taken.0 over)
ended_by (fed_close ∷ items) taken over = absurd (both_ways (place_of items).over taken.0 (sym (closed_over (place_of items).file (place_of items)) ∙ over))
ended_by (fed_abandon ∷ items) taken over = absurd (both_ways (place_of items).over taken.0 over)

-- and then no file is open
ended_file : (items : Feeding) → AreTaken items → (place_of items).over ≡ true → (place_of items).file ≡ None
ended_file items taken over =
    let k = ended_by items taken over in
    let last = subst AreTaken k.1 taken in
    ap (λ l. (place_of l).file) k.1 ∙ last.2.0

some_is : {A : Type 0} (o : Option A) → o ≢ None → is_some o ≡ true
some_is None some = absurd (some refl)
some_is (Some x) some = refl

-- then all is made of the entries that they spell
pub made_whole : (items : Feeding) (es : Trace) (config : Config) (st : Standing) → IsStandingOf items es config st → AreTaken items → (place_of items).over ≡ true → (m : IsMade (spelled_by items) es st.done) × (m.config ≡ config) × (made_at config.version st ≡ blobs_of config.version st.done)
made_whole items es config st at taken over =
    let k = ended_by items taken over in
    let lead = subst (λ (l : Feeding). LeadTo config.params l st) k.1 at.lead in
    let m = made_of_all config.params config.version k.0 st (subst AreTaken k.1 taken) lead in (
      record { text = at.has.text; config = config; read = at.has.read; reads = at.has.reads; known = at.has.known; cut = subst (λ (l : Feeding). IsFolderOf config.params (spelled_by l) st.done) (sym k.1) m.0 },
      refl,
      m.1,
    )

-- ---- how deep a folder is

abbrev AreShort : List Entry → Type 0
AreShort [] = Unit {0}
AreShort (e ∷ es) = (length e.path ≤ greatest_depth) × AreShort es

short_left : (xs ys : List Entry) → AreShort (xs ++ ys) → AreShort xs
short_left [] ys h = tt
short_left (x ∷ xs) ys h = (h.0, short_left xs ys h.1)

short_right : (xs ys : List Entry) → AreShort (xs ++ ys) → AreShort ys
short_right [] ys h = h
short_right (x ∷ xs) ys h = short_right xs ys h.1

handed_short : (before es : List Entry) → FollowAll before es → AreShort es
handed_short before [] h = tt
handed_short before (e ∷ es) h = (h.0.depth, handed_short (before ++ e ∷ []) es h.1)

deep : (d : ℕ) (folder : Folder) (path : List (List ℕ)) → d + length path ≡ greatest_depth → AreShort (entries_of path folder) → IsWithinDepth d folder
deep d nothing path n h = tt
deep zero (file_then name chunks rest) path n h = absurd (omega (arith, n, h.0, length-append path (name ∷ [])))
deep zero (dir_then name inside rest) path n h = absurd (omega (arith, n, h.0, length-append path (name ∷ [])))
deep (suc d) (file_then name chunks rest) path n h = deep (suc d) rest path n h.1
deep (suc d) (dir_then name inside rest) path n h = (
  deep d inside (path ++ name ∷ []) (omega (arith, n, length-append path (name ∷ []))) (short_left (entries_of (path ++ name ∷ []) inside) (entries_of path rest) h.1),
  deep (suc d) rest path n (short_right (entries_of (path ++ name ∷ []) inside) (entries_of path rest) h.1),
)

-- the folder of entries that may be handed in isn't too deep
within_depth : (entries : List Entry) (folder : Folder) → AreHanded entries → entries_of [] folder ≡ entries → IsWithinDepth greatest_depth folder
within_depth entries folder handed holds =
    let top : List (List ℕ) = [] in
    deep greatest_depth folder top (omega arith) (subst AreShort (sym holds) (handed_short [] entries handed))

-- ---- what may be put

lock_after : (task : Task) (token : Token) (text : List ℕ) (later : Trace) → Exchanged (later ++ opened task token text) (Ask.Lock (lock_row task token)) Say.Done
lock_after task token text [] = inr (inl (refl, refl))
lock_after task token text (e ∷ later) = inr (lock_after task token text later)

pub lock_there : (task : Task) (token : Token) (es : Trace) → IsWorking task token es → Exchanged es (Ask.Lock (lock_row task token)) Say.Done
lock_there task token es w = subst (λ fs. Exchanged fs (Ask.Lock (lock_row task token)) Say.Done) (sym w.1.since) (lock_after task token w.1.text w.1.later)

module _ (facts : List Fact) (b : PieceBacking) (puts : List Put) (sealed : List Item) (items : Feeding) (es : Trace) (h : StandsAt facts b puts [] sealed items es) where
  pub sent_is : items_of (puts ++ []) ≡ items_of puts
  sent_is = ap items_of (append-nil puts)

  pub stands_so : WorkStands b.work facts h.st (items_of puts) sealed
  stands_so = subst (λ l. WorkStands b.work facts h.st l sealed) sent_is h.stands

  packing_so : IsPacking b.work.packing facts (items_of puts) sealed
  packing_so = packing_in b.work facts h.st (items_of puts) sealed stands_so

  once_all : AreOnce (items_of puts ++ sealed)
  once_all = once_left (items_of puts ++ sealed) b.work.packing.packer.writer.items packing_so.once

  pub sent_once : AreOnce (items_of puts)
  sent_once = once_left (items_of puts) sealed once_all

  unknown_all : Each (λ i. ¬ HasFact facts i.kind i.name) sealed
  unknown_all =
      let U : Item → Type 0 = λ i. ¬ HasFact facts i.kind i.name in
      each_right U (items_of puts) sealed (each_left U (items_of puts ++ sealed) b.work.packing.packer.writer.items packing_so.unknown)

  -- the sealed pack's blobs were made, each once, and are neither known nor in a pack put before
  pub sealed_made : (item : Item) → Contains sealed item → Contains (made_at h.config.version h.st) item
  sealed_made item among = subst (λ n. Contains (made_at n h.st) item) h.goes_by.version
      (made_in b.work facts h.st (items_of puts) sealed stands_so item (Contains-append_left (items_of puts ++ sealed) b.work.packing.packer.writer.items item (Contains-append_right (items_of puts) sealed item among)))

  pub sealed_once : AreOnce sealed
  sealed_once = once_behind (items_of puts) sealed once_all

  pub sealed_unread : (item : Item) → Contains sealed item → ¬ IsGiven es item.kind item.name
  sealed_unread item among given = not_given facts (waits b) b.counts puts [] es sealed item h.written unknown_all among given

  pub sealed_unput : (item : Item) → Contains sealed item → ¬ IsPacked es item.kind item.name
  sealed_unput item among packed = not_packed facts (waits b) b.counts puts es sealed item h.written once_all among packed

  -- where no part of a directory is left to be made, it stands there
  module _ (unlaid : b.work.parts ≡ None) where
    pub plainly : PieceStands b.work facts h.st (items_of puts) sealed
    plainly = plain b.work facts h.st (items_of puts) sealed unlaid stands_so

    -- whether the items ended
    pub over_is : is_some b.work.walk.root ≡ (place_of items).over
    over_is = plainly.at.over ∙ ap (λ (p : Place). p.over) h.at.lead.place

    -- where they ended, the open pack is empty, and each blob made is known, in a pack put, or in the sealed one
    pub whole_covered : b.work.walk.root ≢ None → Each (λ item. IsCovered facts (items_of puts ++ sealed) item) (made_at h.config.version h.st)
    whole_covered some =
        let over : (place_of items).over ≡ true = sym over_is ∙ some_is b.work.walk.root some in
        let none : b.work.walk.file ≡ None = some_open b.work.walk.params b.work.walk.file h.st.file plainly.at.file (ap (λ (p : Place). p.file) h.at.lead.place ∙ ended_file items h.taken over) in
        let all : all_items (items_of puts) sealed b.work.packing ≡ items_of puts ++ sealed = ap (λ l. (items_of puts ++ sealed) ++ l) (h.ended some) ∙ append-nil (items_of puts ++ sealed) in
        subst (λ n. Each (λ item. IsCovered facts (items_of puts ++ sealed) item) (made_at n h.st)) h.goes_by.version (subst (λ l. Each (λ item. IsCovered facts l item) (made_at b.work.walk.version h.st)) all
        (covered_whole facts (all_items (items_of puts) sealed b.work.packing) b.work.walk.file (made_at b.work.walk.version h.st) none plainly.covered))

-- where the items ended and no part is left, nothing more waits
pub piece_last : (facts : List Fact) (b : PieceBacking) (puts : List Put) (sealed : List Item) (es : Trace) (h : PieceAt facts b puts [] sealed es) → b.work.parts ≡ None → AreOver es → PieceAreLast es sealed
piece_last facts b puts sealed es h unlaid over =
    let some = some_here b.work.walk.root (over_is facts b puts sealed (fed_in es) es h unlaid ∙ over) in
    record {
      over = over;
      config = h.config;
      st = h.st;
      at = h.at;
      all = λ item among. elim (each_contained (λ i. IsCovered facts (items_of puts ++ sealed) i) (made_at h.config.version h.st) item (whole_covered facts b puts sealed (fed_in es) es h unlaid some) among) [
        | inl fact ↦ inl (known_given facts es item.kind item.name h.written.gives fact)
        | inr has ↦ elim (has_either (items_of puts) sealed item.kind item.name has) [
          | inl sent ↦ inr (inl (one_packed b.counts puts es h.written.put item.kind item.name sent))
          | inr here ↦ inr (inr here)
        ]
      ];
    }

-- the sealed pack may be put
pub piece_pack : (facts : List Fact) (b : PieceBacking) (puts : List Put) (sealed : List Item) (es : Trace) (h : PieceAt facts b puts [] sealed es) → b.listed ≡ None → length (facts_in b.waiting) < facts_limit → (x : List ℕ) → IsTruePack x sealed → IsPromptPack es sealed → IsFullPack es sealed ⊎ (AreOver es × (b.work.parts ≡ None)) → PiecePackRule es x
piece_pack facts b puts sealed es h unlisted few x pack prompt full = record {
  indexes = h.written.indexed;
  first = h.written.none;
  unlisted = index_undue facts b puts es h.written unlisted few;
  taken = h.taken;
  kept = h.kept;
  items = sealed;
  pack = pack;
  made = λ item among. (h.config, h.st, h.at, sealed_made facts b puts sealed (fed_in es) es h item among);
  order = (h.config, h.st, h.at, sealed_order facts b puts sealed (fed_in es) es h);
  once = sealed_once facts b puts sealed (fed_in es) es h;
  unread = sealed_unread facts b puts sealed (fed_in es) es h;
  unput = sealed_unput facts b puts sealed (fed_in es) es h;
  prompt = prompt;
  full = elim full [ inl due ↦ inl due | inr over ↦ inr (piece_last facts b puts sealed es h over.1 over.0) ];
}

some_not : {A : Type 0} (o : Option A) (x : A) → o ≡ Some x → o ≢ None
some_not o x is none = let no : Some x ≡ None = sym is ∙ none in absurd (cc)

module _ (facts : List Fact) (b : PieceBacking) (puts : List Put) (items : Feeding) (es : Trace) (h : StandsAt facts b puts [] [] items es) (unlaid : b.work.parts ≡ None) where
  -- the snapshot may be put: all was fed and made, nothing waits, and each blob is known or in the packs put
  pub fed_snapshot : (root : Name) (holding : Holding) (step : Step) (p : PutsSnapshotOf holding root b.work.walk.version step) → b.work.walk.root ≡ Some root → waits b ≡ [] → IsWorking (piece_task holding.who) holding.token es
      → SnapshotRule (spelled_by items) es holding.token p.text
  fed_snapshot root holding step p is none working =
      let V = h.config.version in
      let over : (place_of items).over ≡ true = sym (over_is facts b puts [] items es h unlaid) ∙ ap is_some is in
      let m = made_whole items es h.config h.st h.at h.taken over in
      let folder = h.st.done in
      let entries = spelled_by items in
      let written : HasWritten facts [] b.counts puts [] es = subst (λ l. HasWritten facts l b.counts puts [] es) none h.written in
      let covered : Each (λ item. IsCovered facts (items_of puts) item) (blobs_of V folder) =
      subst (λ l. Each (λ item. IsCovered facts (items_of puts) item) l) m.2 (subst (λ l. Each (λ item. IsCovered facts l item) (made_at V h.st)) (append-nil (items_of puts)) (whole_covered facts b puts [] items es h unlaid (some_not b.work.walk.root root is))) in
      let stands = plainly facts b puts [] items es h unlaid in
      let tree = subst (λ n. IsRootAt n (Some root) folder) h.goes_by.version (subst (λ r. IsRootAt b.work.walk.version r folder) is stands.at.root) in
      let texts : AreTreeTexts V folder = (tree.1, subst (λ n. AreTreeTextsBelow n folder) h.goes_by.version stands.texts.0) in
      let handed = spelled_are_handed items h.taken in
      let within = within_depth entries folder handed m.0.cut.holds in
      let task = piece_task holding.who in
      let version : p.snapshot.version ≡ V = p.version_is ∙ h.goes_by.version in
      let spells = spelled V entries folder p.snapshot.tree within (folder_order V entries folder handed m.0.cut.holds) texts m.0.cut.holds (p.tree ∙ tree.0) in
      record {
        indexes = written.indexed;
        first = written.none;
        done = all_done b.counts puts (map listing_of (puts ++ [])) [] es written.put written.lists written.none;
        snapshot = p.snapshot;
        reads = p.reads;
        written = p.written;
        token_is = p.token;
        row = lock_row task holding.token;
        locked = lock_there task holding.token es working;
        own = refl;
        host_is = p.host;
        time_is = p.time;
        folder = folder;
        cut = m.0;
        version_is = version ∙ ap (λ (c : Config). c.version) (sym m.1);
        spells = subst (λ (c : Config). Spells p.snapshot.version (λ k y. Contains (blobs_of c.version folder) (item_of k y)) p.snapshot.tree [] entries) (sym m.1)
            (subst (λ v. Spells v (λ k y. Contains (blobs_of V folder) (item_of k y)) p.snapshot.tree [] entries) (sym version) spells);
        given = λ item among. covered_given facts b.counts puts es item written (each_contained (λ i. IsCovered facts (items_of puts) i) (blobs_of V folder) item covered (subst (λ (c : Config). Contains (blobs_of c.version folder) item) m.1 among));
      }

pub piece_snapshot : (facts : List Fact) (b : PieceBacking) (puts : List Put) (es : Trace) (h : PieceAt facts b puts [] [] es) → b.work.parts ≡ None → (root : Name) (holding : Holding) (step : Step) (p : PutsSnapshotOf holding root b.work.walk.version step)
    → b.work.walk.root ≡ Some root → waits b ≡ [] → IsWorking (piece_task holding.who) holding.token es → AreOver es × AreTaken (fed_in es) × SnapshotRule (spelled_by (fed_in es)) es holding.token p.text
piece_snapshot facts b puts es h unlaid root holding step p is none working =
    (sym (over_is facts b puts [] (fed_in es) es h unlaid) ∙ ap is_some is, h.taken, fed_snapshot facts b puts (fed_in es) es h unlaid root holding step p is none working)

-- the work goes by a version that is known
pub work_known : (facts : List Fact) (b : PieceBacking) (puts : List Put) (items : Feeding) (es : Trace) → StandsAt facts b puts [] [] items es → IsKnownTo greatest_version b.work.walk.version
work_known facts b puts items es h = subst (λ n. IsKnownTo greatest_version n) (sym h.goes_by.version) h.at.has.reads.known
