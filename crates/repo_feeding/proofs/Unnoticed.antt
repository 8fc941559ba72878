-- What was fed isn't noticed by the rule of a backup of entries: what it allows with it, it allows without it.
use Rattle.std.proofs.Common.{◌≡◌, ◌⊎◌, ◌++◌, ◌∷◌, [], ℕ, List, map, refl, sym, ap, subst, inl, inr, ◌∙◌, Contains}
use Rattle.repo_name.specs.declared.kinds.BlobKind.{BlobKind}
use Rattle.repo_name.specs.declared.kinds.Kind.{Kind}
use Rattle.repo_name.specs.declared.names.Name.{Name}
use Rattle.repo_name.specs.declared.tokens.Token.{Token}
use Rattle.repo_wire.specs.declared.messages.Ask.{Ask}
use Rattle.repo_wire.specs.declared.messages.Say.{Say}
use Rattle.repo_pack.specs.PackLayout.{Item}
use Rattle.repo_index.specs.declared.facts.PackFacts.{PackFacts}
use Rattle.repo_tree.specs.declared.configs.Config.{Config}
use Rattle.repo_tree.specs.declared.entries.Entry.{Entry}
use Rattle.repo_session.specs.Catalogs.{AreIndexed}
use Rattle.repo_session.specs.Order.{ReadsKind}
use Rattle.repo_session.specs.Traces.{Each, Trace, Exchanged, WasAsked, Object, object_put, objects_put, IsGiven}
use Rattle.repo_session.specs.declared.outcomes.End.{End}
use Rattle.repo_session.specs.declared.outcomes.Outcome.{Outcome}
use Rattle.repo_store.specs.Pages.{Has}
use Rattle.repo_writing.specs.Blobs.{HasItem}
use Rattle.repo_writing.specs.Putting.{PutDone, AreDone, IsPacked, IsIndexed, IsListedPack, IsIndexOf, ArePutBlobs, AreCounted}
use Rattle.repo_writing.specs.Filling.{HasConfig, IsPromptPack, IsFullPack, IsFullIndex}
use Rattle.repo_writing.specs.Writing.{Listing, IsDone, AreListed, ListsEachPack, FewAreUnlisted}
use Rattle.repo_backup.specs.Folders.{Folder, blobs_of}
use Rattle.repo_backup.specs.Rules.{IsMade, AreLast, AddsBlob, AddsBlobs, IsInOrder, PackRule, IndexRule, SnapshotRule, BackupAllows, IsStored, IsTooLarge, BackupConcludes}
use Rattle.repo_feeding.specs.Unfed.{unfed}
use Rattle.repo_feeding.specs.Unseen.{names_so, complete_so, rise_so, exchanged_so, so_exchanged}
use Rattle.repo_feeding.proofs.Spelled.{given_on, indexed_on}

-- ---- what was asked and put

puts_so : (k : Kind) (es : Trace) → objects_put k (unfed es) ≡ objects_put k es
puts_so k [] = refl
puts_so k (e ∷ es) = ap (λ os. os ++ object_put k e.ask) (puts_so k es)

so_asked : (es : Trace) (ask : Ask) → WasAsked (unfed es) ask → WasAsked es ask
so_asked [] ask h = h
so_asked (e ∷ es) ask (inl is) = inl is
so_asked (e ∷ es) ask (inr h) = inr (so_asked es ask h)

reads_so : (k : Kind) (es : Trace) (ask : Ask) → ReadsKind k es ask → ReadsKind k (unfed es) ask
reads_so k es (Ask.List j after) h = h
reads_so k es (Ask.Get j n) h = (h.0, λ was. h.1 (so_asked es (Ask.Get j n) was))
reads_so k es ask h = absurd h

-- every index was read
indexed_so : (es : Trace) → AreIndexed es → AreIndexed (unfed es)
indexed_so es h = record {
  listed = record { complete = complete_so Kind.Index es ∙ h.listed.complete; rise = rise_so Kind.Index es h.listed.rise };
  each = λ n lists. (let r = h.each n (subst (λ ns. Has ns n) (names_so Kind.Index es) lists) in (r.0, r.1, (exchanged_so es (Ask.Get Kind.Index n) (Say.Bytes r.0) r.2.0, r.2.1), r.3));
}

-- ---- exchanges that have all of others

-- what was said in the one was said in the other, and both put the same
record HasAll (es fs : Trace) : Type 0 where
  said : (ask : Ask) (say : Say) → Exchanged es ask say → Exchanged fs ask say
  puts : (k : Kind) → objects_put k es ≡ objects_put k fs

-- with what was fed, and without it
without : (es : Trace) → HasAll es (unfed es)
without es = record { said = exchanged_so es; puts = λ k. sym (puts_so k es) }

with_it : (es : Trace) → HasAll (unfed es) es
with_it es = record { said = so_exchanged es; puts = λ k. puts_so k es }

module _ (es fs : Trace) (on : HasAll es fs) where
  done_on : (k : Kind) (n : Name) (x : List ℕ) → PutDone es k n x → PutDone fs k n x
  done_on k n x (token, was) = (token, on.said (Ask.Put token k n x) Say.Done was)

  all_done_on : AreDone es → AreDone fs
  all_done_on h = λ k object among. done_on k object.name object.bytes (h k object (subst (λ os. Contains os object) (sym (on.puts k)) among))

  packed_on : (k : BlobKind) (n : Name) → IsPacked es k n → IsPacked fs k n
  packed_on k n h = record { pack = h.pack; items = h.items; put = subst (λ os. Contains os h.pack) (on.puts Kind.Pack) h.put; holds = h.holds; among = h.among }

  -- ---- the config, and full packs

  config_on : (config : Config) → HasConfig es config → HasConfig fs config
  config_on config h = record { text = h.text; read = on.said Ask.Config (Say.Bytes h.text) h.read; reads = h.reads; known = h.known }

  prompt_on : (items : List Item) → IsPromptPack es items → IsPromptPack fs items
  prompt_on items (config, has, open_before) = (config, config_on config has, open_before)

  full_on : (items : List Item) → IsFullPack es items → IsFullPack fs items
  full_on items (config, has, due) = (config, config_on config has, due)

  -- ---- packs that are listed

  listed_on : (listed : PackFacts) → IsListedPack es listed → IsListedPack fs listed
  listed_on listed h = record { bytes = h.bytes; items = h.items; put = done_on Kind.Pack listed.pack h.bytes h.put; holds = h.holds; exact = h.exact }

  abbrev index_of_on : (x : List ℕ) → IsIndexOf (IsListedPack es) x → IsIndexOf (IsListedPack fs) x
  index_of_on x h = record { packs = h.packs; reads = h.reads; some = h.some; each = λ listed among. listed_on listed (h.each listed among) }

  read_back_on : (listings : List Listing) → Each (IsDone es) listings → Each (IsDone fs) listings
  read_back_on [] h = tt
  read_back_on (l ∷ listings) h = (record { reads = h.0.reads; put = done_on Kind.Index l.index.name l.index.bytes h.0.put }, read_back_on listings h.1)

  listings_on : (listed waiting : List PackFacts) → AreListed listed waiting es → AreListed listed waiting fs
  listings_on listed waiting h = record { listings = h.listings; indexes = h.indexes ∙ on.puts Kind.Index; read_back = read_back_on h.listings h.read_back; lists = h.lists }

  each_pack_on : (waiting : List PackFacts) → ListsEachPack waiting es → ListsEachPack waiting fs
  each_pack_on waiting h = record {
    packs = h.packs;
    listed = listings_on h.packs waiting h.listed;
    names = subst (λ os. map (λ (p : PackFacts). p.pack) h.packs ≡ map (λ (o : Object). o.name) os) (on.puts Kind.Pack) h.names;
  }

  unlisted_on : FewAreUnlisted es → FewAreUnlisted fs
  unlisted_on h = record { waiting = h.waiting; each = λ listed among. listed_on listed (h.each listed among); whole = each_pack_on h.waiting h.whole; few = h.few }

  -- ---- blobs that were put

  blobs_on : (items : List Item) → ArePutBlobs es items → ArePutBlobs fs items
  blobs_on items h = record { packs = h.packs; are = h.are ∙ on.puts Kind.Pack; each = h.each; blobs_are = h.blobs_are }

  counted_on : (blobs bytes : ℕ) → AreCounted es blobs bytes → AreCounted fs blobs bytes
  counted_on blobs bytes h = record { packs = h.packs; are = h.are ∙ on.puts Kind.Pack; each = h.each; blobs_are = h.blobs_are; bytes_are = h.bytes_are }

  stored_on : (name : Name) (blobs bytes : ℕ) → IsStored es name blobs bytes → IsStored fs name blobs bytes
  stored_on name blobs bytes h = record { text = h.text; put = done_on Kind.Snapshot name h.text h.put; counted = counted_on blobs bytes h.counted }

  -- ---- what is made of entries

  abbrev made_on : {entries : List Entry} {folder : Folder} → IsMade entries es folder → IsMade entries fs folder
  made_on m = record { text = m.text; config = m.config; read = on.said Ask.Config (Say.Bytes m.text) m.read; reads = m.reads; known = m.known; cut = m.cut }

  large_on : (version : ℕ) (entries : List Entry) → IsTooLarge version entries es → IsTooLarge version entries fs
  large_on version entries h = record { folder = h.folder; cut = made_on h.cut; of_version = h.of_version; text = h.text; made = h.made; large = h.large }

  known_on : (items : List Item) (item : Item) → IsGiven es item.kind item.name ⊎ (IsPacked es item.kind item.name ⊎ HasItem items item.kind item.name)
      → IsGiven fs item.kind item.name ⊎ (IsPacked fs item.kind item.name ⊎ HasItem items item.kind item.name)
  known_on items item (inl given) = inl (given_on es fs on.said item.kind item.name given)
  known_on items item (inr (inl packed)) = inr (inl (packed_on item.kind item.name packed))
  known_on items item (inr (inr here)) = inr (inr here)

  last_on : (entries : List Entry) (items : List Item) → AreLast entries es items → AreLast entries fs items
  last_on entries items h = record { folder = h.folder; cut = made_on h.cut; all = λ item among. known_on items item (h.all item among) }

  there_on : (item : Item) → IsGiven es item.kind item.name ⊎ IsIndexed es item.kind item.name → IsGiven fs item.kind item.name ⊎ IsIndexed fs item.kind item.name
  there_on item (inl given) = inl (given_on es fs on.said item.kind item.name given)
  there_on item (inr there) = inr (indexed_on es fs on.said item.kind item.name there)

-- ---- the rule

module _ (es : Trace) where
  -- no more is given without what was fed, and no more was put
  unread_so : (k : BlobKind) (n : Name) → ¬ IsGiven es k n → ¬ IsGiven (unfed es) k n
  unread_so k n none given = none (given_on (unfed es) es (so_exchanged es) k n given)

  unput_so : (k : BlobKind) (n : Name) → ¬ IsPacked es k n → ¬ IsPacked (unfed es) k n
  unput_so k n none packed = none (packed_on (unfed es) es (with_it es) k n packed)

  unindexed_so : (k : BlobKind) (n : Name) → ¬ IsIndexed es k n → ¬ IsIndexed (unfed es) k n
  unindexed_so k n none there = none (indexed_on (unfed es) es (so_exchanged es) k n there)

  adds_so : (old : List Item) (item : Item) (new : List Item) → AddsBlob es old item new → AddsBlob (unfed es) old item new
  adds_so old item new (inl (same, inl given)) = inl (same, inl (given_on es (unfed es) (exchanged_so es) item.kind item.name given))
  adds_so old item new (inl (same, inr here)) = inl (same, inr here)
  adds_so old item new (inr (more, unread, none)) = inr (more, unread_so item.kind item.name unread, none)

  adds_all_so : (old items new : List Item) → AddsBlobs es old items new → AddsBlobs (unfed es) old items new
  adds_all_so old [] new same = same
  adds_all_so old (item ∷ items) new (mid, one, more) = (mid, adds_so old item mid one, adds_all_so mid items new more)

  order_so : (made items : List Item) → IsInOrder es made items → IsInOrder (unfed es) made items
  order_so made items h = record {
    before = h.before;
    put = blobs_on es (unfed es) (without es) h.before h.put;
    first = h.first;
    later = h.later;
    begins = h.begins;
    more = h.more;
    adds = adds_all_so [] h.first ((h.before ++ items) ++ h.more) h.adds;
  }

  pack_full_so : (entries : List Entry) (items : List Item) → IsFullPack es items ⊎ AreLast entries es items → IsFullPack (unfed es) items ⊎ AreLast entries (unfed es) items
  pack_full_so entries items (inl full) = inl (full_on es (unfed es) (without es) items full)
  pack_full_so entries items (inr last) = inr (last_on es (unfed es) (without es) entries items last)

  pack_so : (entries : List Entry) (x : List ℕ) → PackRule entries es x → PackRule entries (unfed es) x
  pack_so entries x h = record {
    indexes = indexed_so es h.indexes;
    first = puts_so Kind.Snapshot es ∙ h.first;
    unlisted = unlisted_on es (unfed es) (without es) h.unlisted;
    items = h.items;
    pack = h.pack;
    folder = h.folder;
    cut = made_on es (unfed es) (without es) h.cut;
    made = h.made;
    order = order_so (blobs_of h.cut.config.version h.folder) h.items h.order;
    once = h.once;
    unread = λ item among. unread_so item.kind item.name (h.unread item among);
    unput = λ item among. unput_so item.kind item.name (h.unput item among);
    prompt = prompt_on es (unfed es) (without es) h.items h.prompt;
    full = pack_full_so entries h.items h.full;
  }

  abbrev index_so : (x : List ℕ) → IndexRule es x → IndexRule (unfed es) x
  index_so x h = record {
    indexes = indexed_so es h.indexes;
    first = puts_so Kind.Snapshot es ∙ h.first;
    lists = index_of_on es (unfed es) (without es) x h.lists;
    written = h.written;
    few = h.few;
    once = h.once;
    unindexed = λ fact among. unindexed_so fact.kind fact.name (h.unindexed fact among);
  }

  index_full_so : (entries : List Entry) (x : List ℕ) → IsFullIndex x ⊎ AreLast entries es [] → IsFullIndex x ⊎ AreLast entries (unfed es) []
  index_full_so entries x (inl full) = inl full
  index_full_so entries x (inr last) = inr (last_on es (unfed es) (without es) entries [] last)

  snapshot_so : (entries : List Entry) (token : Token) (x : List ℕ) → SnapshotRule entries es token x → SnapshotRule entries (unfed es) token x
  snapshot_so entries token x h = record {
    indexes = indexed_so es h.indexes;
    first = puts_so Kind.Snapshot es ∙ h.first;
    done = all_done_on es (unfed es) (without es) h.done;
    snapshot = h.snapshot;
    reads = h.reads;
    written = h.written;
    token_is = h.token_is;
    row = h.row;
    locked = exchanged_so es (Ask.Lock h.row) Say.Done h.locked;
    own = h.own;
    host_is = h.host_is;
    time_is = h.time_is;
    folder = h.folder;
    cut = made_on es (unfed es) (without es) h.cut;
    version_is = h.version_is;
    spells = h.spells;
    given = λ item among. there_on es (unfed es) (without es) item (h.given item among);
  }

  -- what it allows
  pub allows_so : (entries : List Entry) (ask : Ask) → BackupAllows entries es ask → BackupAllows entries (unfed es) ask
  allows_so entries (Ask.Put token Kind.Pack n x) h = pack_so entries x h
  allows_so entries (Ask.Put token Kind.Index n x) (rule, each, full) = (index_so x rule, each_pack_on es (unfed es) (without es) rule.lists.packs each, index_full_so entries x full)
  allows_so entries (Ask.Put token Kind.Snapshot n x) h = snapshot_so entries token x h
  allows_so entries (Ask.Delete token k n) h = h
  allows_so entries (Ask.Upgrade token) h = h
  allows_so entries ask h = reads_so Kind.Index es ask h

  -- and how it may end
  pub concludes_so : (entries : List Entry) (outcome : Outcome) → BackupConcludes entries es outcome → BackupConcludes entries (unfed es) outcome
  concludes_so entries (Outcome.Stored name blobs bytes) h = stored_on es (unfed es) (without es) name blobs bytes h
  concludes_so entries (Outcome.Ended End.DirectoryTooLarge) h = large_on es (unfed es) (without es) 1 entries h
  concludes_so entries (Outcome.Ended End.FileTooLarge) h = large_on es (unfed es) (without es) 2 entries h
  concludes_so entries outcome h = absurd h
