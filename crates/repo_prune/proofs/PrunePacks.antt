-- What is known once all blobs are moved, and while the packs that stay are listed.
use Rattle.std.proofs.Common.{arith, ◌≡◌, ◌≤◌, ◌⊎◌, ◌++◌, ◌∷◌, [], ℕ, List, Some, None, length, map, take, drop, refl, sym, ap, subst, inl, inr, ◌∙◌, Contains, append-nil}
use Rattle.std.specs.List.Sorted.{IsPermutation}
use Rattle.std.proofs.lemmas.List.{map-append, take_all, take-append-drop}
use Rattle.std.proofs.lemmas.List.Concat.{flat_map-append}
use Rattle.std.proofs.lemmas.List.Elements.{Contains-append_left, Contains-append_right, Contains-append_cases, All-contains}
use Rattle.std.proofs.lemmas.List.Sorted.{Contains-permutation, IsPermutation-sym}
use Rattle.repo_name.proofs.Containing.{contains_map, map_contains}
use Rattle.repo_name.specs.Naming as naming
use Rattle.repo_name.specs.declared.kinds.BlobKind.{BlobKind}
use Rattle.repo_name.specs.declared.kinds.Kind.{Kind}
use Rattle.repo_name.specs.declared.names.Name.{Name}
use Rattle.repo_name.specs.declared.tokens.Token.{Token}
use Rattle.repo_pack.specs.PackLayout.{IsWithin}
use Rattle.repo_index.specs.IndexText.{facts_in}
use Rattle.repo_index.specs.declared.facts.Fact.{Fact}
use Rattle.repo_index.specs.declared.facts.PackFacts.{PackFacts}
use Rattle.repo_wire.specs.declared.messages.Ask.{Ask}
use Rattle.repo_wire.specs.declared.messages.Say.{Say}
use Rattle.repo_session.specs.declared.jobs.Step.{Step}
use Rattle.repo_session.specs.Askers.{Asker}
use Rattle.repo_session.specs.Blobs.{HasCome}
use Rattle.repo_session.specs.Jobs.{MayAsk}
use Rattle.repo_session.specs.Order.{IsWorking}
use Rattle.repo_session.specs.Traces.{Each, Exchange, Object, Trace, object_put, objects_put}
use Rattle.repo_session.proofs.Deleting.{DeletesNone, none_deleted_on}
use Rattle.repo_writing.proofs.PutLemmas.{each_contained, objects_put_other, objects_put_more}
use Rattle.repo_writing.proofs.Writings.{none_listed, packs_stay, index_done, put_listed, puts_lawful, each_alone, listing_of, one_packed, IsLawfulListing}
use Rattle.repo_writing.specs.Blobs.{HasFact, HasItem, AreFactsOnce}
use Rattle.repo_writing.specs.Filling.{IsFullIndex}
use Rattle.repo_writing.specs.Putting.{IsPacked, IsIndexed}
use Rattle.repo_writing.specs.Writing.{Put, IsPut, items_of, AreListed, packs_of}
use Rattle.repo_prune.specs.Moving.{items_so_far}
use Rattle.repo_prune.specs.PruneStates.{Known, HasMoved, ArePacked, MayList, PrunePutsIndex, HasListed, KnowsStage, IsNextStep}
use Rattle.repo_prune.specs.Pruning.{AscendByName, prune_rule, prune_task, AreCovered, AreLastListed, AreLastMoved, IsNeededBy, IsPutOrStays, IsWanted, Pair, pair_of_item, pair_of_fact}
use Rattle.repo_prune.specs.Relisting.{IsListable, AreListable, PutsNext, Relists}
use Rattle.repo_prune.specs.declared.moving.Moving.{Moving}
use Rattle.repo_prune.specs.declared.prunes.Stage.{Stage}
use Rattle.repo_prune.specs.declared.relisting.Relisting.{Relisting}
use Rattle.repo_prune.proofs.Asides.{IsAside, packs_whole, read_same}
use Rattle.repo_prune.proofs.Firsts.{indexed_before, some_first, some_once}
use Rattle.repo_prune.proofs.Pairs.{count, pairs_of, counted_has, has_counted, once_counted, counted_once, count_shuffled, repacked_pairs}
use Rattle.repo_prune.proofs.Relistings.{in_first, first_ascend}
use Rattle.repo_prune.proofs.Staying.{put_or_stays_later}
use Rattle.repo_prune.proofs.PruneDeletes.{covered_later, puts_listed}

-- ---- all blobs are moved

put_listable : (p : Put) → IsPut p → IsLawfulListing p.listed → IsListable p.listed
put_listable p is lawful =
    let n = is.exact.count in
    let some = is.holds.pack.count.0 in
    let few = is.holds.pack.count.1 in
    record {
      some = omega (arith, n, some);
      few = omega (arith, n, few);
      within = λ fact among. All-contains (λ (f : Fact). (f.place.pack ≡ p.listed.pack) × IsWithin f.place.offset f.place.length) p.listed.facts fact lawful.within among;
    }

module _ (k : Known) (m : Moving) (es : Trace) (h : HasMoved k m es) (packs : List PackFacts) (same : IsPermutation m.listed.items packs) (ascend : AscendByName packs) where
  listings : List PackFacts
  listings = map (λ (p : Put). p.listed) h.puts

  all_listed : m.listed.items ≡ h.repacking.kept ++ listings
  unfolding listings
  all_listed = h.repacking.listed ∙ ap (λ ps. h.repacking.kept ++ map (λ (p : Put). p.listed) ps) (append-nil h.puts)

  each_put : Each IsPut h.puts
  each_put = each_alone h.puts h.repacking.put.each

  moved_all : map pair_of_item (items_of h.puts) ≡ map pair_of_fact m.moves.items
  moved_all =
      let items : items_so_far (items_of h.puts) [] m ≡ items_of h.puts = ap (λ w. (items_of h.puts ++ []) ++ w) h.written ∙ append-nil (items_of h.puts ++ []) ∙ append-nil (items_of h.puts) in
      ap (map pair_of_item) (sym items) ∙ h.moving.moved ∙ ap (map pair_of_fact) (take_all m.added m.moves.items h.all)

  same_count : (kind : BlobKind) (n : Name) → count kind n (pairs_of (facts_in packs)) ≡ count kind n (pairs_of (facts_in h.repacking.kept ++ m.moves.items))
  unfolding all_listed each_put moved_all listings
  same_count kind n = count_shuffled kind n m.listed.items packs same ∙ ap (λ ps. count kind n (pairs_of (facts_in ps))) all_listed ∙ ap (count kind n) (repacked_pairs h.repacking.kept h.puts m.moves.items each_put moved_all)

  covers : AreCovered es k.rows packs
  covers =
      let p = h.repacking.planned in
      record {
        texts = p.texts;
        trees = p.trees;
        walked = p.walked;
        given = λ kind n need.
            let there = has_counted kind n (facts_in h.repacking.kept ++ m.moves.items) (p.given kind n need) in
            let q = same_count kind n in
            counted_has kind n (facts_in packs) (omega (arith, there, q));
        just = λ fact among.
            let there = has_counted fact.kind fact.name (facts_in packs) (fact.place, among) in
            let q = same_count fact.kind fact.name in
            let has = counted_has fact.kind fact.name (facts_in h.repacking.kept ++ m.moves.items) (omega (arith, there, q)) in
            p.just (record { kind = fact.kind; name = fact.name; place = has.0 }) has.1;
        once = counted_once (facts_in packs) (λ kind n.
            let few = once_counted (facts_in h.repacking.kept ++ m.moves.items) p.once kind n in
            let q = same_count kind n in
            omega (arith, few, q));
      }

  either : (listed : PackFacts) → Contains packs listed → Contains h.repacking.kept listed ⊎ Contains listings listed
  either listed among =
      let there = Contains-permutation packs m.listed.items listed (IsPermutation-sym m.listed.items packs same) among in
      Contains-append_cases h.repacking.kept listings listed (subst (λ ls. Contains ls listed) all_listed there)

  may_be_listed : (listed : PackFacts) → Contains packs listed → IsPutOrStays es (IsNeededBy k.rows covers.texts) k.facts listed
  unfolding covers either listings
  may_be_listed listed among = elim (either listed among) [
    | inl kept ↦ inr (h.repacking.planned.kept_are listed kept)
    | inr put ↦ inl (put_listed m.counts h.puts es h.repacking.put listed put)
  ]

  -- each blob that moves is in a pack that was put
  none_left : AreLastMoved (IsNeededBy k.rows covers.texts) k.facts es []
  unfolding covers
  none_left fact must =
      let among : Contains m.moves.items fact = (h.repacking.planned.must fact).1 must in
      let pair = subst (λ ps. Contains ps (pair_of_fact fact)) (sym moved_all) (contains_map pair_of_fact m.moves.items fact among) in
      let found = map_contains pair_of_item (items_of h.puts) (pair_of_fact fact) pair in
      let has : HasItem (items_of h.puts) fact.kind fact.name = (found.0, found.1, ap (λ (p : Pair). p.kind) found.2, ap (λ (p : Pair). p.name) found.2) in
      inr (one_packed m.counts h.puts es h.repacking.put fact.kind fact.name has)

  are_listable : AreListable packs
  unfolding either listings each_put
  are_listable listed among = elim (either listed among) [
    | inl kept ↦ h.repacking.planned.listable listed kept
    | inr put ↦
        let found = map_contains (λ (p : Put). p.listed) h.puts listed put in
        let whole : Contains (map listing_of (h.puts ++ [])) listed = subst (λ ps. Contains (map listing_of ps) listed) (sym (append-nil h.puts)) put in
        let lawful : IsLawfulListing listed = puts_lawful m.counts h.puts [] es h.repacking.put listed whole in
        subst IsListable found.2 (put_listable found.0 (each_contained IsPut h.puts found.0 each_put found.1) (subst IsLawfulListing (sym found.2) lawful))
  ]

  stands_put : (p : Put) → Contains h.puts p → Contains packs p.listed
  unfolding listings
  stands_put p among =
      let there = contains_map (λ (q : Put). q.listed) h.puts p among in
      Contains-permutation m.listed.items packs p.listed same (subst (λ ls. Contains ls p.listed) (sym all_listed) (Contains-append_right h.repacking.kept listings p.listed there))

  pub packed : (r : Relisting) → r.packs.items ≡ packs → r.counts ≡ m.counts → ArePacked k r.packs.items r.counts es
  packed r packs_are counts = subst (λ ps. ArePacked k ps r.counts es) (sym packs_are) (subst (λ c. ArePacked k packs c es) (sym counts) (record {
    read = h.repacking.read;
    none = h.repacking.none;
    puts = h.puts;
    put = h.repacking.put;
    stand = stands_put;
    covered = covers;
    each = may_be_listed;
    moved = none_left;
    listable = are_listable;
    ascend = ascend;
    unstored = h.repacking.unstored;
  }))

-- over an exchange that puts no pack
packed_later : (e : Exchange) (es : Trace) (kind : BlobKind) (n : Name) → object_put Kind.Pack e.ask ≡ [] → IsPacked es kind n → IsPacked (e ∷ es) kind n
packed_later e es kind n other packed = record { pack = packed.pack; items = packed.items; put = subst (λ os. Contains os packed.pack) (sym (objects_put_other Kind.Pack e es other)) packed.put; holds = packed.holds; among = packed.among }

none_first : (packs : List PackFacts) (n : ℕ) → n ≡ 0 → take n packs ≡ []
none_first packs n h = ap (λ i. take i packs) h

-- then the listing begins
pub may_list : (k : Known) (m : Moving) (r : Relisting) (es : Trace) → HasMoved k m es → IsPermutation m.listed.items r.packs.items → AscendByName r.packs.items → r.counts ≡ m.counts → r.listed ≡ 0 → r.indexes.items ≡ [] → MayList k r es
may_list k m r es h same ascend counts none names = record {
  packed = packed k m es h r.packs.items same ascend r refl counts;
  lists = subst (λ ls. AreListed ls [] es) (sym (none_first r.packs.items r.listed none)) (none_listed [] es h.repacking.unindexed);
  named = names ∙ sym (ap (λ os. map (λ (o : Object). o.name) os) h.repacking.unindexed);
}

-- ---- an index

-- the next ones behind those that are listed
module _ (k : Known) (r : Relisting) (es : Trace) (h : MayList k r es) (next : ℕ) (waiting : List PackFacts) (behind : take next r.packs.items ≡ take r.listed r.packs.items ++ waiting) where
  abbrev before : List PackFacts
  before = take r.listed r.packs.items

  abbrev rest : List PackFacts
  rest = drop next r.packs.items

  all_facts : facts_in r.packs.items ≡ (facts_in before ++ facts_in waiting) ++ facts_in rest
  all_facts =
      let facts : PackFacts → List Fact = λ p. p.facts in
      ap facts_in (sym (take-append-drop next r.packs.items) ∙ ap (λ ps. ps ++ rest) behind) ∙ flat_map-append facts (before ++ waiting) rest
      ∙ ap (λ fs. fs ++ facts_in rest) (flat_map-append facts before waiting)

  all_once : AreFactsOnce ((facts_in before ++ facts_in waiting) ++ facts_in rest)
  all_once = subst AreFactsOnce all_facts h.packed.covered.once

  -- each of their blobs is needed
  pub waits_needed : (fact : Fact) → Contains (facts_in waiting) fact → IsNeededBy k.rows h.packed.covered.texts fact.kind fact.name
  waits_needed fact among = h.packed.covered.just fact (subst (λ fs. Contains fs fact) (sym all_facts)
      (Contains-append_left (facts_in before ++ facts_in waiting) (facts_in rest) fact (Contains-append_right (facts_in before) (facts_in waiting) fact among)))

  -- is there once
  pub waits_once : AreFactsOnce (facts_in waiting)
  waits_once = some_once (facts_in before) (facts_in waiting) (facts_in rest) all_once

  -- and no index put before gives it
  pub waits_first : (fact : Fact) → Contains (facts_in waiting) fact → ¬ IsIndexed es fact.kind fact.name
  waits_first fact among is =
      let was = indexed_before before [] es h.lists fact.kind fact.name is in
      let listed : packs_of h.lists.listings ≡ before = sym (h.lists.lists ∙ append-nil (packs_of h.lists.listings)) in
      some_first (facts_in before) (facts_in waiting) (facts_in rest) all_once fact.kind fact.name (fact.place, among) (subst (λ ps. HasFact (facts_in ps) fact.kind fact.name) listed was)

waits : (listed waiting all : List PackFacts) (es : Trace) → all ≡ listed ++ waiting → AreListed listed [] es → AreListed all waiting es
waits listed waiting all es is h = record {
  listings = h.listings;
  indexes = h.indexes;
  read_back = h.read_back;
  lists = is ∙ ap (λ ls. ls ++ waiting) (h.lists ∙ append-nil (packs_of h.listings));
}

module _ (k : Known) (r s : Relisting) (es : Trace) (h : MayList k r es) where
  packed_as : s.packs.items ≡ r.packs.items → s.counts ≡ r.counts → ArePacked k s.packs.items s.counts es
  packed_as packs counts = subst (λ ps. ArePacked k ps s.counts es) (sym packs) (subst (λ c. ArePacked k r.packs.items c es) (sym counts) h.packed)

  -- the next one may be put
  pub index_asked : (who : Asker) (token : Token) (step : Step) → IsWorking (prune_task who) token es → Relists r token (Some step) s → IsNextStep k who (Stage.Relisting s) step es
  index_asked who token step w relists =
      let p : PutsNext r token step s = relists h.packed.listable in
      let all = waits (take r.listed r.packs.items) p.waiting (take s.listed s.packs.items) es p.behind h.lists in
      let among : (listed : PackFacts) → Contains p.waiting listed → Contains r.packs.items listed = λ listed has.
      subst (λ ps. Contains ps listed) p.packs (in_first s.packs.items s.listed listed (subst (λ ls. Contains ls listed) (sym p.behind) (Contains-append_right (take r.listed r.packs.items) p.waiting listed has))) in
      let last : length s.packs.items ≤ s.listed → AreLastListed es p.waiting = λ whole. record {
        packs = r.packs.items;
        listed = subst (λ ls. AreListed ls p.waiting es) (take_all s.listed s.packs.items whole ∙ p.packs) all;
        stand = puts_listed k r.packs.items r.counts es h.packed;
        rows = k.rows;
        snapshots = h.packed.read.all.snapshots;
        covered = h.packed.covered;
      } in
      let full : IsFullIndex p.text ⊎ AreLastListed es p.waiting = elim p.full [ inl many ↦ inl (p.waiting, p.reads, many) | inr whole ↦ inr (last whole) ] in
      let next : take s.listed r.packs.items ≡ take r.listed r.packs.items ++ p.waiting = ap (take s.listed) (sym p.packs) ∙ p.behind in
      let may : HasCome IsWanted es → MayAsk prune_rule who (KnowsStage k (Stage.Relisting s)) es (Ask.Put token Kind.Index (naming.name p.text) p.text) = λ come. record {
        work = tt;
        may = (w, refl, p.short);
        allowed = (
          inl come,
          record {
            known = record {
              none = h.packed.none;
              rows = k.rows;
              snapshots = h.packed.read.all.snapshots;
              indexes = h.packed.read.all.indexes;
              packs = packs_whole k es h.packed.read;
              there = h.packed.read.there;
              texts = h.packed.covered.texts;
              trees = h.packed.covered.trees;
              facts = k.facts;
              gives = h.packed.read.all.gives;
            };
            walked = h.packed.covered.walked;
            lists = record { packs = p.waiting; reads = p.reads; some = p.some; each = λ listed has. h.packed.each listed (among listed has) };
            written = p.written;
            few = p.few;
            needed = waits_needed k r es h s.listed p.waiting next;
            once = waits_once k r es h s.listed p.waiting next;
            first = waits_first k r es h s.listed p.waiting next;
            behind = (take s.listed s.packs.items, all, first_ascend s.packs.items s.listed (subst AscendByName (sym p.packs) h.packed.ascend));
            moved = h.packed.moved;
            cut = p.cut;
            full = full;
          },
        );
        knows = record {
          packed = packed_as p.packs p.counts;
          waiting = p.waiting;
          lists = all;
          reads = p.reads;
          named = p.named ∙ ap (λ ns. ns ++ naming.name p.text ∷ []) h.named;
        };
      } in
      subst (λ t. IsNextStep k who (Stage.Relisting s) t es) (sym p.puts) may

  -- all packs are listed
  pub index_none : (token : Token) → Relists r token None s → HasListed k s es
  index_none token relists =
      let same = relists.1 in
      let long : length s.packs.items ≡ length r.packs.items = ap length same.packs in
      let n = same.listed in
      let all = relists.0 in
      record {
        may = record {
          packed = packed_as same.packs same.counts;
          lists = subst (λ ls. AreListed ls [] es) (sym (ap (take s.listed) same.packs ∙ ap (λ i. take i r.packs.items) n)) h.lists;
          named = same.indexes ∙ h.named;
        };
        all = omega (arith, long, n, all);
      }

-- the put of one is done
pub index_put : (k : Known) (r : Relisting) (token : Token) (n : Name) (x : List ℕ) (e : Exchange) (es : Trace) → e.ask ≡ Ask.Put token Kind.Index n x → e.say ≡ Say.Done → PrunePutsIndex k r n x es → MayList k r (e ∷ es)
unfolding covered_later
index_put k r token n x e es is said h =
    let p = h.packed in
    let aside : IsAside e.ask = subst IsAside (sym is) tt in
    let none : DeletesNone e.ask = subst DeletesNone (sym is) (λ j. refl) in
    let other : (j : Kind) → object_put j (Ask.Put token Kind.Index n x) ≡ [] → object_put j e.ask ≡ [] = λ j q. ap (object_put j) is ∙ q in
    record {
      packed = record {
        read = read_same e es aside k p.read;
        none = none_deleted_on e es none p.none;
        puts = p.puts;
        put = packs_stay r.counts p.puts [] e es (other Kind.Pack refl) p.put;
        stand = p.stand;
        covered = covered_later e es k.rows r.packs.items p.covered;
        each = λ listed among. put_or_stays_later e es (IsNeededBy k.rows p.covered.texts) k.facts listed (p.each listed among);
        moved = λ fact must. elim (p.moved fact must) [ inl has ↦ inl has | inr packed ↦ inr (packed_later e es fact.kind fact.name (other Kind.Pack refl) packed) ];
        listable = p.listable;
        ascend = p.ascend;
        unstored = objects_put_other Kind.Snapshot e es (other Kind.Snapshot refl) ∙ p.unstored;
      };
      lists = index_done (take r.listed r.packs.items) h.waiting token n x e es h.reads is said h.lists;
      named = h.named ∙ sym (ap (λ os. map (λ (o : Object). o.name) os) (objects_put_more Kind.Index e es token n x is) ∙ map-append (λ (o : Object). o.name) (objects_put Kind.Index es) (record { name = n; bytes = x } ∷ []));
    }
