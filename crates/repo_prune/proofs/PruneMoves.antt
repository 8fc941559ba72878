-- What is known while a prune moves blobs, and once it did.
use Rattle.std.proofs.Common.{arith, Vec, Global, ◌+◌, ◌≡◌, ◌≢◌, ◌≤◌, ◌⊎◌, ◌↔◌, ◌++◌, ◌∷◌, [], ℕ, List, Option, Some, None, length, map, take, slice_get, refl, sym, ap, subst, inl, inr, ◌∙◌, Contains, append-nil, append_assoc}
use Rattle.std.specs.List.{flat_map}
use Rattle.std.specs.List.Sorted.{IsStrictlySortedBy}
use Rattle.std.proofs.lemmas.List.{map-append, take_all}
use Rattle.std.proofs.lemmas.List.Elements.{Contains-append_right, Contains-append_cases}
use Rattle.std.proofs.lemmas.Option.{same_Some}
use Rattle.repo_name.proofs.Containing.{none_contained, contained_or, contains_got, contains_map, map_contains}
use Rattle.repo_name.specs.Naming as naming
use Rattle.repo_name.specs.declared.kinds.Kind.{Kind}
use Rattle.repo_name.specs.declared.names.Name.{Name}
use Rattle.repo_name.specs.declared.tokens.Token.{Token}
use Rattle.repo_pack.specs.PackLayout.{Item, IsTruePack}
use Rattle.repo_pack.specs.PackWriting.{IsDue, IsOpen}
use Rattle.repo_pack.specs.declared.writers.Sealed.{Sealed}
use Rattle.repo_index.specs.IndexText.{facts_in}
use Rattle.repo_index.specs.Lookups.{IsLastPlace, IsNextPlace}
use Rattle.repo_index.specs.Order.{place_first}
use Rattle.repo_pack.specs.declared.places.Place.{Place}
use Rattle.repo_index.specs.declared.facts.Fact.{Fact}
use Rattle.repo_index.specs.declared.facts.PackFacts.{PackFacts}
use Rattle.repo_wire.specs.declared.messages.Ask.{Ask}
use Rattle.repo_wire.specs.declared.messages.Say.{Say}
use Rattle.repo_session.specs.declared.jobs.Step.{Step}
use Rattle.repo_session.specs.Askers.{Asker}
use Rattle.repo_session.specs.Jobs.{MayAsk, MayStep}
use Rattle.repo_session.specs.Order.{IsWorking}
use Rattle.repo_session.specs.Blobs.{range_of, HasCome, IsBadBlob}
use Rattle.repo_session.specs.Traces.{Each, Exchange, Trace, object_put, ReadFact}
use Rattle.repo_session.proofs.Cataloguing.{fact_stays}
use Rattle.repo_session.proofs.Deleting.{DeletesNone, none_deleted_on}
use Rattle.repo_writing.proofs.BlobLemmas.{has_either, once_apart, once_behind}
use Rattle.repo_writing.proofs.PutLemmas.{objects_put_other}
use Rattle.repo_writing.proofs.Writings.{none_put, packs_stay, pack_sent, pack_done, items_push, put_of, is_put, packed_one, one_packed, each_alone}
use Rattle.repo_writing.specs.Blobs.{HasItem, AreOnce, AreFactsOnce}
use Rattle.repo_writing.specs.Filling.{WasOpen, IsPromptPack, IsFullPack}
use Rattle.repo_writing.specs.Putting.{IsPacked, Packed}
use Rattle.repo_writing.specs.Writing.{Put, IsPut, items_of, ArePut, AreCounts}
use Rattle.repo_writing.specs.declared.counts.Counts.{Counts}
use Rattle.repo_writing.specs.declared.targets.Target.{Target}
use Rattle.repo_prune.specs.Moving.{IsMoving, AwaitsBlob, MovesOn, SendsPack, copy_at}
use Rattle.repo_prune.specs.inner.Replies.{LooksBehind}
use Rattle.repo_prune.proofs.Copies.{awaits_first, awaits_next, bad_later, copies_tried, few_later, received_later}
use Rattle.repo_prune.proofs.Wanting.{wanted_read}
use Rattle.repo_prune.specs.PruneStates.{Known, AreReceived, AwaitsCopy, HaveCome, ArePlanned, HasPlanned, IsRepacking, KnowsMove, HasMoved, KnowsStage, IsNextStep, MovesTo}
use Rattle.repo_prune.specs.Pruning.{prune_rule, prune_task, HasToMove, IsNeededBy, MustMoveBy, AreLastMoved, AreNextMoved, WasReceived, AreBadCopies, AreFewParts, FollowsBadCopy, IsCopyWanted, IsMoveWanted, parts_in, IsNextMove, IsSurveyed, IsWanted, Pair, pair_of_fact, pair_of_item, PruneConcludes}
use Rattle.repo_prune.specs.declared.moving.Moved.{Moved}
use Rattle.repo_prune.specs.declared.moving.Moving.{Moving}
use Rattle.repo_prune.specs.declared.prunes.Stage.{Stage}
use Rattle.repo_prune.proofs.Asides.{IsAside, packs_whole, read_same}
use Rattle.repo_pack.specs.PackLayout.{IsBlobLength}
use Rattle.repo_session.specs.declared.outcomes.End.{End}
use Rattle.repo_session.specs.declared.outcomes.Outcome.{Outcome}
use Rattle.repo_session.specs.Ends.{blob_thing}
use Rattle.repo_prune.proofs.Pairs.{moved_once}
use Rattle.repo_prune.proofs.PruneTrees.{part_ends, read_within}
use Rattle.repo_prune.proofs.Relistings.{in_first}
use Rattle.repo_prune.proofs.Repacking.{none_awaited, one_taken}
use Rattle.repo_prune.proofs.Unsent.{first_of_pair, unsent}
use Rattle.repo_session.proofs.Descending.{received_grows}

-- ---- what stays over a part of a pack or a put

pub planned_later : (k : Known) (kept : List PackFacts) (moves : List Fact) (e : Exchange) (es : Trace) → IsAside e.ask → ArePlanned k kept moves es → ArePlanned k kept moves (e ∷ es)
planned_later k kept moves e es aside h = record {
  texts = h.texts;
  trees = record { received = λ x among. received_grows e es _ x (h.trees.received x among); one = h.trees.one };
  walked = h.walked;
  given = h.given;
  just = h.just;
  once = h.once;
  kept_are = h.kept_are;
  listable = h.listable;
  moves_are = λ fact among. fact_stays e es fact (h.moves_are fact among);
  must = h.must;
  ascend = h.ascend;
}

-- ---- packs with their blobs

abbrev packed_of : Put → Packed
packed_of p = record { pack = p.pack; items = p.items }

objects_of : (puts : List Put) → map (λ (p : Packed). p.pack) (map packed_of puts) ≡ map (λ (p : Put). p.pack) puts
objects_of [] = refl
objects_of (p ∷ puts) = ap (λ os. p.pack ∷ os) (objects_of puts)

blobs_of_all : (puts : List Put) → flat_map (λ (p : Packed). p.items) (map packed_of puts) ≡ items_of puts
blobs_of_all [] = refl
blobs_of_all (p ∷ puts) = ap (λ is. p.items ++ is) (blobs_of_all puts)

each_holds : (puts : List Put) → Each IsPut puts → Each (λ (p : Packed). IsTruePack p.pack.bytes p.items) (map packed_of puts)
each_holds [] h = tt
each_holds (p ∷ puts) h = (h.0.holds, each_holds puts h.1)

-- ---- what was received

-- by the same blobs that move, up to the same place
pub received_as : (m n : Moving) (i j : ℕ) (es : Trace) → n.moves ≡ m.moves → j ≡ i → HaveCome es m.moves.items i → HaveCome es n.moves.items j
received_as m n i j es moves same h = subst (λ (v : Vec Fact Global). HaveCome es v.items j) (sym moves) (subst (HaveCome es m.moves.items) (sym same) h)

-- over an exchange that asks for none
pub received_on : (m n : Moving) (i j : ℕ) (e : Exchange) (es : Trace) → n.moves ≡ m.moves → j ≡ i → parts_in e.ask ≡ 0 → HaveCome es m.moves.items i → HaveCome (e ∷ es) n.moves.items j
received_on m n i j e es moves same none h =
    let count : ℕ = i + length h.bad in
    let more : parts_in e.ask + count ≡ count = omega (arith, none) in
    received_as m n i j (e ∷ es) moves same (record {
      received = received_later e es (take i m.moves.items) h.received;
      bad = h.bad;
      tried = bad_later e es (take i m.moves.items) h.bad h.tried;
      parts = few_later e es count count more h.parts;
    })

-- over one that brings the next blob, by one of its copies
pub received_more : (m n : Moving) (e : Exchange) (es : Trace) (fact : Fact) (place : Option Place) (x : List ℕ) → n.moves ≡ m.moves → n.added ≡ m.asked + 1 → slice_get m.moves.items m.asked ≡ Some fact
    → ReadFact es (copy_at fact place) → e.ask ≡ range_of (copy_at fact place) → e.say ≡ Say.Bytes x → naming.name x ≡ fact.name → length x ≡ (copy_at fact place).place.length
    → AwaitsCopy es m.moves.items m.asked (copy_at fact place) → HaveCome (e ∷ es) n.moves.items n.added
received_more m n e es fact place x moves more at read is said named long h =
    let copy : Fact = copy_at fact place in
    let now : WasReceived (e ∷ es) fact.kind fact.name = (x, record { fact = copy; given = fact_stays e es copy read; of_kind = refl; replied = inl (is, said); long = long; named = named }, named) in
    let before : AreReceived (e ∷ es) (take m.asked m.moves.items) = received_later e es (take m.asked m.moves.items) h.received in
    let all : AreReceived (e ∷ es) (take m.asked m.moves.items ++ fact ∷ []) = λ f among. elim (Contains-append_cases (take m.asked m.moves.items) (fact ∷ []) f among) [
      | inl first ↦ before f first
      | inr last ↦ elim (contained_or fact [] f last) [ inl same ↦ subst (λ (g : Fact). WasReceived (e ∷ es) g.kind g.name) same now | inr none ↦ absurd (none_contained f none) ]
    ] in
    let one : parts_in e.ask ≡ 1 = ap parts_in is in
    let size : ℕ = length h.copies in
    let next : parts_in e.ask + (m.asked + size) ≡ m.asked + 1 + size = omega (arith, one) in
    let taken = sym (one_taken m.moves.items m.asked fact at) in
    received_as m n (m.asked + 1) n.added (e ∷ es) moves more (record {
      received = subst (AreReceived (e ∷ es)) taken all;
      bad = h.copies;
      tried = subst (λ fs. AreBadCopies (e ∷ es) fs h.copies) taken (copies_tried e es m.moves.items m.asked fact copy refl refl h);
      parts = few_later e es (m.asked + size) (m.asked + 1 + size) next h.parts;
    })

-- ---- with the moving as it stands

-- the packs put, whatever counts
counts_as : (old new : Counts) (puts next : List Put) (es : Trace) → AreCounts new (items_of (puts ++ next)) → ArePut old puts next es → ArePut new puts next es
counts_as old new puts next es counted h = record { packs = h.packs; done = h.done; each = h.each; counted = counted }

-- the same packs, the moving being another one with the same blobs to move
pub repacks_as : (k : Known) (m n : Moving) (puts next : List Put) (es : Trace) → n.moves ≡ m.moves → n.packer.target ≡ m.packer.target → n.listed.items ≡ m.listed.items → AreCounts n.counts (items_of (puts ++ next)) → IsRepacking k m puts next es → IsRepacking k n puts next es
repacks_as k m n puts next es moves target listed counted h = record {
  read = h.read;
  none = h.none;
  kept = h.kept;
  planned = subst (λ fs. ArePlanned k h.kept fs es) (sym (ap (λ v. v.items) moves)) h.planned;
  put = counts_as m.counts n.counts puts next es counted h.put;
  unindexed = h.unindexed;
  unstored = h.unstored;
  listed = listed ∙ h.listed;
  aim = ap (λ (t : Target). t.bytes) target ∙ h.aim;
}

pub counted_alone : (c : Counts) (puts : List Put) → AreCounts c (items_of puts) → AreCounts c (items_of (puts ++ []))
counted_alone c puts h = subst (λ ps. AreCounts c (items_of ps)) (sym (append-nil puts)) h

module _ (k : Known) (m n : Moving) (puts : List Put) (es : Trace) (r : IsRepacking k m puts [] es) (moves : n.moves ≡ m.moves) (target : n.packer.target ≡ m.packer.target) (who : Asker) (token : Token)
    (w : IsWorking (prune_task who) token es) where
  same_moves : n.moves.items ≡ m.moves.items
  same_moves = ap (λ v. v.items) moves

  -- the store was surveyed
  abbrev surveyed : IsSurveyed es
  surveyed = record {
    none = r.none;
    rows = k.rows;
    snapshots = r.read.all.snapshots;
    indexes = r.read.all.indexes;
    packs = packs_whole k es r.read;
    there = r.read.there;
    texts = r.planned.texts;
    trees = r.planned.trees;
    facts = k.facts;
    gives = r.read.all.gives;
  }

  -- packs are to be as large as the config that was read wants them
  sent_aim : n.packer.target.bytes ≡ r.read.all.target.0.target
  sent_aim = ap (λ (t : Target). t.bytes) target ∙ r.aim ∙ sym r.read.all.target.2

  -- these are, with the blobs of the packs that were put, the first ones that move
  next_moved : (items : List Item) → map pair_of_item (items_of puts ++ items) ≡ map pair_of_fact (take n.added n.moves.items) → AreNextMoved (IsNeededBy k.rows r.planned.texts) k.facts es items
  next_moved items pairs = record {
    moves = n.moves.items;
    each = subst (λ fs. (fact : Fact) → Contains fs fact ↔ MustMoveBy (IsNeededBy k.rows r.planned.texts) k.facts fact) (sym same_moves) r.planned.must;
    ascend = subst (λ fs. IsStrictlySortedBy place_first fs) (sym same_moves) r.planned.ascend;
    packs = map packed_of puts;
    put = objects_of puts ∙ r.put.packs;
    hold = each_holds puts (each_alone puts r.put.each);
    count = n.added;
    first = ap (λ all. map pair_of_item (all ++ items)) (blobs_of_all puts) ∙ pairs;
  }

  -- what waits for its pack was received
  held_received : (items : List Item) → map pair_of_item (items_of puts ++ items) ≡ map pair_of_fact (take n.added n.moves.items) → AreReceived es (take n.added n.moves.items) → (item : Item) → Contains items item → WasReceived es item.kind item.name
  held_received items pairs got item among =
      let pair = subst (λ ps. Contains ps (pair_of_item item)) pairs (contains_map pair_of_item (items_of puts ++ items) item (Contains-append_right (items_of puts) items item among)) in
      let found = map_contains pair_of_fact (take n.added n.moves.items) (pair_of_item item) pair in
      subst (λ (p : Pair). WasReceived es p.kind p.name) found.2 (got found.0 found.1)

  -- the next blob is wanted
  move_wanted : (fact : Fact) → HaveCome es n.moves.items n.added → AwaitsBlob n fact (items_of puts) [] → n.added ≡ n.asked → IsOpen n.packer.writer → IsMoveWanted es fact
  unfolding next_moved
  move_wanted fact got a first room =
      let among : Contains m.moves.items fact = subst (λ fs. Contains fs fact) same_moves (contains_got n.moves.items n.asked fact a.asked) in
      let must = (r.planned.must fact).0 among in
      let sent = items_of puts in
      let pairs : map pair_of_item (sent ++ n.packer.writer.items) ≡ map pair_of_fact (take n.added n.moves.items) = ap (λ items. map pair_of_item (items ++ n.packer.writer.items)) (sym (append-nil sent)) ∙ a.moving.moved in
      let once = subst (λ fs. AreFactsOnce (facts_in r.kept ++ fs)) (sym same_moves) r.planned.once in
      let wants = r.read.all.target in
      let next : IsNextMove (IsNeededBy k.rows r.planned.texts) k.facts es fact = record {
        held = n.packer.writer.items;
        received = held_received n.packer.writer.items pairs got.received;
        before = next_moved n.packer.writer.items pairs;
        next = ap (λ (i : ℕ). slice_get n.moves.items i) first ∙ a.asked;
        room = (wants.0, wants.1, subst (λ t. IsOpen (record { items = n.packer.writer.items; target = t })) (a.moving.aim ∙ sent_aim) room);
        bad = got.bad;
        tried = got.tried;
        few = got.parts;
      } in
      let fresh = unsent (facts_in r.kept) n.moves.items n.asked n.added fact sent n.packer.writer.items once a.asked a.before pairs in
      record {
        known = surveyed;
        walked = r.planned.walked;
        must = must;
        unput = λ packed. fresh (packed_one m.counts puts es r.put fact.kind fact.name packed);
        next = next;
      }

  -- the next blob may be asked for
  pub move_asked : (fact : Fact) → HaveCome es n.moves.items n.added → AwaitsBlob n fact (items_of puts) [] → n.listed.items ≡ m.listed.items → n.added ≡ n.asked → IsOpen n.packer.writer
      → HasCome IsWanted es → MayAsk prune_rule who (KnowsStage k (Stage.Moving n None)) es (range_of fact)
  move_asked fact got a listed first room come =
      let among : Contains m.moves.items fact = subst (λ fs. Contains fs fact) same_moves (contains_got n.moves.items n.asked fact a.asked) in
      let wanted = move_wanted fact got a first room in
      record {
        work = tt;
        may = ((token, w), (fact, r.planned.moves_are fact among, refl, refl, refl));
        allowed = (inl come, (fact, inr (inl wanted), refl));
        knows = record {
          puts = puts;
          sealed = [];
          fact = fact;
          repacking = repacks_as k m n puts [] es moves target listed (counted_alone n.counts puts a.moving.counted) r;
          awaits = a;
          asks = refl;
          wanted = inl wanted;
          received = awaits_first es n.moves.items n.asked fact (subst (HaveCome es n.moves.items) first got);
        };
      }

  module _ (sealed : Sealed) (s : SendsPack (items_of puts) m.listed.items sealed n) where
    abbrev sent : List Item
    sent = items_of puts ++ s.items

    -- the blobs sent, with those of this pack, are those that were added
    sent_pairs : map pair_of_item sent ≡ map pair_of_fact (take n.added n.moves.items)
    sent_pairs = ap (map pair_of_item) (sym (ap (λ w. (sent ++ []) ++ w) s.written ∙ append-nil (sent ++ []) ∙ append-nil sent)) ∙ s.moving.moved

    -- each blob of it moves
    sent_moves : (item : Item) → Contains s.items item → HasToMove (IsNeededBy k.rows r.planned.texts) k.facts item.kind item.name
    sent_moves item among =
        let pair = subst (λ ps. Contains ps (pair_of_item item)) sent_pairs (contains_map pair_of_item sent item (Contains-append_right (items_of puts) s.items item among)) in
        let found = map_contains pair_of_fact (take n.added n.moves.items) (pair_of_item item) pair in
        let there : Contains m.moves.items found.0 = subst (λ fs. Contains fs found.0) same_moves (in_first n.moves.items n.added found.0 found.1) in
        (found.0, (r.planned.must found.0).0 there, ap (λ (p : Pair). p.kind) found.2, ap (λ (p : Pair). p.name) found.2)

    -- each of them is there once
    sent_once : AreOnce (items_of puts ++ s.items)
    sent_once = moved_once (facts_in r.kept) n.moves.items n.added sent (subst (λ fs. AreFactsOnce (facts_in r.kept ++ fs)) (sym same_moves) r.planned.once) sent_pairs

    -- and none in a pack that was put before
    sent_first : (item : Item) → Contains s.items item → ¬ IsPacked es item.kind item.name
    sent_first item among packed = once_apart (items_of puts) s.items item.kind item.name sent_once (packed_one m.counts puts es r.put item.kind item.name packed) (item, among, refl, refl)

    -- with those of the packs that were put they are the first ones that move
    sent_next : AreNextMoved (IsNeededBy k.rows r.planned.texts) k.facts es s.items
    sent_next = next_moved s.items sent_pairs

    -- once all were added, each blob that moves was put, or is of this pack
    sent_last : length n.moves.items ≤ n.added → AreLastMoved (IsNeededBy k.rows r.planned.texts) k.facts es s.items
    sent_last all fact must =
        let among : Contains n.moves.items fact = subst (λ fs. Contains fs fact) (sym same_moves) ((r.planned.must fact).1 must) in
        let added : Contains (take n.added n.moves.items) fact = subst (λ fs. Contains fs fact) (sym (take_all n.added n.moves.items all)) among in
        let pair = subst (λ ps. Contains ps (pair_of_fact fact)) (sym sent_pairs) (contains_map pair_of_fact (take n.added n.moves.items) fact added) in
        let found = map_contains pair_of_item sent (pair_of_fact fact) pair in
        let has : HasItem (items_of puts ++ s.items) fact.kind fact.name = (found.0, found.1, ap (λ (p : Pair). p.kind) found.2, ap (λ (p : Pair). p.name) found.2) in
        elim (has_either (items_of puts) s.items fact.kind fact.name has) [ inl before ↦ inr (one_packed m.counts puts es r.put fact.kind fact.name before) | inr here ↦ inl here ]

    -- by the config that was read it wasn't full before its last blob
    sent_prompt : IsPromptPack es s.items
    sent_prompt =
        let wants = r.read.all.target in
        (wants.0, wants.1, subst (λ b. WasOpen b s.items) sent_aim s.prompt)

    -- and is full, or nothing more waits
    sent_full : IsFullPack es s.items ⊎ AreLastMoved (IsNeededBy k.rows r.planned.texts) k.facts es s.items
    sent_full =
        let wants = r.read.all.target in
        elim s.full [ inl full ↦ inl (wants.0, wants.1, subst (λ b. IsDue (record { items = s.items; target = b })) sent_aim full) | inr all ↦ inr (sent_last all) ]

  -- a pack may be put
  pub pack_asked : (sealed : Sealed) → HaveCome es n.moves.items n.added → SendsPack (items_of puts) m.listed.items sealed n → HasCome IsWanted es → MayAsk prune_rule who (KnowsStage k (Stage.Moving n None)) es (Ask.Put token Kind.Pack sealed.name sealed.bytes)
  pack_asked sealed got s come =
      let p : Put = put_of sealed s.items s.listed in
      let is : IsPut p = is_put (Some sealed) s.items sealed s.listed s.lists in
      let listings : List PackFacts = map (λ (q : Put). q.listed) (puts ++ []) in
      let more : map (λ (q : Put). q.listed) (puts ++ p ∷ []) ≡ listings ++ s.listed ∷ [] =
      map-append (λ (q : Put). q.listed) puts (p ∷ []) ∙ ap (λ (ps : List Put). map (λ (q : Put). q.listed) ps ++ s.listed ∷ []) (sym (append-nil puts)) in
      let put : ArePut n.counts puts (p ∷ []) es = pack_sent m.counts n.counts puts p es r.put is (λ before. s.moving.counted) in
      record {
        work = tt;
        may = (w, sym s.lists.holds.named, s.lists.holds.small);
        allowed = (
          inl come,
          record {
            known = surveyed;
            walked = r.planned.walked;
            items = s.items;
            pack = s.lists.holds.holds;
            moved = sent_moves sealed s;
            once = once_behind (items_of puts) s.items (sent_once sealed s);
            unput = sent_first sealed s;
            next = sent_next sealed s;
            prompt = sent_prompt sealed s;
            full = sent_full sealed s;
          },
        );
        knows = record {
          puts = puts;
          put = p;
          sealed = [];
          repacking = record {
            read = r.read;
            none = r.none;
            kept = r.kept;
            planned = subst (λ fs. ArePlanned k r.kept fs es) (sym same_moves) r.planned;
            put = put;
            unindexed = r.unindexed;
            unstored = r.unstored;
            listed = s.behind ∙ ap (λ ls. ls ++ s.listed ∷ []) r.listed ∙ append_assoc r.kept listings (s.listed ∷ []) ∙ ap (λ ls. r.kept ++ ls) (sym more);
            aim = ap (λ (t : Target). t.bytes) target ∙ r.aim;
          };
          pack_is = refl;
          moving = subst (λ is. IsMoving n is []) (sym (items_push puts p)) s.moving;
          received = got;
        };
      }

  -- what comes next, unless all is moved
  pub goes_on : HaveCome es n.moves.items n.added → (moved : Moved) (step : Step) → moved ≢ Moved.Done → MovesOn (items_of puts) m.listed.items moved n → MovesTo token moved step → IsNextStep k who (Stage.Moving n None) step es
  goes_on got (Moved.Ask fact) step other on to = subst (λ s. IsNextStep k who (Stage.Moving n None) s es) (sym to) (move_asked fact got on.0 on.1 on.2 on.3)
  goes_on got (Moved.Put sealed) step other on to = subst (λ s. IsNextStep k who (Stage.Moving n None) s es) (sym (to on.items on.lists.holds)) (pack_asked sealed got on)
  goes_on got Moved.Done step other on to = absurd (other refl)
  goes_on got Moved.Nothing step other on to = absurd on

  -- all is moved
  pub all_moved : MovesOn (items_of puts) m.listed.items Moved.Done n → HasMoved k n es
  all_moved on = record {
    puts = puts;
    repacking = repacks_as k m n puts [] es moves target on.3 (counted_alone n.counts puts on.0.counted) r;
    moving = on.0;
    written = on.1;
    all = on.2;
  }

-- ---- at the begin

pub begins_moving : (k : Known) (m : Moving) (kept : List PackFacts) (moves : List Fact) (es : Trace) → HasPlanned k kept moves es → IsMoving m [] [] → m.listed.items ≡ kept → m.moves.items ≡ moves → m.packer.target.bytes ≡ k.target → IsRepacking k m [] [] es
begins_moving k m kept moves es h is listed same aim = record {
  read = h.read;
  none = h.untouched.none_deleted;
  kept = kept;
  planned = subst (λ fs. ArePlanned k kept fs es) (sym same) h.planned;
  put = none_put m.counts es (h.untouched.none_put Kind.Pack) is.counted;
  unindexed = h.untouched.none_put Kind.Index;
  unstored = h.untouched.none_put Kind.Snapshot;
  listed = listed ∙ sym (append-nil kept);
  aim = aim;
}

-- none was added yet
pub none_received : (m : Moving) (es : Trace) → AreFewParts es 0 → m.added ≡ 0 → HaveCome es m.moves.items m.added
none_received m es parts none = record {
  received = λ fact among. absurd (none_contained fact (subst (λ (i : ℕ). Contains (take i m.moves.items) fact) none among));
  bad = [];
  tried = record {
    of = λ copy among. absurd (none_contained copy among);
    bad = λ copy among. absurd (none_contained copy among);
    apart = λ i j d before within. absurd (omega (arith, within));
  };
  parts = (let none_yet : List Fact = [] in let zero : m.added + length none_yet ≡ 0 = omega (arith, none) in subst (AreFewParts es) (sym zero) parts);
}

-- ---- a blob came

-- a copy of this fact's blob was asked for, and is wanted
pub record IsAwaited (k : Known) (m : Moving) (fact : Fact) (place : Option Place) (ask : Ask) (es : Trace) : Type 0 where
  pub puts : List Put
  pub sealed : List Item
  pub repacking : IsRepacking k m puts [] es
  pub awaits : AwaitsBlob m fact (items_of puts) sealed
  pub asks : ask ≡ range_of (copy_at fact place)
  pub read : ReadFact es (copy_at fact place)
  pub wanted : IsCopyWanted es (copy_at fact place)
  pub received : AwaitsCopy es m.moves.items m.asked (copy_at fact place)

pub blob_known : (k : Known) (m : Moving) (fact : Fact) (place : Option Place) (ask : Ask) (es : Trace) → Some fact ≡ slice_get m.moves.items m.asked → KnowsMove k m place ask es → IsAwaited k m fact place ask es
blob_known k m fact place ask es at h =
    let same : h.fact ≡ fact = sym (same_Some fact h.fact (at ∙ h.awaits.asked)) in
    let wanted = subst (λ f. IsCopyWanted es (copy_at f place)) same h.wanted in
    record {
      puts = h.puts;
      sealed = h.sealed;
      repacking = h.repacking;
      awaits = subst (λ f. AwaitsBlob m f (items_of h.puts) h.sealed) same h.awaits;
      asks = h.asks ∙ ap (λ f. range_of (copy_at f place)) same;
      read = wanted_read es (copy_at fact place) (inr wanted);
      wanted = wanted;
      received = subst (λ f. AwaitsCopy es m.moves.items m.asked (copy_at f place)) same h.received;
    }

read_length : (es : Trace) (fact : Fact) → ReadFact es fact → IsBlobLength fact.place.length
read_length es fact read = (read_within es fact read).blob

pub blob_length : (es : Trace) (fact : Fact) (bytes : List ℕ) → ReadFact es fact → length bytes ≡ fact.place.length → IsBlobLength (length bytes)
blob_length es fact bytes read long = subst IsBlobLength (sym long) (read_length es fact read)

-- the moving isn't done where a blob was awaited
pub not_done : (m n : Moving) (fact : Fact) (sent sealed : List Item) (old : List PackFacts) (moved : Moved) → AwaitsBlob m fact sent sealed → n.moves ≡ m.moves → MovesOn sent old moved n → moved ≢ Moved.Done
not_done m n fact sent sealed old moved a moves on is =
    let done : MovesOn sent old Moved.Done n = subst (λ x. MovesOn sent old x n) is on in
    none_awaited m n fact sent sealed a moves done.0 done.1 done.2

-- ---- over an exchange

-- a part of a pack came
pub repacks_range : (k : Known) (m : Moving) (puts : List Put) (e : Exchange) (es : Trace) (pack : Name) (offset len : ℕ) → e.ask ≡ Ask.Range pack offset len → IsRepacking k m puts [] es → IsRepacking k m puts [] (e ∷ es)
repacks_range k m puts e es pack offset len is h =
    let aside : IsAside e.ask = subst IsAside (sym is) tt in
    let other : (j : Kind) → object_put j e.ask ≡ [] = λ j. ap (object_put j) is in
    let none : DeletesNone e.ask = subst DeletesNone (sym is) (λ j. refl) in
    record {
      read = read_same e es aside k h.read;
      none = none_deleted_on e es none h.none;
      kept = h.kept;
      planned = planned_later k h.kept m.moves.items e es aside h.planned;
      put = packs_stay m.counts puts [] e es (other Kind.Pack) h.put;
      unindexed = objects_put_other Kind.Index e es (other Kind.Index) ∙ h.unindexed;
      unstored = objects_put_other Kind.Snapshot e es (other Kind.Snapshot) ∙ h.unstored;
      listed = h.listed;
      aim = h.aim;
    }

-- the put of a pack is done
pub repacks_put : (k : Known) (m : Moving) (puts : List Put) (p : Put) (token : Token) (e : Exchange) (es : Trace) → e.ask ≡ Ask.Put token Kind.Pack p.pack.name p.pack.bytes → e.say ≡ Say.Done → IsRepacking k m puts (p ∷ []) es
    → IsRepacking k m (puts ++ p ∷ []) [] (e ∷ es)
repacks_put k m puts p token e es is said h =
    let aside : IsAside e.ask = subst IsAside (sym is) tt in
    let other : (j : Kind) → object_put j (Ask.Put token Kind.Pack p.pack.name p.pack.bytes) ≡ [] → object_put j e.ask ≡ [] = λ j none. ap (object_put j) is ∙ none in
    let none : DeletesNone e.ask = subst DeletesNone (sym is) (λ j. refl) in
    record {
      read = read_same e es aside k h.read;
      none = none_deleted_on e es none h.none;
      kept = h.kept;
      planned = planned_later k h.kept m.moves.items e es aside h.planned;
      put = pack_done m.counts puts p token e es is said h.put;
      unindexed = objects_put_other Kind.Index e es (other Kind.Index refl) ∙ h.unindexed;
      unstored = objects_put_other Kind.Snapshot e es (other Kind.Snapshot refl) ∙ h.unstored;
      listed = h.listed ∙ ap (λ ps. h.kept ++ map (λ (q : Put). q.listed) ps) (sym (append-nil (puts ++ p ∷ [])));
      aim = h.aim;
    }

-- ---- a copy came bad

-- the store is surveyed while blobs are moved
abbrev pub surveyed_by : (k : Known) (m : Moving) (puts next : List Put) (es : Trace) → IsRepacking k m puts next es → IsSurveyed es
surveyed_by k m puts next es r = record {
  none = r.none;
  rows = k.rows;
  snapshots = r.read.all.snapshots;
  indexes = r.read.all.indexes;
  packs = packs_whole k es r.read;
  there = r.read.there;
  texts = r.planned.texts;
  trees = r.planned.trees;
  facts = k.facts;
  gives = r.read.all.gives;
}

module _ (k : Known) (m : Moving) (fact : Fact) (place : Option Place) (e : Exchange) (es : Trace) (x : List ℕ) (h : IsAwaited k m fact place e.ask es) (said : e.say ≡ Say.Bytes x) (bad : IsBadBlob (copy_at fact place) x) (who : Asker)
    (token : Token) (w : IsWorking (prune_task who) token (e ∷ es)) where
  copy : Fact
  copy = copy_at fact place

  later : IsRepacking k m h.puts [] (e ∷ es)
  later = repacks_range k m h.puts e es (copy_at fact place).place.pack (copy_at fact place).place.offset (copy_at fact place).place.length h.asks h.repacking

  -- the next copy may be asked for
  next_asked : (next : Place) → IsNextPlace k.facts fact.kind fact.name (copy_at fact place).place next → MayAsk prune_rule who (KnowsStage k (Stage.Moving m (Some next))) (e ∷ es) (range_of (copy_at fact (Some next)))
  next_asked next is =
      let other : Fact = copy_at fact (Some next) in
      let follows : FollowsBadCopy (e ∷ es) other = (
        copy_at fact place,
        h.wanted,
        (h.asks, x, said, bad),
        record { known = surveyed_by k m h.puts [] (e ∷ es) later; kind = refl; name = refl; next = is },
      ) in
      let first = first_of_pair (facts_in h.repacking.kept) m.moves.items m.asked fact h.repacking.planned.once h.awaits.asked in
      record {
        work = tt;
        may = ((token, w), (other, wanted_read (e ∷ es) other (inr (inr follows)), refl, refl, refl));
        allowed = (inr (other, follows, refl), (other, inr (inr follows), refl));
        knows = record {
          puts = h.puts;
          sealed = h.sealed;
          fact = fact;
          repacking = later;
          awaits = h.awaits;
          asks = refl;
          wanted = inr follows;
          received = awaits_next e es m.moves.items m.asked (copy_at fact place) next x h.read h.asks said bad first is.behind h.received;
        };
      }

  -- it ends where there is none
  none_left : IsLastPlace k.facts fact.kind fact.name (copy_at fact place).place → PruneConcludes (e ∷ es) (Outcome.Ended (End.BadObject (blob_thing fact.kind) fact.name))
  none_left last =
      part_ends (e ∷ es) (blob_thing fact.kind) fact.name
      (copy_at fact place, inr (h.wanted, record { known = surveyed_by k m h.puts [] es h.repacking; last = last }), (h.asks, x, said, bad), refl, refl)

  pub looks_behind : e.emitted ≡ [] → (step : Step) (next : Option Place) → LooksBehind k.facts (copy_at fact place) step next → MayStep prune_rule who (KnowsStage k (Stage.Moving m next)) es e step
  looks_behind silent step (Some next) is = subst (λ s. MayStep prune_rule who (KnowsStage k (Stage.Moving m (Some next))) es e s) (sym is.1) (inl silent, next_asked next is.0)
  looks_behind silent step None is = subst (λ s. MayStep prune_rule who (KnowsStage k (Stage.Moving m None)) es e s) (sym is.1) (inl silent, inr (none_left is.0))
