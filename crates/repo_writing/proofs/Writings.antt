-- What is known of the packs and indexes that are put, from one exchange to the next.
use Rattle.std.proofs.Common.{arith, ◌≡◌, ◌≢◌, ◌<◌, ◌+◌, ◌-◌, ◌^◌, ◌++◌, ◌∷◌, [], ℕ, min, List, length, map, get_or, Option, refl, sym, ap, subst, ◌∙◌, Contains, append_assoc, length-append}
use Rattle.std.specs.List.{All, flat_map, sum_by}
use Rattle.std.proofs.lemmas.List.{append-nil, map_push}
use Rattle.std.proofs.lemmas.List.Concat.{flat_map-append}
use Rattle.std.proofs.lemmas.List.Sums.{sum_by-append}
use Rattle.std.proofs.lemmas.List.Elements.{All-nil, All-cons, Contains-append_right}
use Rattle.std.proofs.lemmas.Option.{slice_get-get_or, get_or_from_slice_get}
use Rattle.repo_name.specs.declared.kinds.BlobKind.{BlobKind}
use Rattle.repo_name.specs.declared.kinds.Kind.{Kind}
use Rattle.repo_name.specs.declared.names.Name.{Name}
use Rattle.repo_name.specs.declared.tokens.Token.{Token}
use Rattle.repo_wire.specs.declared.messages.Ask.{Ask}
use Rattle.repo_wire.specs.declared.messages.Say.{Say}
use Rattle.repo_pack.specs.PackLayout.{Item, IsPack, IsTruePack, IsWithin}
use Rattle.repo_pack.specs.declared.writers.Sealed.{Sealed}
use Rattle.repo_pack.proofs.Packs.{packs_one}
use Rattle.repo_index.specs.Exactness.{fact_at, AreFactsAt}
use Rattle.repo_index.specs.IndexText.{IsIndexText}
use Rattle.repo_index.specs.IndexWriting.{AreLawful, AreFew}
use Rattle.repo_index.specs.declared.facts.Fact.{Fact}
use Rattle.repo_index.specs.declared.facts.PackFacts.{PackFacts}
use Rattle.repo_index.proofs.ExactLemmas.{fact_there}
use Rattle.repo_session.specs.Traces.{Each, Exchange, Trace, Object, object_put, objects_put}
use Rattle.repo_session.proofs.Receiving.{each_both, each_more}
use Rattle.repo_writing.specs.Blobs.{HasItem}
use Rattle.repo_writing.specs.Putting.{PutDone, AreDone, IsPacked, IsIndexed, IsListedPack, Packed, ArePutBlobs, IsCount, AreCounted}
use Rattle.repo_writing.specs.Sealing.{IsSealedOf, IsListedAs}
use Rattle.repo_writing.specs.Writing.{Put, IsPut, items_of, bytes_of, AreCounts, ArePut, Listing, packs_of, IsDone, AreListed, FewWait}
use Rattle.repo_writing.specs.declared.counts.Counts.{Counts}
use Rattle.repo_writing.proofs.Listings.{placed_sum}
use Rattle.repo_name.proofs.Containing.{none_contained, first_contained, later_contained, contains_map, map_contains, flat_contains, contains_flat, stands_at}
use Rattle.repo_writing.proofs.PutLemmas.{each_contained, objects_put_other, objects_put_more, put_done_later, put_done_now}

-- how it is listed
abbrev pub listing_of : Put → PackFacts
listing_of p = p.listed

-- ---- counts

-- a count with more added that stays at the greatest number
count_more : (count n more count' : ℕ) → IsCount count n → count' ≡ min (count + more) (2 ^ 64 - 1) → IsCount count' (n + more)
count_more count n more count' h q = omega (arith, h, q)

-- the blobs of a sealed pack are counted
pub counts_more : (old new : Counts) (before items : List Item) (sealed : Sealed) → IsSealedOf sealed items → new.blobs ≡ min (old.blobs + length sealed.blobs.items) (2 ^ 64 - 1)
    → new.bytes ≡ min (old.bytes + sum_by (λ b. b.place.length) sealed.blobs.items) (2 ^ 64 - 1) → AreCounts old before → AreCounts new (before ++ items)
counts_more old new before items sealed h p q are =
    let n : length sealed.blobs.items ≡ length items = h.placed.count in
    let m : sum_by (λ b. b.place.length) sealed.blobs.items ≡ bytes_of items = placed_sum sealed.name items sealed.blobs.items h.placed in
    let counts : length (before ++ items) ≡ length before + length items = length-append before items in
    let sums : bytes_of (before ++ items) ≡ bytes_of before + bytes_of items = sum_by-append (λ (item : Item). length item.bytes) before items in
    record {
      blobs = subst (IsCount new.blobs) (sym counts) (count_more old.blobs (length before) (length items) new.blobs are.blobs (p ∙ ap (λ k. min (old.blobs + k) (2 ^ 64 - 1)) n));
      bytes = subst (IsCount new.bytes) (sym sums) (count_more old.bytes (bytes_of before) (bytes_of items) new.bytes are.bytes (q ∙ ap (λ k. min (old.bytes + k) (2 ^ 64 - 1)) m));
    }

-- ---- packs

-- with no pack put next
pub each_alone : (puts : List Put) → Each IsPut (puts ++ []) → Each IsPut puts
each_alone puts h = subst (λ ps. Each IsPut ps) (append-nil puts) h

-- the blobs with one pack more
pub items_push : (puts : List Put) (p : Put) → items_of (puts ++ p ∷ []) ≡ items_of puts ++ p.items
items_push puts p = flat_map-append (λ (q : Put). q.items) puts (p ∷ []) ∙ ap (λ is. items_of puts ++ is) (append-nil p.items)

-- at the begin nothing was put
pub none_put : (counts : Counts) (es : Trace) → objects_put Kind.Pack es ≡ [] → AreCounts counts [] → ArePut counts [] [] es
none_put counts es none counted = record { packs = sym none; done = tt; each = tt; counted = counted }

-- what was put and is done stays so
packs_later : (e : Exchange) (es : Trace) (puts : List Put) → Each (λ (p : Put). PutDone es Kind.Pack p.pack.name p.pack.bytes) puts → Each (λ (p : Put). PutDone (e ∷ es) Kind.Pack p.pack.name p.pack.bytes) puts
packs_later e es puts h =
    each_more (λ (p : Put). PutDone es Kind.Pack p.pack.name p.pack.bytes) (λ (p : Put). PutDone (e ∷ es) Kind.Pack p.pack.name p.pack.bytes) puts (λ p d. put_done_later e es Kind.Pack p.pack.name p.pack.bytes d) h

-- an exchange that puts no pack
pub packs_stay : (counts : Counts) (puts next : List Put) (e : Exchange) (es : Trace) → object_put Kind.Pack e.ask ≡ [] → ArePut counts puts next es → ArePut counts puts next (e ∷ es)
packs_stay counts puts next e es other h = record {
  packs = h.packs ∙ sym (objects_put_other Kind.Pack e es other);
  done = packs_later e es puts h.done;
  each = h.each;
  counted = h.counted;
}

-- a pack is put next, and its blobs count
pub pack_sent : (counts counts' : Counts) (puts : List Put) (p : Put) (es : Trace) → ArePut counts puts [] es → IsPut p
    → (AreCounts counts (items_of puts) → AreCounts counts' (items_of puts ++ p.items)) → ArePut counts' puts (p ∷ []) es
pack_sent counts counts' puts p es h is more = record {
  packs = h.packs;
  done = h.done;
  each = each_both IsPut puts (p ∷ []) (each_alone puts h.each) (is, tt);
  counted = subst (AreCounts counts') (sym (items_push puts p)) (more (subst (λ ps. AreCounts counts (items_of ps)) (append-nil puts) h.counted));
}

-- its put is done
pub pack_done : (counts : Counts) (puts : List Put) (p : Put) (token : Token) (e : Exchange) (es : Trace) → e.ask ≡ Ask.Put token Kind.Pack p.pack.name p.pack.bytes → e.say ≡ Say.Done
    → ArePut counts puts (p ∷ []) es → ArePut counts (puts ++ p ∷ []) [] (e ∷ es)
pack_done counts puts p token e es q s h =
    let all : (puts ++ p ∷ []) ++ [] ≡ puts ++ p ∷ [] = append-nil (puts ++ p ∷ []) in
    let now : Each (λ (p : Put). PutDone (e ∷ es) Kind.Pack p.pack.name p.pack.bytes) (p ∷ []) = (put_done_now e es token Kind.Pack p.pack.name p.pack.bytes q s, tt) in
    record {
      packs = map_push (λ (p : Put). p.pack) puts p ∙ ap (λ os. os ++ p.pack ∷ []) h.packs ∙ sym (objects_put_more Kind.Pack e es token p.pack.name p.pack.bytes q);
      done = each_both (λ (p : Put). PutDone (e ∷ es) Kind.Pack p.pack.name p.pack.bytes) puts (p ∷ []) (packs_later e es puts h.done) now;
      each = subst (λ ps. Each IsPut ps) (sym all) h.each;
      counted = subst (λ ps. AreCounts counts (items_of ps)) (sym all) h.counted;
    }

-- a pack with its blobs
abbrev packed_of : Put → Packed
packed_of p = record { pack = p.pack; items = p.items }

objects_of : (puts : List Put) → map (λ (p : Packed). p.pack) (map packed_of puts) ≡ map (λ (p : Put). p.pack) puts
objects_of [] = refl
objects_of (p ∷ puts) = ap (λ os. p.pack ∷ os) (objects_of puts)

blobs_in : (puts : List Put) → flat_map (λ (p : Packed). p.items) (map packed_of puts) ≡ items_of puts
blobs_in [] = refl
blobs_in (p ∷ puts) = ap (λ is. p.items ++ is) (blobs_in puts)

each_packed : (puts : List Put) → Each IsPut puts → Each (λ (p : Packed). IsTruePack p.pack.bytes p.items) (map packed_of puts)
each_packed [] h = tt
each_packed (p ∷ puts) h = (h.0.holds, each_packed puts h.1)

module _ (counts : Counts) (puts : List Put) (es : Trace) (h : ArePut counts puts [] es) where
  -- a pack that was put is one of these
  pub packed_one : (k : BlobKind) (n : Name) → IsPacked es k n → HasItem (items_of puts) k n
  packed_one k n packed =
      let found = map_contains (λ (p : Put). p.pack) puts packed.pack (subst (λ os. Contains os packed.pack) (sym h.packs) packed.put) in
      let p : Put = found.0 in
      let is : IsPut p = each_contained IsPut puts p (each_alone puts h.each) found.1 in
      let bytes_same : p.pack.bytes ≡ packed.pack.bytes = ap (λ (o : Object). o.bytes) found.2 in
      let same : packed.items ≡ p.items = packs_one packed.pack.bytes packed.items p.items packed.holds.pack (subst (λ x. IsPack x p.items) bytes_same is.holds.pack) in
      let among : HasItem p.items k n = subst (λ is. HasItem is k n) same packed.among in
      (among.0, contains_flat (λ (q : Put). q.items) puts p among.0 found.1 among.1, among.2, among.3)

  -- and each blob of these is in a pack that was put
  pub one_packed : (k : BlobKind) (n : Name) → HasItem (items_of puts) k n → IsPacked es k n
  one_packed k n has =
      let found = flat_contains (λ (p : Put). p.items) puts has.0 has.1 in
      let p : Put = found.0 in
      let is : IsPut p = each_contained IsPut puts p (each_alone puts h.each) found.1 in
      record { pack = p.pack; items = p.items; put = subst (λ os. Contains os p.pack) h.packs (contains_map (λ (q : Put). q.pack) puts p found.1); holds = is.holds; among = (has.0, found.2, has.2, has.3) }

  -- a pack that was put may be listed with its blobs
  pub put_listed : (listed : PackFacts) → Contains (map listing_of puts) listed → IsListedPack es listed
  put_listed listed among =
      let found = map_contains listing_of puts listed among in
      let p : Put = found.0 in
      let is : IsPut p = each_contained IsPut puts p (each_alone puts h.each) found.1 in
      let done = each_contained (λ (p : Put). PutDone es Kind.Pack p.pack.name p.pack.bytes) puts p h.done found.1 in
      subst (IsListedPack es) found.2 (record {
        bytes = p.pack.bytes;
        items = p.items;
        put = subst (λ n. PutDone es Kind.Pack n p.pack.bytes) (sym is.same) done;
        holds = is.holds;
        exact = subst (λ n. AreFactsAt n p.items p.listed.facts) (sym is.same) is.exact;
      })

  -- these are the blobs that were put
  pub put_blobs : ArePutBlobs es (items_of puts)
  put_blobs = record { packs = map packed_of puts; are = objects_of puts ∙ h.packs; each = each_packed puts (each_alone puts h.each); blobs_are = sym (blobs_in puts) }

  -- what was put is counted
  pub counted : AreCounted es counts.blobs counts.bytes
  counted =
      let same : items_of (puts ++ []) ≡ flat_map (λ (p : Packed). p.items) (map packed_of puts) = ap items_of (append-nil puts) ∙ sym (blobs_in puts) in
      record {
        packs = map packed_of puts;
        are = objects_of puts ∙ h.packs;
        each = each_packed puts (each_alone puts h.each);
        blobs_are = subst (λ is. IsCount counts.blobs (length is)) same h.counted.blobs;
        bytes_are = subst (λ is. IsCount counts.bytes (bytes_of is)) same h.counted.bytes;
      }

-- ---- indexes

done_later : (e : Exchange) (es : Trace) (l : Listing) → IsDone es l → IsDone (e ∷ es) l
done_later e es l h = record { reads = h.reads; put = put_done_later e es Kind.Index l.index.name l.index.bytes h.put }

-- at the begin no index was put, and all that is to be listed waits
pub none_listed : (listed : List PackFacts) (es : Trace) → objects_put Kind.Index es ≡ [] → AreListed listed listed es
none_listed listed es none = record { listings = []; indexes = sym none; read_back = tt; lists = refl }

-- an exchange that puts no index
pub lists_stay : (listed waiting : List PackFacts) (e : Exchange) (es : Trace) → object_put Kind.Index e.ask ≡ [] → AreListed listed waiting es → AreListed listed waiting (e ∷ es)
lists_stay listed waiting e es other h = record {
  listings = h.listings;
  indexes = h.indexes ∙ sym (objects_put_other Kind.Index e es other);
  read_back = each_more (IsDone es) (IsDone (e ∷ es)) h.listings (λ l d. done_later e es l d) h.read_back;
  lists = h.lists;
}

-- one pack more waits
pub waits_more : (listed waiting : List PackFacts) (x : PackFacts) (es : Trace) → AreListed listed waiting es → AreListed (listed ++ x ∷ []) (waiting ++ x ∷ []) es
waits_more listed waiting x es h = record {
  listings = h.listings;
  indexes = h.indexes;
  read_back = h.read_back;
  lists = ap (λ ls. ls ++ x ∷ []) h.lists ∙ append_assoc (packs_of h.listings) waiting (x ∷ []);
}

-- what waits is to be listed
pub waits_among : (listed waiting : List PackFacts) (es : Trace) (x : PackFacts) → AreListed listed waiting es → Contains waiting x → Contains listed x
waits_among listed waiting es x h among = subst (λ ls. Contains ls x) (sym h.lists) (Contains-append_right (packs_of h.listings) waiting x among)

-- its put is done, and nothing waits
pub index_done : (listed waiting : List PackFacts) (token : Token) (n : Name) (x : List ℕ) (e : Exchange) (es : Trace) → IsIndexText x waiting → e.ask ≡ Ask.Put token Kind.Index n x → e.say ≡ Say.Done
    → AreListed listed waiting es → AreListed listed [] (e ∷ es)
index_done listed waiting token n x e es reads q s h =
    let o : Object = record { name = n; bytes = x } in
    let l : Listing = record { index = o; packs = waiting } in
    let before = packs_of h.listings in
    let one : packs_of (l ∷ []) ≡ waiting = append-nil waiting in
    let all : packs_of (h.listings ++ l ∷ []) ++ [] ≡ before ++ waiting =
    append-nil (packs_of (h.listings ++ l ∷ [])) ∙ flat_map-append (λ (l : Listing). l.packs) h.listings (l ∷ []) ∙ ap (λ ps. before ++ ps) one in
    let now : Each (IsDone (e ∷ es)) (l ∷ []) = (record { reads = reads; put = put_done_now e es token Kind.Index n x q s }, tt) in
    record {
      listings = h.listings ++ l ∷ [];
      indexes = map_push (λ (l : Listing). l.index) h.listings l ∙ ap (λ os. os ++ o ∷ []) h.indexes ∙ sym (objects_put_more Kind.Index e es token n x q);
      read_back = each_both (IsDone (e ∷ es)) h.listings (l ∷ []) (each_more (IsDone es) (IsDone (e ∷ es)) h.listings (λ l d. done_later e es l d) h.read_back) now;
      lists = h.lists ∙ sym all;
    }

-- where nothing waits, each fact of a pack that is listed is in an index put and done
pub listed_given : (listed : List PackFacts) (es : Trace) (x : PackFacts) (fact : Fact) → AreListed listed [] es → Contains listed x → Contains x.facts fact → IsIndexed es fact.kind fact.name
listed_given listed es x fact h among has =
    let there : Contains (packs_of h.listings) x = subst (λ ls. Contains ls x) (h.lists ∙ append-nil (packs_of h.listings)) among in
    let found = flat_contains (λ (l : Listing). l.packs) h.listings x there in
    let done : IsDone es found.0 = each_contained (IsDone es) h.listings found.0 h.read_back found.1 in
    record {
      index = found.0.index.name;
      text = found.0.index.bytes;
      fact = fact;
      put = done.put;
      says = record { packs = found.0.packs; text = done.reads; among = contains_flat (λ (q : PackFacts). q.facts) found.0.packs x fact found.2 has };
      kind = refl;
      name = refl;
    }

-- so each blob of the packs put is indexed, where all of these are listed
pub put_indexed : (counts : Counts) (puts : List Put) (listed : List PackFacts) (es : Trace) (k : BlobKind) (n : Name) → ArePut counts puts [] es → AreListed listed [] es
    → ((p : Put) → Contains puts p → Contains listed p.listed) → HasItem (items_of puts) k n → IsIndexed es k n
put_indexed counts puts listed es k n h g all has =
    let found = flat_contains (λ (p : Put). p.items) puts has.0 has.1 in
    let p : Put = found.0 in
    let is : IsPut p = each_contained IsPut puts p (each_alone puts h.each) found.1 in
    let at = stands_at p.items has.0 found.2 in
    let fact : Fact = fact_at p.pack.name p.items at.0 has.0 in
    let there : Contains p.listed.facts fact = fact_there p.pack.name p.items p.listed.facts at.0 has.0 is.exact at.1 in
    let given : IsIndexed es has.0.kind has.0.name = listed_given listed es p.listed fact g (all p found.1) there in
    subst (λ j. IsIndexed es j n) has.2 (subst (λ m. IsIndexed es has.0.kind m) has.3 given)

-- ---- all that was put is done

pub all_done : (counts : Counts) (puts : List Put) (listed waiting : List PackFacts) (es : Trace) → ArePut counts puts [] es → AreListed listed waiting es → objects_put Kind.Snapshot es ≡ [] → AreDone es
all_done counts puts listed waiting es h g none Kind.Pack object among =
    let found = map_contains (λ (p : Put). p.pack) puts object (subst (λ os. Contains os object) (sym h.packs) among) in
    subst (λ (o : Object). PutDone es Kind.Pack o.name o.bytes) found.2 (each_contained (λ (p : Put). PutDone es Kind.Pack p.pack.name p.pack.bytes) puts found.0 h.done found.1)
all_done counts puts listed waiting es h g none Kind.Index object among =
    let found = map_contains (λ (l : Listing). l.index) g.listings object (subst (λ os. Contains os object) (sym g.indexes) among) in
    let done : IsDone es found.0 = each_contained (IsDone es) g.listings found.0 g.read_back found.1 in
    subst (λ (o : Object). PutDone es Kind.Index o.name o.bytes) found.2 done.put
all_done counts puts listed waiting es h g none Kind.Snapshot object among = absurd (none_contained object (subst (λ os. Contains os object) none among))

-- ---- what waits is lawful

pub all_of : {A : Type 0} (P : A → Type 0) (xs : List A) → ((x : A) → Contains xs x → P x) → All P xs
all_of P [] f = All-nil P
all_of P (x ∷ xs) f = All-cons P x xs (f x (first_contained x xs)) (all_of P xs (λ y h. f y (later_contained x xs y h)))

fact_is : (name : Name) (items : List Item) (facts : List Fact) (k : ℕ) (d : Fact) → AreFactsAt name items facts → k < length facts → (get_or facts k d).place.pack ≡ name
fact_is name items facts k d are lt =
    let small : k < length items = omega (arith, are.count, lt) in
    let e : Item = record { kind = d.kind; name = d.name; bytes = [] } in
    let item = get_or items k e in
    let fact : get_or facts k d ≡ fact_at name items k item = get_or_from_slice_get facts k (fact_at name items k item) d (are.each k item (slice_get-get_or items k e small)) in
    ap (λ (f : Fact). f.place.pack) fact

-- a pack is listed with facts of it alone, within range, and with one at least
pub record IsLawfulListing (l : PackFacts) : Type 0 where
  pub within : All (λ (f : Fact). (f.place.pack ≡ l.pack) × IsWithin f.place.offset f.place.length) l.facts
  pub some : l.facts ≢ []

put_lawful : (p : Put) → IsPut p → IsLawfulListing p.listed
put_lawful p is = record {
  within = λ k d lt. (fact_is p.pack.name p.items p.listed.facts k d is.exact lt ∙ sym is.same, is.within k d lt);
  some = λ none.
      let n : length p.listed.facts ≡ 0 = ap length none in
      let m = is.exact.count in
      let some = is.holds.pack.count.0 in
      absurd (omega (arith, n, m, some));
}

-- as each pack that is put is
pub puts_lawful : (counts : Counts) (puts next : List Put) (es : Trace) → ArePut counts puts next es → (l : PackFacts) → Contains (map listing_of (puts ++ next)) l → IsLawfulListing l
puts_lawful counts puts next es h l among =
    let found = map_contains listing_of (puts ++ next) l among in
    subst IsLawfulListing found.2 (put_lawful found.0 (each_contained IsPut (puts ++ next) found.0 h.each found.1))

module _ (listed waiting : List PackFacts) (es : Trace) (g : AreListed listed waiting es) (lawful : (l : PackFacts) → Contains listed l → IsLawfulListing l) where
  pub waits_lawful : AreLawful waiting
  waits_lawful = all_of (λ p. All (λ f. (f.place.pack ≡ p.pack) × IsWithin f.place.offset f.place.length) p.facts) waiting (λ l among. (lawful l (waits_among listed waiting es l g among)).within)

  pub waits_few : FewWait waiting → AreFew waiting
  waits_few few = record { few = few; each = all_of (λ p. p.facts ≢ []) waiting (λ l among. (lawful l (waits_among listed waiting es l g among)).some) }

-- ---- a pack that is sealed is put so

abbrev pub put_of : Sealed → List Item → PackFacts → Put
put_of sealed items listed = record { pack = record { name = sealed.name; bytes = sealed.bytes }; items = items; listed = listed }

pub is_put : (there : Option Sealed) (items : List Item) (sealed : Sealed) (listed : PackFacts) → IsListedAs there items sealed listed → IsPut (put_of sealed items listed)
is_put there items sealed listed h = record { holds = h.holds.holds; named = h.holds.named; same = h.same; exact = h.exact; within = h.within }
