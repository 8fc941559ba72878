-- Chunks that wait, and the packs to which they are added.
use Rattle.std.proofs.Common.{arith, ◌≡◌, ◌≤◌, ◌<◌, ◌+◌, ◌-◌, ◌++◌, ◌∷◌, [], ℕ, List, length, map, take, drop, get_or, refl, sym, ap, subst, inl, inr, ◌∙◌, append_assoc, append-nil, length-append, length-drop, length-take-le, take-append-drop}
use Rattle.std.proofs.lemmas.List.{drop_more, length-map, map-append, take-append-le}
use Rattle.std.proofs.lemmas.List.Concat.{flat_map-append, flat_map-cons}
use Rattle.std.proofs.Math.Seq.{take-append_seam, get_or-append_seam}
use Rattle.std.proofs.Math.ListN.{drop_of_length-le}
use Rattle.repo_name.specs.Limits.{blob_limit, blobs_limit}
use Rattle.repo_index.specs.declared.facts.Fact.{Fact}
use Rattle.repo_name.specs.Naming as naming
use Rattle.repo_name.specs.declared.kinds.BlobKind.TheVariants.{Content}
use Rattle.repo_name.specs.declared.names.Name.{Name}
use Rattle.repo_pack.specs.PackLayout.{Item, item_of, blobs_of}
use Rattle.repo_pack.specs.PackWriting.{IsDue, IsOpen}
use Rattle.repo_pack.specs.PackWriting as writing
use Rattle.repo_sha.specs.Pieces.{pieces}
use Rattle.repo_writing.specs.Filling.{IsJustDue}
use Rattle.repo_backup.specs.Packings.{AllGain, PacksBlob, GrowsBy, all_items}
use Rattle.repo_backup.specs.Standings.{chunk_items}
use Rattle.repo_backup.specs.Waiting.{name_in, TakesMore, TakesAllButOne, GainsOne, AllGainMore, PacksBlobs}
use Rattle.repo_backup.specs.declared.packing.Packing.{Packing}
use Rattle.repo_backup.specs.inner.Ends.{AreEnded}
use Rattle.repo_writing.proofs.Filling.{open_undue}
use Rattle.repo_backup.proofs.Ending.{pieces_count}
use Rattle.repo_backup.proofs.PackingLemmas.{all_gain}

-- ---- how much a pack takes

bytes_both : (items more : List Item) → length (blobs_of (items ++ more)) ≡ length (blobs_of items) + length (blobs_of more)
bytes_both items more = ap length (flat_map-append (λ (i : Item). i.bytes) items more) ∙ length-append (blobs_of items) (blobs_of more)

-- with fewer chunks too
pub takes_fewer : (writer : writing.Packing) (front more : List (List ℕ)) → TakesMore writer (front ++ more) → TakesMore writer front
takes_fewer writer front more h =
    let items = writer.items in
    let all : items ++ chunk_items (front ++ more) ≡ (items ++ chunk_items front) ++ chunk_items more = ap (λ l. items ++ l) (map-append (λ chunk. item_of Content chunk) front more) ∙ sym (append_assoc items (chunk_items front) (chunk_items more)) in
    let bytes = ap (λ l. length (blobs_of l)) all ∙ bytes_both (items ++ chunk_items front) (chunk_items more) in
    let count = ap length all ∙ length-append (items ++ chunk_items front) (chunk_items more) in
    let short = h.0 in
    let few = h.1 in
    (omega (arith, short, bytes), omega (arith, few, count))

pub takes_open : (writer : writing.Packing) (chunks : List (List ℕ)) → TakesMore writer chunks → IsOpen writer
takes_open writer chunks h = subst (λ (l : List Item). IsOpen (record { items = l; target = writer.target })) (append-nil writer.items) (takes_fewer writer [] chunks h)

-- ---- chunks in one buffer

bytes_ended : (bytes ns : List ℕ) → AreEnded bytes ns → length (blobs_of (chunk_items (pieces bytes ns))) ≡ length bytes
bytes_ended bytes [] h = ap length (sym h)
bytes_ended bytes (n ∷ ns) h =
    let long : n ≤ length bytes = h.2 in
    let first = length-take-le n bytes long in
    let more = bytes_ended (drop n bytes) ns h.3 in
    let behind = pieces (drop n bytes) ns in
    let all = ap length (flat_map-cons (λ (i : Item). i.bytes) (item_of Content (take n bytes)) (chunk_items behind)) ∙ length-append (take n bytes) (blobs_of (chunk_items behind)) in
    omega (arith, all, first, more, length-drop n bytes, long)

module _ (writer : writing.Packing) (bytes ns : List ℕ) (h : AreEnded bytes ns) where
  sizes : (length (blobs_of (writer.items ++ chunk_items (pieces bytes ns))) ≡ length (blobs_of writer.items) + length bytes) × (length (writer.items ++ chunk_items (pieces bytes ns)) ≡ length writer.items + length ns)
  sizes = (
    omega (arith, bytes_both writer.items (chunk_items (pieces bytes ns)), bytes_ended bytes ns h),
    omega (arith, length-append writer.items (chunk_items (pieces bytes ns)), length-map (pieces bytes ns) (λ chunk. item_of Content chunk), pieces_count bytes ns),
  )

  -- a pack takes more with them
  pub fits_now : length bytes < writer.target - length (blobs_of writer.items) → length ns < blobs_limit - length writer.items → TakesMore writer (pieces bytes ns)
  fits_now short few = (omega (arith, short, sizes.0), omega (arith, few, sizes.1))

  pub fits_then : TakesMore writer (pieces bytes ns) → (length bytes < writer.target - length (blobs_of writer.items)) × (length ns < blobs_limit - length writer.items)
  fits_then more =
      let short = more.0 in
      let few = more.1 in
      (omega (arith, short, sizes.0), omega (arith, few, sizes.1))

-- their digests as names are their names
names_of : (digest : List ℕ → List ℕ) (chunks : List (List ℕ)) → ((x : List ℕ) → name_in (digest x) ≡ naming.name x) → map name_in (map digest chunks) ≡ map naming.name chunks
names_of digest [] is = refl
names_of digest (chunk ∷ chunks) is = λ i. is chunk i ∷ names_of digest chunks is i

pub names_from : (digest : List ℕ → List ℕ) (digests chunks : List (List ℕ)) → ((x : List ℕ) → name_in (digest x) ≡ naming.name x) → digests ≡ map digest chunks → map name_in digests ≡ map naming.name chunks
names_from digest digests chunks is made = ap (map name_in) made ∙ names_of digest chunks is

-- ---- a pack that just becomes due

-- no more than these and some first chunks
abbrev pub IsUpTo : List Item → List Item → Type 0
IsUpTo all items = (length (blobs_of items) ≤ length (blobs_of all)) × (length items ≤ length all)

pub front_of : {A : Type 0} (done front xs ys : List A) → done ++ xs ≡ front ++ ys → length done ≤ length front → (more : List A) × (front ≡ done ++ more)
front_of done front xs ys same short =
    let first : take (length done) front ≡ done = sym (take-append-le (length done) front ys short) ∙ ap (take (length done)) (sym same) ∙ take-append_seam done xs in
    (drop (length done) front, sym (take-append-drop (length done) front) ∙ ap (λ l. l ++ drop (length done) front) first)

-- before the last chunk it is open
pub still_open : (old : writing.Packing) (ended done : List (List ℕ)) (chunk : List ℕ) (more : List (List ℕ)) (items : List Item) → TakesAllButOne old ended → ended ≡ done ++ chunk ∷ more → IsUpTo (old.items ++ chunk_items done) items → IsOpen (record { items = items; target = old.target })
still_open old ended done chunk more items room is upto =
    let front = room.0 in
    let few = room.3 in
    let size : length done ≤ length front = omega (arith, few, ap length is, ap length room.2, length-append front room.1, length-append done (chunk ∷ more)) in
    let k = front_of done front (chunk ∷ more) room.1 (sym is ∙ room.2) size in
    let h = takes_fewer old done k.0 (subst (λ l. TakesMore old l) k.1 room.4) in
    let short = h.0 in
    let many = h.1 in
    let bytes = upto.0 in
    let count = upto.1 in
    (omega (arith, short, bytes), omega (arith, many, count))

-- a blob more, at most
pub upto_one : (all old new : List Item) (item : Item) → IsUpTo all old → GainsOne item old new → IsUpTo (all ++ item ∷ []) new
upto_one all old new item h (inl same) =
    let bytes = h.0 in
    let count = h.1 in
    (omega (arith, bytes, ap (λ l. length (blobs_of l)) same, bytes_both all (item ∷ [])), omega (arith, count, ap length same, length-append all (item ∷ [])))
upto_one all old new item h (inr more) =
    let bytes = h.0 in
    let count = h.1 in
    (omega (arith, bytes, ap (λ l. length (blobs_of l)) more, bytes_both all (item ∷ []), bytes_both old (item ∷ [])), omega (arith, count, ap length more, length-append all (item ∷ []), length-append old (item ∷ [])))

-- a pack that was open is due with its last blob
pub just_due_one : (target : ℕ) (old new : List Item) (item : Item) → IsOpen (record { items = old; target = target }) → GainsOne item old new → IsDue (record { items = new; target = target }) → IsJustDue target new
just_due_one target old new item room (inl same) due = absurd (shut (subst (λ (l : List Item). IsDue (record { items = l; target = target })) same due))
  where
    shut : IsDue (record { items = old; target = target }) → ⊥
    shut (inl long) = (let short = room.0 in omega (arith, long, short))
    shut (inr many) = (let few = room.1 in omega (arith, many, few))
just_due_one target old new item room (inr more) due = (due, (old, item, more, room))

-- ---- many blobs

pub gain_one_more : (known : List Fact) (old mid new : List Item) (items : List Item) (item : Item) → AllGainMore known old items mid → AllGain known mid new item → AllGainMore known old (items ++ item ∷ []) new
gain_one_more known old mid new [] item h k = (new, subst (λ l. AllGain known l new item) h k, refl)
gain_one_more known old mid new (i ∷ items) item h k = (h.0, h.1, gain_one_more known h.0 mid new items item h.2 k)

-- some, and then others
pub gains_then : (known : List Fact) (old mid new : List Item) (first then : List Item) → AllGainMore known old first mid → AllGainMore known mid then new → AllGainMore known old (first ++ then) new
gains_then known old mid new [] then h k = subst (λ l. AllGainMore known l then new) h k
gains_then known old mid new (item ∷ first) then h k = (h.0, h.1, gains_then known h.0 mid new first then h.2 k)

pub grows_on : (a b c : Packing) → GrowsBy a b → GrowsBy b c → GrowsBy a c
grows_on a b c h k = ((h.0.0 ++ k.0.0, k.0.1 ∙ ap (λ l. l ++ k.0.0) h.0.1 ∙ append_assoc a.packer.writer.items h.0.0 k.0.0), k.1 ∙ h.1)

pub grows_same : (a b c : Packing) → c.packer.writer ≡ b.packer.writer → GrowsBy a b → GrowsBy a c
grows_same a b c same h = ((h.0.0, ap (λ w. w.items) same ∙ h.0.1), ap (λ w. w.target) same ∙ h.1)

pub grows_none : (a : Packing) → GrowsBy a a
grows_none a = (([], sym (append-nil a.packer.writer.items)), refl)

-- some first chunks were added
pub record AddsSome (known : List Fact) (ended : List (List ℕ)) (lengths : List ℕ) (place : ℕ) (rest : List ℕ) (old now : Packing) : Type 0 where
  pub done : List (List ℕ)
  pub count : length done ≡ place
  pub all : ended ≡ done ++ pieces rest (drop place lengths)
  pub left : AreEnded rest (drop place lengths)
  pub upto : IsUpTo (old.packer.writer.items ++ chunk_items done) now.packer.writer.items
  pub packs : PacksBlobs known (chunk_items done) old now
  pub due : IsDue now.packer.writer → IsJustDue old.packer.writer.target now.packer.writer.items
  pub grows : GrowsBy old now
  pub target : now.packer.target ≡ old.packer.target
  pub sealed : now.packer.sealed ≡ old.packer.sealed

-- the length of the next one
pub next_here : (ns : List ℕ) (place n count : ℕ) → count ≡ length ns → place < count → n ≡ get_or ns place n → drop place ns ≡ n ∷ drop (place + 1) ns
next_here ns place n count many within is = drop_more ns place n (omega (arith, many, within)) ∙ ap (λ k. k ∷ drop (place + 1) ns) (sym is)

-- none so far
pub adds_none : (known : List Fact) (ended : List (List ℕ)) (bytes ns : List ℕ) (old : Packing) → pieces bytes ns ≡ ended → AreEnded bytes ns → TakesAllButOne old.packer.writer ended → AddsSome known ended ns 0 bytes old old
adds_none known ended bytes ns old is h room = record {
  done = [];
  count = refl;
  all = sym is;
  left = h;
  upto = (omega (arith, bytes_both old.packer.writer.items []), omega (arith, length-append old.packer.writer.items []));
  packs = λ sent sealed p. (p, refl);
  due = λ due. absurd (open_undue old.packer.writer (takes_open old.packer.writer room.0 room.4) due);
  grows = grows_none old;
  target = refl;
  sealed = refl;
}

module _ (known : List Fact) (ended : List (List ℕ)) (ns : List ℕ) (place : ℕ) (rest : List ℕ) (old now : Packing) (a : AddsSome known ended ns place rest old now) (room : TakesAllButOne old.packer.writer ended) (n : ℕ) (here : drop place ns ≡ n ∷ drop (place + 1) ns) where
  abbrev pub behind : List (List ℕ)
  behind = pieces (drop n rest) (drop (place + 1) ns)

  left_here : AreEnded rest (n ∷ drop (place + 1) ns)
  left_here = subst (AreEnded rest) here a.left

  all_here : ended ≡ a.done ++ take n rest ∷ behind
  all_here = a.all ∙ ap (λ l. a.done ++ pieces rest l) here

  -- the next one lies at the front
  pub next_within : n ≤ length rest
  next_within = left_here.2

  pub next_sized : (chunk : List ℕ) → chunk ≡ take n rest → (1 ≤ length chunk) × (length chunk ≤ blob_limit)
  next_sized chunk is =
      let size : length chunk ≡ n = ap length is ∙ length-take-le n rest next_within in
      let some = left_here.0 in
      let small = left_here.1 in
      (omega (arith, size, some), omega (arith, size, small))

  -- the pack is open
  pub next_room : IsOpen now.packer.writer
  next_room =
      let items = now.packer.writer.items in
      subst (λ (t : ℕ). IsOpen (record { items = items; target = t })) (sym a.grows.1) (still_open old.packer.writer ended a.done (take n rest) behind items room all_here a.upto)

  -- it has a name
  pub next_named : (names : List Name) (d : Name) (chunk : List ℕ) → names ≡ map naming.name ended → chunk ≡ take n rest → get_or names place d ≡ naming.name chunk
  next_named names d chunk named is =
      let all : names ≡ map naming.name a.done ++ naming.name (take n rest) ∷ map naming.name behind = named ∙ ap (map naming.name) all_here ∙ map-append naming.name a.done (take n rest ∷ behind) in
      let at : place ≡ length (map naming.name a.done) = sym (length-map a.done naming.name ∙ a.count) in
      (λ i. get_or (all i) (at i) d) ∙ get_or-append_seam (map naming.name a.done) (naming.name (take n rest)) (map naming.name behind) d ∙ ap naming.name (sym is)

  -- it was added
  pub adds_more : (next : Packing) (chunk after : List ℕ) → chunk ≡ take n rest → after ≡ drop n rest → PacksBlob known (item_of Content chunk) now next → GainsOne (item_of Content chunk) now.packer.writer.items next.packer.writer.items → GrowsBy now next
      → next.packer.target ≡ now.packer.target → next.packer.sealed ≡ now.packer.sealed → AddsSome known ended ns (place + 1) after old next
  adds_more next chunk after is over packs one grows target sealed =
      let item = item_of Content chunk in
      let done = a.done ++ chunk ∷ [] in
      let items : chunk_items done ≡ chunk_items a.done ++ item ∷ [] = map-append (λ b. item_of Content b) a.done (chunk ∷ []) in
      let was = old.packer.writer.items in
      let all : was ++ chunk_items done ≡ (was ++ chunk_items a.done) ++ item ∷ [] = ap (λ l. was ++ l) items ∙ sym (append_assoc was (chunk_items a.done) (item ∷ [])) in
      let open_now : IsOpen (record { items = now.packer.writer.items; target = old.packer.writer.target }) = still_open old.packer.writer ended a.done (take n rest) behind now.packer.writer.items room all_here a.upto in
      let all_grows = grows_on old now next a.grows grows in
      record {
        done = done;
        count = omega (arith, length-append a.done (chunk ∷ []), a.count);
        all = all_here ∙ ap (λ b. a.done ++ b ∷ behind) (sym is) ∙ sym (append_assoc a.done (chunk ∷ []) behind) ∙ ap (λ b. done ++ pieces b (drop (place + 1) ns)) (sym over);
        left = subst (λ b. AreEnded b (drop (place + 1) ns)) (sym over) left_here.3;
        upto = subst (λ l. IsUpTo l next.packer.writer.items) (sym all) (upto_one (was ++ chunk_items a.done) now.packer.writer.items next.packer.writer.items item a.upto one);
        packs = λ sent whole h. (
            let p = a.packs sent whole h in
            let k = packs sent whole p.0 in
            let gain = gain_one_more known (all_items sent whole old) (all_items sent whole now) (all_items sent whole next) (chunk_items a.done) item p.1 (all_gain known sent whole now next item k.1) in
            (k.0, subst (λ l. AllGainMore known (all_items sent whole old) l (all_items sent whole next)) (sym items) gain));
        due = λ due. just_due_one old.packer.writer.target now.packer.writer.items next.packer.writer.items item open_now one (subst (λ (t : ℕ). IsDue (record { items = next.packer.writer.items; target = t })) all_grows.1 due);
        grows = all_grows;
        target = target ∙ a.target;
        sealed = sealed ∙ a.sealed;
      }

-- all were added
pub adds_all : (known : List Fact) (ended : List (List ℕ)) (ns : List ℕ) (place : ℕ) (rest : List ℕ) (old now : Packing) → AddsSome known ended ns place rest old now → length ns ≤ place → PacksBlobs known (chunk_items ended) old now
adds_all known ended ns place rest old now a over =
    let none : drop place ns ≡ [] = drop_of_length-le ns over in
    let whole : ended ≡ a.done = a.all ∙ ap (λ l. a.done ++ pieces rest l) none ∙ append-nil a.done in
    subst (λ l. PacksBlobs known (chunk_items l) old now) (sym whole) a.packs
