-- The moving of used blobs to new packs.
use Rattle.std.proofs.Common.{arith, refl, zero, suc, Vec, Global, inl, inr, ◌≡◌, ◌≢◌, ◌⊎◌, ◌≤◌, ◌+◌, ◌++◌, ◌∷◌, [], ℕ, List, Option, Some, None, length, map, take, slice_get, sym, ap, subst, ◌∙◌, append_assoc, append-nil}
use Rattle.std.proofs.lemmas.Bool.{cases_lt}
use Rattle.std.proofs.lemmas.List.{length-append, length-map, length-take, map-append}
use Rattle.std.proofs.lemmas.Option.{none-some, same_Some, slice_get_cases, slice_get_within}
use Rattle.repo_name.specs.Limits.{blobs_limit}
use Rattle.repo_name.specs.Naming as naming
use Rattle.repo_pack.specs.PackLayout.{Item, item_of, blobs_of}
use Rattle.repo_pack.specs.PackWriting.{Packing, IsDue, IsOpen, with_item}
use Rattle.repo_pack.specs.declared.writers.Sealed.{Sealed}
use Rattle.repo_index.specs.declared.facts.Fact.{Fact}
use Rattle.repo_index.specs.declared.facts.PackFacts.{PackFacts}
use Rattle.repo_writing.proofs.Filling.{open_before}
use Rattle.repo_writing.specs.Filling.{WasOpen}
use Rattle.repo_writing.specs.Sealing.{IsSealed}
use Rattle.repo_writing.specs.Writing.{AreCounts}
use Rattle.repo_writing.specs.declared.targets.Target.{Target}
use Rattle.repo_prune.specs.Pruning.{Pair, pair_of_item, pair_of_fact}
use Rattle.repo_prune.specs.Moving.{items_so_far, IsMoving, AwaitsBlob, AwaitsStill, AreAdded, BlobWasAdded, IsFull, IsPrompt, MayBeSealed, StaysMoving}
use Rattle.repo_prune.specs.declared.moving.Moving.{Moving}

-- where no pack is sealed, it has no blobs
pub unsealed : (m : Moving) (sent sealed : List Item) → m.packer.sealed ≡ None → IsMoving m sent sealed → IsMoving m sent []
unsealed m sent sealed none h = let empty : sealed ≡ [] = subst (λ (o : Option Sealed). IsSealed o sealed) none h.sealed_is in subst (IsMoving m sent) empty h

-- ---- open and due

-- a pack is open, or due
pub open_or_due : (p : Packing) → IsOpen p ⊎ IsDue p
open_or_due p = elim (cases_lt (length (blobs_of p.items)) p.target) [
  | inl short ↦ elim (cases_lt (length p.items) blobs_limit) [ inl few ↦ inl (short, few) | inr many ↦ inr (inr many) ]
  | inr long ↦ inr (inl long)
]

-- one without blobs is open
pub empty_open : (target : Target) → IsOpen (record { items = []; target = target.bytes })
empty_open target =
    let least = target.bounded.0 in
    let none : length (blobs_of []) ≡ 0 = refl in
    (omega (arith, least, none), omega arith)

-- ---- a pack is sealed

-- a pack that is full stays full, where packs are to be as large
full_as : (m n : Moving) (items : List Item) → n.packer.target ≡ m.packer.target → IsFull m items → IsFull n items
full_as m n items target full = subst (λ (t : Target). IsDue (record { items = items; target = t.bytes })) (sym target) full

prompt_as : (m n : Moving) (items : List Item) → n.packer.target ≡ m.packer.target → IsPrompt m items → IsPrompt n items
prompt_as m n items target prompt = subst (λ (t : Target). WasOpen t.bytes items) (sym target) prompt

-- the one that is being written wasn't full before its last blob
written_prompt : (m : Moving) (sent sealed : List Item) → m.packer.sealed ≡ None → IsMoving m sent sealed → (m.packer.sealed ≢ None) ⊎ (1 ≤ length m.packer.writer.items) → IsPrompt m m.packer.writer.items
written_prompt m sent sealed none h (inl there) = absurd (there none)
written_prompt m sent sealed none h (inr some) = elim h.due [
  | inl room ↦ open_before m.packer.target.bytes m.packer.writer.items (subst (λ t. IsOpen (record { items = m.packer.writer.items; target = t })) h.aim room) some
  | inr just ↦ just.1
]

-- the one that was being written is, and the next one has nothing
pub sealed_moving : (m n : Moving) (sent sealed : List Item) → m.packer.sealed ≡ None → (m.packer.sealed ≢ None) ⊎ (1 ≤ length m.packer.writer.items) → MayBeSealed m → IsMoving m sent sealed → IsSealed n.packer.sealed m.packer.writer.items → n.packer.writer.items ≡ [] → n.packer.writer.target ≡ m.packer.target.bytes
    → n.packer.target ≡ m.packer.target → n.moves ≡ m.moves → n.added ≡ m.added → n.counts ≡ m.counts → IsMoving n sent m.packer.writer.items
sealed_moving m n sent sealed none some may h is empty size target moves added counts =
    let written : List Item = m.packer.writer.items in
    let before : IsMoving m sent [] = unsealed m sent sealed none h in
    let items : items_so_far sent written n ≡ items_so_far sent [] m = ap (λ is. (sent ++ written) ++ is) empty ∙ append-nil (sent ++ written) ∙ ap (λ is. is ++ written) (sym (append-nil sent)) in
    let facts : map pair_of_fact (take m.added m.moves.items) ≡ map pair_of_fact (take n.added n.moves.items) =
    ap (λ i. map pair_of_fact (take i m.moves.items)) (sym added) ∙ ap (λ (v : Vec Fact Global). map pair_of_fact (take n.added v.items)) (sym moves) in
    let long : length n.moves.items ≡ length m.moves.items = ap (λ (v : Vec Fact Global). length v.items) moves in
    let aim : n.packer.writer.target ≡ n.packer.target.bytes = size ∙ ap (λ (t : Target). t.bytes) (sym target) in
    let within = h.within in
    record {
      sealed_is = is;
      moved = ap (map pair_of_item) items ∙ before.moved ∙ facts;
      within = omega (arith, within, added, long);
      counted = subst (λ c. AreCounts c sent) (sym counts) h.counted;
      aim = aim;
      due = inl (subst (λ is. IsOpen (record { items = is; target = n.packer.writer.target })) (sym empty) (subst (λ t. IsOpen (record { items = []; target = t })) (sym size) (empty_open m.packer.target)));
      alone = λ there. empty;
      prompt = λ there. prompt_as m n written target (written_prompt m sent sealed none h some);
      full = λ there. elim may [
        | inl there ↦ absurd (there none)
        | inr (inl due) ↦ inl (full_as m n written target (subst (λ t. IsDue (record { items = written; target = t })) h.aim due))
        | inr (inr all) ↦ inr (omega (arith, all, added, long))
      ];
    }

-- ---- how far it is

-- what was sent is of facts that were added
pub sent_before : (m : Moving) (sent sealed : List Item) → IsMoving m sent sealed → length sent ≤ m.added
sent_before m sent sealed h =
    let all : List Item = items_so_far sent sealed m in
    let facts : List Fact = take m.added m.moves.items in
    let a : length (map pair_of_item all) ≡ length (map pair_of_fact facts) = ap length h.moved in
    let b = length-map all pair_of_item in
    let c = length-map facts pair_of_fact in
    let d = length-take m.added m.moves.items in
    let e = length-append (sent ++ sealed) m.packer.writer.items in
    let f = length-append sent sealed in
    let w = h.within in
    omega (arith, a, b, c, d, e, f, w)

-- where nothing stands, the list is behind
pub ends_before : {X : Type 0} (xs : List X) (i : ℕ) → slice_get xs i ≡ None → length xs ≤ i
ends_before xs i none = elim (slice_get_cases xs i).1 [ inl some ↦ absurd (none-some some.0 (sym none ∙ some.2)) | inr past ↦ past.0 ]

-- where a blob was added, and memory was wanting then, it is awaited as before
pub awaits_again : (old mid new : Moving) (fact : Fact) (sent sealed : List Item) → AwaitsBlob old fact sent sealed → BlobWasAdded old mid sent sealed → StaysMoving mid new sent → AwaitsStill old new fact sent
awaits_again old mid new fact sent sealed a was stays =
    let asked : new.asked ≡ old.asked = stays.asked ∙ was.asked in
    let moves : new.moves ≡ old.moves = stays.moves ∙ was.moves in
    let before = a.before in
    record {
      sealed = stays.sealed;
      awaits = record {
        moving = stays.moving;
        before = omega (arith, before, asked);
        asked = ap (λ (v : Vec Fact Global). slice_get v.items new.asked) moves ∙ ap (λ (i : ℕ). slice_get old.moves.items i) asked ∙ a.asked;
        next = inr (stays.added ∙ was.added ∙ ap (λ (i : ℕ). i + 1) (sym stays.asked));
      };
      listed = stays.listed ∙ ap (λ (v : Vec PackFacts Global). v.items) was.listed;
      moves = moves;
      asked = asked;
    }

-- a blob that was added already
pub added_before : (m : Moving) (fact : Fact) (sent sealed : List Item) → AwaitsBlob m fact sent sealed → m.added ≢ m.asked → BlobWasAdded m m sent sealed
added_before m fact sent sealed a other = record {
  moving = a.moving;
  listed = refl;
  moves = refl;
  added = elim a.next [ inl first ↦ absurd (other first.0) | inr more ↦ more ];
  asked = refl;
}

-- where all was sent, no blob is awaited
pub none_awaited : (m n : Moving) (fact : Fact) (sent sealed : List Item) → AwaitsBlob m fact sent sealed → n.moves ≡ m.moves → IsMoving n sent [] → n.packer.writer.items ≡ [] → length n.moves.items ≤ n.added → ⊥
none_awaited m n fact sent sealed a moves h none all =
    let few = slice_get_within m.moves.items m.asked fact a.asked in
    let long : length n.moves.items ≡ length m.moves.items = ap (λ (v : Vec Fact Global). length v.items) moves in
    let so_far : List Item = items_so_far sent [] n in
    let facts : List Fact = take n.added n.moves.items in
    let same : length (map pair_of_item so_far) ≡ length (map pair_of_fact facts) = ap length h.moved in
    let b = length-map so_far pair_of_item in
    let c = length-map facts pair_of_fact in
    let d = length-take n.added n.moves.items in
    let e = length-append (sent ++ []) n.packer.writer.items in
    let f = length-append sent [] in
    let w : length n.packer.writer.items ≡ 0 = ap length none in
    let before = a.before in
    let within = h.within in
    absurd (omega (arith, few, long, same, b, c, d, e, f, w, before, within, all))

-- the first of a list, and the next one
pub one_taken : {X : Type 0} (xs : List X) (i : ℕ) (x : X) → slice_get xs i ≡ Some x → take (i + 1) xs ≡ take i xs ++ x ∷ []
one_taken [] i x h = absurd (none-some x h)
one_taken (y ∷ xs) zero x h = ap (λ z. z ∷ []) (same_Some y x h)
one_taken (y ∷ xs) (suc i) x h = let s : suc i + 1 ≡ suc (i + 1) = omega arith in ap (λ j. take j (y ∷ xs)) s ∙ ap (λ zs. y ∷ zs) (one_taken xs i x h)

-- the next blob was added
pub added_moving : (m n : Moving) (fact : Fact) (bytes : List ℕ) (sent sealed : List Item) → AwaitsBlob m fact sent sealed → m.added ≡ m.asked → fact.name ≡ naming.name bytes
    → n.packer.writer ≡ with_item m.packer.writer (item_of fact.kind bytes) → n.packer.sealed ≡ m.packer.sealed → n.added ≡ m.added + 1 → n.moves ≡ m.moves → n.counts ≡ m.counts → n.packer.target ≡ m.packer.target → IsMoving n sent sealed
added_moving m n fact bytes sent sealed a first named writer sealed_same more moves counts target =
    let item : Item = item_of fact.kind bytes in
    let before : List Item = sent ++ sealed in
    let asked : slice_get m.moves.items m.added ≡ Some fact = ap (λ (i : ℕ). slice_get m.moves.items i) first ∙ a.asked in
    let pair : pair_of_item item ≡ pair_of_fact fact = λ i. record { kind = fact.kind; name = sym named i } in
    let items : items_so_far sent sealed n ≡ items_so_far sent sealed m ++ item ∷ [] = ap (λ w. before ++ w.items) writer ∙ sym (append_assoc before m.packer.writer.items (item ∷ [])) in
    let left : map pair_of_item (items_so_far sent sealed n) ≡ map pair_of_item (items_so_far sent sealed m) ++ pair_of_fact fact ∷ [] =
    ap (map pair_of_item) items ∙ map-append pair_of_item (items_so_far sent sealed m) (item ∷ []) ∙ ap (λ (p : Pair). map pair_of_item (items_so_far sent sealed m) ++ p ∷ []) pair in
    let right : map pair_of_fact (take n.added n.moves.items) ≡ map pair_of_fact (take m.added m.moves.items) ++ pair_of_fact fact ∷ [] =
    ap (λ (v : Vec Fact Global). map pair_of_fact (take n.added v.items)) moves ∙ ap (λ (i : ℕ). map pair_of_fact (take i m.moves.items)) more ∙ ap (map pair_of_fact) (one_taken m.moves.items m.added fact asked) ∙ map-append pair_of_fact (take m.added m.moves.items) (fact ∷ []) in
    let few = slice_get_within m.moves.items m.added fact asked in
    let long : length n.moves.items ≡ length m.moves.items = ap (λ (v : Vec Fact Global). length v.items) moves in
    let was_full : IsFull m sealed ⊎ AreAdded m → IsFull n sealed ⊎ AreAdded n = λ was. elim was [
      | inl full ↦ inl (full_as m n sealed target full)
      | inr all ↦ inr (omega (arith, all, long, more))
    ] in
    let aim : n.packer.writer.target ≡ n.packer.target.bytes = ap (λ w. w.target) writer ∙ a.moving.aim ∙ ap (λ (x : Target). x.bytes) (sym target) in
    let was_open : IsOpen m.packer.writer × (m.packer.sealed ≡ None) = elim a.next [ inl next ↦ (next.1, next.2) | inr behind ↦ absurd (omega (arith, first, behind)) ] in
    let room : IsOpen (record { items = m.packer.writer.items; target = n.packer.target.bytes }) =
    subst (λ t. IsOpen (record { items = m.packer.writer.items; target = t })) (a.moving.aim ∙ ap (λ (x : Target). x.bytes) (sym target)) was_open.0 in
    record {
      sealed_is = subst (λ (o : Option Sealed). IsSealed o sealed) (sym sealed_same) a.moving.sealed_is;
      moved = left ∙ ap (λ (ps : List Pair). ps ++ pair_of_fact fact ∷ []) a.moving.moved ∙ sym right;
      within = omega (arith, few, more, long);
      counted = subst (λ c. AreCounts c sent) (sym counts) a.moving.counted;
      aim = aim;
      due = elim (open_or_due n.packer.writer) [
        | inl still ↦ inl still
        | inr due ↦ inr (subst (λ t. IsDue (record { items = n.packer.writer.items; target = t })) aim due, (m.packer.writer.items, item, ap (λ w. w.items) writer, room))
      ];
      alone = λ some. absurd (some (sealed_same ∙ was_open.1));
      prompt = λ some. prompt_as m n sealed target (a.moving.prompt (λ none. some (sealed_same ∙ none)));
      full = λ some. was_full (a.moving.full (λ none. some (sealed_same ∙ none)));
    }
