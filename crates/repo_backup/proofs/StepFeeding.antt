-- The items that steps feed, one after another.
use Rattle.std.proofs.Common.{arith, ◌≡◌, ◌≢◌, ◌<◌, ◌≤◌, ◌+◌, ◌-◌, ◌++◌, ◌∷◌, [], ℕ, false, suc, cond, List, length, take, drop, Option, Some, None, option_map, slice_get, refl, sym, ap, subst, inl, inr, ◌∙◌, append_assoc, length-append, take-append-drop, append-nil, min, get_or, take_all, length-drop}
use Rattle.std.proofs.Math.Seq.{drop-cons}
use Rattle.std.proofs.lemmas.List.{drop-drop, drop_min}
use Rattle.std.proofs.Math.ListN.{drop_of_length-le}
use Rattle.std.proofs.lemmas.Option.{slice_get_within, get_or_from_slice_get, slice_get_cases, slice_get_read}
use Rattle.repo_session.specs.Feeds.{Fed, fed_dir, fed_file, fed_bytes, fed_close, fed_end, fed_abandon}
use Rattle.repo_tree.specs.declared.entries.Entry.{Entry}
use Rattle.repo_backup.specs.Folders.{Folder, nothing, file_then, dir_then, joined, entries_of}
use Rattle.repo_backup.specs.Handed.{AreHanded}
use Rattle.repo_backup.specs.ItemLaws.{FeedFolder, fed_pieces}
use Rattle.repo_backup.specs.Items.{Feeding, FileSoFar, Place, after, with_more, place_of, MayTake, MayGrow, NobodyGaveUp, AreTaken, fed_part, fed_of, size_of}
use Rattle.repo_backup.specs.Plans.{steps_of, rest_fed, steps_fed, steps_left, left_fed, next_part, next_fed, behind, before, fed_on, LeadThrough}
use Rattle.repo_backup.specs.declared.items.Item.{Item}
use Rattle.repo_backup.specs.declared.steps.Position.{Position}
use Rattle.repo_backup.specs.declared.steps.WalkStep.{WalkStep}
use Rattle.repo_backup.proofs.Feeding.{whole_is_spelled}
use Rattle.repo_backup.proofs.PieceTaking.{whole_piece}

-- ---- items that lead through the entries

-- all items in one list
pub fed_after : (left : List Fed) (items : Feeding) → (more : Feeding) × (fed_on left items ≡ more ++ items)
fed_after [] items = ([], refl)
fed_after (item ∷ left) items =
    let k = fed_after left (item ∷ items) in
    (k.0 ++ item ∷ [], k.1 ∙ sym (append_assoc k.0 (item ∷ []) items))

taken_front : (left : List Fed) (items : Feeding) → AreTaken (fed_on left items) → AreTaken items
taken_front [] items h = h
taken_front (item ∷ left) items h = (taken_front left (item ∷ items) h).3

-- the next one may be taken
pub next_may : (entries : List Entry) (item : Fed) (left : List Fed) (items : Feeding) → LeadThrough entries (item ∷ left) items → MayTake (place_of items) item
next_may entries item left items h = (taken_front left (item ∷ items) h.taken).2

pub next_open : (entries : List Entry) (item : Fed) (left : List Fed) (items : Feeding) → LeadThrough entries (item ∷ left) items → (place_of items).over ≡ false
next_open entries item left items h = (taken_front left (item ∷ items) h.taken).0

pub lead_on : (entries : List Entry) (item : Fed) (left : List Fed) (items : Feeding) → LeadThrough entries (item ∷ left) items → LeadThrough entries left (item ∷ items)
lead_on entries item left items h = record { taken = h.taken; spells = h.spells; ends = h.ends }

-- nobody gave up by an item, whatever was before it
gave_up : (item : Fed) (xs ys : Feeding) → NobodyGaveUp (item ∷ xs) → NobodyGaveUp (item ∷ ys)
gave_up (fed_dir name) xs ys h = tt
gave_up (fed_file name) xs ys h = tt
gave_up (fed_bytes bytes) xs ys h = tt
gave_up fed_close xs ys h = tt
gave_up fed_end xs ys h = tt
gave_up fed_abandon xs ys h = absurd h

-- items that lead to the same place lead on as well
pub same_on : (left : List Fed) (xs ys : Feeding) → place_of xs ≡ place_of ys → AreTaken ys → (NobodyGaveUp xs → NobodyGaveUp ys) → AreTaken (fed_on left xs) → (place_of (fed_on left xs) ≡ place_of (fed_on left ys)) × AreTaken (fed_on left ys)
same_on [] xs ys same taken kept h = (same, taken)
same_on (item ∷ left) xs ys same taken kept h =
    let front = taken_front left (item ∷ xs) h in
    same_on left (item ∷ xs) (item ∷ ys) (ap (λ p. after p item) same) (ap (λ (p : Place). p.over) (sym same) ∙ front.0, kept front.1, subst (λ p. MayTake p item) same front.2, taken) (gave_up item xs ys) h

more_twice : (file : Option FileSoFar) (x y z : List ℕ) → x ++ y ≡ z → with_more y (with_more x file) ≡ with_more z file
more_twice None x y z h = refl
more_twice (Some f) x y z h = ap (λ b. Some (record { name = f.name; bytes = b })) (append_assoc f.bytes x y ∙ ap (λ b. f.bytes ++ b) h)

grow_twice : (file : Option FileSoFar) (x y z : List ℕ) → x ++ y ≡ z → MayGrow file z → MayGrow file x × MayGrow (with_more x file) y
grow_twice None x y z h may = absurd may
grow_twice (Some f) x y z h may =
    let n : length x + length y ≡ length z = sym (length-append x y) ∙ ap length h in
    (omega (arith, n, may), omega (arith, n, may, length-append f.bytes x))

-- a piece may be fed in two parts
pub lead_split : (entries : List Entry) (part rest piece : List ℕ) (left : List Fed) (items : Feeding) → part ++ rest ≡ piece → LeadThrough entries (fed_bytes piece ∷ left) items → LeadThrough entries (fed_bytes rest ∷ left) (fed_bytes part ∷ items)
lead_split entries part rest piece left items is h =
    let p = place_of items in
    let whole = fed_bytes piece ∷ items in
    let parts = fed_bytes rest ∷ fed_bytes part ∷ items in
    let same : place_of whole ≡ place_of parts = ap (λ f. record { entries = p.entries; path = p.path; file = f; over = p.over }) (sym (more_twice p.file part rest piece is)) in
    let front = taken_front left whole h.taken in
    let grow = grow_twice p.file part rest piece is front.2 in
    let on = same_on left whole parts same (front.0, tt, grow.1, (front.0, front.1, grow.0, front.3)) (λ k. tt) h.taken in
    record { taken = on.1; spells = ap (λ (q : Place). q.entries) (sym on.0) ∙ h.spells; ends = ap (λ (q : Place). q.over) (sym on.0) ∙ h.ends }

-- some first bytes of a piece, and what is left of it
lead_part : (entries : List Entry) (n : ℕ) (piece rest : List ℕ) (then : List Fed) (items : Feeding) → drop n piece ≡ rest → LeadThrough entries (fed_bytes piece ∷ fed_close ∷ then) items → LeadThrough entries (rest_fed rest then) (fed_bytes (take n piece) ∷ items)
lead_part entries n piece [] then items is h =
    let all : take n piece ≡ piece = sym (append-nil (take n piece)) ∙ ap (λ r. take n piece ++ r) (sym is) ∙ take-append-drop n piece in
    subst (λ x. LeadThrough entries (fed_close ∷ then) (fed_bytes x ∷ items)) (sym all) (lead_on entries (fed_bytes piece) (fed_close ∷ then) items h)
lead_part entries n piece (b ∷ rest) then items is h = lead_split entries (take n piece) (b ∷ rest) piece (fed_close ∷ then) items (ap (λ r. take n piece ++ r) (sym is) ∙ take-append-drop n piece) h

-- ---- the items of steps

step_at : (steps : List WalkStep) (at : ℕ) (s : WalkStep) → slice_get steps at ≡ Some s → drop at steps ≡ s ∷ drop (at + 1) steps
step_at steps at s e =
    let within = slice_get_within steps at s e in
    let next : suc at ≡ at + 1 = omega arith in
    drop-cons steps at s within ∙ (λ i. get_or_from_slice_get steps at s s e i ∷ drop (next i) steps)

no_step : (steps : List WalkStep) (at : ℕ) → slice_get steps at ≡ None → drop at steps ≡ []
no_step steps at e = elim (slice_get_cases steps at).1 [
  | inl some ↦ let other = some.2 in absurd (not_both (slice_get steps at) some.0 other e)
  | inr none ↦ drop_of_length-le steps none.0
]
  where
    not_both : (o : Option WalkStep) (x : WalkStep) → o ≡ Some x → o ≡ None → ⊥
    not_both o x p q = absurd (cc)

drop-add : (n m : ℕ) (bytes : List ℕ) → drop (n + m) bytes ≡ drop m (drop n bytes)
drop-add n m bytes = sym (drop-drop m n bytes)

-- what a look-up found
pub step_here : (steps : List WalkStep) (at : ℕ) (x s : WalkStep) → at < length steps → x ≡ get_or steps at x → x ≡ s → slice_get steps at ≡ Some s
step_here steps at x s within is same = slice_get_read steps (length steps) at x refl within is ∙ ap (λ y. Some y) same

-- what comes next by what was found
pub dir_next : (within : Option ℕ) (step : Option WalkStep) (name : List ℕ) → step ≡ Some (WalkStep.Enter name) → next_fed within step ≡ fed_dir name
dir_next None step name is = ap (next_fed None) is
dir_next (Some n) step name is = ap (next_fed (Some n)) is

pub leave_next : (within : Option ℕ) (step : Option WalkStep) → step ≡ Some WalkStep.Leave → next_fed within step ≡ fed_close
leave_next None step is = ap (next_fed None) is
leave_next (Some n) step is = ap (next_fed (Some n)) is

pub file_next : (within : Option ℕ) (step : Option WalkStep) (name bytes : List ℕ) → within ≡ None → step ≡ Some (WalkStep.File name bytes) → next_fed within step ≡ fed_file name
file_next within step name bytes none is = λ i. next_fed (none i) (is i)

pub part_comes : (within : Option ℕ) (step : Option WalkStep) (name bytes : List ℕ) (n : ℕ) (rest : List ℕ) → within ≡ Some n → step ≡ Some (WalkStep.File name bytes) → drop n bytes ≡ rest → next_fed within step ≡ next_part rest
part_comes within step name bytes n rest some is left = (λ i. next_fed (some i) (is i)) ∙ ap next_part left

pub end_part : (rest : List ℕ) → length rest ≡ 0 → next_part rest ≡ fed_close
end_part [] none = refl
end_part (b ∷ rest) none = absurd (omega (arith, none))

pub some_part : (rest : List ℕ) → length rest ≢ 0 → next_part rest ≡ fed_bytes rest
some_part [] some = absurd (some refl)
some_part (b ∷ rest) some = refl

pub rest_read : (read bytes : List ℕ) (n m : ℕ) → read ≡ bytes → m ≡ min n (length read) → take (length read - m) (drop m read) ≡ drop n bytes
rest_read read bytes n m same least = take_all (length read - m) (drop m read) (omega (arith, length-drop m read)) ∙ ap (λ k. drop k read) least ∙ drop_min n read ∙ ap (drop n) same

none_behind : (n : ℕ) (bytes rest : List ℕ) → drop n bytes ≡ rest → drop (n + length rest) bytes ≡ []
none_behind n bytes rest is = drop-add n (length rest) bytes ∙ ap (λ r. drop (length rest) r) is ∙ drop_of_length-le rest (omega arith)

part_next : (at n : ℕ) (name bytes rest : List ℕ) (steps : List WalkStep) → drop n bytes ≡ rest → drop at steps ≡ WalkStep.File name bytes ∷ drop (at + 1) steps
    → steps_left (Some n) (drop at steps) ≡ next_part rest ∷ left_fed (behind (record { at = at; within = Some n; over = false }) (next_part rest)) steps
part_next at n name bytes [] steps is d = ap (steps_left (Some n)) d ∙ ap (λ r. rest_fed r (steps_fed (drop (at + 1) steps))) is
part_next at n name bytes (b ∷ rest) steps is d =
    ap (steps_left (Some n)) d ∙ ap (λ r. rest_fed r (steps_fed (drop (at + 1) steps))) is
    ∙ ap (λ l. fed_bytes (b ∷ rest) ∷ l) (ap (λ r. rest_fed r (steps_fed (drop (at + 1) steps))) (sym (none_behind n bytes (b ∷ rest) is)) ∙ ap (steps_left (Some (n + length (b ∷ rest)))) (sym d))

-- the items that are left are the next one, and those behind it
pub left_next : (at : ℕ) (within : Option ℕ) (steps : List WalkStep) (s : Option WalkStep) → slice_get steps at ≡ s
    → steps_left within (drop at steps) ≡ next_fed within s ∷ left_fed (behind (record { at = at; within = within; over = false }) (next_fed within s)) steps
left_next at None steps None e = ap (steps_left None) (no_step steps at e)
left_next at (Some n) steps None e = ap (steps_left (Some n)) (no_step steps at e)
left_next at None steps (Some (WalkStep.File name bytes)) e =
    let d = step_at steps at (WalkStep.File name bytes) e in
    ap (steps_left None) d ∙ ap (λ l. fed_file name ∷ steps_left (Some 0) l) (sym d)
left_next at (Some n) steps (Some (WalkStep.File name bytes)) e = part_next at n name bytes (drop n bytes) steps refl (step_at steps at (WalkStep.File name bytes) e)
left_next at None steps (Some (WalkStep.Enter name)) e = ap (steps_left None) (step_at steps at (WalkStep.Enter name) e)
left_next at (Some n) steps (Some (WalkStep.Enter name)) e = ap (steps_left (Some n)) (step_at steps at (WalkStep.Enter name) e)
left_next at None steps (Some WalkStep.Leave) e = ap (steps_left None) (step_at steps at WalkStep.Leave e)
left_next at (Some n) steps (Some WalkStep.Leave) e = ap (steps_left (Some n)) (step_at steps at WalkStep.Leave e)

-- where bytes come next, a file is open
pub record Reads (at : ℕ) (within : Option ℕ) (steps : List WalkStep) (piece : List ℕ) : Type 0 where
  pub name : List ℕ
  pub bytes : List ℕ
  pub fed : ℕ
  pub within_is : within ≡ Some fed
  pub here : drop at steps ≡ WalkStep.File name bytes ∷ drop (at + 1) steps
  pub rest : drop fed bytes ≡ piece
  pub some : piece ≢ []

reads_part : (at n : ℕ) (name bytes rest piece : List ℕ) (steps : List WalkStep) → drop n bytes ≡ rest → drop at steps ≡ WalkStep.File name bytes ∷ drop (at + 1) steps → next_part rest ≡ fed_bytes piece → Reads at (Some n) steps piece
reads_part at n name bytes [] piece steps is d e = absurd (cc)
reads_part at n name bytes (b ∷ rest) piece steps is d e =
    let same : b ∷ rest ≡ piece = cc in
    record { name = name; bytes = bytes; fed = n; within_is = refl; here = d; rest = is ∙ same; some = λ none. (let no : b ∷ rest ≡ [] = same ∙ none in absurd (cc)) }

bytes_next : (at : ℕ) (within : Option ℕ) (steps : List WalkStep) (s : Option WalkStep) (piece : List ℕ) → slice_get steps at ≡ s → next_fed within s ≡ fed_bytes piece → Reads at within steps piece
bytes_next at None steps None piece g e = absurd (cc)
bytes_next at (Some n) steps None piece g e = absurd (cc)
bytes_next at None steps (Some (WalkStep.File name bytes)) piece g e = absurd (cc)
bytes_next at (Some n) steps (Some (WalkStep.File name bytes)) piece g e = reads_part at n name bytes (drop n bytes) piece steps refl (step_at steps at (WalkStep.File name bytes) g) e
bytes_next at None steps (Some (WalkStep.Enter name)) piece g e = absurd (cc)
bytes_next at (Some n) steps (Some (WalkStep.Enter name)) piece g e = absurd (cc)
bytes_next at None steps (Some WalkStep.Leave) piece g e = absurd (cc)
bytes_next at (Some n) steps (Some WalkStep.Leave) piece g e = absurd (cc)

some_rest : (piece : List ℕ) (then : List Fed) → piece ≢ [] → rest_fed piece then ≡ fed_bytes piece ∷ fed_close ∷ then
some_rest [] then some = absurd (some refl)
some_rest (b ∷ piece) then some = refl

-- ---- where an item was taken, of a piece so many bytes

none_before : (p : Position) → before 0 p ≡ p
none_before p = ap (λ w. record { at = p.at; within = w; over = p.over }) (same p.within)
  where
    same : (w : Option ℕ) → option_map (λ k. k - 0) w ≡ w
    same None = refl
    same (Some k) = ap Some (omega arith)

module _ (entries : List Entry) (steps : List WalkStep) (p : Position) (going : p.over ≡ false) where
  pub left_is : left_fed p steps ≡ next_fed p.within (slice_get steps p.at) ∷ left_fed (behind p (next_fed p.within (slice_get steps p.at))) steps
  left_is =
      ap (λ b. cond b [] (steps_left p.within (drop p.at steps))) going ∙ left_next p.at p.within steps (slice_get steps p.at) refl
      ∙ ap (λ b. next_fed p.within (slice_get steps p.at) ∷ left_fed (behind (record { at = p.at; within = p.within; over = b }) (next_fed p.within (slice_get steps p.at))) steps) (sym going)

  pub next_of : (fed : Fed) → fed ≡ next_fed p.within (slice_get steps p.at) → left_fed p steps ≡ fed ∷ left_fed (behind p fed) steps
  next_of fed is = subst (λ f. left_fed p steps ≡ f ∷ left_fed (behind p f) steps) (sym is) left_is

  -- the whole item
  pub whole_on : (fed : Fed) (items : Feeding) → fed ≡ next_fed p.within (slice_get steps p.at) → LeadThrough entries (left_fed p steps) items → LeadThrough entries (left_fed (before 0 (behind p fed)) steps) (fed ∷ items)
  whole_on fed items is h =
      subst (λ q. LeadThrough entries (left_fed q steps) (fed ∷ items)) (sym (none_before (behind p fed))) (lead_on entries fed (left_fed (behind p fed) steps) items (subst (λ l. LeadThrough entries l items) (next_of fed is) h))

  none_of_it : (n : ℕ) (fed : Fed) (items : Feeding) → fed ≡ next_fed p.within (slice_get steps p.at) → LeadThrough entries (left_fed p steps) items → LeadThrough entries (left_fed (before (0 - n) (behind p fed)) steps) (fed ∷ items)
  none_of_it n fed items is h =
      let none : 0 ≡ 0 - n = omega arith in
      subst (λ k. LeadThrough entries (left_fed (before k (behind p fed)) steps) (fed ∷ items)) none (whole_on fed items is h)

  -- first bytes of a piece
  pub part_on : (n : ℕ) (piece : List ℕ) (items : Feeding) → n ≤ length piece → fed_bytes piece ≡ next_fed p.within (slice_get steps p.at) → LeadThrough entries (left_fed p steps) items
      → LeadThrough entries (left_fed (before (length piece - n) (behind p (fed_bytes piece))) steps) (fed_bytes (take n piece) ∷ items)
  part_on n piece items within is h =
      let r = bytes_next p.at p.within steps (slice_get steps p.at) piece refl (sym is) in
      let then = steps_fed (drop (p.at + 1) steps) in
      let was : left_fed p steps ≡ fed_bytes piece ∷ fed_close ∷ then =
      ap (λ b. cond b [] (steps_left p.within (drop p.at steps))) going ∙ (λ i. steps_left (r.within_is i) (r.here i)) ∙ ap (λ x. rest_fed x then) r.rest ∙ some_rest piece then r.some in
      let at : (r.fed + length piece) - (length piece - n) ≡ r.fed + n = omega (arith, within) in
      let left : drop (r.fed + n) r.bytes ≡ drop n piece = drop-add r.fed n r.bytes ∙ ap (λ x. drop n x) r.rest in
      let now : left_fed (before (length piece - n) (behind p (fed_bytes piece))) steps ≡ rest_fed (drop n piece) then =
      ap (λ b. cond b [] (steps_left (option_map (λ k. k - (length piece - n)) (option_map (λ k. k + length piece) p.within)) (drop p.at steps))) going
      ∙ (λ i. steps_left (option_map (λ k. k - (length piece - n)) (option_map (λ k. k + length piece) (r.within_is i))) (r.here i))
      ∙ ap (λ k. rest_fed (drop k r.bytes) then) at ∙ ap (λ x. rest_fed x then) left in
      subst (λ l. LeadThrough entries l (fed_bytes (take n piece) ∷ items)) (sym now) (lead_part entries n piece (drop n piece) then items refl (subst (λ l. LeadThrough entries l items) was h))

  -- any
  pub lead_further : (n : ℕ) (item : Item) (items : Feeding) → n ≤ size_of item → fed_of item ≡ next_fed p.within (slice_get steps p.at) → LeadThrough entries (left_fed p steps) items
      → LeadThrough entries (left_fed (before (size_of item - n) (behind p (fed_of item))) steps) (fed_part n item ∷ items)
  lead_further n (Item.Dir name) items within is h = none_of_it n (fed_dir name.now) items is h
  lead_further n (Item.File name) items within is h = none_of_it n (fed_file name.now) items is h
  lead_further n (Item.Bytes piece) items within is h =
      subst (λ f. LeadThrough entries (left_fed (before (length piece.now - n) (behind p f)) steps) (fed_bytes (take n piece.now) ∷ items)) (sym (whole_piece piece.now))
      (part_on n piece.now items within (sym (whole_piece piece.now) ∙ is) h)
  lead_further n Item.Close items within is h = none_of_it n fed_close items is h
  lead_further n Item.End items within is h = none_of_it n fed_end items is h
  lead_further n Item.Abandon items within is h = none_of_it n fed_abandon items is h

  -- the whole item, or the part of it, may be taken
  pub item_may : (item : Item) (items : Feeding) → fed_of item ≡ next_fed p.within (slice_get steps p.at) → LeadThrough entries (left_fed p steps) items → MayTake (place_of items) (fed_of item)
  item_may item items is h = next_may entries (fed_of item) (left_fed (behind p (fed_of item)) steps) items (subst (λ l. LeadThrough entries l items) (next_of (fed_of item) is) h)

  pub going_open : (items : Feeding) → LeadThrough entries (left_fed p steps) items → (place_of items).over ≡ false
  going_open items h = next_open entries (next_fed p.within (slice_get steps p.at)) (left_fed (behind p (next_fed p.within (slice_get steps p.at))) steps) items (subst (λ l. LeadThrough entries l items) left_is h)

  -- and then less is left
  pub less_left : (n : ℕ) (item : Item) → n ≡ size_of item → fed_of item ≡ next_fed p.within (slice_get steps p.at) → length (left_fed (before (size_of item - n) (behind p (fed_of item))) steps) < length (left_fed p steps)
  less_left n item all is =
      let none : size_of item - n ≡ 0 = omega (arith, all) in
      let same : left_fed (before (size_of item - n) (behind p (fed_of item))) steps ≡ left_fed (behind p (fed_of item)) steps = ap (λ k. left_fed (before k (behind p (fed_of item))) steps) none ∙ ap (λ q. left_fed q steps) (none_before (behind p (fed_of item))) in
      omega (arith, ap length same, ap length (next_of (fed_of item) is))

-- it never is one by which somebody gives up
pub next_no_abandon : (within : Option ℕ) (s : Option WalkStep) (item : Item) → fed_of item ≡ next_fed within s → item ≡ Item.Abandon → ⊥
next_no_abandon within s item is e = no within s (sym is ∙ ap fed_of e)
  where
    part : (rest : List ℕ) → next_part rest ≡ fed_abandon → ⊥
    part [] e = absurd (cc)
    part (b ∷ rest) e = absurd (cc)

    no : (within : Option ℕ) (s : Option WalkStep) → next_fed within s ≡ fed_abandon → ⊥
    no None None e = absurd (cc)
    no (Some n) None e = absurd (cc)
    no None (Some (WalkStep.File name bytes)) e = absurd (cc)
    no (Some n) (Some (WalkStep.File name bytes)) e = part (drop n bytes) e
    no None (Some (WalkStep.Enter name)) e = absurd (cc)
    no (Some n) (Some (WalkStep.Enter name)) e = absurd (cc)
    no None (Some WalkStep.Leave) e = absurd (cc)
    no (Some n) (Some WalkStep.Leave) e = absurd (cc)

-- ---- the steps of a folder

rest_on : (bytes : List ℕ) (then : List Fed) (items : Feeding) → (pieces : List (List ℕ)) × (joined pieces ≡ bytes) × (fed_on (rest_fed bytes then) items ≡ fed_on then (fed_close ∷ fed_pieces pieces items))
rest_on [] then items = ([], refl, refl)
rest_on (b ∷ bytes) then items = ((b ∷ bytes) ∷ [], append-nil (b ∷ bytes), refl)

-- feed it
folder_fed : (folder : Folder) (more : List WalkStep) (items : Feeding) → (mid : Feeding) × FeedFolder folder items mid × (fed_on (steps_fed (steps_of folder ++ more)) items ≡ fed_on (steps_fed more) mid)
folder_fed nothing more items = (items, refl, refl)
folder_fed (file_then name chunks rest) more items =
    let r = rest_on (joined chunks) (steps_fed (steps_of rest ++ more)) (fed_file name ∷ items) in
    let k = folder_fed rest more (fed_close ∷ fed_pieces r.0 (fed_file name ∷ items)) in
    (k.0, (r.0, r.1, k.1), r.2 ∙ k.2)
folder_fed (dir_then name inside rest) more items =
    let apart = append_assoc (steps_of inside) (WalkStep.Leave ∷ steps_of rest) more in
    let i = folder_fed inside (WalkStep.Leave ∷ steps_of rest ++ more) (fed_dir name ∷ items) in
    let k = folder_fed rest more (fed_close ∷ i.0) in
    (k.0, (i.0, i.1, k.1), ap (λ l. fed_on (steps_fed l) (fed_dir name ∷ items)) apart ∙ i.2 ∙ k.2)

-- the steps of entries that may be handed in lead through them
pub folder_leads : (entries : List Entry) (folder : Folder) → AreHanded entries → entries_of [] folder ≡ entries → LeadThrough entries (steps_fed (steps_of folder)) []
folder_leads entries folder handed holds =
    let k = folder_fed folder [] [] in
    let all : fed_on (steps_fed (steps_of folder)) [] ≡ fed_end ∷ k.0 = ap (λ l. fed_on (steps_fed l) []) (sym (append-nil (steps_of folder))) ∙ k.2 in
    let w = whole_is_spelled entries folder k.0 handed holds k.1 in
    record { taken = subst AreTaken (sym all) w.0; spells = ap (λ l. (place_of l).entries) all ∙ w.1; ends = ap (λ l. (place_of l).over) all }
