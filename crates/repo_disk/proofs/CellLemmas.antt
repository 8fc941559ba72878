use Rattle.std.proofs.Common.{◌≡◌, ◌⊎◌, inl, inr, ℕ, suc, Bool, true, false, not, nat_eq, ◌==◌, ◌+◌, ◌<◌, ◌++◌, List, [], ◌∷◌, map, length, take, drop, Option, Some, None, is_some, option_map, refl, sym, ap, subst, arith, ◌∙◌}
use Rattle.std.proofs.lemmas.Bool.{cases_Bool, eqb-true, eq-eqb, true≢false}
use Rattle.std.proofs.Math.ListN.{set, get_or}
use Rattle.std.proofs.Math.Seq.{take-suc, take-suc-set}
use Rattle.std.proofs.lemmas.List.{drop_more, drop-set-lt, map-append}
use Rattle.std.specs.Cmp.{first_so, second_so}
use Rattle.std.specs.Cmp.Derive.{both_true}
use Rattle.std.specs.Cmp.Lexicographic.{pointwise, bytes_decides}
use Rattle.repo_disk.specs.Disks.{State, Leaves, ChangesDrafts, Gives, IsDecided, IsCut, IsSynced, StandsIn, IsListing, Has}
use Rattle.repo_disk.specs.Memory.{rank, is_at, latest, has_of, comes_to, fate_of, state_in, IsGiven, is_as_now, is_decided, listed, left_of, is_young}
use Rattle.repo_disk.specs.declared.files.File.{File}
use Rattle.repo_disk.specs.declared.logs.Cell.{Cell}
use Rattle.repo_disk.specs.declared.logs.Fate.{Fate}
use Rattle.repo_disk.specs.declared.rooms.Room.{Room}
use Rattle.repo_disk.specs.declared.young.Young.{Young}

-- folders of one number are one
pub same_room : (a b : Room) → rank a ≡ rank b → a ≡ b
same_room Room.Top Room.Top h = refl
same_room Room.Top Room.Temporary h = absurd (omega arith)
same_room Room.Top Room.Data h = absurd (omega arith)
same_room Room.Top Room.Indexes h = absurd (omega arith)
same_room Room.Top Room.Snapshots h = absurd (omega arith)
same_room Room.Top (Room.Packs n) h = absurd (omega arith)
same_room Room.Temporary Room.Top h = absurd (omega arith)
same_room Room.Temporary Room.Temporary h = refl
same_room Room.Temporary Room.Data h = absurd (omega arith)
same_room Room.Temporary Room.Indexes h = absurd (omega arith)
same_room Room.Temporary Room.Snapshots h = absurd (omega arith)
same_room Room.Temporary (Room.Packs n) h = absurd (omega arith)
same_room Room.Data Room.Top h = absurd (omega arith)
same_room Room.Data Room.Temporary h = absurd (omega arith)
same_room Room.Data Room.Data h = refl
same_room Room.Data Room.Indexes h = absurd (omega arith)
same_room Room.Data Room.Snapshots h = absurd (omega arith)
same_room Room.Data (Room.Packs n) h = absurd (omega arith)
same_room Room.Indexes Room.Top h = absurd (omega arith)
same_room Room.Indexes Room.Temporary h = absurd (omega arith)
same_room Room.Indexes Room.Data h = absurd (omega arith)
same_room Room.Indexes Room.Indexes h = refl
same_room Room.Indexes Room.Snapshots h = absurd (omega arith)
same_room Room.Indexes (Room.Packs n) h = absurd (omega arith)
same_room Room.Snapshots Room.Top h = absurd (omega arith)
same_room Room.Snapshots Room.Temporary h = absurd (omega arith)
same_room Room.Snapshots Room.Data h = absurd (omega arith)
same_room Room.Snapshots Room.Indexes h = absurd (omega arith)
same_room Room.Snapshots Room.Snapshots h = refl
same_room Room.Snapshots (Room.Packs n) h = absurd (omega arith)
same_room (Room.Packs m) Room.Top h = absurd (omega arith)
same_room (Room.Packs m) Room.Temporary h = absurd (omega arith)
same_room (Room.Packs m) Room.Data h = absurd (omega arith)
same_room (Room.Packs m) Room.Indexes h = absurd (omega arith)
same_room (Room.Packs m) Room.Snapshots h = absurd (omega arith)
same_room (Room.Packs m) (Room.Packs n) h = let e : m ≡ n = omega arith in ap Room.Packs e

-- a cell at this name in this folder is of them
at_true : (r : Room) (n : List ℕ) (cell : Cell) → is_at r n cell ≡ true → (r ≡ cell.room) × (n ≡ cell.name)
at_true r n cell h =
    let e = first_so (rank cell.room == rank r) (pointwise nat_eq cell.name n) h in
    let f = second_so (rank cell.room == rank r) (pointwise nat_eq cell.name n) h in
    (sym (same_room cell.room r (eqb-true (rank cell.room) (rank r) e)), sym ((bytes_decides cell.name n).0 f))

at_self : (r : Room) (n : List ℕ) (cell : Cell) → cell.room ≡ r → cell.name ≡ n → is_at r n cell ≡ true
at_self r n cell e f = both_true (eq-eqb (rank cell.room) (rank r) (ap rank e)) ((bytes_decides cell.name n).1 f)

module _ (cells : List Cell) (young : Young) (room : Room) (name : List ℕ) (given : Option File) (cell : Cell) (is : IsGiven cells room name given cell) where
  latest_here : latest (cell ∷ cells) room name ≡ Some cell
  latest_here = rw (at_self room name cell is.room is.name) refl

  latest_apart : (r : Room) (n : List ℕ) → ((r ≡ room) × (n ≡ name)) ⊎ (latest (cell ∷ cells) r n ≡ latest cells r n)
  latest_apart r n = elim (cases_Bool (is_at r n cell)) [
    | inl e ↦ (let p = at_true r n cell e in inl (p.0 ∙ is.room, p.1 ∙ is.name))
    | inr e ↦ inr (rw e refl)
  ]

  now_apart : (r : Room) (n : List ℕ) → (((r ≡ room) × (n ≡ name)) ⊎ (has_of (latest (cell ∷ cells) r n) ≡ has_of (latest cells r n)))
  now_apart r n = elim (latest_apart r n) [ inl p ↦ inl p | inr e ↦ inr (ap has_of e) ]

  fate_apart : (r : Room) (n : List ℕ) → (((r ≡ room) × (n ≡ name)) ⊎ (fate_of (latest (cell ∷ cells) r n) ≡ fate_of (latest cells r n)))
  fate_apart r n = elim (latest_apart r n) [ inl p ↦ inl p | inr e ↦ inr (ap fate_of e) ]

  comes_here : (fate_of (latest (cell ∷ cells) room name) ≡ fate_of (latest cells room name)) ⊎ Leaves given (fate_of (latest (cell ∷ cells) room name))
  comes_here =
      let P : Option (List ℕ) → Type 0 = λ left. (left ≡ fate_of (latest cells room name)) ⊎ Leaves given left in
      let here : comes_to cell.fate given ≡ fate_of (latest (cell ∷ cells) room name) = sym (ap fate_of latest_here ∙ ap (comes_to cell.fate) is.has) in
      subst P here is.fate

  -- a cell that is added to the log gives its name what it has
  pub gives : Gives room name given (state_in cells young) (state_in (cell ∷ cells) young)
  gives = record {
    here = ap has_of latest_here ∙ is.has;
    comes = inr comes_here;
    now = λ r n. inr (now_apart r n);
    fate = λ r n. inr (fate_apart r n);
    lasting = refl;
  }

  pub gives_in : (next : List Cell) (after : Young) → after ≡ young → next ≡ cell ∷ cells → Gives room name given (state_in cells young) (state_in next after)
  gives_in next after same added =
      let P : List Cell → Type 0 = λ all. Gives room name given (state_in cells young) (state_in all after) in
      let Q : Young → Type 0 = λ y. Gives room name given (state_in cells young) (state_in (cell ∷ cells) y) in
      subst P (sym added) (subst Q (sym same) gives)

-- where nothing is added nothing changes
pub unchanged : (s : State) → ChangesDrafts s s
unchanged s = record { now = λ r n. inr refl; fate = λ r n. inr refl; lasting = refl }

-- a draft that is given or lost changes drafts
pub drafted : (name : List ℕ) (given : Option File) (old new : State) → Gives Room.Temporary name given old new → ChangesDrafts old new
drafted name given old new g = record {
  now = λ r n. elim (g.now r n) [ inl t ↦ inl t | inr x ↦ elim x [ inl p ↦ inl p.0 | inr e ↦ inr e ] ];
  fate = λ r n. elim (g.fate r n) [ inl t ↦ inl t | inr x ↦ elim x [ inl p ↦ inl p.0 | inr e ↦ inr e ] ];
  lasting = g.lasting;
}

module _ (s u t : State) (drafts : ChangesDrafts s u) where
  pub drafts_then : ChangesDrafts u t → ChangesDrafts s t
  drafts_then more = record {
    now = λ r n. elim (more.now r n) [ inl x ↦ inl x | inr e ↦ elim (drafts.now r n) [ inl x ↦ inl x | inr f ↦ inr (e ∙ f) ] ];
    fate = λ r n. elim (more.fate r n) [ inl x ↦ inl x | inr e ↦ elim (drafts.fate r n) [ inl x ↦ inl x | inr f ↦ inr (e ∙ f) ] ];
    lasting = more.lasting ∙ drafts.lasting;
  }

  pub gives_then : (room : Room) (name : List ℕ) (given : Option File) → Gives room name given u t → Gives room name given s t
  gives_then room name given g = record {
    here = g.here;
    comes = elim g.comes [
      | inl x ↦ inl x
      | inr k ↦ elim k [
        | inl e ↦ elim (drafts.fate room name) [ inl x ↦ inl x | inr f ↦ inr (inl (e ∙ f)) ]
        | inr l ↦ inr (inr l)
      ]
    ];
    now = λ r n. elim (g.now r n) [ inl x ↦ inl x | inr k ↦ elim k [ inl p ↦ inr (inl p) | inr e ↦ elim (drafts.now r n) [ inl x ↦ inl x | inr f ↦ inr (inr (e ∙ f)) ] ] ];
    fate = λ r n. elim (g.fate r n) [ inl x ↦ inl x | inr k ↦ elim k [ inl p ↦ inr (inl p) | inr e ↦ elim (drafts.fate r n) [ inl x ↦ inl x | inr f ↦ inr (inr (e ∙ f)) ] ] ];
    lasting = g.lasting ∙ drafts.lasting;
  }

-- ---- a sync

-- a cell that comes to what it has leaves that
as_now_leaves : (cell : Option Cell) → is_as_now cell ≡ true → Leaves (has_of cell) (fate_of cell)
as_now_leaves None h = refl
as_now_leaves (Some cell) h = go cell.fate cell.has h where
  go : (fate : Fate) (has : Option File) → is_as_now (Some (record { room = cell.room; name = cell.name; has = has; fate = fate })) ≡ true → Leaves has (comes_to fate has)
  go Fate.AsNow None h = refl
  go Fate.AsNow (Some file) h = (file.bytes, refl, λ lasts. refl)
  go (Fate.Other left) has h = absurd (true≢false (sym h))

module _ (all : List Cell) (room : Room) where
  -- of each name that has a cell among these, the newest one comes to what it has
  decided_among : (cells : List Cell) → is_decided all room cells ≡ true → (n : List ℕ) (cell : Cell) → latest cells room n ≡ Some cell → is_as_now (latest all room n) ≡ true
  decided_among [] h n cell e = absurd (let k : None ≡ Some cell = e in cc)
  decided_among (c ∷ cells) h n cell e = elim (cases_Bool (is_at room n c)) [
    | inl at ↦ (
        let p = at_true room n c at in
        let same : (rank c.room == rank room) ≡ true = eq-eqb (rank c.room) (rank room) (ap rank (sym p.0)) in
        elim (cases_Bool (is_as_now (latest all room c.name))) [
          | inl holds ↦ subst (λ m. is_as_now (latest all room m) ≡ true) (sym p.1) holds
          | inr fails ↦ absurd (true≢false (sym (rw (same, fails) at h)))
        ])
    | inr at ↦ decided_among cells (rest (cases_Bool (rank c.room == rank room))) n cell (rw at at e)
  ] where
    rest : ((rank c.room == rank room) ≡ true) ⊎ ((rank c.room == rank room) ≡ false) → is_decided all room cells ≡ true
    rest (inl same) = elim (cases_Bool (is_as_now (latest all room c.name))) [
      | inl holds ↦ rw (same, holds) at h
      | inr fails ↦ absurd (true≢false (sym (rw (same, fails) at h)))
    ]
    rest (inr other) = rw other at h

  decided_all : is_decided all room all ≡ true → (n : List ℕ) (o : Option Cell) → latest all room n ≡ o → is_as_now o ≡ true
  decided_all h n None e = refl
  decided_all h n (Some cell) e = ap is_as_now (sym e) ∙ decided_among all h n cell e

  -- a folder whose names all come to what they have
  pub decided : (young : Young) → is_decided all room all ≡ true → IsDecided (state_in all young) room
  decided young h n = as_now_leaves (latest all room n) (decided_all h n (latest all room n) refl)

-- ---- a cut

at_left : (r : Room) (n : List ℕ) (cell : Cell) → is_at r n (left_of cell) ≡ is_at r n cell
at_left r n cell = refl

latest_left : (cells : List Cell) (r : Room) (n : List ℕ) → latest (map left_of cells) r n ≡ option_map left_of (latest cells r n)
latest_left [] r n = refl
latest_left (cell ∷ cells) r n = elim (cases_Bool (is_at r n cell)) [
  | inl e ↦ rw e refl
  | inr e ↦ rw e (latest_left cells r n)
]

left_fate : (cell : Option Cell) → fate_of (option_map left_of cell) ≡ fate_of cell
left_fate None = refl
left_fate (Some cell) = go (comes_to cell.fate cell.has) where
  go : (left : Option (List ℕ)) → option_map (λ (file : File). file.bytes) (option_map (λ bytes. record { bytes = bytes; lasts = true }) left) ≡ left
  go None = refl
  go (Some bytes) = refl

left_now : (cell : Option Cell) → is_as_now (option_map left_of cell) ≡ true
left_now None = refl
left_now (Some cell) = refl

left_lasts : (cell : Option Cell) (file : File) → has_of (option_map left_of cell) ≡ Some file → file.lasts ≡ true
left_lasts None file e = absurd (let k : None ≡ Some file = e in cc)
left_lasts (Some cell) file e = go (comes_to cell.fate cell.has) e where
  go : (left : Option (List ℕ)) → option_map (λ bytes. record { bytes = bytes; lasts = true }) left ≡ Some file → file.lasts ≡ true
  go None k = absurd (let k' : None ≡ Some file = k in cc)
  go (Some bytes) k = let p : Some (record { bytes = bytes; lasts = true }) ≡ Some file = k in sym (ap lasts_of p) where
    lasts_of : Option File → Bool
    lasts_of None = true
    lasts_of (Some f) = f.lasts

-- after a cut each name has what it came to
pub cut : (cells : List Cell) (young next : Young) → ((r : Room) → is_young next r ≡ false) → IsCut (state_in cells young) (state_in (map left_of cells) next)
cut cells young next old = record {
  left = λ r n. ap fate_of (latest_left cells r n) ∙ left_fate (latest cells r n);
  decided = λ r n.
      let P : Option Cell → Type 0 = λ cell. Leaves (has_of cell) (fate_of cell) in
      subst P (sym (latest_left cells r n)) (as_now_leaves (option_map left_of (latest cells r n)) (left_now (latest cells r n)));
  lasts = λ r n file e. left_lasts (latest cells r n) file (sym (ap has_of (latest_left cells r n)) ∙ e);
  lasting = λ r. ap not (old r);
}

-- ---- a listing

module _ (all : List Cell) (room : Room) where
  -- a listed name has something
  listed_has : (cells : List Cell) (n : List ℕ) → Has (listed all room cells) n → is_some (has_of (latest all room n)) ≡ true
  listed_has [] n h = absurd h
  listed_has (c ∷ cells) n h = elim (cases_Bool (rank c.room == rank room)) [
    | inl same ↦ elim (cases_Bool (is_some (has_of (latest all room c.name)))) [
      | inl holds ↦ (let k : (n ≡ c.name) ⊎ Has (listed all room cells) n = rw (same, holds) at h in
          elim k [ inl e ↦ subst (λ m. is_some (has_of (latest all room m)) ≡ true) (sym e) holds | inr more ↦ listed_has cells n more ])
      | inr fails ↦ listed_has cells n (rw (same, fails) at h)
    ]
    | inr other ↦ listed_has cells n (rw other at h)
  ]

  -- a name with a cell among these that has something is listed
  has_listed : (cells : List Cell) (n : List ℕ) (cell : Cell) → latest cells room n ≡ Some cell → is_some (has_of (latest all room n)) ≡ true → Has (listed all room cells) n
  has_listed [] n cell e there = absurd (let k : None ≡ Some cell = e in cc)
  has_listed (c ∷ cells) n cell e there = elim (cases_Bool (is_at room n c)) [
    | inl at ↦ (
        let p = at_true room n c at in
        let same : (rank c.room == rank room) ≡ true = eq-eqb (rank c.room) (rank room) (ap rank (sym p.0)) in
        let holds : is_some (has_of (latest all room c.name)) ≡ true = subst (λ m. is_some (has_of (latest all room m)) ≡ true) p.1 there in
        rw (same, holds) (inl p.1))
    | inr at ↦ further (has_listed cells n cell (rw at at e) there) (cases_Bool (rank c.room == rank room)) (cases_Bool (is_some (has_of (latest all room c.name))))
  ] where
    further : Has (listed all room cells) n → ((rank c.room == rank room) ≡ true) ⊎ ((rank c.room == rank room) ≡ false)
        → (is_some (has_of (latest all room c.name)) ≡ true) ⊎ (is_some (has_of (latest all room c.name)) ≡ false) → Has (listed all room (c ∷ cells)) n
    further more (inl same) (inl holds) = rw (same, holds) (inr more)
    further more (inl same) (inr fails) = rw (same, fails) more
    further more (inr other) tells = rw other more

  pub listing : (young : Young) → IsListing ((state_in all young).now room) (listed all room all)
  listing young n = (listed_has all n, λ there. go there (latest all room n) refl) where
    go : is_some (has_of (latest all room n)) ≡ true → (o : Option Cell) → latest all room n ≡ o → Has (listed all room all) n
    go there None e = absurd (true≢false (sym there ∙ ap (λ o. is_some (has_of o)) e))
    go there (Some cell) e = has_listed all n cell e there

-- one cell more of a log is as after a cut
pub next_left : (xs old : List Cell) (i : ℕ) (d : Cell) → i < length xs → length xs ≡ length old → take i xs ≡ map left_of (take i old) → drop i xs ≡ drop i old → get_or xs i d ≡ d
    → (take (i + 1) (set xs i (left_of d)) ≡ map left_of (take (i + 1) old)) × (drop (i + 1) (set xs i (left_of d)) ≡ drop (i + 1) old)
next_left xs old i d in_it long done rest here =
    let in_old : i < length old = subst (λ n. i < n) long in_it in
    let split : get_or xs i d ∷ drop (i + 1) xs ≡ get_or old i d ∷ drop (i + 1) old = sym (drop_more xs i d in_it) ∙ rest ∙ drop_more old i d in_old in
    let there : d ≡ get_or old i d = sym here ∙ firsts split in
    let a : take (suc i) (set xs i (left_of d)) ≡ take i xs ++ (left_of d ∷ []) = take-suc-set xs i (left_of d) in_it in
    let b : map left_of (take (suc i) old) ≡ map left_of (take i old) ++ (left_of (get_or old i d) ∷ []) =
    ap (map left_of) (take-suc old i d in_old) ∙ map-append left_of (take i old) (get_or old i d ∷ []) in
    let one : suc i ≡ i + 1 = omega arith in
    (subst (λ n. take n (set xs i (left_of d)) ≡ map left_of (take n old)) one (a ∙ ap (λ ys. ys ++ (left_of d ∷ [])) done ∙ ap (λ y. map left_of (take i old) ++ (left_of y ∷ [])) there ∙ sym b), drop-set-lt (i + 1) xs i (left_of d) (omega arith) ∙ rests split)
  where
    firsts : {x y : Cell} {xs ys : List Cell} → x ∷ xs ≡ y ∷ ys → x ≡ y
    firsts h = cc

    rests : {x y : Cell} {xs ys : List Cell} → x ∷ xs ≡ y ∷ ys → xs ≡ ys
    rests h = cc

-- a sync of a folder whose names all come to what they have, where the folders below don't get younger
pub synced : (room : Room) (cells : List Cell) (young next : Young) → is_decided cells room cells ≡ true → ((r : Room) → is_young young r ≡ false → is_young next r ≡ false)
    → ((r : Room) → StandsIn r room → is_young young room ≡ false → is_young next r ≡ false) → IsSynced room (state_in cells young) (state_in cells next)
synced room cells young next all stays below = record {
  now = refl;
  fate = refl;
  stays = λ r h. ap not (stays r (not_true (is_young young r) h));
  below = λ r stands h. ap not (below r stands (not_true (is_young young room) h));
  decided = λ h. decided cells room young all;
}
  where
    not_true : (b : Bool) → not b ≡ true → b ≡ false
    not_true false h = refl
    not_true true h = absurd (true≢false (sym h))
