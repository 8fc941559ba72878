use Rattle.std.proofs.Common.{◌≡◌, ◌⊎◌, inl, inr, ℕ, Bool, true, cond, nat_eq, ◌&&◌, ◌==◌, List, [], ◌∷◌, Option, Some, None, option_map, refl, sym, ap, subst}
use Rattle.std.proofs.lemmas.Bool.{cases_Bool, eqb-true, eq-eqb}
use Rattle.std.specs.Cmp.{first_so, second_so}
use Rattle.std.specs.Cmp.Derive.{both_true}
use Rattle.std.specs.Cmp.Lexicographic.{pointwise, bytes_decides}
use Rattle.repo_disk.specs.Cuts.{Fates, Seen, with_fates, IsOneOf, MayLeave, Deed, SameAt, IsChanged, Happens, IsFated, EachCutIsFated, EachFateMayBeLeft}
use Rattle.repo_disk.specs.Disks.{Leaves, Gives}
use Rattle.repo_disk.specs.Memory.{rank}
use Rattle.repo_disk.specs.declared.files.File.{File}
use Rattle.repo_disk.specs.declared.rooms.Room.{Room}
use Rattle.repo_disk.proofs.CellLemmas.{same_room}

-- whether two names in folders are one
abbrev at : Room → List ℕ → Room → List ℕ → Bool
at room name r n = (rank r == rank room) && pointwise nat_eq n name

at_one : (room : Room) (name : List ℕ) (r : Room) (n : List ℕ) → at room name r n ≡ true → (r ≡ room) × (n ≡ name)
at_one room name r n h =
    let e = first_so (rank r == rank room) (pointwise nat_eq n name) h in
    let f = second_so (rank r == rank room) (pointwise nat_eq n name) h in
    (same_room r room (eqb-true (rank r) (rank room) e), (bytes_decides n name).0 f)

at_self : (room : Room) (name : List ℕ) → at room name room name ≡ true
at_self room name = both_true (eq-eqb (rank room) (rank room) refl) ((bytes_decides name name).1 refl)

-- what a name leaves whose file is left whole
whole_left : (had : Option File) → Leaves had (option_map (λ (file : File). file.bytes) had)
whole_left None = refl
whole_left (Some file) = (file.bytes, refl, λ lasts. refl)

abbrev LeftAt : Seen → Fates → Room → List ℕ → Type 0
LeftAt s left r n = (r ≡ Room.Temporary) ⊎ (Leaves (s.now r n) (left r n) ⊎ IsOneOf (s.since r n) (left r n))

-- what may be left at a name where nothing changed
same_left : (old new : Seen) (left next : Option (List ℕ)) (r : Room) (n : List ℕ) → SameAt old new r n → next ≡ left
    → (r ≡ Room.Temporary) ⊎ (Leaves (new.now r n) next ⊎ IsOneOf (new.since r n) next) → (r ≡ Room.Temporary) ⊎ (Leaves (old.now r n) left ⊎ IsOneOf (old.since r n) left)
same_left old new left next r n (inl t) e may = inl t
same_left old new left next r n (inr same) e (inl t) = inl t
same_left old new left next r n (inr same) e (inr may) =
    let P : Option (List ℕ) → Type 0 = λ l. Leaves (old.now r n) l ⊎ IsOneOf (old.since r n) l in
    inr (subst P e (subst (λ had. Leaves had next ⊎ IsOneOf (old.since r n) next) same.0 (subst (λ hads. Leaves (new.now r n) next ⊎ IsOneOf hads next) same.1 may)))

back_at : (old new : Seen) (r : Room) (n : List ℕ) → SameAt old new r n → SameAt new old r n
back_at old new r n (inl t) = inl t
back_at old new r n (inr same) = inr (sym same.0, sym same.1)

-- ---- one call back: what its names come to after it is what they may come to before

module _ (room : Room) (name : List ℕ) (given : Option File) (old new : Seen) (left : Fates) (h : IsChanged room name given old new) (may : MayLeave new left) where
  -- what the name comes to before: what it has, where the change lasts; else what it comes to after
  abbrev pick : LeftAt new left room name → Option (List ℕ)
  pick (inl t) = left room name
  pick (inr (inl lasts)) = option_map (λ (file : File). file.bytes) (old.now room name)
  pick (inr (inr undone)) = left room name

  pick_left : (m : LeftAt new left room name) → (room ≡ Room.Temporary) ⊎ (Leaves (old.now room name) (pick m) ⊎ IsOneOf (old.since room name) (pick m))
  pick_left (inl t) = inl t
  pick_left (inr (inl lasts)) = inr (inl (whole_left (old.now room name)))
  pick_left (inr (inr undone)) = inr (subst (λ hads. IsOneOf hads (left room name)) h.before undone)

  pick_comes : (m : LeftAt new left room name) → (room ≡ Room.Temporary) ⊎ ((left room name ≡ pick m) ⊎ Leaves given (left room name))
  pick_comes (inl t) = inl t
  pick_comes (inr (inl lasts)) = inr (inr (subst (λ had. Leaves had (left room name)) h.here lasts))
  pick_comes (inr (inr undone)) = inr (inl refl)

  abbrev before : Fates
  before r n = cond (at room name r n) (pick (may room name)) (left r n)

  fates_here : before room name ≡ pick (may room name)
  fates_here = ap (λ b. cond b (pick (may room name)) (left room name)) (at_self room name)

  fates_apart : (r : Room) (n : List ℕ) → ((r ≡ room) × (n ≡ name)) ⊎ (left r n ≡ before r n)
  fates_apart r n = elim (cases_Bool (at room name r n)) [
    | inl e ↦ inl (at_one room name r n e)
    | inr e ↦ inr (sym (ap (λ b. cond b (pick (may room name)) (left r n)) e))
  ]

  change_may : MayLeave old before
  change_may r n = elim (fates_apart r n) [
    | inl p ↦ here_may p
    | inr same ↦ elim (h.others r n) [
      | inl p ↦ here_may p
      | inr unchanged ↦ same_left old new (before r n) (left r n) r n unchanged same (may r n)
    ]
  ] where
    here_may : (r ≡ room) × (n ≡ name) → LeftAt old before r n
    here_may p =
        let P : Option (List ℕ) → Type 0 = λ l. (room ≡ Room.Temporary) ⊎ (Leaves (old.now room name) l ⊎ IsOneOf (old.since room name) l) in
        subst (λ q. LeftAt old before q n) (sym p.0) (subst (λ m. LeftAt old before room m) (sym p.1) (subst P (sym fates_here) (pick_left (may room name))))

  change_fated : Gives room name given (with_fates old before) (with_fates new left)
  change_fated = record {
    here = h.here;
    comes = (
        let P : Option (List ℕ) → Type 0 = λ l. (room ≡ Room.Temporary) ⊎ ((left room name ≡ l) ⊎ Leaves given (left room name)) in
        subst P (sym fates_here) (pick_comes (may room name)));
    now = λ r n. elim (h.others r n) [ inl p ↦ inr (inl p) | inr s ↦ elim s [ inl t ↦ inl t | inr same ↦ inr (inr same.0) ] ];
    fate = λ r n. inr (fates_apart r n);
    lasting = h.lasting;
  }

-- a call back
back : (deed : Deed) (old new : Seen) (left : Fates) → Happens deed old new → MayLeave new left → (fates : Fates) × MayLeave old fates × IsFated deed (with_fates old fates) (with_fates new left)
back Deed.Drafts old new left h may = (
  left,
  (λ r n. same_left old new (left r n) (left r n) r n (h.0 r n) refl (may r n)),
  record {
    now = λ r n. elim (h.0 r n) [ inl t ↦ inl t | inr same ↦ inr same.0 ];
    fate = λ r n. inr refl;
    lasting = h.1;
  },
)
back (Deed.Changes room name given) old new left h may = (before room name given old new left h may, change_may room name given old new left h may, change_fated room name given old new left h may)
back (Deed.Makes room) old new left h may = (
  left,
  (λ r n. same_left old new (left r n) (left r n) r n (inr (ap (λ now. now r n) h.0, ap (λ since. since r n) h.1)) refl (may r n)),
  record { now = h.0; fate = refl; lasting = h.2 },
)
back (Deed.Syncs room) old new left h may = (
  left,
  stays,
  record { now = h.now; fate = refl; stays = h.stays; below = h.below; decided = decided },
)
  where
    decided : old.lasting room ≡ true → (n : List ℕ) → Leaves (old.now room n) (left room n)
    decided lasts n = elim (may room n) [
      | inl t ↦ absurd (h.kept t)
      | inr m ↦ elim m [
        | inl l ↦ subst (λ now. Leaves (now room n) (left room n)) h.now l
        | inr o ↦ absurd (subst (λ hads. IsOneOf hads (left room n)) (h.here lasts n) o)
      ]
    ]

    stays : MayLeave old left
    stays r n = elim (h.others r n) [
      | inl p ↦ inr (inl (subst (λ q. Leaves (old.now q n) (left q n)) (sym p.0) (decided p.1 n)))
      | inr same ↦ same_left old new (left r n) (left r n) r n (inr (ap (λ now. now r n) h.now, same)) refl (may r n)
    ]

pub each_cut : EachCutIsFated
each_cut [] old new left same may = (left, subst (λ s. MayLeave s left) same may, (same, refl))
each_cut (deed ∷ deeds) old new left run may =
    let later = each_cut deeds run.0 new left run.2 may in
    let now = back deed old run.0 later.0 run.1 later.1 in
    (now.0, now.1, (run.0, later.0, run.1, now.2, later.2))

-- ---- one call on: what its names come to after it may be left

on : (deed : Deed) (old new : Seen) (fates left : Fates) → MayLeave old fates → Happens deed old new → IsFated deed (with_fates old fates) (with_fates new left) → MayLeave new left
on Deed.Drafts old new fates left may h f r n = elim (f.fate r n) [
  | inl t ↦ inl t
  | inr same ↦ same_left new old (left r n) (fates r n) r n (back_at old new r n (h.0 r n)) (sym same) (may r n)
]
on (Deed.Changes room name given) old new fates left may h f r n = elim (h.others r n) [
  | inl p ↦ here p
  | inr unchanged ↦ elim (f.fate r n) [
    | inl t ↦ inl t
    | inr k ↦ elim k [
      | inl p ↦ here p
      | inr same ↦ same_left new old (left r n) (fates r n) r n (back_at old new r n unchanged) (sym same) (may r n)
    ]
  ]
] where
  there : LeftAt new left room name
  there = elim f.comes [
    | inl t ↦ inl t
    | inr k ↦ elim k [
      | inl same ↦ elim (may room name) [
        | inl t ↦ inl t
        | inr m ↦ inr (inr (subst (λ hads. IsOneOf hads (left room name)) (sym h.before) (subst (λ l. Leaves (old.now room name) l ⊎ IsOneOf (old.since room name) l) (sym same) m)))
      ]
      | inr leaves ↦ inr (inl (subst (λ had. Leaves had (left room name)) (sym h.here) leaves))
    ]
  ]

  here : (r ≡ room) × (n ≡ name) → LeftAt new left r n
  here p = subst (λ q. LeftAt new left q n) (sym p.0) (subst (λ m. LeftAt new left room m) (sym p.1) there)
on (Deed.Makes room) old new fates left may h f r n =
    same_left new old (left r n) (fates r n) r n (inr (sym (ap (λ now. now r n) h.0), sym (ap (λ since. since r n) h.1))) (sym (ap (λ fate. fate r n) f.fate)) (may r n)
on (Deed.Syncs room) old new fates left may h f r n = elim (h.others r n) [
  | inl p ↦ (
      let decided = f.decided p.1 n in
      let P : Option (List ℕ) → Type 0 = λ l. Leaves (old.now room n) l in
      let after = subst (λ now. Leaves (now room n) (left room n)) (sym h.now) (subst P (sym (ap (λ fate. fate room n) f.fate)) decided) in
      inr (inl (subst (λ q. Leaves (new.now q n) (left q n)) (sym p.0) after)))
  | inr same ↦ same_left new old (left r n) (fates r n) r n (inr (sym (ap (λ now. now r n) h.now), sym same)) (sym (ap (λ fate. fate r n) f.fate)) (may r n)
]

pub each_fate : EachFateMayBeLeft
each_fate [] old new first left may run = subst (λ s. MayLeave s left) (sym run.0) (subst (λ f. MayLeave old f) (sym run.1) may)
each_fate (deed ∷ deeds) old new first left may run = each_fate deeds run.0 new run.1 left (on deed old run.0 first run.1 may run.2 run.3) run.4
