-- What a look at a tree changes.
use Rattle.std.proofs.Common.{arith, leb, Vec, Global, suc, ◌≡◌, ◌<◌, ◌≤◌, ◌+◌, ◌⊎◌, ◌++◌, ◌∷◌, [], ℕ, Bool, List, Option, Some, None, map, reverse, slice_get, refl, sym, ap, subst, inl, inr, ⊎_elim, ◌∙◌, Contains}
use Rattle.std.proofs.lemmas.Bool.{cases_Bool, leb-true, leb-false}
use Rattle.std.proofs.lemmas.Grind.{reverse_onto}
use Rattle.std.proofs.lemmas.List.Elements.{Contains-append_left, Contains-append_right, Contains-append_cases}
use Rattle.std.proofs.lemmas.Option.{same_Some}
use Rattle.repo_name.specs.declared.names.Name.{Name}
use Rattle.repo_name.proofs.Containing.{contained_or, first_contained, later_contained, none_contained}
use Rattle.repo_name.specs.NameMaps.{found}
use Rattle.repo_tree.specs.Spelling.{greatest_depth}
use Rattle.repo_reach.specs.Collected.{tree_blobs, version_by, LeadsTo}
use Rattle.repo_reach.specs.Walks.{IsWalk, IsSameSeen, IsSameWalk, IsLooked, IsMet, IsSeen, StandsAt, AreSeen, HasSeen, HaveMet, AreSameTrees, Flags, Spreads, visit_at, named, links_by, next_by, trees_below}
use Rattle.repo_reach.specs.inner.Looking.{HasSeenNext}
use Rattle.repo_reach.specs.declared.links.Links.{Links}
use Rattle.repo_reach.specs.declared.looks.Seen.{Seen}
use Rattle.repo_reach.specs.declared.roots.Root.{Root}
use Rattle.repo_reach.specs.declared.trees.Trees.{Trees}
use Rattle.repo_reach.specs.declared.trees.Visit.{Visit}
use Rattle.repo_reach.proofs.Flagging.{same_tree}
use Rattle.repo_reach.proofs.Leading.{part_self}
use Rattle.repo_reach.proofs.Reading.{text_over, links_over, next_over, read_by, led_onward}

-- ---- lists turned round

reversed_or : {X : Type 0} (xs : List X) (y : X) → Contains (reverse xs) y → Contains xs y
reversed_or [] y h = h
reversed_or (x ∷ xs) y h = ⊎_elim (λ more. later_contained x xs y (reversed_or xs y more))
    (λ here. ⊎_elim (λ same. subst (λ z. Contains (x ∷ xs) z) same (first_contained x xs)) (λ none. absurd (none_contained y none)) (contained_or x [] y here))
    (Contains-append_cases (reverse xs) (x ∷ []) y (subst (λ zs. Contains zs y) (reverse_onto xs x []) h))

or_reversed : {X : Type 0} (xs : List X) (y : X) → Contains xs y → Contains (reverse xs) y
or_reversed [] y h = h
or_reversed (x ∷ xs) y h = subst (λ zs. Contains zs y) (sym (reverse_onto xs x [])) (⊎_elim
    (λ same. Contains-append_right (reverse xs) (x ∷ []) y (subst (λ z. Contains (x ∷ []) z) same (first_contained x [])))
    (λ more. Contains-append_left (reverse xs) (x ∷ []) y (or_reversed xs y more)) (contained_or x xs y h))

visited : (trees : List Name) (follows : Bool) (depth : ℕ) (v : Visit) → Contains (map (visit_at follows depth) trees) v → Contains trees v.tree × (v.depth ≡ depth) × (v.follows ≡ follows)
visited [] follows depth v h = absurd (none_contained v h)
visited (n ∷ trees) follows depth v h = ⊎_elim
    (λ same. (subst (λ (w : Visit). Contains (n ∷ trees) w.tree) same (first_contained n trees), sym (ap (λ (w : Visit). w.depth) same), sym (ap (λ (w : Visit). w.follows) same)))
    (λ more. (let found = visited trees follows depth v more in (later_contained n trees v.tree found.0, found.1, found.2)))
    (contained_or (visit_at follows depth n) (map (visit_at follows depth) trees) v h)

to_visit : (trees : List Name) (follows : Bool) (depth : ℕ) (n : Name) → Contains trees n → Contains (map (visit_at follows depth) trees) (visit_at follows depth n)
to_visit [] follows depth n h = absurd (none_contained n h)
to_visit (m ∷ trees) follows depth n h = ⊎_elim
    (λ same. subst (λ (k : Name). Contains (map (visit_at follows depth) (m ∷ trees)) (visit_at follows depth k)) same (first_contained (visit_at follows depth m) (map (visit_at follows depth) trees)))
    (λ more. later_contained (visit_at follows depth m) (map (visit_at follows depth) trees) (visit_at follows depth n) (to_visit trees follows depth n more)) (contained_or m trees n h)

is_named : (o : Option Name) (n : Name) → Contains (named o) n → o ≡ Some n
is_named None n h = absurd (none_contained n h)
is_named (Some m) n h = ⊎_elim (λ same. ap (λ k. Some k) same) (λ none. absurd (none_contained n none)) (contained_or m [] n h)

has_named : (o : Option Name) (n : Name) → o ≡ Some n → Contains (named o) n
has_named o n is = subst (λ p. Contains (named p) n) (sym is) (first_contained n [])

-- ---- the trees stay

pub same_of : (old : List Seen) (at : ℕ) (follows : Bool) (depth : ℕ) (new : List Seen) → Flags old at follows depth new → AreSameTrees old new
same_of old at follows depth new f = record {
  back = λ i s h. let b = f.back i s h in (b.0, b.1, b.2);
  on = λ i s h. let a = f.on i s h in (a.0, a.1, a.2);
}

pub seen_on : (texts : List (List ℕ)) (old new : List Seen) → AreSameTrees old new → AreSeen texts old → AreSeen texts new
seen_on texts old new same h = record {
  each = λ i s there.
      let b = same.back i s there in
      let is = h.each i b.0 b.1 in
      record { flags = λ f. b.2.flags f ∙ is.flags f; text = text_over texts b.0 s b.2 is.text };
  known = λ x among. let k = h.known x among in let a = same.on k.0 k.1 k.2 in (k.0, a.0, a.1, a.2.name ∙ k.3);
  one = h.one;
}

pub stands_on : (old new : List Seen) (n : Name) (place : Option ℕ) → AreSameTrees old new → StandsAt old n place → StandsAt new n place
stands_on old new n None same h = λ i s there named. let b = same.back i s there in h i b.0 b.1 (sym b.2.name ∙ named)
stands_on old new n (Some at) same h =
    let a = same.on at h.0.0 h.0.1 in
    ((a.0, a.1, a.2.name ∙ h.0.2), λ i s there named. let b = same.back i s there in h.1 i b.0 b.1 (sym b.2.name ∙ named))

pub seen_still : (old new : List Seen) (n : Name) → AreSameTrees old new → HasSeen old n → HasSeen new n
seen_still old new n same h = let a = same.on h.0 h.1 h.2 in (h.0, a.0, a.1, a.2.name ∙ h.3)

-- ---- what was met

module _ (texts : List (List ℕ)) (roots : List Root) (root : ℕ) (old new : List Seen) (before now : List Visit) (at : ℕ) (follows : Bool) (depth : ℕ) (seen : Seen) (there : slice_get old at ≡ Some seen) (is : IsSeen texts seen)
    (led : LeadsTo texts roots follows depth seen.name) (within : depth ≤ greatest_depth) (next_seen : HasSeenNext old seen follows) (flags : Flags old at follows depth new) (spread : Spreads seen follows depth before now) (met : HaveMet texts roots root old before) where
  abbrev due : List Visit
  due = spread.0

  -- those below, and the one in which it goes on
  abbrev lower : List Visit
  lower = map (visit_at follows (depth + 1)) spread.1.trees

  abbrev onward : List Visit
  onward = map (visit_at follows depth) (named (next_by follows seen))

  looked_on : (t : Name) (f : Bool) (d : ℕ) → IsLooked old t f d → IsLooked new t f d
  looked_on t f d l = let a = flags.on l.0 l.1 l.2 in (l.0, a.0, a.1, a.2.name ∙ l.3, a.3 f d l.4)

  -- what waited waits, and so does what is due
  waits_on : (v : Visit) → Contains before v → Contains now v
  waits_on v h = subst (λ vs. Contains vs v) (sym spread.2) (Contains-append_left before due v h)

  due_waits : (v : Visit) → Contains (lower ++ onward) v → Contains now v
  due_waits v h = subst (λ vs. Contains vs v) (sym spread.2) (Contains-append_right before due v (subst (λ vs. Contains vs v) (sym spread.1.turned) (or_reversed (lower ++ onward) v h)))

  below_waits : depth < greatest_depth → (n : Name) → Contains (trees_below (links_by follows seen)) n → Contains now (visit_at follows (depth + 1) n)
  below_waits few n among = due_waits (visit_at follows (depth + 1) n)
      (Contains-append_left lower onward (visit_at follows (depth + 1) n) (to_visit spread.1.trees follows (depth + 1) n (subst (λ ts. Contains ts n) (sym (spread.1.are_below.0 few)) among)))

  onward_waits : (n : Name) → next_by follows seen ≡ Some n → Contains now (visit_at follows depth n)
  onward_waits n goes = due_waits (visit_at follows depth n) (Contains-append_right lower onward (visit_at follows depth n) (to_visit (named (next_by follows seen)) follows depth n (has_named (next_by follows seen) n goes)))

  -- what waits now, and why
  abbrev IsBelow : Visit → Type 0
  IsBelow v = (depth < greatest_depth) × Contains (trees_below (links_by follows seen)) v.tree × (v.depth ≡ depth + 1) × (v.follows ≡ follows)

  abbrev IsOnward : Visit → Type 0
  IsOnward v = (next_by follows seen ≡ Some v.tree) × (v.depth ≡ depth) × (v.follows ≡ follows)

  is_below : (v : Visit) → Contains lower v → IsBelow v
  is_below v h =
      let found = visited spread.1.trees follows (depth + 1) v h in
      elim (cases_Bool (leb (depth + 1) greatest_depth)) [
        | inl e ↦
            let few : depth < greatest_depth = let w : depth + 1 ≤ greatest_depth = leb-true (depth + 1) greatest_depth e in omega (arith, w) in
            (few, subst (λ ts. Contains ts v.tree) (spread.1.are_below.0 few) found.0, found.1, found.2)
        | inr e ↦
            let many : greatest_depth ≤ depth = let w : greatest_depth < depth + 1 = leb-false (depth + 1) greatest_depth e in omega (arith, w) in
            absurd (none_contained v.tree (subst (λ ts. Contains ts v.tree) (spread.1.are_below.1 many) found.0))
      ]

  is_onward : (v : Visit) → Contains onward v → IsOnward v
  is_onward v h = let found = visited (named (next_by follows seen)) follows depth v h in (is_named (next_by follows seen) v.tree found.0, found.1, found.2)

  came : (v : Visit) → Contains now v → Contains before v ⊎ (IsBelow v ⊎ IsOnward v)
  came v h = ⊎_elim (λ a. inl a)
      (λ b. inr (⊎_elim (λ l. inl (is_below v l)) (λ o. inr (is_onward v o)) (Contains-append_cases lower onward v (reversed_or (lower ++ onward) v (subst (λ vs. Contains vs v) spread.1.turned b)))))
      (Contains-append_cases before due v (subst (λ vs. Contains vs v) spread.2 h))

  met_on : (t : Name) (f : Bool) (d : ℕ) → IsMet old before t f d → IsMet new now t f d
  met_on t f d (inl l) = inl (looked_on t f d l)
  met_on t f d (inr w) = inr (waits_on (visit_at f d t) w)

  led_below : (n : Name) (links : Option Links) → links_by follows seen ≡ links → Contains (trees_below links) n → LeadsTo texts roots follows (suc depth) n
  led_below n None read among = absurd (none_contained n among)
  led_below n (Some links) read among =
      let r = read_by texts follows seen links is.text read in
      (seen.name, r.nodes, n, led, r.lists, subst (λ ns. Contains ns n) r.lead.trees among, part_self (version_by follows) (tree_blobs texts) n)

  -- a visit in the same way as this look
  led_as : (v : Visit) (d : ℕ) → LeadsTo texts roots follows d v.tree → v.depth ≡ d → v.follows ≡ follows → LeadsTo texts roots v.follows v.depth v.tree
  led_as v d l deep same = subst (λ f. LeadsTo texts roots f v.depth v.tree) (sym same) (subst (λ e. LeadsTo texts roots follows e v.tree) (sym deep) l)

  one_of : (i : ℕ) (b : Seen) → slice_get old i ≡ Some b → i ≡ at → b ≡ seen
  one_of i b here same = same_Some b seen (sym here ∙ ap (λ j. slice_get old j) same ∙ there)

  pub looked_at : HaveMet texts roots root new now
  looked_at = record {
    begun = λ i r few h. looked_on r.tree r.follows 0 (met.begun i r few h);
    below = λ i s links f d n h read was few among.
        let b = flags.back i s h in
        let read' : links_by f b.0 ≡ Some links = sym (links_over b.0 s f b.2) ∙ read in
        ⊎_elim (λ old'. met_on n f (d + 1) (met.below i b.0 links f d n b.1 read' old' few among))
        (λ here.
        let same : links_by follows seen ≡ Some links = ap (λ (z : Seen). links_by follows z) (sym (one_of i b.0 b.1 here.0)) ∙ ap (λ g. links_by g b.0) (sym here.1) ∙ read' in
        let waits : Contains now (visit_at follows (depth + 1) n) = below_waits (subst (λ e. e < greatest_depth) here.2 few) n (subst (λ ls. Contains (trees_below ls) n) (sym same) among) in
        inr (subst (λ g. Contains now (visit_at g (d + 1) n)) (sym here.1) (subst (λ e. Contains now (visit_at follows (e + 1) n)) (sym here.2) waits))) (b.3 f d was);
    onward = λ i s f d n h goes was.
        let b = flags.back i s h in
        let goes' : next_by f b.0 ≡ Some n = sym (next_over b.0 s f b.2) ∙ goes in
        ⊎_elim (λ old'. (let o = met.onward i b.0 f d n b.1 goes' old' in (seen_still old new n (same_of old at follows depth new flags) o.0, met_on n f d o.1)))
        (λ here.
        let same : next_by follows seen ≡ Some n = ap (λ (z : Seen). next_by follows z) (sym (one_of i b.0 b.1 here.0)) ∙ ap (λ g. next_by g b.0) (sym here.1) ∙ goes' in (
          seen_still old new n (same_of old at follows depth new flags) (next_seen n same),
          inr (subst (λ g. Contains now (visit_at g d n)) (sym here.1) (subst (λ e. Contains now (visit_at follows e n)) (sym here.2) (onward_waits n same))),
        )) (b.3 f d was);
    looked = λ i s f d h was.
        let b = flags.back i s h in
        subst (λ n. LeadsTo texts roots f d n) (sym b.2.name) (⊎_elim (λ old'. met.looked i b.0 f d b.1 old')
        (λ here. subst (λ g. LeadsTo texts roots g d b.0.name) (sym here.1) (subst (λ e. LeadsTo texts roots follows e b.0.name) (sym here.2) (subst (λ (z : Seen). LeadsTo texts roots follows depth z.name) (sym (one_of i b.0 b.1 here.0)) led))) (b.3 f d was));
    to_look = λ v h. ⊎_elim (λ old'. met.to_look v old')
        (λ new'. ⊎_elim
        (λ l. (let few = l.0 in let deep = l.2 in (led_as v (suc depth) (led_below v.tree (links_by follows seen) refl l.1) (omega (arith, deep)) l.3, omega (arith, deep, few))))
        (λ o. (let deep = o.1 in (led_as v depth (led_onward texts roots follows depth seen v.tree is.text o.0 led) deep o.2, omega (arith, deep, within)))) new') (came v h);
  }

-- ---- over the code's own type

pub all_same : (all : List Seen) → AreSameTrees all all
all_same all = record { back = λ i s h. (s, h, same_tree s); on = λ i s h. (s, h, same_tree s) }

pub unlooked_same : (c d : Trees) → IsSameSeen c d → IsSameWalk c d
unlooked_same c d same = record { trees = subst (λ v. AreSameTrees c.seen.items v) (sym (ap (λ v. v.items) same.seen)) (all_same c.seen.items); places = same.places; roots = same.roots }

pub walk_looked : (texts : List (List ℕ)) (c d : Trees) (seen : Seen) (at : ℕ) (follows : Bool) (depth : ℕ) → IsWalk texts c → slice_get c.seen.items at ≡ Some seen → LeadsTo texts c.roots.items follows depth seen.name → depth ≤ greatest_depth
    → HasSeenNext c.seen.items seen follows → Flags c.seen.items at follows depth d.seen.items → Spreads seen follows depth c.waiting.items d.waiting.items → d.places ≡ c.places → d.roots ≡ c.roots → d.root ≡ c.root → IsWalk texts d
walk_looked texts c d seen at follows depth w there led within next_seen flags spread places roots root =
    let same = same_of c.seen.items at follows depth d.seen.items flags in
    let met = looked_at texts c.roots.items c.root c.seen.items d.seen.items c.waiting.items d.waiting.items at follows depth seen there (w.seen.each at seen there) led within next_seen flags spread w.met in
    record {
      seen = seen_on texts c.seen.items d.seen.items same w.seen;
      places = λ n. stands_on c.seen.items d.seen.items n (found d.places n) same (subst (λ p. StandsAt c.seen.items n (found p n)) (sym places) (w.places n));
      met = subst (λ r. HaveMet texts d.roots.items r d.seen.items d.waiting.items) (sym root) (subst (λ (v : Vec Root Global). HaveMet texts v.items c.root d.seen.items d.waiting.items) (sym roots) met);
    }
