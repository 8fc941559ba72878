-- What is known of the trees that were looked at.
use Rattle.std.proofs.Common.{arith, leb, not, true, false, IsTrue, IsFalse, Vec, Global, ◌≡◌, ◌<◌, ◌≤◌, ◌+◌, ◌⊎◌, ◌++◌, ◌∷◌, [], ℕ, Bool, List, Some, Result, Ok, Err, OnOk, OnErr, slice_get, refl, sym, ap, subst, inl, inr, ⊎_elim, ◌∙◌, Contains}
use Rattle.std.proofs.lemmas.Bool.{cases_Bool, leb-true, leb-false}
use Rattle.std.proofs.lemmas.List.Elements.{Contains-append_left, Contains-append_right, Contains-append_cases}
use Rattle.std.proofs.lemmas.Option.{same_Some}
use Rattle.repo_name.specs.NameMaps.{found}
use Rattle.repo_name.specs.declared.names.Name.{Name}
use Rattle.repo_name.proofs.Containing.{contained_or, contains_got, first_contained, none_contained}
use Rattle.repo_tree.specs.Spelling.{greatest_depth}
use Rattle.repo_reach.specs.Collected.{tree_blobs, version_by, LeadsTo}
use Rattle.repo_reach.specs.Walks.{visit_at, WasAt, IsLooked, IsMet, StandsAt, AreSeen, HaveMet, IsWalk, IsVisitDue, IsSameSeen}
use Rattle.repo_reach.specs.inner.Looking.{IsRootVisit}
use Rattle.repo_reach.specs.declared.roots.Root.{Root}
use Rattle.repo_reach.specs.declared.trees.Trees.{Trees}
use Rattle.repo_reach.proofs.Leading.{part_self}
use Rattle.repo_reach.specs.declared.looks.Seen.{Seen}
use Rattle.repo_reach.specs.declared.trees.Visit.{Visit}

pub below_or : (i n : ℕ) → i < n + 1 → (i < n) ⊎ (i ≡ n)
below_or i n h = elim (cases_Bool (leb (i + 1) n)) [
  | inl e ↦ let w : i + 1 ≤ n = leb-true (i + 1) n e in inl (omega (arith, w))
  | inr e ↦ let w : n < i + 1 = leb-false (i + 1) n e in inr (omega (arith, w, h))
]

-- where a tree stands decides whether it was
pub looked_there : (all : List Seen) (t : Name) (at : ℕ) (follows : Bool) (depth : ℕ) (seen : Seen) → StandsAt all t (Some at) → slice_get all at ≡ Some seen → IsLooked all t follows depth → WasAt seen follows depth
looked_there all t at follows depth seen stands there l =
    let same : l.0 ≡ at = stands.1 l.0 l.1 l.2 l.3 in
    let one : l.1 ≡ seen = same_Some l.1 seen (sym l.2 ∙ ap (λ i. slice_get all i) same ∙ there) in
    subst (λ s. WasAt s follows depth) one l.4

-- what was met stays met where one that was looked at waits no longer
met_without : (all : List Seen) (rest : List Visit) (v : Visit) (t : Name) (follows : Bool) (depth : ℕ) → IsLooked all v.tree v.follows v.depth → IsMet all (rest ++ v ∷ []) t follows depth → IsMet all rest t follows depth
met_without all rest v t follows depth looked (inl h) = inl h
met_without all rest v t follows depth looked (inr h) = ⊎_elim inr (λ here. ⊎_elim
    (λ (same : v ≡ visit_at follows depth t). inl (subst (λ (w : Visit). IsLooked all w.tree w.follows w.depth) same looked))
    (λ none. absurd (none_contained (visit_at follows depth t) none)) (contained_or v [] (visit_at follows depth t) here))
    (Contains-append_cases rest (v ∷ []) (visit_at follows depth t) h)

pub popped : (texts : List (List ℕ)) (roots : List Root) (root : ℕ) (all : List Seen) (rest : List Visit) (v : Visit) → IsLooked all v.tree v.follows v.depth → HaveMet texts roots root all (rest ++ v ∷ []) → HaveMet texts roots root all rest
popped texts roots root all rest v looked h = record {
  begun = h.begun;
  below = λ i seen links follows depth n there links_are was few among. met_without all rest v n follows (depth + 1) looked (h.below i seen links follows depth n there links_are was few among);
  onward = λ i seen follows depth n there goes was. let o = h.onward i seen follows depth n there goes was in (o.0, met_without all rest v n follows depth looked o.1);
  looked = h.looked;
  to_look = λ w among. h.to_look w (Contains-append_left rest (v ∷ []) w among);
}

-- one root more was looked at
pub counted : (texts : List (List ℕ)) (roots : List Root) (root : ℕ) (all : List Seen) (waiting : List Visit) (r : Root) → slice_get roots root ≡ Some r → IsLooked all r.tree r.follows 0 → HaveMet texts roots root all waiting → HaveMet texts roots (root + 1) all waiting
counted texts roots root all waiting r there looked h = record {
  begun = λ i m few is. ⊎_elim (λ (less : i < root). h.begun i m less is)
      (λ (same : i ≡ root). subst (λ (k : Root). IsLooked all k.tree k.follows 0) (same_Some r m (sym there ∙ ap (λ j. slice_get roots j) (sym same) ∙ is)) looked) (below_or i root few);
  below = h.below;
  onward = h.onward;
  looked = h.looked;
  to_look = h.to_look;
}

-- ---- over the code's own type

-- what is next of a walk
pub root_due : (texts : List (List ℕ)) (c : Trees) (visit : Visit) → IsRootVisit c visit → ¬ IsLooked c.seen.items visit.tree visit.follows visit.depth → IsVisitDue texts c visit
root_due texts c visit next fresh =
    let top = next.depth in
    record {
      leads = subst (λ d. LeadsTo texts c.roots.items visit.follows d visit.tree) (sym top)
          (visit.tree, contains_got c.roots.items c.root (record { tree = visit.tree; follows = visit.follows }) next.next, part_self (version_by visit.follows) (tree_blobs texts) visit.tree);
      within = omega (arith, top);
      fresh = fresh;
    }

pub waiting_due : (texts : List (List ℕ)) (c : Trees) (rest : List Visit) (visit : Visit) → IsWalk texts c → c.waiting.items ≡ rest ++ visit ∷ [] → ¬ IsLooked c.seen.items visit.tree visit.follows visit.depth → IsVisitDue texts c visit
waiting_due texts c rest visit w last fresh =
    let among : Contains c.waiting.items visit = subst (λ vs. Contains vs visit) (sym last) (Contains-append_right rest (visit ∷ []) visit (first_contained visit [])) in
    let due = w.met.to_look visit among in
    record { leads = due.0; within = due.1; fresh = fresh }

pub waits_within : (texts : List (List ℕ)) (c : Trees) (rest : List Visit) (visit : Visit) → IsWalk texts c → c.waiting.items ≡ rest ++ visit ∷ [] → visit.depth ≤ greatest_depth
waits_within texts c rest visit w last =
    let among : Contains c.waiting.items visit = subst (λ vs. Contains vs visit) (sym last) (Contains-append_right rest (visit ∷ []) visit (first_contained visit [])) in
    (w.met.to_look visit among).1

-- one that was looked at waits no longer
pub walk_popped : (texts : List (List ℕ)) (c d : Trees) (rest : List Visit) (visit : Visit) → IsWalk texts c → c.waiting.items ≡ rest ++ visit ∷ [] → IsLooked c.seen.items visit.tree visit.follows visit.depth → IsSameSeen c d → d.root ≡ c.root → d.waiting.items ≡ rest
    → IsWalk texts d
walk_popped texts c d rest visit w last looked same root now =
    let met = popped texts c.roots.items c.root c.seen.items rest visit looked (subst (λ vs. HaveMet texts c.roots.items c.root c.seen.items vs) last w.met) in
    let seen : d.seen.items ≡ c.seen.items = ap (λ v. v.items) same.seen in
    record {
      seen = subst (λ all. AreSeen texts all) (sym seen) w.seen;
      places = λ n. subst (λ all. StandsAt all n (found d.places n)) (sym seen) (subst (λ p. StandsAt c.seen.items n (found p n)) (sym same.places) (w.places n));
      met = subst (λ vs. HaveMet texts d.roots.items d.root d.seen.items vs) (sym now)
          (subst (λ all. HaveMet texts d.roots.items d.root all rest) (sym seen) (subst (λ r. HaveMet texts d.roots.items r c.seen.items rest) (sym root) (subst (λ (v : Vec Root Global). HaveMet texts v.items c.root c.seen.items rest) (sym same.roots) met)));
    }

pub not_bare : (b : Bool) → IsTrue (not b) → b ≡ false
not_bare true h = absurd (cc)
not_bare false h = refl

pub bare_not : (b : Bool) → b ≡ false → IsTrue (not b)
bare_not true h = absurd (cc)
bare_not false h = cc

pub is_unset : (b : Bool) → IsFalse b → b ≡ false
is_unset true h = absurd (cc)
is_unset false h = refl

pub is_no : (b : Bool) → b ≡ false → IsFalse b
is_no true h = absurd (cc)
is_no false h = cc

pub on_ok : {T E A B : Type 0} (r : Result T E) → (A → B) → OnOk r A → OnOk r B
on_ok (Ok x) f h = f h
on_ok (Err e) f h = h

pub on_err : {T E A B : Type 0} (r : Result T E) → (A → B) → OnErr r A → OnErr r B
on_err (Ok x) f h = h
on_err (Err e) f h = f h

pub any_err : {T E A : Type 0} (r : Result T E) → A → OnErr r A
any_err (Ok x) h = tt
any_err (Err e) h = h
