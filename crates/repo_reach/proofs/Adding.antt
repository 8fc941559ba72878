-- What a tree that is added changes.
use Rattle.std.proofs.Common.{Vec, Global, ◌≡◌, ◌+◌, ◌⊎◌, ◌++◌, ◌∷◌, [], ℕ, Bool, List, Option, Some, None, length, refl, sym, ap, subst, inl, inr, ⊎_elim, ◌∙◌, Contains}
use Rattle.std.proofs.lemmas.List.Elements.{Contains-append_left, Contains-append_right, Contains-append_cases}
use Rattle.std.proofs.lemmas.Option.{none-some}
use Rattle.repo_name.specs.NameMaps.{found, Inserted}
use Rattle.repo_name.specs.Naming as naming
use Rattle.repo_name.specs.declared.names.Name.{Name}
use Rattle.repo_name.proofs.Containing.{contained_or, first_contained, none_contained}
use Rattle.repo_tree.specs.declared.nodes.Node.{Node}
use Rattle.repo_reach.specs.Joints.{SaysNext}
use Rattle.repo_reach.specs.Walks.{WasAt, IsLooked, IsMet, IsWalk, HasText, IsSeen, StandsAt, AreSeen, HaveMet, IsNewTree, HasRead, IsUnread, Adds, IsUnchanged}
use Rattle.repo_reach.specs.declared.joints.Joint.{Joint}
use Rattle.repo_reach.specs.declared.joints.Next.{Next}
use Rattle.repo_reach.specs.declared.links.Links.{Links}
use Rattle.repo_reach.specs.declared.looks.Seen.{Seen}
use Rattle.repo_reach.specs.declared.roots.Root.{Root}
use Rattle.repo_reach.specs.declared.trees.Trees.{Trees}
use Rattle.repo_reach.specs.declared.trees.Visit.{Visit}
use Rattle.repo_reach.proofs.Leading.{leads_on}
use Rattle.repo_reach.proofs.Rewinding.{got_left, got_last, got_or}

-- ---- more texts

abbrev Has : List (List ℕ) → List (List ℕ) → Type 0
Has texts more = (x : List ℕ) → Contains texts x → Contains more x

text_on : (texts more : List (List ℕ)) → Has texts more → (n : Name) (joint : Joint) (links : Option Links) → HasText texts n joint links → HasText more n joint links
text_on texts more has n joint None h = h
text_on texts more has n joint (Some links) h = (h.0, h.1, has h.0 h.2, h.3, h.4, h.5, h.6)

-- ---- one more tree

looked_left : (all : List Seen) (tree : Seen) (n : Name) (follows : Bool) (depth : ℕ) → IsLooked all n follows depth → IsLooked (all ++ tree ∷ []) n follows depth
looked_left all tree n follows depth l = (l.0, l.1, got_left all (tree ∷ []) l.0 l.1 l.2, l.3, l.4)

met_left : (all : List Seen) (tree : Seen) (waiting : List Visit) (n : Name) (follows : Bool) (depth : ℕ) → IsMet all waiting n follows depth → IsMet (all ++ tree ∷ []) waiting n follows depth
met_left all tree waiting n follows depth (inl l) = inl (looked_left all tree n follows depth l)
met_left all tree waiting n follows depth (inr h) = inr h

met_more : (texts more : List (List ℕ)) → Has texts more → (roots : List Root) (root : ℕ) (all : List Seen) (tree : Seen) (waiting : List Visit) → ((follows : Bool) (depth : ℕ) → ¬ WasAt tree follows depth) → HaveMet texts roots root all waiting → HaveMet more roots root (all ++ tree ∷ []) waiting
met_more texts more has roots root all tree waiting never h = record {
  begun = λ i r few there. looked_left all tree r.tree r.follows 0 (h.begun i r few there);
  below = λ i s links follows depth n there read was few among. met_left all tree waiting n follows (depth + 1) (⊎_elim (λ here. h.below i s links follows depth n here read was few among)
      (λ last. absurd (never follows depth (subst (λ z. WasAt z follows depth) (sym last.1) was))) (got_or all tree i s there));
  onward = λ i s follows depth n there goes was. ⊎_elim
      (λ here. (let o = h.onward i s follows depth n here goes was in ((o.0.0, o.0.1, got_left all (tree ∷ []) o.0.0 o.0.1 o.0.2, o.0.3), met_left all tree waiting n follows depth o.1)))
      (λ last. absurd (never follows depth (subst (λ z. WasAt z follows depth) (sym last.1) was))) (got_or all tree i s there);
  looked = λ i s follows depth there was. ⊎_elim (λ here. leads_on texts more has roots follows depth s.name (h.looked i s follows depth here was))
      (λ last. absurd (never follows depth (subst (λ z. WasAt z follows depth) (sym last.1) was))) (got_or all tree i s there);
  to_look = λ v among. let l = h.to_look v among in (leads_on texts more has roots v.follows v.depth v.tree l.0, l.1);
}

stands_more : (all : List Seen) (tree : Seen) (old new : Name → Option ℕ) → StandsAt all tree.name None → Inserted old tree.name (length all) new → (n : Name) → StandsAt all n (old n) → StandsAt (all ++ tree ∷ []) n (new n)
stands_more all tree old new none put n stands =
    let here : StandsAt (all ++ tree ∷ []) tree.name (new tree.name) = subst (λ o. StandsAt (all ++ tree ∷ []) tree.name o) (sym put.here)
    ((tree, got_last all tree, refl), λ i s there named. ⊎_elim (λ was. absurd (none i s was named)) (λ last. last.0) (got_or all tree i s there)) in
    ⊎_elim (λ is. subst (λ m. StandsAt (all ++ tree ∷ []) m (new m)) (sym is) here)
    (λ stays. subst (λ o. StandsAt (all ++ tree ∷ []) n o) (sym stays) (on n (old n) stands (λ is. (sym stays ∙ ap new (sym is) ∙ put.here)))) (put.others n)
  where
    on : (n : Name) (place : Option ℕ) → StandsAt all n place → (tree.name ≡ n → place ≡ Some (length all)) → StandsAt (all ++ tree ∷ []) n place
    on n None h last = λ i s there named. ⊎_elim (λ was. h i s was named) (λ e. none-some (length all) (last (ap (λ z. z.name) e.1 ∙ named))) (got_or all tree i s there)
    on n (Some at) h last = (
      (h.0.0, got_left all (tree ∷ []) at h.0.0 h.0.1, h.0.2),
      λ i s there named. ⊎_elim (λ was. h.1 i s was named)
          (λ e. absurd (none at h.0.0 h.0.1 (h.0.2 ∙ sym (ap (λ z. z.name) e.1 ∙ named)))) (got_or all tree i s there),
    )

seen_more : (texts more : List (List ℕ)) → Has texts more → (all : List Seen) (tree : Seen) → IsSeen more tree → ((x : List ℕ) → Contains more x → Contains texts x ⊎ (tree.name ≡ naming.name x))
    → ((x y : List ℕ) → Contains more x → Contains more y → naming.name x ≡ naming.name y → x ≡ y) → AreSeen texts all → AreSeen more (all ++ tree ∷ [])
seen_more texts more has all tree is came one h = record {
  each = λ i s there. ⊎_elim (λ was. (let e = h.each i s was in record { flags = e.flags; text = text_on texts more has s.name s.joint s.links e.text })) (λ last. subst (λ z. IsSeen more z) last.1 is) (got_or all tree i s there);
  known = λ x among. ⊎_elim (λ was. (let k = h.known x was in (k.0, k.1, got_left all (tree ∷ []) k.0 k.1 k.2, k.3))) (λ new. (length all, tree, got_last all tree, new)) (came x among);
  one = one;
}

pub added : (texts more : List (List ℕ)) → Has texts more → (c d : Trees) (tree : Seen) (n : Name) → IsWalk texts c → StandsAt c.seen.items n None → IsNewTree n tree → HasText more tree.name tree.joint tree.links → ((x : List ℕ) → Contains more x → Contains texts x ⊎ (tree.name ≡ naming.name x))
    → ((x y : List ℕ) → Contains more x → Contains more y → naming.name x ≡ naming.name y → x ≡ y) → Adds c tree d → IsWalk more d
added texts more has c d tree n w none new text came one adds =
    let absent : StandsAt c.seen.items tree.name None = subst (λ m. StandsAt c.seen.items m None) (sym new.name) none in
    let all : AreSeen more (c.seen.items ++ tree ∷ []) = seen_more texts more has c.seen.items tree (record { flags = new.flags; text = text }) came one w.seen in
    let met = met_more texts more has c.roots.items c.root c.seen.items tree c.waiting.items new.never w.met in
    let met' : HaveMet more c.roots.items c.root d.seen.items c.waiting.items = subst (λ ts. HaveMet more c.roots.items c.root ts c.waiting.items) (sym adds.seen) met in
    record {
      seen = subst (λ ts. AreSeen more ts) (sym adds.seen) all;
      places = λ m. subst (λ ts. StandsAt ts m (found d.places m)) (sym adds.seen) (stands_more c.seen.items tree (found c.places) (found d.places) absent adds.places m (w.places m));
      met = subst (λ (v : Vec Visit Global). HaveMet more d.roots.items d.root d.seen.items v.items) (sym adds.stand.waiting)
          (subst (λ r. HaveMet more d.roots.items r d.seen.items c.waiting.items) (sym adds.stand.root) (subst (λ (v : Vec Root Global). HaveMet more v.items c.root d.seen.items c.waiting.items) (sym adds.stand.roots) met'));
    }

pub added_none : (texts : List (List ℕ)) (c d : Trees) (tree : Seen) (n : Name) → IsWalk texts c → StandsAt c.seen.items n None → IsNewTree n tree → IsUnread tree → Adds c tree d → IsWalk texts d
added_none texts c d tree n w none new unread adds = added texts texts (λ x h. h) c d tree n w none new (subst (λ ls. HasText texts tree.name tree.joint ls) (sym unread.0) unread.1) (λ x h. inl h) w.seen.one adds

pub added_text : (texts : List (List ℕ)) (text : List ℕ) (nodes : List Node) (next : Next) (c d : Trees) (tree : Seen) (n : Name) → IsWalk texts c → StandsAt c.seen.items n None → naming.name text ≡ n → SaysNext text nodes next → IsNewTree n tree
    → HasRead nodes next tree → Adds c tree d → IsWalk (texts ++ text ∷ []) d
added_text texts text nodes next c d tree n w none named reads new read adds =
    let more = texts ++ text ∷ [] in
    let last : Contains more text = Contains-append_right texts (text ∷ []) text (first_contained text []) in
    let or : (x : List ℕ) → Contains more x → Contains texts x ⊎ (text ≡ x) = λ x h. ⊎_elim inl (λ g. ⊎_elim inr (λ e. absurd (none_contained x e)) (contained_or text [] x g)) (Contains-append_cases texts (text ∷ []) x h) in
    let fresh : (x : List ℕ) → Contains texts x → naming.name x ≡ naming.name text → ⊥ = λ x h same. (let k = w.seen.known x h in none k.0 k.1 k.2 (k.3 ∙ same ∙ named)) in
    added texts more (λ x h. Contains-append_left texts (text ∷ []) x h) c d tree n w none new
    (subst (λ ls. HasText more tree.name tree.joint ls) (sym read.1) (text, nodes, last, named ∙ sym new.name, subst (λ m. SaysNext text nodes m) (sym read.3.next_is) reads, read.3.ends, read.2))
    (λ x h. ⊎_elim inl (λ (is : text ≡ x). inr (new.name ∙ sym named ∙ ap naming.name is)) (or x h))
    (λ x y h g same. ⊎_elim (λ old. ⊎_elim (λ old'. w.seen.one x y old old' same) (λ (is : text ≡ y). absurd (fresh x old (same ∙ ap naming.name (sym is)))) (or y g))
    (λ (is : text ≡ x). ⊎_elim (λ old'. absurd (fresh y old' (sym same ∙ ap naming.name (sym is)))) (λ (is' : text ≡ y). sym is ∙ is') (or y g)) (or x h))
    adds

-- nothing changed
pub stayed : (texts : List (List ℕ)) (c d : Trees) → IsWalk texts c → IsUnchanged c d → IsWalk texts d
stayed texts c d w same = record {
  seen = subst (λ ts. AreSeen texts ts) (sym same.seen) w.seen;
  places = λ n. subst (λ ts. StandsAt ts n (found d.places n)) (sym same.seen) (subst (λ o. StandsAt c.seen.items n o) (sym (ap (λ f. f n) same.places)) (w.places n));
  met = subst (λ (v : Vec Visit Global). HaveMet texts d.roots.items d.root d.seen.items v.items) (sym same.stand.waiting)
      (subst (λ r. HaveMet texts d.roots.items r d.seen.items c.waiting.items) (sym same.stand.root) (subst (λ (v : Vec Root Global). HaveMet texts v.items c.root d.seen.items c.waiting.items) (sym same.stand.roots)
      (subst (λ ts. HaveMet texts c.roots.items c.root ts c.waiting.items) (sym same.seen) w.met)));
}
