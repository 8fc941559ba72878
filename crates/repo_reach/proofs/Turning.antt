-- What comes next of a walk.
use Rattle.std.proofs.Common.{arith, not, ◌≡◌, ◌≢◌, ◌≤◌, ◌⊎◌, inl, inr, ⊎_elim, [], ℕ, Bool, false, true, List, Option, Some, None, IfSome, slice_get, refl, sym, ap, subst, ◌∙◌}
use Rattle.std.proofs.lemmas.Option.{same_Some, none-some}
use Rattle.repo_name.specs.NameMaps.{found}
use Rattle.repo_name.specs.declared.names.Name.{Name}
use Rattle.repo_tree.specs.Parts.{IsPart}
use Rattle.repo_tree.specs.Spelling.{greatest_depth}
use Rattle.repo_tree.specs.declared.nodes.Node.{Node}
use Rattle.repo_reach.specs.Breaking.{IsTooLow, IsMisplaced, IsBroken}
use Rattle.repo_reach.specs.Collected.{tree_blobs, LeadsTo}
use Rattle.repo_reach.specs.Joints.{MayFollow}
use Rattle.repo_reach.specs.Links.{LeadTo}
use Rattle.repo_reach.specs.inner.Looking.{BreaksAt, FindsWrong, FindsBroken}
use Rattle.repo_reach.specs.Walks.{StandsAt, IsWalk, IsVisitDue, IsLedTo, HasText, HasSeen, links_by, next_by, IsTooDeep, BreaksHere, GoesWrong, Breaks}
use Rattle.repo_reach.specs.declared.links.Links.{Links}
use Rattle.repo_reach.specs.declared.looks.Seen.{Seen}
use Rattle.repo_reach.specs.declared.trees.Trees.{Trees}
use Rattle.repo_reach.specs.declared.trees.Visit.{Visit}
use Rattle.repo_reach.proofs.Reading.{read_by, goes_on_to, led_onward, malformed_text, wrong_order}

-- where a tree was found
pub there : (texts : List (List ℕ)) (c : Trees) (n : Name) (at : ℕ) → IsWalk texts c → found c.places n ≡ Some at → (seen : Seen) × (slice_get c.seen.items at ≡ Some seen) × (seen.name ≡ n)
there texts c n at w is = let stands : StandsAt c.seen.items n (Some at) = subst (λ o. StandsAt c.seen.items n o) is (w.places n) in stands.0

pub absent : (texts : List (List ℕ)) (c : Trees) (n : Name) → IsWalk texts c → found c.places n ≡ None → StandsAt c.seen.items n None
absent texts c n w is = subst (λ o. StandsAt c.seen.items n o) is (w.places n)

pub led : (texts : List (List ℕ)) (c : Trees) (visit : Visit) → IsVisitDue texts c visit → IsLedTo texts c.roots.items visit.tree
led texts c visit due = (visit.follows, visit.depth, due.within, due.leads)

-- ---- what breaks where a tree is looked at

module _ (texts : List (List ℕ)) (c : Trees) (w : IsWalk texts c) (at : ℕ) (seen : Seen) (here : slice_get c.seen.items at ≡ Some seen) (follows : Bool) (depth : ℕ) (leads : LeadsTo texts c.roots.items follows depth seen.name) (within : depth ≤ greatest_depth) where
  text : HasText texts seen.name seen.joint seen.links
  text = (w.seen.each at seen here).text

  -- it leads on
  pub led_next : (n : Name) → next_by follows seen ≡ Some n → IsLedTo texts c.roots.items n
  led_next n goes = (follows, depth, within, led_onward texts c.roots.items follows depth seen n text goes leads)

  some_nodes : (links : Links) (nodes : List Node) → LeadTo nodes links → links.is_bare ≡ false → nodes ≢ []
  some_nodes links nodes lead bare none = let yes = lead.bare.1 none in absurd (cc)

  too_low : IsTooDeep seen follows depth → IsTooLow texts c.roots.items seen.name
  too_low deep =
      let far = deep.0 in
      let same : depth ≡ greatest_depth = omega (arith, within, far) in
      let r = read_by texts follows seen deep.1 text deep.2 in
      record { follows = follows; nodes = r.nodes; leads = subst (λ d. LeadsTo texts c.roots.items follows d seen.name) same leads; lists = r.lists; some = some_nodes deep.1 r.nodes r.lead deep.3 }

  as_part : follows ≡ true → LeadsTo texts c.roots.items true depth seen.name
  as_part is = subst (λ f. LeadsTo texts c.roots.items f depth seen.name) is leads

  misplaced : follows ≡ true → (n : Name) → GoesWrong c.seen.items seen n → IsMisplaced texts c.roots.items n
  misplaced is n g =
      let before = goes_on_to texts seen.name seen.joint seen.links n text g.onward in
      let r = read_by texts true g.behind g.links (w.seen.each g.place g.behind g.there).text g.read in
      record {
        depth = depth;
        within = within;
        part = seen.name;
        nodes = before.nodes;
        behind = r.nodes;
        next = r.lists.0;
        leads = as_part is;
        before = before.part;
        after = subst (λ m. IsPart (tree_blobs texts) m r.nodes r.lists.0) g.called r.lists.1;
        wrong = wrong_order before.nodes r.nodes seen.joint.ends g.behind.joint.ends before.ends r.ends g.wrong;
      }

  pub is_broken : (n : Name) → Breaks c.seen.items seen follows depth n → IsBroken texts c.roots.items n
  is_broken n (inl (inl deep, named)) = subst (λ m. IsBroken texts c.roots.items m) named (inl (too_low deep))
  is_broken n (inl (inr malformed, named)) =
      let t = malformed_text texts seen.name seen.joint seen.links text malformed.1 in
      subst (λ m. IsBroken texts c.roots.items m) named (inr (inl (record { depth = depth; within = within; leads = as_part malformed.0; text = t.0; among = t.1; called = t.2; no_part = t.3 })))
  is_broken n (inr (fine, is, wrong)) = inr (inr (misplaced is n wrong))

-- ---- the part behind

some_links : (o : Option Links) → ¬ (o ≡ None) → (l : Links) × (o ≡ Some l)
some_links None h = absurd (h refl)
some_links (Some l) h = (l, refl)

module _ (texts : List (List ℕ)) (c : Trees) (w : IsWalk texts c) (seen : Seen) (m : Name) (goes : next_by true seen ≡ Some m) (behind : ℕ) (is : found c.places m ≡ Some behind) where
  stands : StandsAt c.seen.items m (Some behind)
  stands = subst (λ o. StandsAt c.seen.items m o) is (w.places m)

  pub not_wrong : ((after : Seen) → slice_get c.seen.items behind ≡ Some after → (links_by true after ≡ None) ⊎ MayFollow seen.joint.ends after.joint.ends) → (n : Name) → GoesWrong c.seen.items seen n → ⊥
  not_wrong fine n g =
      let same : m ≡ n = same_Some m n (sym goes ∙ g.onward) in
      let place : g.place ≡ behind = stands.1 g.place g.behind g.there (g.called ∙ sym same) in
      ⊎_elim (λ none. none-some g.links (sym none ∙ g.read)) g.wrong (fine g.behind (ap (λ i. slice_get c.seen.items i) (sym place) ∙ g.there))

  pub wrong : ((after : Seen) → slice_get c.seen.items behind ≡ Some after → ¬ ((links_by true after ≡ None) ⊎ MayFollow seen.joint.ends after.joint.ends)) → GoesWrong c.seen.items seen m
  wrong bad =
      let after = stands.0.0 in
      let links = some_links (links_by true after) (λ none. bad after stands.0.1 (inl none)) in
      record { onward = goes; place = behind; behind = after; there = stands.0.1; called = stands.0.2; links = links.0; read = links.1; wrong = λ may. bad after stands.0.1 (inr may) }

-- the tree of a name that stands somewhere was seen
pub has_seen : (texts : List (List ℕ)) (c : Trees) → IsWalk texts c → (n : Name) (at : ℕ) → found c.places n ≡ Some at → HasSeen c.seen.items n
has_seen texts c w n at is = let here = there texts c n at w is in (at, here.0, here.1, here.2)

-- what breaks where a tree doesn't by itself
pub finds : (c : Trees) (at : ℕ) (visit : Visit) (r : Option Name) → visit.follows ≡ true → ((seen : Seen) → slice_get c.seen.items at ≡ Some seen → ¬ BreaksHere seen visit.follows visit.depth) → FindsWrong c at r → FindsBroken c at visit r
finds c at visit None follows fine none = λ texts seen n w here breaks. ⊎_elim (λ h. fine seen here h.0) (λ g. none texts seen n w here g.2) breaks
finds c at visit (Some n) follows fine some = λ texts seen w here. inr (fine seen here, follows, some texts seen w here)

pub is_yes : (b : Bool) → not b ≡ false → b ≡ true
is_yes true h = refl
is_yes false h = absurd (cc)

-- what is found of a tree, of the one that stands there
pub breaks_at : (all : List Seen) (at : ℕ) (follows : Bool) (depth : ℕ) (seen : Seen) → slice_get all at ≡ Some seen → (r : Option Name) → IfSome r (λ n. BreaksHere seen follows depth × (seen.name ≡ n)) → (r ≡ None → ¬ BreaksHere seen follows depth) → BreaksAt all at follows depth r
breaks_at all at follows depth seen there None some none = λ other here. subst (λ (s : Seen). ¬ BreaksHere s follows depth) (same_Some seen other (sym there ∙ here)) (none refl)
breaks_at all at follows depth seen there (Some n) some none = λ other here. subst (λ (s : Seen). BreaksHere s follows depth × (s.name ≡ n)) (same_Some seen other (sym there ∙ here)) some
