use Rattle.std.proofs.Common.{Vec, Global, ◌≡◌, ℕ, List, refl, sym, ap, subst, ◌∙◌}
use Rattle.repo_reach.specs.Collected.{LeadsTo}
use Rattle.repo_reach.specs.Walks.{IsWalk, BrokenOnes}
use Rattle.repo_reach.specs.declared.roots.Root.{Root}
use Rattle.repo_reach.proofs.Looking.{any_err}
use Rattle.repo_reach.proofs.Telling.{broken_same, broken_on, breaks_one, tells_none}
use Rattle.repo_reach.proofs.Steps.{unlooked_same}
use Rattle.repo_reach.proofs.Rewinding.{walk_then}
use Rattle.repo_reach.proofs.Turning.{there, absent, led, led_next, is_broken}
use Rattle.repo_reach.proofs.trees.Trees.next.Goals as goal

pub loop-visit-init : goal.loop-visit-init
loop-visit-init c = (
  unlooked_same c.args.self.now c.args.self.now (record { seen = refl; places = refl; roots = refl }),
  λ texts w. w,
  λ texts w. broken_same c.args.self.now.seen.items,
)

-- ---- a tree that wasn't seen

pub returns-in_default-place_of-clause-turn : goal.returns-in_default-place_of-clause-turn
returns-in_default-place_of-clause-turn c = λ texts w.
    let old = c.loop-visit.invariant.1 texts w in
    let now = c.next_visit.new.self in
    c.unseen.ensures texts now (absent texts now c.in-Some.visit.tree (c.next_visit.ensures.walk texts old) (sym c.place_of.ensures ∙ c.in_default-place_of.is)) (led texts now c.in-Some.visit (c.in-Some.ensures.next texts old))

pub returns-in_default-place_of-clause-broken : goal.returns-in_default-place_of-clause-broken
returns-in_default-place_of-clause-broken c = λ texts w. tells_none c.args.self.now.seen.items c.next_visit.new.self.seen.items c.unseen.result
    (subst (λ all. BrokenOnes (λ n. ⊥) c.args.self.now.seen.items all) (sym (ap (λ v. v.items) c.next_visit.ensures.kept.seen)) (c.loop-visit.invariant.2 texts w))

-- ---- one in which a part goes on wasn't

pub returns-in-Some-unseen_next-clause-turn : goal.returns-in-Some-unseen_next-clause-turn
returns-in-Some-unseen_next-clause-turn c = λ texts w.
    let old = c.loop-visit.invariant.1 texts w in
    let now = c.next_visit.new.self in
    let visit = c.in-Some.visit in
    let walk = c.next_visit.ensures.walk texts old in
    let due = c.in-Some.ensures.next texts old in
    let here = there texts now visit.tree c.in-Some-place_of.at walk (sym c.place_of.ensures ∙ c.in-Some-place_of.is) in
    let next = c.in-Some-unseen_next.tree in
    let leads = subst (λ n. LeadsTo texts now.roots.items visit.follows visit.depth n) (sym here.2) due.leads in
    c.unseen-in-Some-unseen_next.ensures texts now (absent texts now next walk c.in-Some-unseen_next.ensures.0)
    (led_next texts now walk c.in-Some-place_of.at here.0 here.1 visit.follows visit.depth leads due.within next (c.in-Some-unseen_next.ensures.1 here.0 here.1))

pub returns-in-Some-unseen_next-clause-broken : goal.returns-in-Some-unseen_next-clause-broken
returns-in-Some-unseen_next-clause-broken c = λ texts w. tells_none c.args.self.now.seen.items c.next_visit.new.self.seen.items c.unseen-in-Some-unseen_next.result
    (subst (λ all. BrokenOnes (λ n. ⊥) c.args.self.now.seen.items all) (sym (ap (λ v. v.items) c.next_visit.ensures.kept.seen)) (c.loop-visit.invariant.2 texts w))

-- ---- a look that fails

pub returns-in_err-look-clause-kept : goal.returns-in_err-look-clause-kept
returns-in_err-look-clause-kept c = walk_then _ _ _ c.loop-visit.invariant.0 (walk_then _ _ _ (unlooked_same c.loop-visit.self c.next_visit.new.self c.next_visit.ensures.kept) c.look.ensures.kept)

pub returns-in_err-look-clause-err : goal.returns-in_err-look-clause-err
returns-in_err-look-clause-err c = any_err c.from_residual.result (λ texts w. subst (λ all. BrokenOnes (λ n. ⊥) c.args.self.now.seen.items all)
    (sym (ap (λ v. v.items) (c.in_err-look.ensures.seen ∙ c.next_visit.ensures.kept.seen))) (c.loop-visit.invariant.2 texts w))

-- ---- a look

pub loop-visit-preserved : goal.loop-visit-preserved
loop-visit-preserved c =
    let now = c.next_visit.new.self in
    let visit = c.in-Some.visit in
    let at = c.in-Some-place_of.at in
    let looked : (texts : List (List ℕ)) → IsWalk texts c.args.self.now → IsWalk texts c.look.new.self = λ texts w. (
    let old = c.loop-visit.invariant.1 texts w in
    let walk = c.next_visit.ensures.walk texts old in
    let due = c.in-Some.ensures.next texts old in
    let here = there texts now visit.tree at walk (sym c.place_of.ensures ∙ c.in-Some-place_of.is) in
    c.in_ok-look.ensures.walk texts here.0 walk here.1 (subst (λ n. LeadsTo texts now.roots.items visit.follows visit.depth n) (sym here.2) due.leads) due.within (c.in_default-unseen_next.ensures texts here.0 walk here.1)) in (
      walk_then _ _ _ c.loop-visit.invariant.0 (walk_then _ _ _ (unlooked_same c.loop-visit.self now c.next_visit.ensures.kept) c.look.ensures.kept),
      looked,
      λ texts w. broken_on (λ n. ⊥) c.args.self.now.seen.items now.seen.items c.look.new.self.seen.items at visit.follows visit.depth
          (subst (λ all. BrokenOnes (λ n. ⊥) c.args.self.now.seen.items all) (sym (ap (λ v. v.items) c.next_visit.ensures.kept.seen)) (c.loop-visit.invariant.2 texts w)) c.in_ok-look.ensures.flags
          (λ seen n is breaks. c.in_default-broken.ensures texts seen n (looked texts w) is breaks),
    )

pub returns-in-Some-broken-clause-walk : goal.returns-in-Some-broken-clause-walk
returns-in-Some-broken-clause-walk c = λ texts w.
    let now = c.next_visit.new.self in
    let visit = c.in-Some.visit in
    let old = c.loop-visit.invariant.1 texts w in
    let walk = c.next_visit.ensures.walk texts old in
    let due = c.in-Some.ensures.next texts old in
    let here = there texts now visit.tree c.in-Some-place_of.at walk (sym c.place_of.ensures ∙ c.in-Some-place_of.is) in
    c.in_ok-look.ensures.walk texts here.0 walk here.1 (subst (λ n. LeadsTo texts now.roots.items visit.follows visit.depth n) (sym here.2) due.leads) due.within (c.in_default-unseen_next.ensures texts here.0 walk here.1)

pub returns-in-Some-broken-clause-turn : goal.returns-in-Some-broken-clause-turn
returns-in-Some-broken-clause-turn c = λ texts w.
    let now = c.next_visit.new.self in
    let new = c.look.new.self in
    let visit = c.in-Some.visit in
    let at = c.in-Some-place_of.at in
    let old = c.loop-visit.invariant.1 texts w in
    let walk = c.next_visit.ensures.walk texts old in
    let due = c.in-Some.ensures.next texts old in
    let here = there texts now visit.tree at walk (sym c.place_of.ensures ∙ c.in-Some-place_of.is) in
    let leads = subst (λ n. LeadsTo texts now.roots.items visit.follows visit.depth n) (sym here.2) due.leads in
    let looked : IsWalk texts new = c.in_ok-look.ensures.walk texts here.0 walk here.1 leads due.within (c.in_default-unseen_next.ensures texts here.0 walk here.1) in
    let on = c.look.ensures.kept.trees.on at here.0 here.1 in
    let still = subst (λ n. LeadsTo texts new.roots.items visit.follows visit.depth n) (sym on.2.name) (subst (λ (v : Vec Root Global). LeadsTo texts v.items visit.follows visit.depth here.0.name) (sym c.look.ensures.kept.roots) leads) in
    is_broken texts new looked at on.0 on.1 visit.follows visit.depth still due.within c.in-Some-broken.tree (c.in-Some-broken.ensures texts on.0 looked on.1)

pub returns-in-Some-broken-clause-broken : goal.returns-in-Some-broken-clause-broken
returns-in-Some-broken-clause-broken c = λ texts w.
    let now = c.next_visit.new.self in
    let new = c.look.new.self in
    let visit = c.in-Some.visit in
    let at = c.in-Some-place_of.at in
    let old = c.loop-visit.invariant.1 texts w in
    let walk = c.next_visit.ensures.walk texts old in
    let due = c.in-Some.ensures.next texts old in
    let here = there texts now visit.tree at walk (sym c.place_of.ensures ∙ c.in-Some-place_of.is) in
    let looked : IsWalk texts new = c.in_ok-look.ensures.walk texts here.0 walk here.1 (subst (λ n. LeadsTo texts now.roots.items visit.follows visit.depth n) (sym here.2) due.leads) due.within (c.in_default-unseen_next.ensures texts here.0 walk here.1) in
    broken_on (λ n. n ≡ c.in-Some-broken.tree) c.args.self.now.seen.items now.seen.items new.seen.items at visit.follows visit.depth
    (subst (λ all. BrokenOnes (λ n. ⊥) c.args.self.now.seen.items all) (sym (ap (λ v. v.items) c.next_visit.ensures.kept.seen)) (c.loop-visit.invariant.2 texts w)) c.in_ok-look.ensures.flags
    (λ seen n is breaks. breaks_one new.seen.items seen visit.follows visit.depth n c.in-Some-broken.tree breaks (c.in-Some-broken.ensures texts seen looked is))

pub returns-in-Some-broken-clause-kept : goal.returns-in-Some-broken-clause-kept
returns-in-Some-broken-clause-kept c = walk_then _ _ _ c.loop-visit.invariant.0 (walk_then _ _ _ (unlooked_same c.loop-visit.self c.next_visit.new.self c.next_visit.ensures.kept) c.look.ensures.kept)

-- ---- the end

pub returns-clause-broken : goal.returns-clause-broken
returns-clause-broken c = λ texts w. subst (λ all. BrokenOnes (λ n. ⊥) c.args.self.now.seen.items all) (sym (ap (λ v. v.items) c.next_visit.ensures.kept.seen)) (c.loop-visit.invariant.2 texts w)
