-- Which trees that break a directory are told.
use Rattle.std.proofs.Common.{◌≡◌, ℕ, Bool, true, List, Some, slice_get, inl, inr, ⊎_elim, sym, ap, subst, ◌∙◌}
use Rattle.std.proofs.lemmas.Option.{same_Some}
use Rattle.repo_name.specs.declared.names.Name.{Name}
use Rattle.repo_reach.specs.Joints.{MayFollow}
use Rattle.repo_reach.specs.declared.joints.Joint.{Joint}
use Rattle.repo_reach.specs.declared.looks.Seen.{Seen}
use Rattle.repo_reach.specs.declared.trees.Turn.{Turn}
use Rattle.repo_reach.specs.declared.trees.Turn.TheVariants as turn
use Rattle.repo_reach.specs.Walks.{Flags, WasAt, IsSameTree, AreSameTrees, BreaksHere, GoesWrong, Breaks, BrokenOnes, TellsBroken}
use Rattle.repo_reach.proofs.Reading.{links_over, next_over}
use Rattle.repo_reach.proofs.Steps.{same_of}

-- ---- over the same trees

turned : (a b : Seen) → IsSameTree a b → IsSameTree b a
turned a b h = record { name = sym h.name; links = sym h.links; joint = sym h.joint; flags = λ f. sym (h.flags f) }

here_over : (a b : Seen) (follows : Bool) (depth : ℕ) → IsSameTree a b → BreaksHere a follows depth → BreaksHere b follows depth
here_over a b follows depth same (inl deep) = inl (deep.0, deep.1, links_over a b follows same ∙ deep.2, deep.3)
here_over a b follows depth same (inr malformed) = inr (malformed.0, ap (λ (j : Joint). j.next) same.joint ∙ malformed.1)

wrong_over : (old new : List Seen) (a b : Seen) (n : Name) → AreSameTrees old new → IsSameTree a b → GoesWrong new b n → GoesWrong old a n
wrong_over old new a b n trees same g =
    let behind = trees.back g.place g.behind g.there in
    record {
      onward = sym (next_over a b true same) ∙ g.onward;
      place = g.place;
      behind = behind.0;
      there = behind.1;
      called = sym behind.2.name ∙ g.called;
      links = g.links;
      read = sym (links_over behind.0 g.behind true behind.2) ∙ g.read;
      wrong = λ may. g.wrong (subst (λ (j : Joint). MayFollow j.ends g.behind.joint.ends) (sym same.joint) (subst (λ (j : Joint). MayFollow a.joint.ends j.ends) (sym behind.2.joint) may));
    }

breaks_over : (old new : List Seen) (a b : Seen) (follows : Bool) (depth : ℕ) (n : Name) → AreSameTrees old new → IsSameTree a b → Breaks new b follows depth n → Breaks old a follows depth n
breaks_over old new a b follows depth n trees same (inl (here, named)) = inl (here_over b a follows depth (turned a b same) here, sym same.name ∙ named)
breaks_over old new a b follows depth n trees same (inr (fine, is, wrong)) = inr (λ here. fine (here_over a b follows depth same here), is, wrong_over old new a b n trees same wrong)

-- one tree at most breaks at a look
pub breaks_one : (all : List Seen) (seen : Seen) (follows : Bool) (depth : ℕ) (n m : Name) → Breaks all seen follows depth n → Breaks all seen follows depth m → n ≡ m
breaks_one all seen follows depth n m (inl h) (inl g) = sym h.1 ∙ g.1
breaks_one all seen follows depth n m (inl h) (inr g) = absurd (g.0 h.0)
breaks_one all seen follows depth n m (inr h) (inl g) = absurd (h.0 g.0)
breaks_one all seen follows depth n m (inr h) (inr g) = same_Some n m (sym h.2.onward ∙ g.2.onward)

-- ---- what is told

-- nothing was looked at
pub broken_same : (all : List Seen) → BrokenOnes (λ n. ⊥) all all
broken_same all = λ i was seen follows depth n there now looked breaks. inl (subst (λ s. WasAt s follows depth) (same_Some seen was (sym now ∙ there)) looked)

-- one tree was looked at
pub broken_on : (Told : Name → Type 0) (start old new : List Seen) (at : ℕ) (follows : Bool) (depth : ℕ) → BrokenOnes (λ n. ⊥) start old → Flags old at follows depth new
    → ((seen : Seen) (n : Name) → slice_get new at ≡ Some seen → Breaks new seen follows depth n → Told n) → BrokenOnes Told start new
broken_on Told start old new at follows depth before flags told = λ i was seen f d n there now looked breaks.
    let b = flags.back i seen now in
    ⊎_elim (λ h. ⊎_elim (λ x. inl x) (λ x. absurd x) (before i was b.0 f d n there b.1 h (breaks_over old new b.0 seen f d n (same_of old at follows depth new flags) b.2 breaks)))
    (λ e. inr (told seen n (ap (λ k. slice_get new k) (sym e.0) ∙ now) (subst (λ g. Breaks new seen g depth n) e.1 (subst (λ x. Breaks new seen f x n) e.2 breaks)))) (b.3 f d looked)

-- where none is, whatever comes next tells it
pub tells_none : (old new : List Seen) (next : Turn) → BrokenOnes (λ n. ⊥) old new → TellsBroken old new next
tells_none old new (turn.Ask fact) h = h
tells_none old new (turn.Missing n) h = h
tells_none old new (turn.Broken m) h = λ i was seen f d n there now looked breaks. ⊎_elim (λ x. inl x) (λ x. absurd x) (h i was seen f d n there now looked breaks)
tells_none old new turn.Done h = h
