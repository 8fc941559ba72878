-- What is handed to a sink, one after another.
use Rattle.std.proofs.Common.{◌≡◌, ◌≢◌, ◌++◌, ◌∷◌, [], Bool, true, List, refl, sym, ap, subst, append_assoc, ◌∙◌}
use Rattle.std.proofs.lemmas.List.{append-nil}
use Rattle.repo_session.specs.declared.emissions.Emission.{Emission}
use Rattle.repo_session.specs.Sinks.{AreTaken, StopsAt, StopsAtLast, IsHandedOn}
use Rattle.repo_session.specs.Talks.{Talk, Turn, given_in}

-- what two talks gave out, the newer first
pub given_both : (newer older : Talk) → given_in (newer ++ older) ≡ given_in older ++ given_in newer
given_both [] older = sym (append-nil (given_in older))
given_both (turn ∷ newer) older = ap (λ x. x ++ turn.emitted) (given_both newer older) ∙ append_assoc (given_in older) (given_in newer) turn.emitted

none_behind : (xs : List Emission) (x : Emission) (ys : List Emission) → [] ≢ xs ++ x ∷ ys
none_behind [] x ys is = absurd (cc)
none_behind (y ∷ xs) x ys is = absurd (cc)

module _ {F : Type 0} (Called : F → Emission → Bool → F → Type 0) where
  -- some, and then some more
  pub taken_both : (xs ys : List Emission) (a b c : F) → AreTaken Called a xs b → AreTaken Called b ys c → AreTaken Called a (xs ++ ys) c
  taken_both [] ys a b c p q = subst (λ s. AreTaken Called s ys c) (sym p) q
  taken_both (x ∷ xs) ys a b c p q = (p.0, p.1, taken_both xs ys p.0 b c p.2 q)

  -- one more
  pub taken_on : (xs : List Emission) (x : Emission) (a b c : F) → AreTaken Called a xs b → Called b x true c → AreTaken Called a (xs ++ x ∷ []) c
  taken_on xs x a b c p q = taken_both xs (x ∷ []) a b c p (c, q, refl)

  -- a sink doesn't stop where nothing was given out
  pub stops_some : (xs : List Emission) (a b : F) → StopsAt Called a xs b → xs ≢ []
  stops_some xs a b h none = none_behind h.first h.emission h.later (sym none ∙ h.order)

  -- where the sink didn't stop it
  pub handed_all : (Stopped : Type 0) (talk : Talk) (a b : F) → ¬ Stopped → AreTaken Called a (given_in talk) b → IsHandedOn Called Stopped a talk b
  handed_all Stopped talk a b other taken = record { all = λ n. taken; some = λ s. absurd (other s) }

  -- where it stopped at what one turn more gave out
  pub handed_some : (Stopped : Type 0) (turn : Turn) (talk : Talk) (a b c : F) → Stopped → AreTaken Called a (given_in talk) b → StopsAt Called b turn.emitted c → IsHandedOn Called Stopped a (turn ∷ talk) c
  handed_some Stopped turn talk a b c stopped taken stops = record { all = λ n. absurd (n stopped); some = λ s. (b, taken, stops) }

  stops_after : (newer older : Talk) (a b c : F) → AreTaken Called a (given_in older) b → StopsAtLast Called b newer c → StopsAtLast Called a (newer ++ older) c
  stops_after [] older a b c p q = absurd q
  stops_after (turn ∷ newer) older a b c p q =
      (q.0, subst (λ xs. AreTaken Called a xs q.0) (sym (given_both newer older)) (taken_both (given_in older) (given_in newer) a b q.0 p q.1), q.2)

  -- what an older talk gave out was taken before
  pub handed_after : (Stopped : Type 0) (newer older : Talk) (a b c : F) → AreTaken Called a (given_in older) b → IsHandedOn Called Stopped b newer c → IsHandedOn Called Stopped a (newer ++ older) c
  handed_after Stopped newer older a b c p q = record {
    all = λ n. subst (λ xs. AreTaken Called a xs c) (sym (given_both newer older)) (taken_both (given_in older) (given_in newer) a b c p (q.all n));
    some = λ s. stops_after newer older a b c p (q.some s);
  }

  -- in other words for that it was stopped
  pub handed_as : (One Other : Type 0) (talk : Talk) (a b : F) → (One → Other) → (Other → One) → IsHandedOn Called One a talk b → IsHandedOn Called Other a talk b
  handed_as One Other talk a b to from h = record { all = λ n. h.all (λ one. n (to one)); some = λ other. h.some (from other) }
