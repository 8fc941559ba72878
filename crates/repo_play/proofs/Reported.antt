-- The snapshots that some clients reported, one by one.
use Rattle.std.proofs.Common.{◌≡◌, ◌++◌, ◌∷◌, [], ℕ, List, Option, Some, None, refl, sym, ap, ◌∙◌, append_assoc, append-nil, option_map}
use Rattle.std.specs.Option.{option_and_then}
use Rattle.repo_name.specs.declared.names.Name.{Name}
use Rattle.repo_world.specs.World.{World}
use Rattle.repo_play.specs.Lines.{all_stored, stored_by}

-- of some clients these are left, and those before them reported these snapshots
abbrev pub AreStoredSoFar : World → List ℕ → List Name → List ℕ → Type 0
AreStoredSoFar w clients names left = all_stored w clients ≡ option_map (λ more. names ++ more) (all_stored w left)

-- what all of them reported, where the first one reported this, if anything
abbrev first_stored : World → Option Name → List ℕ → Option (List Name)
first_stored w o left = option_and_then (λ name. option_map (λ names. name ∷ names) (all_stored w left)) o

none_yet : (o : Option (List Name)) → o ≡ option_map (λ more. [] ++ more) o
none_yet None = refl
none_yet (Some names) = refl

pub none_so_far : (w : World) (clients : List ℕ) → AreStoredSoFar w clients [] clients
none_so_far w clients = none_yet (all_stored w clients)

one_behind : (names : List Name) (name : Name) (o : Option (List Name)) → option_map (λ more. names ++ more) (option_map (λ more. name ∷ more) o) ≡ option_map (λ more. (names ++ name ∷ []) ++ more) o
one_behind names name None = refl
one_behind names name (Some more) = ap Some (sym (append_assoc names (name ∷ []) more))

pub one_more : (w : World) (clients : List ℕ) (names : List Name) (k : ℕ) (left : List ℕ) (name : Name) → AreStoredSoFar w clients names (k ∷ left) → stored_by w k ≡ Some name
    → AreStoredSoFar w clients (names ++ name ∷ []) left
one_more w clients names k left name h e = h ∙ ap (λ o. option_map (λ more. names ++ more) (first_stored w o left)) e ∙ one_behind names name (all_stored w left)

pub one_missing : (w : World) (clients : List ℕ) (names : List Name) (k : ℕ) (left : List ℕ) → AreStoredSoFar w clients names (k ∷ left) → stored_by w k ≡ None → all_stored w clients ≡ None
one_missing w clients names k left h e = h ∙ ap (λ o. option_map (λ more. names ++ more) (first_stored w o left)) e

pub all_so_far : (w : World) (clients : List ℕ) (names : List Name) → AreStoredSoFar w clients names [] → all_stored w clients ≡ Some names
all_so_far w clients names h = h ∙ ap Some (append-nil names)
