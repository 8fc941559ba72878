-- For each change of a store there is a store that has it.
use Rattle.std.proofs.Common.{◌≡◌, ◌⊎◌, ◌∙◌, ◌&&◌, inl, inr, ℕ, Bool, true, false, cond, List, Option, Some, None, refl, sym, ap, is_eq}
use Rattle.std.proofs.lemmas.Cmp.{tied_itself, nat_list_cmp_total}
use Rattle.std.proofs.lemmas.Option.{none-some}
use Rattle.repo_name.specs.declared.kinds.Kind.{Kind}
use Rattle.repo_name.specs.declared.names.Name.{Name}
use Rattle.repo_name.specs.Naming.{name_cmp}
use Rattle.repo_name.proofs.NameMaps.{same_name}
use Rattle.repo_locks.specs.TokenMachine.{Tokens}
use Rattle.repo_store.specs.Stores.{Store, Objects, Added, Removed, PutsObject, RemovesObject, SavesTokens, SavesConfig}

abbrev is_kind : Kind → Kind → Bool
is_kind Kind.Pack Kind.Pack = true
is_kind Kind.Pack Kind.Index = false
is_kind Kind.Pack Kind.Snapshot = false
is_kind Kind.Index Kind.Pack = false
is_kind Kind.Index Kind.Index = true
is_kind Kind.Index Kind.Snapshot = false
is_kind Kind.Snapshot Kind.Pack = false
is_kind Kind.Snapshot Kind.Index = false
is_kind Kind.Snapshot Kind.Snapshot = true

kind_is : (a b : Kind) → is_kind a b ≡ true → a ≡ b
kind_is Kind.Pack Kind.Pack h = refl
kind_is Kind.Index Kind.Index h = refl
kind_is Kind.Snapshot Kind.Snapshot h = refl
kind_is Kind.Pack Kind.Index h = absurd (cc)
kind_is Kind.Pack Kind.Snapshot h = absurd (cc)
kind_is Kind.Index Kind.Pack h = absurd (cc)
kind_is Kind.Index Kind.Snapshot h = absurd (cc)
kind_is Kind.Snapshot Kind.Pack h = absurd (cc)
kind_is Kind.Snapshot Kind.Index h = absurd (cc)

kind_itself : (a : Kind) → is_kind a a ≡ true
kind_itself Kind.Pack = refl
kind_itself Kind.Index = refl
kind_itself Kind.Snapshot = refl

both : (a b : Bool) → a && b ≡ true → (a ≡ true) × (b ≡ true)
both true true h = (refl, refl)
both true false h = absurd (cc)
both false b h = absurd (cc)

-- one place of a store is another
module _ (old : Objects) (kind : Kind) (name : Name) where
  abbrev is_here : Kind → Name → Bool
  is_here k n = is_kind k kind && is_eq (name_cmp n name)

  here_is : (k : Kind) (n : Name) → is_here k n ≡ true → (k ≡ kind) × (n ≡ name)
  here_is k n h = let p = both (is_kind k kind) (is_eq (name_cmp n name)) h in (kind_is k kind p.0, same_name n name p.1)

  itself : is_here kind name ≡ true
  itself = ap (λ b. b && is_eq (name_cmp name name)) (kind_itself kind) ∙ ap is_eq (tied_itself nat_list_cmp_total name.0)

  abbrev placed : Option (List ℕ) → Objects
  placed x k n = cond (is_here k n) x (old k n)

  in_place : (x : Option (List ℕ)) → placed x kind name ≡ x
  in_place x = ap (λ b. cond b x (old kind name)) itself

  -- what stands at a place of it
  stands : (x : Option (List ℕ)) (k : Kind) (n : Name) → ((k ≡ kind) × (n ≡ name) × (placed x k n ≡ x)) ⊎ (placed x k n ≡ old k n)
  stands x k n = go (is_here k n) refl where
    go : (b : Bool) → is_here k n ≡ b → ((k ≡ kind) × (n ≡ name) × (placed x k n ≡ x)) ⊎ (placed x k n ≡ old k n)
    go true h = let p = here_is k n h in inl (p.0, p.1, ap (λ b. cond b x (old k n)) h)
    go false h = inr (ap (λ b. cond b x (old k n)) h)

  pub added_can : (bytes : List ℕ) → (new : Objects) × Added old kind name bytes new
  added_can bytes = go (old kind name) refl where
    go : (there : Option (List ℕ)) → old kind name ≡ there → (new : Objects) × Added old kind name bytes new
    go (Some x) h = (old, record { kept = λ k n x e. e; only = λ k n x e. inl e; here = (x, h) })
    go None h = (placed (Some bytes), record { kept = kept; only = only; here = (bytes, in_place (Some bytes)) }) where
      kept : (k : Kind) (n : Name) (x : List ℕ) → old k n ≡ Some x → placed (Some bytes) k n ≡ Some x
      kept k n x e = at (stands (Some bytes) k n) where
        at : ((k ≡ kind) × (n ≡ name) × (placed (Some bytes) k n ≡ Some bytes)) ⊎ (placed (Some bytes) k n ≡ old k n) → placed (Some bytes) k n ≡ Some x
        at (inl (a, b, s)) = let none : old k n ≡ None = ap (λ l. old l n) a ∙ ap (old kind) b ∙ h in absurd (none-some x (sym none ∙ e))
        at (inr s) = s ∙ e

      only : (k : Kind) (n : Name) (x : List ℕ) → placed (Some bytes) k n ≡ Some x → (old k n ≡ Some x) ⊎ ((k ≡ kind) × (n ≡ name) × (x ≡ bytes))
      only k n x e = at (stands (Some bytes) k n) where
        at : ((k ≡ kind) × (n ≡ name) × (placed (Some bytes) k n ≡ Some bytes)) ⊎ (placed (Some bytes) k n ≡ old k n) → (old k n ≡ Some x) ⊎ ((k ≡ kind) × (n ≡ name) × (x ≡ bytes))
        at (inl (a, b, s)) = let same : Some x ≡ Some bytes = sym e ∙ s in inr (a, b, cc)
        at (inr s) = inl (sym s ∙ e)

  pub removed_can : (new : Objects) × Removed old kind name new
  removed_can = (placed None, record { kept = kept; only = only; gone = in_place None }) where
    kept : (k : Kind) (n : Name) (x : List ℕ) → old k n ≡ Some x → (placed None k n ≡ Some x) ⊎ ((k ≡ kind) × (n ≡ name))
    kept k n x e = at (stands None k n) where
      at : ((k ≡ kind) × (n ≡ name) × (placed None k n ≡ None)) ⊎ (placed None k n ≡ old k n) → (placed None k n ≡ Some x) ⊎ ((k ≡ kind) × (n ≡ name))
      at (inl (a, b, s)) = inr (a, b)
      at (inr s) = inl (s ∙ e)

    only : (k : Kind) (n : Name) (x : List ℕ) → placed None k n ≡ Some x → old k n ≡ Some x
    only k n x e = at (stands None k n) where
      at : ((k ≡ kind) × (n ≡ name) × (placed None k n ≡ None)) ⊎ (placed None k n ≡ old k n) → old k n ≡ Some x
      at (inl (a, b, s)) = absurd (none-some x (sym s ∙ e))
      at (inr s) = sym s ∙ e

pub puts_can : (old : Store) (kind : Kind) (name : Name) (bytes : List ℕ) → (new : Store) × PutsObject kind name bytes old new
puts_can old kind name bytes = let a = added_can old.objects kind name bytes in (record old { objects = a.0 }, (a.1, refl, refl, refl))

pub removes_can : (old : Store) (kind : Kind) (name : Name) → (new : Store) × RemovesObject kind name old new
removes_can old kind name = let a = removed_can old.objects kind name in (record old { objects = a.0 }, (a.1, refl, refl, refl))

pub saves_can : (old : Store) (tokens : Tokens) → (new : Store) × SavesTokens tokens old new
saves_can old tokens = (record old { tokens = tokens }, (refl, refl, refl, refl))

pub config_can : (old : Store) (bytes : List ℕ) → (new : Store) × SavesConfig bytes old new
config_can old bytes = (record old { config = Some bytes }, (refl, refl, refl, refl))
