use Rattle.std.proofs.Common.{◌≡◌, ◌⊎◌, inl, inr, Bool, true, false, cond, Option, Some, None, refl, sym, ◌∙◌, ap}
use Rattle.std.specs.declared.cmp.Ordering.{Ordering}
use Rattle.std.specs.declared.cmp.Ordering.TheVariants.{Less, Equal, Greater}
use Rattle.std.specs.Ordering.{is_eq}
use Rattle.std.proofs.lemmas.Map.Lookups.{exact_bytes}
use Rattle.repo_name.specs.declared.names.Name.{Name}
use Rattle.repo_name.specs.Naming.{name_cmp}
use Rattle.repo_name.specs.NameMaps.{Inserted, Dropped}

equal_from_is_eq : (o : Ordering) → is_eq o ≡ true → o ≡ Equal
equal_from_is_eq Less h = absurd (cc)
equal_from_is_eq Equal h = refl
equal_from_is_eq Greater h = absurd (cc)

-- names that compare alike are one
pub same_name : (a b : Name) → is_eq (name_cmp a b) ≡ true → a ≡ b
same_name a b h =
    let e : a.0 ≡ b.0 = exact_bytes a.0 b.0 (equal_from_is_eq (name_cmp a b) h) in
    λ i. record { 0 = e i }

module _ {X : Type 0} where
  -- what `insert` and `remove` of a map say at each name: it is n, or what stands there is as before
  pub at_each : (old new : Name → Option X) (n : Name) (w : Option X) → ((q : Name) → new q ≡ cond (is_eq (name_cmp n q)) w (old q))
      → (q : Name) (b : Bool) → is_eq (name_cmp n q) ≡ b → (q ≡ n) ⊎ (new q ≡ old q)
  at_each old new n w h q true e = inl (sym (same_name n q e))
  at_each old new n w h q false e = inr (h q ∙ ap (λ b. cond b w (old q)) e)

  -- the clause `updates` of a map's `insert`
  pub inserted : (old new : Name → Option X) (n : Name) (x : X) → ((q : Name) → new q ≡ cond (is_eq (name_cmp n q)) (Some x) (old q)) → new n ≡ Some x → Inserted old n x new
  inserted old new n x h there = record { here = there; others = λ m. at_each old new n (Some x) h m (is_eq (name_cmp n m)) refl }

  -- the clause `updates` of a map's `remove`
  pub dropped : (old new : Name → Option X) (n : Name) → ((q : Name) → new q ≡ cond (is_eq (name_cmp n q)) None (old q)) → new n ≡ None → Dropped old n new
  dropped old new n h none = record { gone = none; others = λ m. at_each old new n None h m (is_eq (name_cmp n m)) refl }
