use Rattle.std.proofs.Common.{◌≡◌, inl, ℕ, true, List, Option, Some, None, refl, is_some}
use Rattle.repo_name.specs.declared.kinds.Kind.{Kind}
use Rattle.repo_name.specs.declared.names.Name.{Name}
use Rattle.repo_store.specs.Memory.{AddedIn}
use Rattle.repo_store.specs.Stores.{Store}

some_there : (object : Option (List ℕ)) → is_some object ≡ true → (x : List ℕ) × (object ≡ Some x)
some_there None h = absurd (cc)
some_there (Some x) h = (x, refl)

-- nothing is added where something is
pub stays_in : (old : Name → Option (List ℕ)) (name : Name) (bytes : List ℕ) → is_some (old name) ≡ true → AddedIn old name bytes old
stays_in old name bytes h = record { kept = λ n x e. e; only = λ n x e. inl e; here = some_there (old name) h }

-- stores with the same config, the same objects of each kind, the same tokens and the same mode are one
pub same_store : (a b : Store) → a.config ≡ b.config → ((k : Kind) → a.objects k ≡ b.objects k) → a.tokens ≡ b.tokens → a.append_only ≡ b.append_only → a ≡ b
same_store a b c h l m = λ i. record { config = c i; objects = λ k. h k i; tokens = l i; append_only = m i }
