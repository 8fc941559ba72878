use Rattle.std.proofs.Common.{◌≡◌, inl, inr, ℕ, true, false, List, Option, Some, None, is_some, Result, Ok, Err, refl, sym, ap, subst, ◌∙◌}
use Rattle.repo_disk.specs.Disks.{State}
use Rattle.repo_disk.specs.declared.disks.DiskError.{DiskError}
use Rattle.repo_disk.specs.declared.rooms.Room.{Room}
use Rattle.repo_folder.specs.Folders.{Stays, Comes, Puts, Keeps}

module _ (room : Room) (name : List ℕ) (to : Option (List ℕ)) (s u t : State) (stays : Stays s u) where
  still : Stays u t → Stays s t
  still more r n is = more r n is ∙ stays r n is

  comes : Comes room name to u t → Comes room name to s t
  comes c = record { here = c.here; others = λ r n is. elim (c.others r n is) [ inl p ↦ inl p | inr e ↦ inr (e ∙ stays r n is) ] }

  -- a writing call from a state in which what is kept is the same
  pub keeps_after : (result : Result (Unit {0}) DiskError) → Keeps (Comes room name to) u result t → Keeps (Comes room name to) s result t
  keeps_after (Ok done) k = comes k
  keeps_after (Err DiskError.Failed) k = elim k [ inl p ↦ inl (still p) | inr c ↦ inr (comes c) ]
  keeps_after (Err DiskError.Memory) k = still k

  -- a put of a name that has nothing
  pub puts_after : (bytes : List ℕ) → to ≡ Some bytes → s.fate room name ≡ None → (result : Result (Unit {0}) DiskError) → Keeps (Comes room name to) u result t → Keeps (Puts room name bytes) s result t
  puts_after bytes is none (Ok done) k = inr (none, subst (λ x. Comes room name x s t) is (comes k))
  puts_after bytes is none (Err DiskError.Failed) k = elim k [ inl p ↦ inl (still p) | inr c ↦ inr (inr (none, subst (λ x. Comes room name x s t) is (comes c))) ]
  puts_after bytes is none (Err DiskError.Memory) k = still k

  -- a put of a name that has something
  pub puts_there : (bytes : List ℕ) → is_some (s.fate room name) ≡ true → Puts room name bytes s u
  puts_there bytes there = go (s.fate room name) refl where
    go : (o : Option (List ℕ)) → s.fate room name ≡ o → Puts room name bytes s u
    go None e = absurd (let k : false ≡ true = sym (ap is_some e) ∙ there in cc)
    go (Some x) e = inl (x, e, stays)

-- a put of a name that has something, after which what is kept is the same
pub puts_again : (room : Room) (name : List ℕ) (s u t : State) → Stays s u → Stays u t → (bytes : List ℕ) → is_some (s.fate room name) ≡ true
    → (result : Result (Unit {0}) DiskError) → Keeps (Puts room name bytes) s result t
puts_again room name s u t stays more bytes there (Ok done) = puts_there room name None s t t (still room name None s u t stays more) bytes there
puts_again room name s u t stays more bytes there (Err DiskError.Failed) = inl (still room name None s u t stays more)
puts_again room name s u t stays more bytes there (Err DiskError.Memory) = still room name None s u t stays more

pub none_there : (o : Option (List ℕ)) → is_some o ≡ false → o ≡ None
none_there None h = refl
none_there (Some x) h = absurd (let k : true ≡ false = h in cc)
