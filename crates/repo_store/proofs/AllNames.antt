-- The names of a page in a set.
use Rattle.std.proofs.Common.{◌≡◌, ◌⊎◌, ◌<◌, ◌+◌, ◌∙◌, ◌∷◌, ◌++◌, [], inl, inr, ℕ, true, List, length, take, get_or, is_some, sym, ap, subst, ⊎_elim}
use Rattle.std.proofs.lemmas.List.{take_more}
use Rattle.repo_name.specs.declared.names.Name.{Name}
use Rattle.repo_name.specs.NameMaps.{found, Inserted}
use Rattle.repo_store.specs.Kept.{NameSet, is_in, PageJoins}
use Rattle.repo_store.specs.Pages.{Has}
use Rattle.repo_store.proofs.PageLemmas.{has_left, has_right, has_either}

-- the names of a page join a set, one after another

pub joins_none : (names : NameSet) → PageJoins [] names names
joins_none names = record { stay = λ n h. h; join = λ n h. elim h [ ]; only = λ n h. inl h }

joined : (done : List Name) (x : Name) (old mid new : NameSet) → PageJoins done old mid → Inserted (found mid) x tt (found new) → PageJoins (done ++ x ∷ []) old new
joined done x old mid new h i = record { stay = λ n k. grows n (h.stay n k); join = λ n k. join n (has_either done (x ∷ []) n k); only = λ n k. only n (i.others n) k }
  where
    grows : (n : Name) → is_in mid n ≡ true → is_in new n ≡ true
    grows n k = go (i.others n) where
      go : (n ≡ x) ⊎ (found new n ≡ found mid n) → is_in new n ≡ true
      go (inl e) = ap is_some (ap (found new) e ∙ i.here)
      go (inr s) = ap is_some s ∙ k

    join : (n : Name) → Has done n ⊎ Has (x ∷ []) n → is_in new n ≡ true
    join n (inl k) = grows n (h.join n k)
    join n (inr (inl e)) = ap is_some (ap (found new) e ∙ i.here)
    join n (inr (inr k)) = elim k [ ]

    only : (n : Name) → (n ≡ x) ⊎ (found new n ≡ found mid n) → is_in new n ≡ true → (is_in old n ≡ true) ⊎ Has (done ++ x ∷ []) n
    only n (inl e) k = inr (has_right done (x ∷ []) n (inl e))
    only n (inr s) k = ⊎_elim (λ o. inl o) (λ d. inr (has_left done (x ∷ []) n d)) (h.only n (sym (ap is_some s) ∙ k))

pub joins_on : (page : List Name) (i : ℕ) (d : Name) (old mid new : NameSet) → i < length page → PageJoins (take i page) old mid → Inserted (found mid) (get_or page i d) tt (found new)
    → PageJoins (take (i + 1) page) old new
joins_on page i d old mid new less h inserted = subst (λ l. PageJoins l old new) (sym (take_more page i d less)) (joined (take i page) (get_or page i d) old mid new h inserted)
