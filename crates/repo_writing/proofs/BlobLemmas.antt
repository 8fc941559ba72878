-- Blobs by kind and name, and lists of which each is so.
use Rattle.std.proofs.Common.{◌≡◌, ◌++◌, ◌∷◌, [], List, sym, ap, subst, inl, inr, ◌⊎◌, ◌∙◌, Contains}
use Rattle.std.proofs.lemmas.List.Elements.{Contains-append_left, Contains-append_right, Contains-append_cases, Contains-push, Contains-push_cases}
use Rattle.repo_name.specs.declared.kinds.BlobKind.{BlobKind}
use Rattle.repo_name.specs.declared.names.Name.{Name}
use Rattle.repo_pack.specs.PackLayout.{Item}
use Rattle.repo_session.specs.Traces.{Each}
use Rattle.repo_name.proofs.Containing.{none_contained}
use Rattle.repo_writing.specs.Blobs.{HasItem, AreOnce}

only : {A : Type 0} (k x : A) → Contains (k ∷ []) x → k ≡ x
only k x h = elim (Contains-push_cases [] k x h) [ inl none ↦ absurd (none_contained x none) | inr same ↦ same ]

-- ---- one of some items

pub has_before : (items more : List Item) (k : BlobKind) (n : Name) → HasItem items k n → HasItem (items ++ more) k n
has_before items more k n h = (h.0, Contains-append_left items more h.0 h.1, h.2, h.3)

pub has_after : (items more : List Item) (k : BlobKind) (n : Name) → HasItem more k n → HasItem (items ++ more) k n
has_after items more k n h = (h.0, Contains-append_right items more h.0 h.1, h.2, h.3)

pub has_either : (items more : List Item) (k : BlobKind) (n : Name) → HasItem (items ++ more) k n → HasItem items k n ⊎ HasItem more k n
has_either items more k n h = elim (Contains-append_cases items more h.0 h.1) [ inl a ↦ inl (h.0, a, h.2, h.3) | inr b ↦ inr (h.0, b, h.2, h.3) ]

pub has_one : (item : Item) (k : BlobKind) (n : Name) → item.kind ≡ k → item.name ≡ n → HasItem (item ∷ []) k n
has_one item k n p q = (item, Contains-push [] item, p, q)

pub is_one : (item : Item) (k : BlobKind) (n : Name) → HasItem (item ∷ []) k n → (item.kind ≡ k) × (item.name ≡ n)
is_one item k n h =
    let same = only item h.0 h.1 in
    (ap (λ (i : Item). i.kind) same ∙ h.2, ap (λ (i : Item). i.name) same ∙ h.3)

-- ---- each once

-- a pair that is among some items isn't among those behind them, where each is there once
pub once_apart : (xs ys : List Item) (k : BlobKind) (n : Name) → AreOnce (xs ++ ys) → HasItem xs k n → HasItem ys k n → ⊥
once_apart [] ys k n once h g = none_contained h.0 h.1
once_apart (x ∷ xs) ys k n once h g = elim (has_either (x ∷ []) xs k n h) [
  | inl first ↦ (
      let same = is_one x k n first in
      let there : HasItem (xs ++ ys) k n = (g.0, Contains-append_right xs ys g.0 g.1, g.2, g.3) in
      once.0 (subst (λ j. HasItem (xs ++ ys) j x.name) (sym same.0) (subst (λ m. HasItem (xs ++ ys) k m) (sym same.1) there)))
  | inr later ↦ once_apart xs ys k n once.1 later g
]

-- those behind are each once
pub once_behind : (xs ys : List Item) → AreOnce (xs ++ ys) → AreOnce ys
once_behind [] ys once = once
once_behind (x ∷ xs) ys once = once_behind xs ys once.1

-- and those before
pub once_left : (xs ys : List Item) → AreOnce (xs ++ ys) → AreOnce xs
once_left [] ys h = tt
once_left (x ∷ xs) ys h = ((λ has. h.0 (has_before xs ys x.kind x.name has)), once_left xs ys h.1)

-- ---- each of two lists

pub each_left : {A : Type 0} (P : A → Type 0) (xs ys : List A) → Each P (xs ++ ys) → Each P xs
each_left P [] ys h = tt
each_left P (x ∷ xs) ys h = (h.0, each_left P xs ys h.1)

pub each_right : {A : Type 0} (P : A → Type 0) (xs ys : List A) → Each P (xs ++ ys) → Each P ys
each_right P [] ys h = h
each_right P (x ∷ xs) ys h = each_right P xs ys h.1
