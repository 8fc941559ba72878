-- Used blobs that no index gives.
use Rattle.std.proofs.Common.{◌≡◌, ◌<◌, ◌≤◌, ◌+◌, ◌↔◌, ℕ, List, Option, Some, None, slice_get, take, get_or, length, IfNone, is_some, false, sym, subst, inl, inr, ◌∙◌, Contains}
use Rattle.std.proofs.Math.Seq.{take_all}
use Rattle.repo_name.specs.declared.kinds.BlobKind.{BlobKind}
use Rattle.repo_name.specs.declared.kinds.BlobKind.TheVariants.{Content, Tree}
use Rattle.repo_name.specs.declared.names.Name.{Name}
use Rattle.repo_index.specs.declared.facts.Fact.{Fact}
use Rattle.repo_reach.proofs.Reading.{links_are}
use Rattle.repo_reach.proofs.Rewinding.{got_or}
use Rattle.repo_reach.proofs.Using.{one_more, taken_or}
use Rattle.repo_reach.specs.Laws.{IsUsed}
use Rattle.repo_reach.specs.Used.{UsedHasPair}
use Rattle.repo_reach.specs.declared.links.Links.{Links}
use Rattle.repo_reach.specs.declared.looks.Seen.{Seen}
use Rattle.repo_reach.specs.declared.used.Used.{Used}
use Rattle.repo_writing.specs.Blobs.{HasFact}
use Rattle.repo_prune.specs.Reading.{AreFound}
use Rattle.repo_prune.specs.inner.Unfound.{GiveContent, IsContentOf, content_in}

pub none_found : {A P : Type 0} (found : Option A) → is_some found ≡ false → IfNone found P → P
none_found (Some x) h p = absurd (cc)
none_found None h p = p

module _ (facts : List Fact) (used : Used) where
  -- one more name of some content
  pub given_more : (content : List Name) (i : ℕ) (d : Name) → i < length content → (UsedHasPair used Content (get_or content i d) → HasFact facts Content (get_or content i d))
      → ((n : Name) → Contains (take i content) n → UsedHasPair used Content n → HasFact facts Content n) → (n : Name) → Contains (take (i + 1) content) n → UsedHasPair used Content n → HasFact facts Content n
  given_more content i d within one before n h is = elim (taken_or content i d within n h) [
    | inl earlier ↦ before n earlier is
    | inr same ↦ subst (HasFact facts Content) same (one (subst (UsedHasPair used Content) (sym same) is))
  ]

  pub given_all : (content : List Name) (i : ℕ) → length content ≤ i → ((n : Name) → Contains (take i content) n → UsedHasPair used Content n → HasFact facts Content n) → (n : Name) → Contains content n → UsedHasPair used Content n → HasFact facts Content n
  given_all content i end before n h is = before n (subst (λ (ns : List Name). Contains ns n) (sym (take_all i content end)) h) is

  -- one more tree
  pub trees_more : (all : List Seen) (i : ℕ) (seen : Seen) → i < length all → seen ≡ get_or all i seen → (content : List Name) → IsContentOf seen content → ((n : Name) → Contains content n → UsedHasPair used Content n → HasFact facts Content n)
      → GiveContent facts used (take i all) → GiveContent facts used (take (i + 1) all)
  trees_more all i seen within is content are one before j s n there h has = elim (got_or (take i all) (get_or all i seen) j s (subst (λ (l : List Seen). slice_get l j ≡ Some s) (one_more all i seen within) there)) [
    | inl was ↦ before j s n was h has
    | inr last ↦ one n (subst (λ (c : List Name). Contains c n) (sym are) (subst (λ (z : Seen). Contains (content_in z.links) n) (sym (is ∙ last.1)) h)) has
  ]

  pub trees_all : (all : List Seen) (i : ℕ) → length all ≤ i → GiveContent facts used (take i all) → GiveContent facts used all
  trees_all all i end given = subst (GiveContent facts used) (take_all i all end) given

  -- so facts give each used pair
  pub all_given : (all : List Seen) → GiveContent facts used all → AreFound facts all → ((k : BlobKind) (n : Name) → UsedHasPair used k n ↔ IsUsed all k n) → (k : BlobKind) (n : Name) → UsedHasPair used k n → HasFact facts k n
  all_given all given found are Tree n h = let l = ((are Tree n).0 h).1.1 in subst (HasFact facts Tree) l.3 (found l.0 l.1 l.2).1
  all_given all given found are Content n h =
      let u = (are Content n).0 h in
      let by = u.1 in
      let holds = by.4 in
      given by.0 by.1 n by.3 (subst (λ (o : Option Links). Contains (content_in o) n) (sym (links_are by.1 u.0 holds.links holds.read)) holds.among) h
