-- Sizes of files, by the facts that are known.
use Rattle.std.proofs.Common.{arith, ◌≡◌, ◌<◌, ◌≤◌, ◌+◌, ◌∷◌, [], ℕ, zero, suc, Bool, IsTrue, IsFalse, List, length, drop, get_or, refl, inl, inr, sym, ap, subst, ◌∙◌, Contains}
use Rattle.std.proofs.Math.Seq.{drop-cons}
use Rattle.std.specs.Prelude.{◌↔◌}
use Rattle.repo_name.specs.declared.kinds.BlobKind.{BlobKind}
use Rattle.repo_name.specs.declared.kinds.BlobKind.TheVariants.{Content}
use Rattle.repo_name.specs.declared.names.Name.{Name}
use Rattle.repo_pack.specs.declared.places.Place.{Place}
use Rattle.repo_index.specs.IndexText.{fact_of}
use Rattle.repo_index.specs.Lookups.{IsLeast}
use Rattle.repo_index.specs.declared.facts.Fact.{Fact}
use Rattle.repo_tree.specs.declared.nodes.Node.{Node}
use Rattle.repo_tree.specs.declared.nodes.NodeKind.{NodeKind}
use Rattle.repo_name.proofs.Containing.{contained_or}
use Rattle.repo_check.specs.Answers.{Gathered, LiesAt}
use Rattle.repo_check.specs.Findings.{Measure, IsMeasured, IsMismeasured}
use Rattle.repo_check.specs.Measures.{IsLost, Measures, SuitsSize, IsUnsuited, AreGivenFacts, HasLengths, Judges, LacksLengths}
use Rattle.repo_check.proofs.Finding.{place_one}

-- ---- what is left of a list

pub left_at : {X : Type 0} (xs : List X) (i : ℕ) (d : X) → i < length xs → drop i xs ≡ get_or xs i d ∷ drop (i + 1) xs
left_at xs i d less =
    let next : suc i ≡ i + 1 = omega arith in
    drop-cons xs i d less ∙ ap (λ j. get_or xs i d ∷ drop j xs) next

pub left_none : {X : Type 0} (xs : List X) (i : ℕ) → length xs ≤ i → drop i xs ≡ []
left_none [] zero few = refl
left_none [] (suc i) few = refl
left_none (x ∷ xs) zero few = absurd (omega (arith, few))
left_none (x ∷ xs) (suc i) few = left_none xs i (omega (arith, few))

-- what holds of one, and of those behind it, holds of what is left
pub left_each : {X : Type 0} (P : X → Type 0) (xs : List X) (i : ℕ) (d : X) → i < length xs → P (get_or xs i d) → ((x : X) → Contains (drop (i + 1) xs) x → P x) → (x : X) → Contains (drop i xs) x → P x
left_each P xs i d less here rest x h = elim (contained_or (get_or xs i d) (drop (i + 1) xs) x (subst (λ ys. Contains ys x) (left_at xs i d less) h)) [
  | inl same ↦ subst P same here
  | inr more ↦ rest x more
]

-- ---- by the facts

pub least_one : (facts : List Fact) (k : BlobKind) (n : Name) (a b : Place) → IsLeast facts k n a → IsLeast facts k n b → a ≡ b
least_one facts k n a b h g = place_one a b (h.least b g.among) (g.least a h.among)

pub measures_first : (facts : List Fact) (n : Name) (names : List Name) (left rest : ℕ) (place : Place) → IsLeast facts Content n place → left ≡ place.length + rest → Measures facts names rest → Measures facts (n ∷ names) left
measures_first facts n names left rest place least sum m = (place, rest, least, m, sum)

pub measures_rest : (facts : List Fact) (n : Name) (names : List Name) (left rest : ℕ) (place : Place) → IsLeast facts Content n place → left ≡ place.length + rest → Measures facts (n ∷ names) left → Measures facts names rest
measures_rest facts n names left rest place least sum m =
    let same : m.0 ≡ place = least_one facts Content n m.0 place m.2 least in
    let size = ap (λ (p : Place). p.length) same in
    let both = m.4 in
    let rests : m.1 ≡ rest = omega (arith, size, both, sum) in
    subst (λ r. Measures facts names r) rests m.3

pub measures_lost : (facts : List Fact) (n : Name) (names : List Name) (left : ℕ) → IsLost facts n → Measures facts (n ∷ names) left → ⊥
measures_lost facts n names left lost m = lost m.0 m.2.among

pub measures_short : (facts : List Fact) (n : Name) (names : List Name) (left : ℕ) (place : Place) → IsLeast facts Content n place → left < place.length → Measures facts (n ∷ names) left → ⊥
measures_short facts n names left place least less m =
    let same : m.0 ≡ place = least_one facts Content n m.0 place m.2 least in
    let size = ap (λ (p : Place). p.length) same in
    let both = m.4 in
    omega (arith, size, both, less)

-- with what is left after the next one
pub measures_next : (facts : List Fact) (content : List Name) (i : ℕ) (d : Name) (left rest : ℕ) (place : Place) → i < length content → IsLeast facts Content (get_or content i d) place → left ≡ place.length + rest
    → Measures facts (drop i content) left ↔ Measures facts (drop (i + 1) content) rest
measures_next facts content i d left rest place less least sum =
    let split = left_at content i d less in
    let n = get_or content i d in
    let names = drop (i + 1) content in (
      λ m. measures_rest facts n names left rest place least sum (subst (λ ns. Measures facts ns left) split m),
      λ m. subst (λ ns. Measures facts ns left) (sym split) (measures_first facts n names left rest place least sum m),
    )

-- ---- and by what was given

module _ (answers : Gathered) (facts : List Fact) (given : AreGivenFacts answers facts) where
  pub lies_least : (k : BlobKind) (n : Name) (place : Place) → IsLeast facts k n place → LiesAt answers k n place
  lies_least k n place h = record { given = (given (fact_of k n place)).0 h.among; least = λ other g. h.least other ((given (fact_of k n other)).1 g) }

  pub least_lies : (k : BlobKind) (n : Name) (place : Place) → LiesAt answers k n place → IsLeast facts k n place
  least_lies k n place h = record { among = (given (fact_of k n place)).1 h.given; least = λ other c. h.least other ((given (fact_of k n other)).0 c) }

  measure : (names : List Name) (size : ℕ) → Measures facts names size → Measure answers names size
  measure [] size m = m
  measure (n ∷ names) size m = (m.0, m.1, lies_least Content n m.0 m.2, measure names m.1 m.3, m.4)

  suited : (what : NodeKind) → SuitsSize facts what → IsMeasured answers what
  suited (NodeKind.File size content) (inl m) = inl (measure content size m)
  suited (NodeKind.File size content) (inr lost) = inr (lost.0, lost.1, λ place g. lost.2 place ((given (fact_of Content lost.0 place)).1 g))
  suited (NodeKind.Dir subtree) h = tt

  unsuited : (what : NodeKind) → IsUnsuited facts what → IsMismeasured answers what
  unsuited (NodeKind.File size content) h = (h.0, measure content h.0 h.1, h.2)
  unsuited (NodeKind.Dir subtree) h = h

-- what is judged by facts holds of all that was given as they say
pub judged : (facts : List Fact) (place : Place) (x : List ℕ) (nodes : List Node) (right : Bool) → (IsTrue right → HasLengths facts place x nodes) → (IsFalse right → LacksLengths facts place x nodes)
    → (answers : Gathered) → AreGivenFacts answers facts → Judges answers place x nodes right
judged facts place x nodes right all some answers given = record {
  len = λ is. (all is).len;
  well = λ is node c. suited answers facts given node.what ((all is).sizes node c);
  ill = λ is. elim (some is) [ inl uneven ↦ inl uneven | inr s ↦ inr (s.0, s.1, unsuited answers facts given s.0.what s.2) ];
}
