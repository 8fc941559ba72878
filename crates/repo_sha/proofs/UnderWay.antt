-- How pieces that are under way go on, begin and end.
use Rattle.std.proofs.Common.{◌≡◌, ℕ, zero, suc, ◌+◌, ◌<◌, List, [], ◌∷◌, length, map, min, take, drop, Option, None, Some, IfSome, slice_index_or, slice_set, refl, sym, ap, ◌∙◌, arith, inl, inr}
use Rattle.std.proofs.lemmas.List.{drop_min, get_or-map, get_or-set_same, get_or-set_other, length-set, length-map, same_lists, take_min}
use Rattle.std.proofs.lemmas.Bool.{cases_eq}
use Rattle.sha2.specs.Sha256.{sha256}
use Rattle.repo_sha.specs.declared.pieces.Piece.{Piece}
use Rattle.repo_sha.proofs.BatchLemmas.{at_any}
use Rattle.repo_sha.specs.inner.Batches.{AreAmong, GoesOn, Has, IsUnderWay, at, with_digest}

-- a lane that was left empty
pub at_emptied : (lanes : List (Option Piece)) (lane : ℕ) → at (slice_set lanes lane None) lane ≡ None
at_emptied [] lane = refl
at_emptied (x ∷ xs) zero = refl
at_emptied (x ∷ xs) (suc lane) = at_emptied xs lane

-- what holds of each lane after a lane was left empty
each_emptied : (P : Option Piece → Type 0) (lanes : List (Option Piece)) (lane : ℕ) → P None
    → ((j : ℕ) → j < 8 → P (at lanes j)) → (j : ℕ) → j < 8 → P (at (slice_set lanes lane None) j)
each_emptied P lanes lane none each j lt = elim (cases_eq j lane) [
  | inl e ↦ rw (e, at_emptied lanes lane) none
  | inr ne ↦ rw (get_or-set_other lanes lane j None None ne) (each j lt)
]

pub among_emptied : (count : ℕ) (lanes : List (Option Piece)) (lane : ℕ) → AreAmong count lanes → AreAmong count (slice_set lanes lane None)
among_emptied count lanes lane among = each_emptied (λ x. IfSome x (λ piece. piece.number < count)) lanes lane tt among

-- what holds of the piece that a lane has, whatever its place, holds of it as it goes on
gone_on : (P : ℕ → List ℕ → Type 0) (steps : ℕ) (old new : Option Piece) → GoesOn steps old new → IfSome old (λ piece. P piece.number piece.message.bytes.now)
    → IfSome new (λ piece. P piece.number piece.message.bytes.now)
gone_on P steps None new e was = rw e tt
gone_on P steps (Some p) None goes was = absurd goes
gone_on P steps (Some p) (Some q) same was = rw (same.0, same.1) was

-- a lane that goes on has what it had
has_still : (k steps : ℕ) (old new : Option Piece) → GoesOn steps old new → Has k old → Has k new
has_still k steps None new goes has = absurd has
has_still k steps (Some p) None goes has = absurd goes
has_still k steps (Some p) (Some q) same has = same.0 ∙ has

pub among_gone_on : (count steps : ℕ) (lanes next : List (Option Piece)) → ((j : ℕ) → j < 8 → GoesOn steps (at lanes j) (at next j))
    → AreAmong count lanes → AreAmong count next
among_gone_on count steps lanes next goes among j lt = gone_on (λ number _. number < count) steps (at lanes j) (at next j) (goes j lt) (among j lt)

pub way_gone_on : (texts : List (List ℕ)) (begun steps : ℕ) (lanes next : List (Option Piece)) (digests : List (List ℕ))
    → ((j : ℕ) → j < 8 → GoesOn steps (at lanes j) (at next j)) → IsUnderWay texts begun lanes digests → IsUnderWay texts begun next digests
way_gone_on texts begun steps lanes next digests goes way = record {
  count = way.count;
  among = way.among;
  held = λ j lt. gone_on (λ number bytes. (number < begun) × (bytes ≡ slice_index_or texts number [])) steps (at lanes j) (at next j) (goes j lt) (way.held j lt);
  done = λ k low none. way.done k low (λ j lt has. none j lt (has_still k steps (at lanes j) (at next j) (goes j lt) has));
}

-- a lane's piece ends: its digest stands at its number
ended_digest : (x : Option Piece) (texts : List (List ℕ)) (begun : ℕ) (digests : List (List ℕ)) (k : ℕ) → k < length digests
    → IfSome x (λ piece. (piece.number < begun) × (piece.message.bytes.now ≡ slice_index_or texts piece.number []))
    → ((¬ Has k x) → slice_index_or digests k [] ≡ sha256 (slice_index_or texts k []))
    → slice_index_or (with_digest x digests) k [] ≡ sha256 (slice_index_or texts k [])
ended_digest None texts begun digests k lt held else = else (λ has. has)
ended_digest (Some p) texts begun digests k lt held else = elim (cases_eq k p.number) [
  | inl e ↦ rw e (get_or-set_same digests p.number (sha256 p.message.bytes.now) [] (omega arith) ∙ ap sha256 held.1)
  | inr ne ↦ get_or-set_other digests p.number k (sha256 p.message.bytes.now) [] ne ∙ else (λ has. ne (sym has))
]

pub length-with_digest : (x : Option Piece) (digests : List (List ℕ)) → length (with_digest x digests) ≡ length digests
length-with_digest None digests = refl
length-with_digest (Some p) digests = length-set digests p.number (sha256 p.message.bytes.now)

pub way_ended : (texts : List (List ℕ)) (begun : ℕ) (lanes : List (Option Piece)) (lane : ℕ) (digests : List (List ℕ)) → lane < 8
    → IsUnderWay texts begun lanes digests → IsUnderWay texts begun (slice_set lanes lane None) (with_digest (at lanes lane) digests)
way_ended texts begun lanes lane digests low way = record {
  count = length-with_digest (at lanes lane) digests ∙ way.count;
  among = way.among;
  held = each_emptied (λ x. IfSome x (λ piece. (piece.number < begun) × (piece.message.bytes.now ≡ slice_index_or texts piece.number []))) lanes lane tt way.held;
  done = λ k lt none. ended_digest (at lanes lane) texts begun digests k (omega (arith, way.count, way.among)) (way.held lane low)
      (λ hasnt. way.done k lt (λ j below has. elim (cases_eq j lane) [
        | inl e ↦ hasnt (rw e at has)
        | inr ne ↦ none j below (rw (get_or-set_other lanes lane j None None ne) has)
      ]));
}

-- the piece of a lane is still one of those begun
longer : (x : Option Piece) (texts : List (List ℕ)) (begun : ℕ)
    → IfSome x (λ piece. (piece.number < begun) × (piece.message.bytes.now ≡ slice_index_or texts piece.number []))
    → IfSome x (λ piece. (piece.number < begun + 1) × (piece.message.bytes.now ≡ slice_index_or texts piece.number []))
longer None texts begun held = tt
longer (Some p) texts begun held = (omega arith, held.1)

-- a piece begins in an empty lane
pub way_begun : (texts : List (List ℕ)) (begun : ℕ) (lanes : List (Option Piece)) (lane : ℕ) (digests : List (List ℕ)) (piece : Piece)
    → lane < 8 → length lanes ≡ 8 → begun < length texts → at lanes lane ≡ None → piece.number ≡ begun
    → piece.message.bytes.now ≡ slice_index_or texts begun [] → IsUnderWay texts begun lanes digests
    → IsUnderWay texts (begun + 1) (slice_set lanes lane (Some piece)) digests
way_begun texts begun lanes lane digests piece low long fits empty number bytes way =
    let here : at (slice_set lanes lane (Some piece)) lane ≡ Some piece = get_or-set_same lanes lane (Some piece) None (omega arith) in
    record {
      count = way.count;
      among = omega arith;
      held = λ j lt. elim (cases_eq j lane) [
        | inl e ↦ rw (e, here) (omega arith, bytes ∙ ap (λ n. slice_index_or texts n []) (sym number))
        | inr ne ↦ rw (get_or-set_other lanes lane j (Some piece) None ne) (longer (at lanes j) texts begun (way.held j lt))
      ];
      done = λ k lt none. elim (cases_eq k begun) [
        | inl e ↦ absurd (none lane low (rw here (number ∙ sym e)))
        | inr ne ↦ way.done k (omega (arith, ne)) (λ j below has. elim (cases_eq j lane) [
          | inl e ↦ (let none_here = rw (e, empty) at has in absurd none_here)
          | inr ne ↦ none j below (rw (get_or-set_other lanes lane j (Some piece) None ne) has)
        ])
      ];
    }

-- no piece was begun
pub way_first : (texts : List (List ℕ)) (lanes : List (Option Piece)) (digests : List (List ℕ)) → length digests ≡ length texts
    → ((j : ℕ) → j < 8 → at lanes j ≡ None) → IsUnderWay texts 0 lanes digests
way_first texts lanes digests count empty = record {
  count = count;
  among = omega arith;
  held = λ j lt. rw (empty j lt) tt;
  done = λ k lt none. absurd (omega arith);
}

-- all pieces have ended
pub way_last : (texts : List (List ℕ)) (lanes : List (Option Piece)) (digests : List (List ℕ)) → ((j : ℕ) → j < 8 → at lanes j ≡ None)
    → IsUnderWay texts (length texts) lanes digests → digests ≡ map sha256 texts
way_last texts lanes digests empty way =
    same_lists digests (map sha256 texts) (way.count ∙ sym (length-map texts sha256)) (λ k d lt.
    at_any (λ x. slice_index_or digests k d ≡ x) digests k d [] lt refl
    ∙ way.done k (omega (arith, way.count)) (λ j below has. let none = rw (empty j below) at has in absurd none)
    ∙ sym (get_or-map sha256 texts k [] d (omega (arith, way.count))))

-- as many bytes as a length says, or all where there are fewer
pub front_of : (n m : ℕ) (rest front behind : List ℕ) → m ≡ min n (length rest) → front ≡ take m rest → behind ≡ drop m rest
    → (front ≡ take n rest) × (behind ≡ drop n rest)
front_of n m rest front behind em ef eb = (ef ∙ rw em (take_min n rest), eb ∙ rw em (drop_min n rest))
