use Rattle.std.proofs.Common.{◌≡◌, ◌<◌, ◌+◌, ◌++◌, ◌∷◌, [], ◌∙◌, ◌==◌, ℕ, Bool, true, false, refl, sym, ap, List, length, map, get_or, eqb-true, take, drop, Some, None, arith}
use Rattle.std.specs.List.{All, AllByRecursion, slice_split, onto_first, position_or_len}
use Rattle.std.proofs.lemmas.Bool.{false_from_ne_true}
use Rattle.std.proofs.lemmas.List.Elements.{recursion_from_All, All-from_recursion}
use Rattle.std.proofs.lemmas.List.Splits.{slice_split_none, slice_split_first, slice_split-cons_yes, slice_split-cons_no}
use Rattle.std.proofs.lemmas.List.Sums.{position_or_len_is, fails_before_first, split_at_first}
use Rattle.memchr.specs.Find.{IsFirstByte, is_byte}
use Rattle.repo_script.specs.Cuts.{cut, line_feed}

abbrev ends : ℕ → Bool
ends b = b == line_feed

-- without a line feed there is one part
pub no_line_ends : (stream : List ℕ) → IsFirstByte (is_byte 10) stream None → cut line_feed stream ≡ stream ∷ []
no_line_ends stream h =
    let at : position_or_len ends stream ≡ length stream = position_or_len_is ends stream (length stream) 0 (omega arith) (λ k below. false_from_ne_true _ (h k (omega arith) below)) (λ l. absurd (omega arith)) in
    slice_split_none ends stream (λ k d below. fails_before_first ends stream k d (rw at below))

-- a line's bytes, and what follows its line feed
pub line_ends : (stream : List ℕ) (end : ℕ) → IsFirstByte (is_byte 10) stream (Some end)
    → (stream ≡ take end stream ++ line_feed ∷ drop (end + 1) stream) × (cut line_feed stream ≡ take end stream ∷ cut line_feed (drop (end + 1) stream))
line_ends stream end h =
    let at : position_or_len ends stream ≡ end = position_or_len_is ends stream end 0 (omega (arith, h.0.high)) (λ k below. false_from_ne_true _ (h.0.before k (omega arith) below)) (λ l. h.1) in
    let inside : position_or_len ends stream < length stream = rw at h.0.high in
    let byte : get_or stream end 0 ≡ line_feed = eqb-true _ _ h.1 in
    let whole = rw (at, byte) at (split_at_first ends stream 0 inside) in
    let parts = rw at at (slice_split_first ends stream 0 inside) in
    (whole, parts)

-- ---- a stream that goes on

-- the parts of one list, and then those of another, as one list
abbrev glued : List (List ℕ) → List (List ℕ) → List (List ℕ)
glued [] more = more
glued (a ∷ []) [] = a ∷ []
glued (a ∷ []) (b ∷ more) = (a ++ b) ∷ more
glued (a ∷ b ∷ parts) more = a ∷ glued (b ∷ parts) more

abbrev HasFirst : List (List ℕ) → Type 0
HasFirst parts = (first : List ℕ) × (more : List (List ℕ)) × (parts ≡ first ∷ more)

onto_has : (x : ℕ) (parts : List (List ℕ)) → HasFirst (onto_first x parts)
onto_has x [] = (x ∷ [], [], refl)
onto_has x (part ∷ parts) = (x ∷ part, parts, refl)

cut_has : (xs : List ℕ) → HasFirst (slice_split ends xs)
cut_has [] = ([], [], refl)
cut_has (x ∷ xs) = go (ends x) refl
  where
    go : (b : Bool) → ends x ≡ b → HasFirst (slice_split ends (x ∷ xs))
    go true e = ([], slice_split ends xs, slice_split-cons_yes ends x xs e)
    go false e = rw (slice_split-cons_no ends x xs e) (onto_has x (slice_split ends xs))

glued_onto_nil : (parts : List (List ℕ)) → HasFirst parts → glued ([] ∷ []) parts ≡ parts
glued_onto_nil [] has = absurd (cc)
glued_onto_nil (part ∷ parts) has = refl

glued_cons : (a : List ℕ) (parts more : List (List ℕ)) → HasFirst parts → glued (a ∷ parts) more ≡ a ∷ glued parts more
glued_cons a [] more has = absurd (cc)
glued_cons a (b ∷ parts) more has = refl

glued_onto : (x : ℕ) (parts more : List (List ℕ)) → HasFirst parts → HasFirst more → onto_first x (glued parts more) ≡ glued (onto_first x parts) more
glued_onto x [] more has other = absurd (cc)
glued_onto x (a ∷ []) [] has other = absurd (cc)
glued_onto x (a ∷ []) (b ∷ more) has other = refl
glued_onto x (a ∷ b ∷ parts) more has other = refl

cut_both : (xs ys : List ℕ) → slice_split ends (xs ++ ys) ≡ glued (slice_split ends xs) (slice_split ends ys)
cut_both [] ys = sym (glued_onto_nil (slice_split ends ys) (cut_has ys))
cut_both (x ∷ xs) ys = go (ends x) refl (cut_both xs ys)
  where
    go : (b : Bool) → ends x ≡ b → slice_split ends (xs ++ ys) ≡ glued (slice_split ends xs) (slice_split ends ys)
        → slice_split ends (x ∷ (xs ++ ys)) ≡ glued (slice_split ends (x ∷ xs)) (slice_split ends ys)
    go true e more =
        rw (slice_split-cons_yes ends x xs e, slice_split-cons_yes ends x (xs ++ ys) e)
        (ap (λ p. [] ∷ p) more ∙ sym (glued_cons [] (slice_split ends xs) (slice_split ends ys) (cut_has xs)))
    go false e more =
        rw (slice_split-cons_no ends x xs e, slice_split-cons_no ends x (xs ++ ys) e)
        (ap (onto_first x) more ∙ glued_onto x (slice_split ends xs) (slice_split ends ys) (cut_has xs) (cut_has ys))

append_has : (lines parts : List (List ℕ)) → HasFirst parts → HasFirst (lines ++ parts)
append_has [] parts has = has
append_has (line ∷ lines) parts has = (line, lines ++ parts, refl)

glued_after : (lines parts more : List (List ℕ)) → HasFirst parts → glued (lines ++ parts) more ≡ lines ++ glued parts more
glued_after [] parts more has = refl
glued_after (line ∷ lines) parts more has =
    glued_cons line (lines ++ parts) more (append_has lines parts has) ∙ ap (λ p. line ∷ p) (glued_after lines parts more has)

pub goes_on : (stream : List ℕ) (lines : List (List ℕ)) (rest piece : List ℕ)
    → cut line_feed stream ≡ lines ++ cut line_feed rest → cut line_feed (stream ++ piece) ≡ lines ++ cut line_feed (rest ++ piece)
goes_on stream lines rest piece h =
    cut_both stream piece
    ∙ ap (λ p. glued p (slice_split ends piece)) h
    ∙ glued_after lines (slice_split ends rest) (slice_split ends piece) (cut_has rest)
    ∙ ap (λ p. lines ++ p) (sym (cut_both rest piece))

-- ---- facts of each of some words

from_mapped : {X : Type 0} (P : List ℕ → Type 0) (f : X → List ℕ) (xs : List X) → AllByRecursion P (map f xs) → AllByRecursion (λ x. P (f x)) xs
from_mapped P f [] h = tt
from_mapped P f (x ∷ xs) h = (h.0, from_mapped P f xs h.1)

pub all_mapped : {X : Type 0} (P : List ℕ → Type 0) (f : X → List ℕ) (xs : List X) → All P (map f xs) → All (λ x. P (f x)) xs
all_mapped P f xs h = All-from_recursion _ xs (from_mapped P f xs (recursion_from_All P (map f xs) h))
