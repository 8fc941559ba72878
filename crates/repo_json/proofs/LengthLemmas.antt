-- How long written texts are at most.
use Rattle.std.proofs.Common.{◌≡◌, ◌≤◌, ◌<◌, ◌+◌, ◌*◌, ◌/◌, ◌%◌, ◌^◌, ◌||◌, ◌&&◌, ◌++◌, ◌∷◌, [], ℕ, zero, suc, Bool, true, false, List, length, cond, arith, length-append, lit≤, refl, inl, inr, slice_index}
use Rattle.std.proofs.lemmas.Bool.{and_parts, cases_lt, eqb-true}
use Rattle.std.proofs.lemmas.Fmt.{length-decimal-le}
use Rattle.std.specs.Prelude.{decimal, nat_lt, ◌==◌}
use Rattle.std.specs.List.{flat_map}
use Rattle.std.specs.Char.{digit_char}
use Rattle.hex.specs.Hex.{IsBytes, encode_with, lower_digits}
use Rattle.hex.proofs.HexLemmas.{length-encode_with}
use Rattle.serde_json.specs.Data.{Data, string, Items, item, Members, member}
use Rattle.serde_json.proofs.OnLiterals.{serde_json_on_literals}
use Rattle.serde_json.specs.Written.{compact_text, items_text, members_text, comma_if}
use Rattle.repo_name.specs.Naming.{hex_of, IsName}
use Rattle.repo_name.specs.declared.names.Name.{Name}

-- ---- texts with nothing to escape

-- the letter of a byte's short escape, or 0
abbrev letter : ℕ → ℕ
letter x = cond ((x == 34) || (x == 92)) x (cond (x == 8) 98 (cond (x == 12) 102 (cond (x == 10) 110 (cond (x == 13) 114 (cond (x == 9) 116 0)))))

-- what is written for a byte in a string
abbrev piece : ℕ → List ℕ
piece x = cond (nat_lt 0 (letter x)) (92 ∷ letter x ∷ [])
    (cond (nat_lt x 32) (92 ∷ 117 ∷ 48 ∷ 48 ∷ digit_char (x / 16) ∷ digit_char (x % 16) ∷ []) (x ∷ []))

-- a byte that stands for itself
abbrev is_plain : ℕ → Bool
is_plain x = length (piece x) == 1

-- each byte does
abbrev pub all_plain : List ℕ → Bool
all_plain [] = true
all_plain (x ∷ xs) = is_plain x && all_plain xs

pieces_plain : (s : List ℕ) → all_plain s ≡ true → length (flat_map piece s) ≡ length s
pieces_plain [] h = refl
pieces_plain (x ∷ xs) h =
    let p = and_parts (is_plain x) (all_plain xs) h in
    omega (arith, length-append (piece x) (flat_map piece xs), eqb-true (length (piece x)) 1 p.0, pieces_plain xs p.1)

quotes_plain : (s : List ℕ) → all_plain s ≡ true → length (34 ∷ (flat_map piece s ++ 34 ∷ [])) ≡ length s + 2
quotes_plain s h = omega (arith, length-append (flat_map piece s) (34 ∷ []), pieces_plain s h)

-- it takes two bytes more in quotes
pub plain_length : (s : List ℕ) → all_plain s ≡ true → length (compact_text (string s)) ≡ length s + 2
unfolding serde_json_on_literals
plain_length s h = quotes_plain s h

-- the digits at the first places are plain
abbrev digits_plain : ℕ → Bool
digits_plain zero = true
digits_plain (suc n) = is_plain (slice_index lower_digits n) && digits_plain n

digit_plain : (n k : ℕ) → digits_plain n ≡ true → k < n → is_plain (slice_index lower_digits k) ≡ true
digit_plain zero k h lt = absurd (omega arith)
digit_plain (suc n) k h lt =
    let parts = and_parts (is_plain (slice_index lower_digits n)) (digits_plain n) h in
    elim (cases_lt k n) [
      | inl below ↦ digit_plain n k parts.1 below
      | inr top ↦
          let e : k ≡ n = omega arith in
          rw e parts.0
    ]

encoded_plain : (xs : List ℕ) → IsBytes xs → all_plain (encode_with lower_digits xs) ≡ true
unfolding encode_with
encoded_plain [] is = refl
encoded_plain (b ∷ rest) is =
    let byte : b < 256 = is 0 in
    rw (digit_plain 16 (b / 16) refl (omega arith), digit_plain 16 (b % 16) refl (omega arith)) (encoded_plain rest (λ i. is (suc i)))

pub name_length : (n : Name) → IsName n → length (compact_text (string (hex_of n))) ≡ 66
name_length n is = omega (arith, plain_length (hex_of n) (encoded_plain n.0 is.1), length-encode_with lower_digits n.0, is.0)

-- ---- members and items

comma_short : (later : Bool) → length (comma_if later) ≤ 1
comma_short true = lit≤ tt
comma_short false = lit≤ tt

-- a member, with those behind it
pub member_length : (later : Bool) (k : List ℕ) (d : Data) (ms : Members) → all_plain k ≡ true
    → length (members_text later (member k d ms)) ≤ length k + 4 + length (compact_text d) + length (members_text true ms)
member_length later k d ms plain =
    let inner = length-append (compact_text d) (members_text true ms) in
    let outer = length-append (compact_text (string k)) (58 ∷ (compact_text d ++ members_text true ms)) in
    let all = length-append (comma_if later) (compact_text (string k) ++ 58 ∷ (compact_text d ++ members_text true ms)) in
    omega (arith, inner, outer, all, plain_length k plain, comma_short later)

-- the first member
pub first_length : (k : List ℕ) (d : Data) (ms : Members) → all_plain k ≡ true
    → length (members_text false (member k d ms)) ≤ length k + 3 + length (compact_text d) + length (members_text true ms)
first_length k d ms plain =
    let inner = length-append (compact_text d) (members_text true ms) in
    let outer = length-append (compact_text (string k)) (58 ∷ (compact_text d ++ members_text true ms)) in
    omega (arith, inner, outer, plain_length k plain)

-- an item, with those behind it
pub item_length : (later : Bool) (d : Data) (ds : Items) → length (items_text later (item d ds)) ≤ 1 + length (compact_text d) + length (items_text true ds)
item_length later d ds =
    let inner = length-append (compact_text d) (items_text true ds) in
    let all = length-append (comma_if later) (compact_text d ++ items_text true ds) in
    omega (arith, inner, all, comma_short later)

-- ---- texts of any bytes

cond_short : (b : Bool) (xs ys : List ℕ) (n : ℕ) → length xs ≤ n → length ys ≤ n → length (cond b xs ys) ≤ n
cond_short true xs ys n h g = h
cond_short false xs ys n h g = g

-- pieces of no more than six
pieces_short : (f : ℕ → List ℕ) → ((x : ℕ) → length (f x) ≤ 6) → (s : List ℕ) → length (flat_map f s) ≤ 6 * length s
pieces_short f h [] = lit≤ tt
pieces_short f h (x ∷ xs) = omega (arith, length-append (f x) (flat_map f xs), h x, pieces_short f h xs)

-- such pieces in quotes
quotes_short : (f : ℕ → List ℕ) → ((x : ℕ) → length (f x) ≤ 6) → (s : List ℕ) → length (34 ∷ (flat_map f s ++ 34 ∷ [])) ≤ 6 * length s + 2
quotes_short f h s = omega (arith, length-append (flat_map f s) (34 ∷ []), pieces_short f h s)

piece_short : (x : ℕ) → length (piece x) ≤ 6
piece_short x = cond_short (nat_lt 0 (letter x)) (92 ∷ letter x ∷ [])
    (cond (nat_lt x 32) (92 ∷ 117 ∷ 48 ∷ 48 ∷ digit_char (x / 16) ∷ digit_char (x % 16) ∷ []) (x ∷ [])) 6 (lit≤ tt)
    (cond_short (nat_lt x 32) (92 ∷ 117 ∷ 48 ∷ 48 ∷ digit_char (x / 16) ∷ digit_char (x % 16) ∷ []) (x ∷ []) 6 (lit≤ tt) (lit≤ tt))

-- a text in quotes takes six bytes a byte at most
pub text_short : (s : List ℕ) → length (compact_text (string s)) ≤ 6 * length s + 2
unfolding serde_json_on_literals
text_short s = quotes_short piece piece_short s

-- a number of 64 bits
pub decimal_short : (n : ℕ) → n < 2 ^ 64 → length (decimal n) ≤ 20
decimal_short n h = length-decimal-le 20 n (omega arith) (omega arith) h

-- a member, with those behind it
pub member_short : (later : Bool) (k : List ℕ) (d : Data) (ms : Members)
    → length (members_text later (member k d ms)) ≤ 6 * length k + 4 + length (compact_text d) + length (members_text true ms)
member_short later k d ms =
    let inner = length-append (compact_text d) (members_text true ms) in
    let outer = length-append (compact_text (string k)) (58 ∷ (compact_text d ++ members_text true ms)) in
    let all = length-append (comma_if later) (compact_text (string k) ++ 58 ∷ (compact_text d ++ members_text true ms)) in
    omega (arith, inner, outer, all, text_short k, comma_short later)
