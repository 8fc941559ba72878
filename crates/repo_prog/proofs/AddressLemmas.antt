-- Where an address is split: at its last colon, behind which its port stands.
use Rattle.std.proofs.Common.{◌≡◌, ◌≢◌, ◌++◌, ◌∷◌, ◌∙◌, [], ℕ, zero, suc, ◌+◌, ◌≤◌, ◌<◌, List, Option, Some, None, IfNone, MatchOption, Result, Ok, Err, is_ok, Bool, false, IsTrue, ◌==◌, Bor, length, take, drop, get_or, eqb, refl, ap, ap₂, sym, subst, ⊎_elim, arith, take-append-drop}
use Rattle.std.specs.Result.{result_ok}
use Rattle.std.specs.Str.Parse.{AllDigits, ParsesUnsigned, digits_value, without_leading_plus}
use Rattle.std.specs.Str.Pattern.{RFindsChar}
use Rattle.std.specs.Str.{NoCharPasses}
use Rattle.std.proofs.lemmas.Bool.{cases_eq, ne_eqb, true≢false}
use Rattle.std.proofs.lemmas.Str.Parse.{digit_from_value, without_leading_plus_none, without_leading_plus_plus}
use Rattle.std.proofs.lemmas.Str.Pattern.{NoCharPasses-char, drop_at_char}
use Rattle.repo_prog.specs.Addresses.{IsPort, IsAddress, LeavesPort}

-- no byte of a text is a colon
abbrev pub LacksColon : List ℕ → Type 0
LacksColon text = (i : ℕ) → i < length text → get_or text i 0 ≡ 58 → ⊥

-- the clause of `rsplit_once` at a colon
abbrev IsSplit : List ℕ → Option (Bor (List ℕ) × Bor (List ℕ)) → Type 0
IsSplit text r = MatchOption r (RFindsChar 58 text None)
    (λ x. (i : ℕ) × (j : ℕ) × RFindsChar 58 text (Some (i, j)) × (x.0.now ≡ take i text) × (x.1.now ≡ drop j text) × (i ≤ j) × (length x.0.now ≡ i) × (length x.1.now + j ≡ length text))

-- what it says of the text's parts
pub split_parts : (text : List ℕ) (r : Option (Bor (List ℕ) × Bor (List ℕ))) → IsSplit text r
    → MatchOption r (LacksColon text) (λ x. (text ≡ x.0.now ++ 58 ∷ x.1.now) × LacksColon x.1.now)
split_parts text None h = λ i. NoCharPasses-char 58 text i h (omega arith)
split_parts text (Some x) h = (
  sym (take-append-drop h.0 text) ∙ (λ k. sym h.3 k ++ (drop_at_char 58 text h.0 h.1 h.2.1 (omega arith) ∙ ap (λ l. 58 ∷ l) (sym h.4)) k),
  λ i. NoCharPasses-char 58 x.1.now i (subst (NoCharPasses (λ d. eqb d 58)) (sym h.4) h.2.0) (omega arith),
)

-- a colon is no digit
digits_lack : (text : List ℕ) → AllDigits 10 text → LacksColon text
digits_lack [] digits i l = absurd (omega arith)
digits_lack (c ∷ cs) digits zero l = λ e. omega (arith, e, digit_from_value c digits.0)
digits_lack (c ∷ cs) digits (suc i) l = digits_lack cs digits.1 i (omega arith)

-- so a port has none
port_lacks : (port : List ℕ) → IsPort port → LacksColon port
port_lacks [] is = λ i l. absurd (omega arith)
port_lacks (c ∷ cs) is =
    ⊎_elim
    (λ plus. behind plus (digits_lack cs (subst (AllDigits 10) (without_leading_plus_plus (c ∷ cs) plus) is.0.1)))
    (λ other. digits_lack (c ∷ cs) (subst (AllDigits 10) (without_leading_plus_none (c ∷ cs) other) is.0.1))
    (cases_eq c 43)
  where
    behind : c ≡ 43 → LacksColon cs → LacksColon (c ∷ cs)
    behind plus none zero l = λ e. omega (arith, e, plus)
    behind plus none (suc i) l = none i (omega arith)

-- a colon that stands there
pub has_colon : (front port : List ℕ) → LacksColon (front ++ 58 ∷ port) → ⊥
has_colon [] port lacks = lacks 0 (omega arith) refl
has_colon (c ∷ front) port lacks = has_colon front port (λ i l. lacks (suc i) (omega arith))

-- a text is split at its last colon in one way
one_split : (host port front back : List ℕ) → host ++ 58 ∷ port ≡ front ++ 58 ∷ back → LacksColon port → LacksColon back → (host ≡ front) × (port ≡ back)
one_split [] port [] back e a b = (refl, ap (drop 1) e)
one_split [] port (d ∷ front) back e a b = absurd (has_colon front back (subst LacksColon (ap (drop 1) e) a))
one_split (c ∷ host) port [] back e a b = absurd (has_colon host port (subst LacksColon (sym (ap (drop 1) e)) b))
one_split (c ∷ host) port (d ∷ front) back e a b =
    let rest = one_split host port front back (ap (drop 1) e) a b in
    (ap₂ (λ x xs. x ∷ xs) (ap (λ l. get_or l 0 0) e) rest.0, rest.1)

-- whether a port was read
pub reads_port : {E : Type 0} (port : List ℕ) (r : Result ℕ E) → ParsesUnsigned 16 10 port r → (b : Bool) → b ≡ is_ok r → (IsTrue b → IsPort port) × (IsPort port → IsTrue b)
reads_port port (Ok n) h b e = (λ t. h.0, λ is. e)
reads_port port (Err error) h b e = (λ t. absurd (true≢false (sym t ∙ e)), λ is. absurd (h is))

-- whether a host is there
pub has_host : (host : List ℕ) (b : Bool) → b ≡ (length host == 0) → (b ≡ false → host ≢ []) × (host ≢ [] → b ≡ false)
has_host [] b e = (λ f. absurd (true≢false (sym e ∙ f)), λ there. absurd (there refl))
has_host (c ∷ host) b e = (λ f empty. absurd (omega (arith, ap length empty)), λ there. e ∙ ne_eqb _ 0 (λ z. omega (arith, z)))

-- so the parts of an address are those of its split
pub address_parts : (text host port : List ℕ) → text ≡ host ++ 58 ∷ port → LacksColon port → IsAddress text → (host ≢ []) × IsPort port
address_parts text host port e lacks is =
    let parts = one_split is.0 is.1 host port (sym is.2 ∙ e) (port_lacks is.1 is.4) lacks in
    (subst (λ h. h ≢ []) parts.0 is.3, subst IsPort parts.1 is.4)

-- and where it leaves the port to the system, that of its split is 0
pub left_port : (text host port front : List ℕ) → text ≡ host ++ 58 ∷ port → LacksColon port → LeavesPort text front → IsPort port × (digits_value 10 (without_leading_plus port) ≡ 0)
left_port text host port front e lacks is =
    let parts = one_split front is.0 host port (sym is.1 ∙ e) (port_lacks is.0 is.2) lacks in
    (subst IsPort parts.1 is.2, subst (λ p. digits_value 10 (without_leading_plus p) ≡ 0) parts.1 is.3)

-- such a port is read as 0
pub reads_zero : {E : Type 0} (port : List ℕ) (r : Result ℕ E) → ParsesUnsigned 16 10 port r → IsPort port → digits_value 10 (without_leading_plus port) ≡ 0 → result_ok r ≡ Some 0
reads_zero port (Ok n) h is e = ap Some (h.1 ∙ e)
reads_zero port (Err error) h is e = absurd (h is)

-- what is a number isn't none, nor another number
pub some_not_none : (o : Option ℕ) (n : ℕ) → o ≡ None → o ≡ Some n → ⊥
some_not_none None n e f = absurd (cc)
some_not_none (Some m) n e f = absurd (cc)

pub one_number : (o : Option ℕ) (m n : ℕ) → o ≡ Some m → o ≡ Some n → m ≡ n
one_number None m n e f = absurd (cc)
one_number (Some k) m n e f = cc

-- where there is none, so it is
pub of_none : {A : Type 0} (X : Type 0) (r : Option A) → X → IfNone r X
of_none X None x = x
of_none X (Some a) x = tt
