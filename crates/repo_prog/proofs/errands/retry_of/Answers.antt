use Rattle.std.proofs.Common.{◌≡◌, ◌⊎◌, ◌<◌, ◌^◌, ℕ, List, Option, Some, None, Result, Ok, Err, refl, sym, subst, inl, inr, unwrap_or, codes}
use Rattle.std.proofs.lemmas.Option.{same_Some}
use Rattle.std.specs.Str.Parse.{ExplainsUnsignedError, HasUnsignedDigitsIfOk, IsNumeral, ParsesUnsigned, digits_value, without_leading_plus}
use Rattle.std.specs.declared.num.ParseIntError.{ParseIntError}
use Rattle.clap.specs.Matches.{ReadsOne, found_of, one_text}
use Rattle.repo_prog.specs.Words.{IsRetryOf}
use Rattle.repo_prog.proofs.errands.retry_of.Goals as goal

abbrev value_of : List ℕ → ℕ
value_of digits = digits_value 10 (without_leading_plus digits)

-- the text is a number
abbrev Spells : Option (List ℕ) → Type 0
Spells text = (digits : List ℕ) × (text ≡ Some digits) × IsNumeral 10 (without_leading_plus digits) × (value_of digits < 2 ^ 64)

-- this is its number, or it is none and this is 0
abbrev Retries : Option (List ℕ) → ℕ → Type 0
Retries text retry = ((digits : List ℕ) × (text ≡ Some digits) × (retry ≡ value_of digits)) ⊎ ((retry ≡ 0) × ¬ Spells text)

module _ {E : Type 0} {Gives : List ℕ → Result ℕ E → Type 0} where
  retried : (text : Option (List ℕ)) (read : Option ℕ) → (text ≡ None → read ≡ None) → ((t : List ℕ) → text ≡ Some t → ReadsOne Gives t read)
      → ((t : List ℕ) (r : Result ℕ E) → Gives t r → ParsesUnsigned 64 10 t r) → Retries text (unwrap_or read 0)
  retried None None none value parses = inr (refl, λ h. absurd (let no : None ≡ Some h.0 = h.1 in cc))
  retried None (Some n) none value parses = absurd (let no : Some n ≡ None = none refl in cc)
  retried (Some t) (Some n) none value parses = inl (t, refl, (parses t (Ok n) (value t refl)).1)
  retried (Some t) None none value parses =
      let failed = value t refl in
      inr (refl, λ h. parses t (Err failed.0) failed.1 (subst (λ ds. IsNumeral 10 (without_leading_plus ds) × (value_of ds < 2 ^ 64)) (sym (same_Some t h.0 h.1)) (h.2, h.3)))

abbrev Gives_u64 : List ℕ → Result ℕ ParseIntError → Type 0
Gives_u64 t r = ParsesUnsigned 64 10 t r × ExplainsUnsignedError 10 t r × HasUnsignedDigitsIfOk t r

pub returns : goal.returns
returns c =
    subst (IsRetryOf c.args.words.now) (sym c.unwrap_or.ensures)
    (retried {Gives = Gives_u64} (one_text (found_of c.args.words.now) (codes "retry")) c.get_one.result c.get_one.ensures.none c.get_one.ensures.value (λ t r gives. gives.0))
