use Rattle.std.proofs.Common.{◌≡◌, ◌&&◌, ◌==◌, ◌^◌, ℕ, Bool, true, false, nat_lt, refl, sym, ap, List, [], ◌∷◌, length, Some, None, Result, Ok, Err, lt-ltb, ltb-true, true≢false}
use Rattle.std.specs.Char.{is_digit}
use Rattle.std.specs.List.{list_all, slice_index}
use Rattle.std.specs.Result.{result_ok}
use Rattle.std.specs.Str.Parse.{AllDigits, ParsesUnsigned, digits_value, without_leading_plus}
use Rattle.repo_script.specs.Numbers.{is_numeral, number}

digits_pass : (ds : List ℕ) → AllDigits 10 ds → list_all (λ d. is_digit d 10) ds ≡ true
digits_pass [] h = refl
digits_pass (d ∷ ds) h = rw (lt-ltb _ 10 h.0) (digits_pass ds h.1)

both : (a b : Bool) → (a && b) ≡ true → (a ≡ true) × (b ≡ true)
both true b e = (refl, e)
both false b e = absurd (true≢false (sym e))

digits_from : (ds : List ℕ) → list_all (λ d. is_digit d 10) ds ≡ true → AllDigits 10 ds
digits_from [] e = tt
digits_from (d ∷ ds) e =
    let parts = both _ _ e in
    (ltb-true _ _ parts.0, digits_from ds parts.1)

abbrev is_number : ℕ → List ℕ → Bool
is_number bits ds = is_numeral ds && nat_lt (digits_value 10 ds) (2 ^ bits)

-- what is read of a word without a plus
read_plain : {E : Type 0} (bits : ℕ) (ds : List ℕ) (r : Result ℕ E) → ParsesUnsigned bits 10 ds r → without_leading_plus ds ≡ ds → result_ok r ≡ number bits ds
read_plain bits ds (Ok n) h plain =
    let was = rw plain at h in
    rw (lt-ltb 0 (length ds) was.0.0.0, digits_pass ds was.0.0.1, lt-ltb (digits_value 10 ds) (2 ^ bits) was.0.1) (ap Some was.1)
read_plain bits ds (Err e) h plain = go (is_number bits ds) refl
  where
    go : (b : Bool) → is_number bits ds ≡ b → None ≡ number bits ds
    go false t = rw t refl
    go true t =
        let outer = both _ _ t in
        let inner = both _ _ outer.0 in
        let was = rw plain at h in
        absurd (was ((ltb-true _ _ inner.0, digits_from ds inner.1), ltb-true _ _ outer.1))

pub number_read : {E : Type 0} (bits : ℕ) (ds : List ℕ) (r : Result ℕ E) → (slice_index ds 0 == 43) ≡ false → ParsesUnsigned bits 10 ds r → result_ok r ≡ number bits ds
number_read bits ds r plain h = read_plain bits ds r h (rw plain refl)
