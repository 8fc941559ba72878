-- Bytes that are heard piece by piece.
use Rattle.std.proofs.Common.{◌≡◌, ◌≤◌, ◌+◌, ◌++◌, ◌∙◌, ℕ, List, Option, Result, Ok, Err, length, take, drop, sym, ap, subst, length-append, arith}
use Rattle.std.specs.Result.{OnOk}
use Rattle.std.specs.Io.KnownBytes.{Appends, Consumes}
use Rattle.std.proofs.KnownBytes.{Consumes-trans}
use Rattle.std.proofs.Math.Seq.{take-add}
use Rattle.std.proofs.lemmas.List.{append_cancel_left, length-drop, length-take-le}
use Rattle.repo_play.specs.Frames.{Differs, IsCarried}

-- some more bytes are heard
pub heard_more : (first old new : Option (List ℕ)) (coming : List ℕ) (heard count : ℕ) → Consumes first old (take heard coming) → Consumes old new (take count (drop heard coming))
    → Consumes first new (take (heard + count) coming)
heard_more first old new coming heard count before more =
    subst (Consumes first new) (sym (take-add heard count coming)) (Consumes-trans first old new (take heard coming) (take count (drop heard coming)) before more)

-- something else is heard, behind what was heard before
pub differs_later : (first old new : Option (List ℕ)) (coming : List ℕ) (heard : ℕ) → heard ≤ length coming → Consumes first old (take heard coming) → Differs (drop heard coming) old new
    → Differs coming first new
differs_later first old new coming heard within before more =
    let front = length-take-le heard coming within in
    let both = length-append (take heard coming) more.came in
    let left = length-drop heard coming in
    let few = more.few in
    let size : length (take heard coming ++ more.came) ≡ heard + length more.came = omega (arith, front, both) in
    let begins = ap (λ n. take n coming) size ∙ take-add heard (length more.came) coming in
    record {
      came = take heard coming ++ more.came;
      few = omega (arith, size, left, few, within);
      read = Consumes-trans first old new (take heard coming) more.came before more.read;
      other = λ e. more.other (append_cancel_left (take heard coming) more.came (take (length more.came) (drop heard coming)) (e ∙ begins));
    }

-- what was written is read
pub then_carried : {T E : Type 0} (result : Result T E) (bytes : List ℕ) (ahead left start contents : Option (List ℕ)) → length bytes ≤ 65536 → Appends start contents bytes
    → OnOk result (Consumes ahead left bytes) → OnOk result (IsCarried bytes ahead left start contents)
then_carried (Ok x) bytes ahead left start contents few wrote read = record { few = few; wrote = wrote; read = read }
then_carried (Err e) bytes ahead left start contents few wrote read = tt
