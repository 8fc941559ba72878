-- Locks that are removed one after another.
use Rattle.std.proofs.Common.{◌≡◌, ◌<◌, ◌+◌, ◌++◌, ◌∷◌, [], ℕ, List, length, take, drop, get_or, refl, sym, ap, subst, suc, arith, ◌∙◌}
use Rattle.std.proofs.Math.Seq.{take-suc, drop-cons}
use Rattle.std.proofs.lemmas.List.{length-take-le, take-append-drop}
use Rattle.repo_name.specs.declared.tokens.Token.{Token}
use Rattle.repo_wire.specs.declared.messages.Ask.{Ask}
use Rattle.repo_prog.specs.Asking.{Streams, request_of, Asked, AreRemoved, Removes}
use Rattle.repo_prog.specs.Commands.{IsEnd}
use Rattle.repo_prog.specs.Tellings.{removal_told}
use Rattle.repo_prog.specs.declared.callers.Caller.{Caller}
use Rattle.repo_prog.specs.declared.status.Status.{Status}

-- the lock of a token was asked to be removed, by the request of this number
abbrev pub Removal : Caller → ℕ → Token → Streams → Status → Streams → Type 0
Removal caller n token old status new = Asked (request_of caller n (Ask.Unlock token)) (removal_told token) old status new

-- one more was removed
removed_more : (caller : Caller) (n m : ℕ) (tokens : List Token) (token : Token) (old mid new : Streams) → m ≡ n + length tokens → AreRemoved caller n tokens old mid
    → Removal caller m token mid Status.Done new → AreRemoved caller n (tokens ++ token ∷ []) old new
removed_more caller n m [] token old mid new count same asked =
    let here : m ≡ n = omega arith in
    (new, subst (λ s. Removal caller n token s Status.Done new) same (subst (λ x. Removal caller x token mid Status.Done new) here asked), refl)
removed_more caller n m (t ∷ tokens) token old mid new count h asked =
    (h.0, h.1, removed_more caller (n + 1) m tokens token h.0 mid new (omega arith) h.2 asked)

-- and it is among the first ones
pub removed_next : (caller : Caller) (tokens : List Token) (k m : ℕ) (d : Token) (old mid new : Streams) → k < length tokens → m ≡ k + 2
    → AreRemoved caller 2 (take k tokens) old mid → Removal caller m (get_or tokens k d) mid Status.Done new → AreRemoved caller 2 (take (k + 1) tokens) old new
removed_next caller tokens k m d old mid new within number h asked =
    let token = get_or tokens k d in
    let more : k + 1 ≡ suc k = omega arith in
    let first : take (k + 1) tokens ≡ take k tokens ++ token ∷ [] = ap (λ n. take n tokens) more ∙ take-suc tokens k d within in
    subst (λ ts. AreRemoved caller 2 ts old new) (sym first) (removed_more caller 2 m (take k tokens) token old mid new (omega (arith, length-take-le k tokens (omega arith))) h asked)

-- the tokens before the one that stopped it, it, and those after
cut_at : (tokens : List Token) (k : ℕ) (d : Token) → k < length tokens → tokens ≡ take k tokens ++ get_or tokens k d ∷ drop (suc k) tokens
cut_at tokens k d within = sym (take-append-drop k tokens) ∙ ap (λ ts. take k tokens ++ ts) (drop-cons tokens k d within)

-- it stopped at one
pub stopped_at : (caller : Caller) (tokens : List Token) (k m : ℕ) (d : Token) (status : Status) (old mid new : Streams) → k < length tokens → m ≡ k + 2
    → AreRemoved caller 2 (take k tokens) old mid → Removal caller m (get_or tokens k d) mid status new → IsEnd status → (status ≡ Status.Done → ⊥) → Removes caller tokens old status new
stopped_at caller tokens k m d Status.Done old mid new within number h asked ends other = absurd (other refl)
stopped_at caller tokens k m d Status.Failed old mid new within number h asked ends other =
    let count : m ≡ length (take k tokens) + 2 = omega (arith, length-take-le k tokens (omega arith)) in
    record {
      before = take k tokens;
      token = get_or tokens k d;
      after = drop (suc k) tokens;
      cut = cut_at tokens k d within;
      last = mid;
      removed = h;
      stops = subst (λ n. Removal caller n (get_or tokens k d) mid Status.Failed new) count asked;
    }
stopped_at caller tokens k m d Status.Usage old mid new within number h asked ends other = absurd ends
stopped_at caller tokens k m d Status.Flawed old mid new within number h asked ends other = absurd ends
