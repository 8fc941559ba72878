-- What a client gave out on each of its exchanges, from where its seat keeps it.
use Rattle.std.proofs.Common.{◌≡◌, ◌∙◌, ◌<◌, ◌≤◌, ◌++◌, ◌∷◌, [], ℕ, zero, suc, List, Option, Some, None, length, reverse, refl, ap, arith, slice_get, slice_index_or}
use Rattle.std.proofs.lemmas.List.{reverse-append}
use Rattle.repo_wire.specs.declared.messages.Reply.{Reply}
use Rattle.repo_session.specs.declared.emissions.Emission.{Emission}
use Rattle.repo_session.specs.Feeds.{Fed}
use Rattle.repo_world.specs.Seats.{kept_items, trace_back, trace_of}
use Rattle.repo_world.specs.World.{given_out}
use Rattle.repo_world.specs.declared.pasts.Past.{Past}

-- what was given out on the oldest of some exchanges
abbrev last_given : List Emission → List Past → List Emission
last_given given [] = given
last_given given (p ∷ older) = last_given p.before.items older

-- of one exchange more, the oldest
given_back : (replies : List Reply) (given : List Emission) (fed : List Fed) (ps : List Past) (p : Past) → given_out (trace_back replies given fed (ps ++ p ∷ [])) ≡ last_given given ps ∷ given_out (trace_back replies given fed ps)
given_back replies given fed [] p = refl
given_back replies given fed (q ∷ ps) p = ap (λ l. l ++ given ∷ []) (given_back replies q.before.items (kept_items q.fed.items) ps p)

last_end : (given : List Emission) (ps : List Past) (p : Past) → last_given given (ps ++ p ∷ []) ≡ p.before.items
last_end given [] p = refl
last_end given (q ∷ ps) p = last_end q.before.items ps p

given_first : (replies : List Reply) (given : List Emission) (fed : List Fed) (p : Past) (pasts : List Past) → given_out (trace_of replies given fed (p ∷ pasts)) ≡ last_given given (reverse pasts) ∷ given_out (trace_of replies given fed pasts)
given_first replies given fed p pasts = ap (λ l. given_out (trace_back replies given fed l)) (reverse-append (p ∷ []) pasts) ∙ given_back replies given fed (reverse pasts) p

-- what was given out on the exchange of a place: it stands beside the next one, or is what was given out last
abbrev pub given_at : List Emission → List Past → ℕ → Option (List Emission)
given_at given [] n = None
given_at given (p ∷ []) zero = Some given
given_at given (p ∷ []) (suc n) = None
given_at given (p ∷ q ∷ rest) zero = Some q.before.items
given_at given (p ∷ q ∷ rest) (suc n) = given_at given (q ∷ rest) n

pub given_is : (replies : List Reply) (given : List Emission) (fed : List Fed) (pasts : List Past) (n : ℕ) → slice_get (given_out (trace_of replies given fed pasts)) n ≡ given_at given pasts n
given_is replies given fed [] zero = refl
given_is replies given fed [] (suc n) = refl
given_is replies given fed (p ∷ []) zero = refl
given_is replies given fed (p ∷ []) (suc zero) = refl
given_is replies given fed (p ∷ []) (suc (suc n)) = refl
given_is replies given fed (p ∷ q ∷ rest) zero = ap (λ l. slice_get l 0) (given_first replies given fed p (q ∷ rest)) ∙ ap Some (ap (last_given given) (reverse-append (q ∷ []) rest) ∙ last_end given (reverse rest) q)
given_is replies given fed (p ∷ q ∷ rest) (suc n) = ap (λ l. slice_get l (suc n)) (given_first replies given fed p (q ∷ rest)) ∙ given_is replies given fed (q ∷ rest) n

pub given_none : (given : List Emission) (pasts : List Past) (n : ℕ) → length pasts ≤ n → given_at given pasts n ≡ None
given_none given [] n h = refl
given_none given (p ∷ []) zero h = absurd (omega (arith, h))
given_none given (p ∷ []) (suc n) h = refl
given_none given (p ∷ q ∷ rest) zero h = absurd (omega (arith, h))
given_none given (p ∷ q ∷ rest) (suc n) h = given_none given (q ∷ rest) n (below h)
  where
    below : length (p ∷ q ∷ rest) ≤ suc n → length (q ∷ rest) ≤ n
    below l = omega (arith, l)

pub given_next : (given : List Emission) (pasts : List Past) (n : ℕ) (d : Past) → suc n < length pasts → given_at given pasts n ≡ Some (slice_index_or pasts (suc n) d).before.items
given_next given [] n d h = absurd (omega (arith, h))
given_next given (p ∷ []) n d h = absurd (omega (arith, h))
given_next given (p ∷ q ∷ rest) zero d h = refl
given_next given (p ∷ q ∷ rest) (suc n) d h = given_next given (q ∷ rest) n d (below h)
  where
    below : suc (suc n) < length (p ∷ q ∷ rest) → suc n < length (q ∷ rest)
    below l = omega (arith, l)

pub given_last : (given : List Emission) (pasts : List Past) (n : ℕ) → n < length pasts → length pasts ≤ suc n → given_at given pasts n ≡ Some given
given_last given [] n h e = absurd (omega (arith, h))
given_last given (p ∷ []) zero h e = refl
given_last given (p ∷ []) (suc n) h e = absurd (omega (arith, h))
given_last given (p ∷ q ∷ rest) zero h e = absurd (omega (arith, e))
given_last given (p ∷ q ∷ rest) (suc n) h e = given_last given (q ∷ rest) n (below h) (above e)
  where
    below : suc n < length (p ∷ q ∷ rest) → n < length (q ∷ rest)
    below l = omega (arith, l)

    above : length (p ∷ q ∷ rest) ≤ suc (suc n) → length (q ∷ rest) ≤ suc n
    above l = omega (arith, l)
