-- What a seat shows, as it changes.
use Rattle.std.proofs.Common.{◌≡◌, ◌∙◌, ◌<◌, ◌+◌, ◌++◌, ◌∷◌, [], ℕ, List, length, map, reverse, refl, sym, ap, subst, arith, length-append}
use Rattle.std.proofs.lemmas.List.{get_or_append_left, map-append, reverse-append}
use Rattle.repo_wire.specs.declared.messages.Reply.{Reply}
use Rattle.repo_session.specs.declared.emissions.Emission.{Emission}
use Rattle.repo_session.specs.Feeds.{Fed}
use Rattle.repo_session.specs.Traces.{Each, feeding, giving}
use Rattle.repo_world.specs.Seats.{kept_item, kept_items, say_of, silence, trace_back, trace_of}
use Rattle.repo_world.specs.declared.fed_items.FedItem.{FedItem}
use Rattle.repo_world.specs.declared.pasts.Past.{Past}

-- ---- one exchange more

pub trace_more : (replies : List Reply) (given new : List Emission) (fed : List Fed) (pasts : List Past) (p : Past) → p.before.items ≡ given → kept_items p.fed.items ≡ fed
    → trace_of replies new [] (pasts ++ p ∷ []) ≡ giving p.letter.ask (say_of replies p.reply) new ∷ trace_of replies given fed pasts
trace_more replies given new fed pasts p e f = ap (trace_back replies new []) (reverse-append pasts (p ∷ []))
    ∙ (λ i. giving p.letter.ask (say_of replies p.reply) new ∷ trace_back replies (e i) (f i) (reverse pasts))

-- ---- one item more

back_fed : (replies : List Reply) (given : List Emission) (item : Fed) (fed : List Fed) (pasts : List Past) → trace_back replies given (item ∷ fed) pasts ≡ feeding item (trace_back replies given fed pasts)
back_fed replies given item fed [] = refl
back_fed replies given item fed (p ∷ pasts) = refl

pub trace_fed : (replies : List Reply) (given : List Emission) (item : Fed) (fed : List Fed) (pasts : List Past) → trace_of replies given (item ∷ fed) pasts ≡ feeding item (trace_of replies given fed pasts)
trace_fed replies given item fed pasts = back_fed replies given item fed (reverse pasts)

pub kept_more : (fed : List FedItem) (x : FedItem) → kept_items (fed ++ x ∷ []) ≡ kept_item x ∷ kept_items fed
kept_more fed x = ap reverse (map-append kept_item fed (x ∷ [])) ∙ reverse-append (map kept_item fed) (kept_item x ∷ [])

-- ---- more replies

-- each of a list, and one more at its end
pub each_end : {A : Type 0} (P : A → Type 0) (xs : List A) (x : A) → Each P xs → P x → Each P (xs ++ x ∷ [])
each_end P [] x h p = (p, tt)
each_end P (y ∷ xs) x h p = (h.0, each_end P xs x h.1 p)

all_reversed : (replies : List Reply) (pasts : List Past) → Each (λ p. p.reply < length replies) pasts → Each (λ p. p.reply < length replies) (reverse pasts)
all_reversed replies [] h = h
all_reversed replies (p ∷ pasts) h = subst (Each (λ q. q.reply < length replies)) (sym (reverse-append (p ∷ []) pasts)) (each_end (λ q. q.reply < length replies) (reverse pasts) p (all_reversed replies pasts h.1) h.0)

back_grows : (replies more : List Reply) (given : List Emission) (fed : List Fed) (pasts : List Past) → Each (λ p. p.reply < length replies) pasts → trace_back (replies ++ more) given fed pasts ≡ trace_back replies given fed pasts
back_grows replies more given fed [] h = refl
back_grows replies more given fed (p ∷ pasts) h =
    λ i. record { ask = p.letter.ask; say = (get_or_append_left replies more silence p.reply h.0 i).say; emitted = given; fed = fed } ∷ back_grows replies more p.before.items (kept_items p.fed.items) pasts h.1 i

pub trace_grows : (replies more : List Reply) (given : List Emission) (fed : List Fed) (pasts : List Past) → Each (λ p. p.reply < length replies) pasts → trace_of (replies ++ more) given fed pasts ≡ trace_of replies given fed pasts
trace_grows replies more given fed pasts h = back_grows replies more given fed (reverse pasts) (all_reversed replies pasts h)

within_more : (n : ℕ) (replies more : List Reply) → n < length replies → n < length (replies ++ more)
within_more n replies more h = let len : length (replies ++ more) ≡ length replies + length more = length-append replies more in omega (arith, len, h)

pub there_grows : (replies more : List Reply) (pasts : List Past) → Each (λ p. p.reply < length replies) pasts → Each (λ p. p.reply < length (replies ++ more)) pasts
there_grows replies more [] h = h
there_grows replies more (p ∷ pasts) h = (within_more p.reply replies more h.0, there_grows replies more pasts h.1)
