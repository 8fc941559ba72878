-- What happens in turn.
use Rattle.std.proofs.Common.{◌≡◌, ◌++◌, ◌∷◌, [], ℕ, List, Some, Bool, true, false, Result, Ok, Err, slice_get, sym, subst, ap, inl, inr, refl, ◌∙◌}
use Rattle.std.proofs.lemmas.List.{append-nil}
use Rattle.repo_wire.specs.Messages.{requests}
use Rattle.repo_wire.proofs.Streams.{readers_follow}
use Rattle.repo_store.specs.declared.forms.ServiceError.{ServiceError}
use Rattle.repo_store.specs.Serving.{plain, shown}
use Rattle.repo_store.specs.Stores.{Store}
use Rattle.repo_hall.specs.declared.guests.Guest.{Guest}
use Rattle.repo_hall.specs.Guests.{AnswerCause, IsAwaited, IsGuest, out_of}
use Rattle.repo_hall.specs.Halls.{AnswerAdds, IsOneMore, Stands}
use Rattle.repo_hall.specs.Happenings.{AreInTurn, Brought, IsAtRest, Log, Stay, stay}

-- a guest that is to be given nothing yet was given all
all_given : (s : Stay) (g : Guest) → IsGuest s g → g.ended ≡ false → out_of g ≡ [] → s.given ≡ shown plain s.replies
all_given s g is up none = sym (append-nil s.given) ∙ ap (λ x. s.given ++ x) (sym none) ∙ is.all up

-- a guest of which more is awaited is at rest
awaited_rests : (s : Stay) (g : Guest) → IsGuest s g → IsAwaited g → IsAtRest s
awaited_rests s g is h = record {
  unread = g.reader.unread;
  stream = (readers_follow requests).waiting s.bytes s.asked g.reader g.reader is.reader (h.less.0, h.less.1, refl);
  told = all_given s g is h.up h.given;
}

-- a guest of which more is awaited brings it in turn
pub brings_in_turn : (guests : List Guest) (entered place : ℕ) (g : Guest) (piece : List ℕ) (from : Store) (failed : ℕ) (log : Log) (to : Store) (failing : ℕ) → slice_get guests place ≡ Some g → IsAwaited g
    → Stands from failed guests entered log to failing → AreInTurn log → AreInTurn (Brought g.number piece ∷ log)
brings_in_turn guests entered place g piece from failed log to failing at h s turns = (turns, awaited_rests (stay g.number log) g (s.housed.each place g at) h)

one_in_turn : (guests : List Guest) (entered place : ℕ) (from : Store) (failed : ℕ) (log next : Log) (to : Store) (failing : ℕ) → ((g : Guest) → slice_get guests place ≡ Some g → (g.ended ≡ false) × (out_of g ≡ []))
    → Stands from failed guests entered log to failing → AreInTurn log → IsOneMore guests place log next → AreInTurn next
one_in_turn guests entered place from failed log next to failing cause s turns (g, at, request, reply, is) =
    let c = cause g at in
    subst AreInTurn (sym is) (turns, all_given (stay g.number log) g (s.housed.each place g at) c.0 c.1)

-- answering at a place is in turn
pub answers_in_turn : (guests : List Guest) (entered place : ℕ) (result : Result Bool ServiceError) (from : Store) (failed : ℕ) (log next : Log) (to : Store) (failing : ℕ)
    → ((g : Guest) → slice_get guests place ≡ Some g → AnswerCause g result) → Stands from failed guests entered log to failing → AreInTurn log → AnswerAdds guests place result log next → AreInTurn next
answers_in_turn guests entered place (Ok true) from failed log next to failing cause s turns adds = one_in_turn guests entered place from failed log next to failing cause s turns adds
answers_in_turn guests entered place (Ok false) from failed log next to failing cause s turns adds = subst AreInTurn (sym adds) turns
answers_in_turn guests entered place (Err (ServiceError.Wire fault)) from failed log next to failing cause s turns adds = subst AreInTurn (sym adds.0) turns
answers_in_turn guests entered place (Err ServiceError.Memory) from failed log next to failing cause s turns (inl adds) = subst AreInTurn (sym adds) turns
answers_in_turn guests entered place (Err ServiceError.Memory) from failed log next to failing cause s turns (inr adds) = one_in_turn guests entered place from failed log next to failing cause s turns adds
answers_in_turn guests entered place (Err ServiceError.Write) from failed log next to failing cause s turns adds = absurd adds
answers_in_turn guests entered place (Err ServiceError.Limit) from failed log next to failing cause s turns adds = absurd adds

-- a guest that wasn't answered, is answered still, and has nothing to be given yet, is one of which more is awaited
pub is_awaited : (g : Guest) → AnswerCause g (Ok false) → g.ended ≡ false → out_of g ≡ [] → IsAwaited g
is_awaited g (inl over) up none = absurd (cc (up, over))
is_awaited g (inr (inl some)) up none = absurd (some none)
is_awaited g (inr (inr less)) up none = record { up = up; given = none; less = less }
