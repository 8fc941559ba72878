-- What one happening more does to a guest and to all of them.
use Rattle.std.proofs.Common.{rules, ◌≡◌, ◌≢◌, ◌⊎◌, ◌<◌, ◌+◌, ◌++◌, ◌∷◌, [], ℕ, zero, suc, List, Option, Some, None, Err, All, true, false, cond, eqb, MatchOption, take, drop, slice_get, slice_set, refl, sym, ap, subst, arith, inl, inr, append_assoc, ◌∙◌}
use Rattle.std.proofs.lemmas.List.{append-nil, take-append-drop}
use Rattle.std.proofs.lemmas.Bool.{ne_eqb}
use Rattle.std.proofs.lemmas.Bool.Decides.{eqb_tells}
use Rattle.std.proofs.lemmas.List.Elements.{All-push}
use Rattle.std.proofs.lemmas.List.Concat.{flat_map-append}
use Rattle.repo_wire.specs.declared.faults.Fault.{Fault}
use Rattle.repo_wire.specs.declared.faults.WireError.{WireError}
use Rattle.repo_wire.specs.declared.messages.Reply.{Reply}
use Rattle.repo_wire.specs.declared.messages.Request.{Request}
use Rattle.repo_wire.specs.Messages as messages
use Rattle.repo_wire.specs.Messages.{requests, reply_body}
use Rattle.repo_wire.specs.Reading.{Reading, Follows, NextMessage, fed}
use Rattle.repo_wire.specs.Stream.{frame, FitsFrame, AreFrames, IsStream, Fails}
use Rattle.repo_wire.proofs.Streams.{readers_follow}
use Rattle.repo_store.specs.declared.forms.ServiceError.{ServiceError}
use Rattle.repo_store.specs.Services.{service_error}
use Rattle.repo_store.specs.Serving.{plain, shown}
use Rattle.repo_store.specs.Stores.{Store}
use Rattle.repo_session.specs.Clients.{IsReplyTo}
use Rattle.repo_session.specs.Joined.{AreFirst}
use Rattle.repo_hall.specs.declared.guests.Guest.{Guest}
use Rattle.repo_hall.specs.Guests.{GuestAnswered, GuestRests, GuestGoes, IsGuest, IsNewGuest, out_of}
use Rattle.repo_hall.specs.Halls.{Housed}
use Rattle.repo_hall.specs.Happenings.{Happening, Brought, Answered, Given, Log, Stay, AreRepliesTo, IsStay, no_stay, going_on, stay, whose}

-- a reader that told why it gives no message still follows its stream
pub told_follows : (error : WireError) (old new : Reading) → NextMessage requests old (Err error) new → (bytes : List ℕ) (asked : List Request) → Follows requests bytes asked old → Follows requests bytes asked new
told_follows (WireError.Fault fault) old new h bytes asked follows =
    let s = (readers_follow requests).told bytes asked fault old new follows h in
    let R : Option Fault → Type 0 = λ told. Follows requests bytes asked (record { unread = new.unread; fault = told }) in
    subst R (sym h.1) s
told_follows WireError.Memory old new h bytes asked follows =
    let P : Reading → Type 0 = λ r. Follows requests bytes asked r in
    subst P (sym h.1) follows

-- ---- stays

pub stay_own : (h : Happening) (n : ℕ) (log : Log) → whose h ≡ n → stay n (h ∷ log) ≡ going_on h (stay n log)
stay_own h n log own = by_test (eqb_tells (whose h) n) where
  by_test : ((eqb (whose h) n ≡ true) × (whose h ≡ n)) ⊎ ((eqb (whose h) n ≡ false) × (whose h ≢ n)) → stay n (h ∷ log) ≡ going_on h (stay n log)
  by_test (inl is) = ap (λ b. cond b (going_on h (stay n log)) (stay n log)) is.0
  by_test (inr other) = absurd (other.1 own)

pub stay_other : (h : Happening) (k : ℕ) (log : Log) → whose h ≢ k → stay k (h ∷ log) ≡ stay k log
stay_other h k log other = ap (λ b. cond b (going_on h (stay k log)) (stay k log)) (ne_eqb (whose h) k other)

left_at : (bytes : List ℕ) (asked : List Request) (unread : List ℕ) (told : Option Fault)
    → MatchOption told (AreFrames requests bytes asked unread) (λ fault. IsStream requests bytes asked (Fails fault)) → (rest : List ℕ) × AreFrames requests bytes asked rest
left_at bytes asked unread None h = (unread, h)
left_at bytes asked unread (Some fault) h = (h.0, h.1)

-- what happened to a guest is a stay
pub guest_stay : (s : Stay) (g : Guest) → IsGuest s g → IsStay s
guest_stay s g is = record {
  stream = left_at s.bytes s.asked g.reader.unread g.reader.fault is.reader;
  answers = is.answers;
  fits = is.fits;
  told = (out_of g ++ is.told.0, is.told.1 ∙ append_assoc s.given (out_of g) is.told.0);
}

pub empty_stay : IsStay no_stay
empty_stay = record { stream = ([], refl); answers = tt; fits = all_nil; told = ([], refl) } where
  all_nil : All (FitsFrame messages.replies) []
  all_nil = search rules

-- a guest that brought nothing
pub new_guest : (g : Guest) (n : ℕ) → IsNewGuest g n → IsGuest no_stay g
new_guest g n new =
    let P : Reading → Type 0 = λ r. Follows requests [] [] r in
    record {
      reader = subst P (sym new.reader) refl;
      answers = tt;
      fits = empty_stay.fits;
      told = ([], sym new.out ∙ sym (append-nil (out_of g)));
      all = λ up. new.out;
    }

-- ---- what is done for a guest

replies_on : (asked : List Request) (replies : List Reply) (request : Request) (reply : Reply) → AreRepliesTo asked replies → IsReplyTo request reply → AreRepliesTo (asked ++ request ∷ []) (replies ++ reply ∷ [])
replies_on [] [] request reply h is = (is, tt)
replies_on (q ∷ asked) (r ∷ replies) request reply h is = (h.0, replies_on asked replies request reply h.1 is)
replies_on [] (r ∷ replies) request reply h is = absurd h
replies_on (q ∷ asked) [] request reply h is = absurd h

shown_more : (replies : List Reply) (reply : Reply) → shown plain (replies ++ reply ∷ []) ≡ shown plain replies ++ frame (reply_body reply)
shown_more replies reply = flat_map-append (λ r. frame (reply_body r)) replies (reply ∷ []) ∙ ap (λ x. shown plain replies ++ x) (append-nil (frame (reply_body reply)))

-- what is to be given after an answer: the reply's frame, or nothing where the guest ended
abbrev pub IsDue : Guest → Reply → Type 0
IsDue g reply = ((out_of g ≡ frame (reply_body reply)) × (g.ended ≡ false)) ⊎ ((out_of g ≡ []) × (g.ended ≡ true))

pub guest_answers : (s : Stay) (old new : Guest) (request : Request) (reply : Reply) (from : Store) (failed : ℕ) (to : Store) (failing : ℕ) → IsGuest s old
    → GuestAnswered old new request reply from failed to failing → IsDue new reply → IsGuest (going_on (Answered old.number request reply) s) new
guest_answers s old new request reply from failed to failing is h due =
    let all : s.given ≡ shown plain s.replies = sym (append-nil s.given) ∙ ap (λ x. s.given ++ x) (sym h.given) ∙ is.all h.up in
    let more : shown plain (s.replies ++ reply ∷ []) ≡ s.given ++ frame (reply_body reply) = shown_more s.replies reply ∙ ap (λ x. x ++ frame (reply_body reply)) (sym all) in
    record {
      reader = (readers_follow requests).given s.bytes s.asked request old.reader new.reader is.reader h.read;
      answers = replies_on s.asked s.replies request reply is.answers (h.step.instance, h.step.sequence);
      fits = All-push (FitsFrame messages.replies) s.replies reply is.fits h.fits;
      told = told more due;
      all = λ up. all_told more up due;
    } where
      told : shown plain (s.replies ++ reply ∷ []) ≡ s.given ++ frame (reply_body reply) → IsDue new reply → AreFirst (s.given ++ out_of new) (shown plain (s.replies ++ reply ∷ []))
      told more (inl one) = ([], more ∙ ap (λ x. s.given ++ x) (sym one.0) ∙ sym (append-nil (s.given ++ out_of new)))
      told more (inr none) = (
        frame (reply_body reply),
        more ∙ ap (λ x. x ++ frame (reply_body reply)) (sym (append-nil s.given)) ∙ ap (λ x. (s.given ++ x) ++ frame (reply_body reply)) (sym none.0),
      )

      all_told : shown plain (s.replies ++ reply ∷ []) ≡ s.given ++ frame (reply_body reply) → new.ended ≡ false → IsDue new reply → s.given ++ out_of new ≡ shown plain (s.replies ++ reply ∷ [])
      all_told more up (inl one) = ap (λ x. s.given ++ x) one.0 ∙ sym more
      all_told more up (inr none) = absurd (cc (up, none.1))

pub guest_rests : (s : Stay) (old new : Guest) (from : Store) (failed : ℕ) (to : Store) (failing : ℕ) → IsGuest s old → GuestRests old new from failed to failing → IsGuest s new
guest_rests s old new from failed to failing is h =
    let P : List ℕ → Type 0 = λ x. AreFirst (s.given ++ x) (shown plain s.replies) in
    record {
      reader = h.follows s.bytes s.asked is.reader;
      answers = is.answers;
      fits = is.fits;
      told = subst P (sym h.out) is.told;
      all = λ up. ap (λ x. s.given ++ x) h.out ∙ is.all (h.ended up);
    }

-- a reader that told why it gives no message
pub told_goes : (error : WireError) (told : ServiceError) (old new : Guest) (from : Store) (failed : ℕ) → told ≡ service_error error → NextMessage requests old.reader (Err error) new.reader → new.number ≡ old.number
    → out_of new ≡ out_of old → new.ended ≡ true → GuestGoes old (Err told) new from failed from failed
told_goes error told old new from failed e read number out over =
    let P : ServiceError → Type 0 = λ x. GuestGoes old (Err x) new from failed from failed in
    subst P (sym e) (by_error error read) where
      rests : (error : WireError) → NextMessage requests old.reader (Err error) new.reader → GuestRests old new from failed from failed
      rests error read = record {
        number = number;
        follows = told_follows error old.reader new.reader read;
        out = out;
        ended = λ up. absurd (cc (up, over));
        store = refl;
        failures = refl;
      }

      by_error : (error : WireError) → NextMessage requests old.reader (Err error) new.reader → GuestGoes old (Err (service_error error)) new from failed from failed
      by_error (WireError.Fault fault) read = (rests (WireError.Fault fault) read, read)
      by_error WireError.Memory read = inl (rests WireError.Memory read)

pub guest_brought : (s : Stay) (old new : Guest) (piece : List ℕ) → IsGuest s old → new.reader ≡ fed old.reader piece → out_of new ≡ out_of old → new.ended ≡ old.ended
    → IsGuest (going_on (Brought old.number piece) s) new
guest_brought s old new piece is reader out ended =
    let P : List ℕ → Type 0 = λ x. AreFirst (s.given ++ x) (shown plain s.replies) in
    let Q : Reading → Type 0 = λ r. Follows requests (s.bytes ++ piece) s.asked r in
    record {
      reader = subst Q (sym reader) ((readers_follow requests).fed_on s.bytes piece s.asked old.reader is.reader);
      answers = is.answers;
      fits = is.fits;
      told = subst P (sym out) is.told;
      all = λ up. ap (λ x. s.given ++ x) out ∙ is.all (sym ended ∙ up);
    }

pub guest_gave : (s : Stay) (old new : Guest) (n : ℕ) → IsGuest s old → new.reader ≡ old.reader → out_of new ≡ drop n (out_of old) → new.ended ≡ old.ended
    → IsGuest (going_on (Given old.number (take n (out_of old))) s) new
guest_gave s old new n is reader out ended =
    let same : (s.given ++ take n (out_of old)) ++ out_of new ≡ s.given ++ out_of old =
    ap (λ x. (s.given ++ take n (out_of old)) ++ x) out ∙ append_assoc s.given (take n (out_of old)) (drop n (out_of old)) ∙ ap (λ x. s.given ++ x) (take-append-drop n (out_of old)) in
    let P : List ℕ → Type 0 = λ x. AreFirst x (shown plain s.replies) in
    let Q : Reading → Type 0 = λ r. Follows requests s.bytes s.asked r in
    record {
      reader = subst Q (sym reader) is.reader;
      answers = is.answers;
      fits = is.fits;
      told = subst P (sym same) is.told;
      all = λ up. same ∙ is.all (sym ended ∙ up);
    }

-- ---- the table

-- what is at a place after one was set: that one at its own place, and elsewhere what was there
pub get_set : (xs : List Guest) (k : ℕ) (y : Guest) (j : ℕ) (g : Guest) → slice_get (slice_set xs k y) j ≡ Some g → ((j ≡ k) × (g ≡ y)) ⊎ ((j ≢ k) × (slice_get xs j ≡ Some g))
get_set [] zero y j g h = absurd (cc h)
get_set [] (suc k) y j g h = absurd (cc h)
get_set (x ∷ xs) zero y zero g h = inl (refl, cc h)
get_set (x ∷ xs) zero y (suc j) g h = inr (λ e. omega (arith, e), h)
get_set (x ∷ xs) (suc k) y zero g h = inr (λ e. omega (arith, e), h)
get_set (x ∷ xs) (suc k) y (suc j) g h = further (get_set xs k y j g h) where
  further : ((j ≡ k) × (g ≡ y)) ⊎ ((j ≢ k) × (slice_get xs j ≡ Some g)) → ((suc j ≡ suc k) × (g ≡ y)) ⊎ ((suc j ≢ suc k) × (slice_get xs j ≡ Some g))
  further (inl e) = inl (ap suc e.0, e.1)
  further (inr e) = inr (λ same. e.0 (omega (arith, same)), e.1)

-- a guest changed at its place, and its stay; the others' stays are as before
pub housed_set : (guests : List Guest) (entered : ℕ) (log next : Log) (k : ℕ) (old new : Guest) → Housed guests entered log → slice_get guests k ≡ Some old → new.number ≡ old.number
    → ((n : ℕ) → old.number ≢ n → stay n next ≡ stay n log) → IsGuest (stay old.number next) new → Housed (slice_set guests k new) entered next
housed_set guests entered log next k old new s at same others is = record {
  each = λ j g h. each j g (get_set guests k new j g h);
  apart = λ i j g f h e. apart i j g f (get_set guests k new i g h) (get_set guests k new j f e);
  known = λ j g h. known j g (get_set guests k new j g h);
  later = λ n far. others n (λ e. omega (arith, e, far, s.known k old at)) ∙ s.later n far;
} where
  each : (j : ℕ) (g : Guest) → ((j ≡ k) × (g ≡ new)) ⊎ ((j ≢ k) × (slice_get guests j ≡ Some g)) → IsGuest (stay g.number next) g
  each j g (inl e) =
      let P : Guest → Type 0 = λ x. IsGuest (stay x.number next) x in
      let Q : ℕ → Type 0 = λ n. IsGuest (stay n next) new in
      subst P (sym e.1) (subst Q (sym same) is)
  each j g (inr e) =
      let Q : Stay → Type 0 = λ v. IsGuest v g in
      subst Q (sym (others g.number (λ n. e.0 (s.apart j k g old e.1 at (sym n))))) (s.each j g e.1)

  apart : (i j : ℕ) (g f : Guest) → ((i ≡ k) × (g ≡ new)) ⊎ ((i ≢ k) × (slice_get guests i ≡ Some g)) → ((j ≡ k) × (f ≡ new)) ⊎ ((j ≢ k) × (slice_get guests j ≡ Some f)) → g.number ≡ f.number → i ≡ j
  apart i j g f (inl e) (inl d) n = e.0 ∙ sym d.0
  apart i j g f (inl e) (inr d) n = e.0 ∙ s.apart k j old f at d.1 (sym same ∙ sym (ap (λ (x : Guest). x.number) e.1) ∙ n)
  apart i j g f (inr e) (inl d) n = s.apart i k g old e.1 at (n ∙ ap (λ (x : Guest). x.number) d.1 ∙ same) ∙ sym d.0
  apart i j g f (inr e) (inr d) n = s.apart i j g f e.1 d.1 n

  known : (j : ℕ) (g : Guest) → ((j ≡ k) × (g ≡ new)) ⊎ ((j ≢ k) × (slice_get guests j ≡ Some g)) → g.number < entered
  known j g (inl e) = let m = s.known k old at in omega (arith, ap (λ (x : Guest). x.number) e.1, same, m)
  known j g (inr e) = s.known j g e.1

-- one happening more of the guest at a place
pub housed_on : (guests : List Guest) (entered : ℕ) (log : Log) (k : ℕ) (old new : Guest) (h : Happening) → Housed guests entered log → slice_get guests k ≡ Some old → new.number ≡ old.number → whose h ≡ old.number
    → IsGuest (going_on h (stay old.number log)) new → Housed (slice_set guests k new) entered (h ∷ log)
housed_on guests entered log k old new h s at same own is =
    let P : Stay → Type 0 = λ v. IsGuest v new in
    housed_set guests entered log (h ∷ log) k old new s at same (λ n other. stay_other h n log (λ e. other (sym own ∙ e))) (subst P (sym (stay_own h old.number log own)) is)

-- all stays, with one happening more
pub stays_on : (log : Log) (h : Happening) → ((k : ℕ) → IsStay (stay k log)) → IsStay (going_on h (stay (whose h) log)) → (k : ℕ) → IsStay (stay k (h ∷ log))
stays_on log h all is k = by_test (eqb_tells (whose h) k) where
  by_test : ((eqb (whose h) k ≡ true) × (whose h ≡ k)) ⊎ ((eqb (whose h) k ≡ false) × (whose h ≢ k)) → IsStay (stay k (h ∷ log))
  by_test (inl own) =
      let P : ℕ → Type 0 = λ n. IsStay (stay n (h ∷ log)) in
      let Q : Stay → Type 0 = λ v. IsStay v in
      subst P own.1 (subst Q (sym (stay_own h (whose h) log refl)) is)
  by_test (inr other) = let Q : Stay → Type 0 = λ v. IsStay v in subst Q (sym (stay_other h k log other.1)) (all k)
