-- One try: the store is met, the client is driven, and its lock is given back.
use Rattle.std.proofs.Common.{◌≡◌, ◌≢◌, ◌+◌, ◌++◌, ◌∷◌, [], ℕ, Option, Some, None, Result, Ok, Err, length, refl, sym, ap, subst, inl, inr, ◌∙◌}
use Rattle.std.specs.Prelude.{option_map}
use Rattle.repo_name.specs.declared.tokens.Token.{Token}
use Rattle.repo_wire.specs.declared.messages.Ask.{Ask}
use Rattle.repo_wire.specs.declared.messages.Reply.{Reply}
use Rattle.repo_wire.specs.declared.messages.Request.{Request}
use Rattle.repo_wire.specs.declared.messages.Say.{Say}
use Rattle.repo_session.specs.declared.driving.DriveError.{DriveError}
use Rattle.repo_session.specs.declared.outcomes.Outcome.{Outcome}
use Rattle.repo_session.specs.Clients.{IsNextRequest, IsObedientBy, TellsToken}
use Rattle.repo_session.specs.Askers.{Asker}
use Rattle.repo_session.specs.Jobs.{Rule, task_under}
use Rattle.repo_session.specs.Order.{Task, locked, May}
use Rattle.repo_session.specs.Traces.{Exchanged, Trace}
use Rattle.repo_dial.specs.Dialing.{Asking, AsksOnce, Call, Connections, Driven, DrivenOver, Try, Turned, Carried, Dials, EndsOwnLock, HangsUp, HasMet, IsBehind, IsDialed, IsFarewell, IsGivenBack, TakesLeave, TryGives, as_try, dialed_in, talk_in, ends_behind, farewell_of, left_in, token_to_end, unlock_in_place}
use Rattle.repo_dial.specs.Ends.{ConnectionEnds}
use Rattle.repo_dial.specs.declared.again.TryError.{TryError}
use Rattle.repo_dial.specs.declared.peers.Acquaintance.{Acquaintance}

-- ---- the end of a lock

pub no_leave : (result : Result ℕ DriveError) (next : Option Request) (told : Option Token) (call : Call) → result ≢ Err DriveError.Sink → call.farewell ≡ None → TakesLeave result next told call
no_leave (Ok n) next told call isnt none = none
no_leave (Err DriveError.Read) next told call isnt none = none
no_leave (Err DriveError.Write) next told call isnt none = none
no_leave (Err DriveError.Malformed) next told call isnt none = none
no_leave (Err DriveError.Limit) next told call isnt none = none
no_leave (Err DriveError.Memory) next told call isnt none = none
no_leave (Err DriveError.Sink) next told call isnt none = absurd (isnt refl)

-- nothing is asked for behind where nothing is pending
pub no_farewell : (driven : Result ℕ DriveError) (next : Option Request) (told : Option Token) (call : Call) → next ≡ None → TakesLeave driven next told call → call.farewell ≡ None
no_farewell (Ok n) next told call is none = none
no_farewell (Err DriveError.Read) next told call is none = none
no_farewell (Err DriveError.Write) next told call is none = none
no_farewell (Err DriveError.Malformed) next told call is none = none
no_farewell (Err DriveError.Limit) next told call is none = none
no_farewell (Err DriveError.Memory) next told call is none = none
no_farewell (Err DriveError.Sink) next told call is h = subst (λ o. IsFarewell (farewell_of o told) call.left call.farewell) is h

behind_none : (left : ConnectionEnds) (farewell : Option Asking) → farewell ≡ None → IsBehind left farewell
behind_none left farewell none = subst (λ f. IsBehind left f) (sym none) tt

behind_farewell : (request : Option Request) (left : ConnectionEnds) (farewell : Option Asking) → IsFarewell request left farewell → IsBehind left farewell
behind_farewell None left farewell none = behind_none left farewell none
behind_farewell (Some request) left None h = absurd h
behind_farewell (Some request) left (Some asking) h = (h.0, h.2)

-- behind a drive at most the unlock is asked for
pub behind_leave : (result : Result ℕ DriveError) (next : Option Request) (told : Option Token) (call : Call) → TakesLeave result next told call → IsBehind call.left call.farewell
behind_leave (Ok n) next told call none = behind_none call.left call.farewell none
behind_leave (Err DriveError.Read) next told call none = behind_none call.left call.farewell none
behind_leave (Err DriveError.Write) next told call none = behind_none call.left call.farewell none
behind_leave (Err DriveError.Malformed) next told call none = behind_none call.left call.farewell none
behind_leave (Err DriveError.Limit) next told call none = behind_none call.left call.farewell none
behind_leave (Err DriveError.Memory) next told call none = behind_none call.left call.farewell none
behind_leave (Err DriveError.Sink) next told call h = behind_farewell (farewell_of next told) call.left call.farewell h

-- it was asked for
pub farewell_asked : (o : Option Request) (request : Request) (came left : ConnectionEnds) (answer : Result Reply DriveError) → Some request ≡ o → AsksOnce request came answer left
    → (farewell : Option Asking) × IsFarewell o came farewell × (left ≡ ends_behind came farewell)
farewell_asked o request came left answer is n =
    let asking : Asking = record { came = came; request = request; passages = n.0; said = n.1; answer = answer; left = left } in
    (Some asking, subst (λ x. IsFarewell x came (Some asking)) is (refl, refl, n.2), refl)

still_exchanged : (later es : Trace) (ask : Ask) (say : Say) → Exchanged es ask say → Exchanged (later ++ es) ask say
still_exchanged [] es ask say h = h
still_exchanged (e ∷ later) es ask say h = inr (still_exchanged later es ask say h)

-- the token whose lock is to be ended is that of the ticket
token_given : (task : Task) (es : Trace) (ask : Ask) (ended : Option Outcome) (told : Option Token) (token : Token) → May task es ask → TellsToken told ended es → token_to_end ask told ≡ Some token
    → Exchanged es Ask.Ticket (Say.Token token)
token_given task es (Ask.Unlock t) ended told token may tells is =
    let same : t ≡ token = cc in
    subst (λ x. Exchanged es Ask.Ticket (Say.Token x)) same
    (subst (λ x. Exchanged x Ask.Ticket (Say.Token t)) (sym may.since) (still_exchanged may.later (locked task t) Ask.Ticket (Say.Token t) (inr (inl (refl, refl)))))
token_given task es Ask.Ticket ended told token may tells is = tells.given token is
token_given task es (Ask.Lock row) ended told token may tells is = tells.given token is
token_given task es (Ask.Refresh t time) ended told token may tells is = tells.given token is
token_given task es Ask.Locks ended told token may tells is = tells.given token is
token_given task es (Ask.List k after) ended told token may tells is = tells.given token is
token_given task es (Ask.Get k n) ended told token may tells is = tells.given token is
token_given task es (Ask.Range pack offset len) ended told token may tells is = tells.given token is
token_given task es (Ask.Put t k n x) ended told token may tells is = tells.given token is
token_given task es (Ask.Delete t k n) ended told token may tells is = tells.given token is
token_given task es (Ask.Upgrade t) ended told token may tells is = tells.given token is
token_given task es Ask.Config ended told token may tells is = tells.given token is

module _ {C : Type 0} (Fits : C → Trace → Type 0) (client : C) (rule : Rule) (who : Asker) where
  ends_next : (request : Request) (ended : Option Outcome) (told : Option Token) → ((es : Trace) → Fits client es → IsObedientBy rule who (Some request) ended es)
      → ((es : Trace) → Fits client es → TellsToken told ended es) → (left : ConnectionEnds) (asking : Asking) (o : Option Token) → token_to_end request.ask told ≡ o
      → IsFarewell (option_map (λ token. unlock_in_place request token) o) left (Some asking) → EndsOwnLock who.instance Fits client (Some asking)
  ends_next request ended told obeys tells left asking None is h = absurd (cc)
  ends_next request ended told obeys tells left asking (Some token) is h =
      (token, ap (λ (r : Request). r.ask) h.1, λ es fits. numbered es ((obeys es fits).pending request refl) (tells es fits)) where
        numbered : (es : Trace) → IsNextRequest (task_under rule who) rule.allows es request → TellsToken told ended es
            → Exchanged es Ask.Ticket (Say.Token token) × (asking.request.instance ≡ who.instance) × (asking.request.sequence ≡ length es + 1)
        numbered es next own =
            (token_given (task_under rule who) es request.ask ended told token next.may own is, ap (λ (r : Request). r.instance) h.1 ∙ next.instance, ap (λ (r : Request). r.sequence) h.1 ∙ next.sequence)

  -- what is asked for is the end of the client's own lock
  pub ends_own : (next : Option Request) (ended : Option Outcome) (told : Option Token) → ((es : Trace) → Fits client es → IsObedientBy rule who next ended es)
      → ((es : Trace) → Fits client es → TellsToken told ended es) → (left : ConnectionEnds) (farewell : Option Asking) → IsFarewell (farewell_of next told) left farewell → EndsOwnLock who.instance Fits client farewell
  ends_own next ended told obeys tells left None h = tt
  ends_own None ended told obeys tells left (Some asking) h = absurd (cc)
  ends_own (Some request) ended told obeys tells left (Some asking) h = ends_next request ended told obeys tells left asking (token_to_end request.ask told) refl h

-- ---- a try

-- the store wasn't the job's
pub turned : {C J : Type 0} (d : Driven C J) (known : Acquaintance) (old : C) (error : TryError) (after : Acquaintance) (came left : ConnectionEnds) (asking : Option Asking)
    → HasMet (d.next old) known asking (Err error) after → left ≡ ends_behind came asking → ((a : Asking) → asking ≡ Some a → a.came ≡ came)
    → (try : Try) × (dialed_in try ≡ Some came) × (left_in try ≡ Some left) × TryGives d known old try (Err error) old after × (talk_in try ≡ [])
turned d known old error after came left None met at from = let m = met.0 in absurd (cc)
turned d known old error after came left (Some asking) met at from = (Turned asking, ap Some (from asking refl), ap Some (sym at), (error, refl, refl, met), refl)

-- it was, and the client was driven
pub carried : {C J : Type 0} (d : Driven C J) (known : Acquaintance) (old : C) (driven : Result ℕ DriveError) (result : Result ℕ TryError) (new : C) (after : Acquaintance) (came begun left : ConnectionEnds)
    (asking : Option Asking) (call : Call) → HasMet (d.next old) known asking (Ok tt) after → begun ≡ ends_behind came asking → ((a : Asking) → asking ≡ Some a → a.came ≡ came)
    → call.came ≡ begun → ends_behind call.left call.farewell ≡ left → DrivenOver d old call driven new → result ≡ as_try driven
    → (try : Try) × (dialed_in try ≡ Some came) × (left_in try ≡ Some left) × TryGives d known old try result new after × (talk_in try ≡ call.said.talk)
carried d known old driven result new after came begun left None call met at from is behind over gives =
    (Carried None call, ap Some (is ∙ at), ap Some behind, (driven, over, gives, met, λ a p. absurd (cc)), refl)
carried d known old driven result new after came begun left (Some asking) call met at from is behind over gives =
    (Carried (Some asking) call, ap Some (from asking refl), ap Some behind, (driven, over, gives, met, λ a p. let q : asking ≡ a = cc in ap (λ (x : Asking). x.left) (sym q) ∙ sym (is ∙ at)), refl)

-- its connection was the next one, and was given back
pub dialed : (old mid new : Connections) (try : Try) (came left : ConnectionEnds) → dialed_in try ≡ Some came → left_in try ≡ Some left → Dials old (Some came) mid → HangsUp mid left new → IsDialed old try new
dialed old mid new try came left is to dials hangs =
    (mid, subst (λ x. Dials old x mid) (sym is) dials, subst (λ x. IsGivenBack mid x new) (sym to) hangs)
