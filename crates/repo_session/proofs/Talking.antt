-- What a talk has, after one turn more.
use Rattle.std.proofs.Common.{◌≡◌, ◌≢◌, ◌<◌, ◌+◌, ◌++◌, ◌∷◌, [], ℕ, List, Option, Some, None, Result, Ok, Err, length, take, refl, sym, ap, subst, arith, inl, inr, append_assoc, length-append, get_or, suc, ◌∙◌}
use Rattle.std.specs.Io.KnownBytes.{Appends, Consumes}
use Rattle.std.proofs.KnownBytes.{Appends-trans, Appends-nil}
use Rattle.std.proofs.Math.Seq.{take-length, take-append-add, take-suc}
use Rattle.std.proofs.lemmas.List.{append-nil, length-map}
use Rattle.std.proofs.lemmas.List.Concat.{flat_map-append}
use Rattle.repo_name.specs.declared.names.Instance.{Instance}
use Rattle.repo_wire.specs.declared.messages.Ask.{Ask}
use Rattle.repo_wire.specs.declared.messages.Reply.{Reply}
use Rattle.repo_wire.specs.declared.messages.Request.{Request}
use Rattle.repo_wire.specs.Messages.{IsAsk, requests, replies, request_body}
use Rattle.repo_wire.specs.Stream.{frame, FitsFrame, IsStream, Fails}
use Rattle.repo_store.specs.Runs.{Replies}
use Rattle.repo_store.specs.StoreMachine.{SaysFault, IsAnswerable}
use Rattle.repo_store.specs.Stores.{Store}
use Rattle.repo_store.proofs.RunLemmas.{run_on}
use Rattle.repo_store.proofs.ServiceLemmas.{causes_on}
use Rattle.repo_session.specs.declared.connections.Connection.{Connection}
use Rattle.repo_session.specs.declared.driving.DriveError.{DriveError}
use Rattle.repo_session.specs.declared.emissions.Emission.{Emission}
use Rattle.repo_session.specs.declared.outcomes.Outcome.{Outcome}
use Rattle.repo_session.specs.Clients.{IsReplyTo, IsObedientWith, exchange}
use Rattle.repo_session.specs.Order.{Task}
use Rattle.repo_session.specs.Connections.{BeginsWithReplies, IsWaiting, Asks}
use Rattle.repo_session.specs.Talks.{Turn, Talk, IsTurn, first_carried, trace_of, sent_in, taken_in, read_in, frames_of, pending_frame, Went, Said, IsHeardAfter, WritesPart, WritesBy, ArePassed, DriveCauseAfter, TalkRan, MayBeAhead, AskGives}
use Rattle.repo_session.specs.Traces.{Each, Exchange, Trace}
use Rattle.repo_session.proofs.Connecting.{begins}

-- the frames of one request more
pub frames_on : (sent : List Request) (request : Request) → frames_of (sent ++ request ∷ []) ≡ frames_of sent ++ frame (request_body request)
frames_on sent request = flat_map-append (λ r. frame (request_body r)) sent (request ∷ []) ∙ ap (λ x. frames_of sent ++ x) (append-nil (frame (request_body request)))

-- a request that was written whole
pub written_on : (a b c : Option (List ℕ)) (sent : List Request) (request : Request) → Appends a b (frames_of sent) → Appends b c (frame (request_body request)) → Appends a c (frames_of (sent ++ request ∷ []))
written_on a b c sent request p q = subst (λ x. Appends a c x) (sym (frames_on sent request)) (Appends-trans a b c (frames_of sent) (frame (request_body request)) p q)

-- a request that was written in part
pub written_part : (a b c : Option (List ℕ)) (sent : List Request) (request : Request) (k : ℕ) → Appends a b (frames_of sent) → Appends b c (take k (frame (request_body request)))
    → WritesPart a sent (Some request) c
written_part a b c sent request k p q = (k, Appends-trans a b c (frames_of sent) (take k (frame (request_body request))) p q)

-- the requests that were sent, and the one that is pending
pub part_next : (a c : Option (List ℕ)) (sent : List Request) (request : Request) (next : Option Request) → next ≡ Some request → WritesPart a sent (Some request) c → WritesPart a sent next c
part_next a c sent request next same p = subst (λ n. WritesPart a sent n c) (sym same) p

-- all that was sent, and nothing of what is pending
pub whole_part : (a b : Option (List ℕ)) (sent : List Request) (next : Option Request) → Appends a b (frames_of sent) → WritesPart a sent next b
whole_part a b sent next p = (0, subst (λ x. Appends a b x) (sym (append-nil (frames_of sent))) p)

-- all that was sent, and all of what is pending
pub whole_next : (a b : Option (List ℕ)) (sent : List Request) (request : Request) → Appends a b (frames_of (sent ++ request ∷ [])) → WritesPart a sent (Some request) b
whole_next a b sent request p =
    let body = frame (request_body request) in
    let same : frames_of (sent ++ request ∷ []) ≡ frames_of sent ++ take (length body) body = frames_on sent request ∙ ap (λ x. frames_of sent ++ x) (sym (take-length body)) in
    (length body, subst (λ x. Appends a b x) same p)

-- all of what is pending is a part of it
all_part : (a c : Option (List ℕ)) (sent : List Request) (next : Option Request) → Appends a c (frames_of sent ++ pending_frame next) → WritesPart a sent next c
all_part a c sent next w = (length (pending_frame next), subst (λ x. Appends a c (frames_of sent ++ x)) (sym (take-length (pending_frame next))) w)

-- by whatever error, it is some first part
pub by_part : (error : DriveError) (a c : Option (List ℕ)) (sent : List Request) (next : Option Request) → WritesBy error a sent next c → WritesPart a sent next c
by_part DriveError.Read a c sent next w = all_part a c sent next w
by_part DriveError.Write a c sent next w = w
by_part DriveError.Malformed a c sent next w = all_part a c sent next w
by_part DriveError.Limit a c sent next w = w
by_part DriveError.Memory a c sent next w = w
by_part DriveError.Sink a c sent next w = whole_part a c sent next w

-- what was said as what was written
pub written_by : (error : DriveError) (sent : List Request) (next : Option Request) (start written : Option (List ℕ)) (all : List ℕ) → Appends start written all → WritesBy error (Some []) sent next (Some all)
    → WritesBy error start sent next written
written_by DriveError.Read sent next start written all a w = subst (λ x. Appends start written x) w a
written_by DriveError.Write sent next start written all a w = (w.0, subst (λ x. Appends start written x) w.1 a)
written_by DriveError.Malformed sent next start written all a w = subst (λ x. Appends start written x) w a
written_by DriveError.Limit sent next start written all a w = (w.0, subst (λ x. Appends start written x) w.1 a)
written_by DriveError.Memory sent next start written all a w = (w.0, subst (λ x. Appends start written x) w.1 a)
written_by DriveError.Sink sent next start written all a w = subst (λ x. Appends start written x) w a

-- after one turn more the same request is the one that is carried first
pub first_of_more : (sent : List Request) (request : Request) (before now later : Option Request) → now ≡ Some request → first_carried sent now ≡ before
    → first_carried (sent ++ request ∷ []) later ≡ before
first_of_more [] request before now later is first = sym is ∙ first
first_of_more (r ∷ sent) request before now later is first = first

-- the request is the client's own, with the number after those of a trace
abbrev pub IsNumbered : Instance → Trace → Request → Type 0
IsNumbered instance es request = (request.instance ≡ instance) × (request.sequence ≡ length es + 1)

-- so is each that is pending of an obedient client
pub numbered_next : (task : Task) (Allows : Trace → Ask → Type 0) (Gives : Trace → Exchange → Type 0) (Own : Trace → Outcome → Type 0) (Wanting : Trace → Type 0) (next : Option Request) (outcome : Option Outcome)
    (es : Trace) (instance : Instance) (request : Request) → IsObedientWith task Allows Gives Own Wanting next outcome es → next ≡ Some request → task.who.instance ≡ instance
    → IsNumbered instance es request
numbered_next task Allows Gives Own Wanting next outcome es instance request o is same = let n = o.pending request is in (n.instance ∙ same, n.sequence)

-- no turn
pub went_nowhere : {C : Type 0} (instance : Instance) (Fits : C → Trace → Type 0) (client : C) → Went instance Fits client [] client
went_nowhere instance Fits client = record { turns = tt; numbered = λ es h. tt; fits = λ es h. h }

pub passed_none : (next : Option Request) → ArePassed next []
passed_none None = tt
passed_none (Some request) = tt

-- what was heard, with no more replies behind the turns
pub heard_all : (before more : List ℕ) (told : List Reply) (talk : Talk) → BeginsWithReplies (before ++ more) (told ++ read_in talk)
    → IsHeardAfter before told (record { bytes = more; talk = talk; more = [] })
heard_all before more told talk h = subst (λ x. BeginsWithReplies (before ++ more) (told ++ x)) (sym (append-nil (read_in talk))) h

-- why a request wasn't answered
pub unanswered : (error : DriveError) (request : Request) (before more : List ℕ) (told : List Reply) (talk : Talk) (passed : List Reply) (new : Connection) (next : Option Request) (a b c : Option (List ℕ))
    → next ≡ Some request → ArePassed (Some request) passed → Asks request (Err error) (before ++ more) (told ++ read_in talk) passed new b c → Appends a b (frames_of (sent_in talk))
    → DriveCauseAfter before told error (record { bytes = more; talk = talk; more = passed }) next × WritesBy error a (sent_in talk) next c
unanswered error request before more told talk passed new next a b c same h asks w =
    subst (λ n. DriveCauseAfter before told error said n × WritesBy error a (sent_in talk) n c) (sym same) (at error asks)
  where
    said : Said
    said = record { bytes = more; talk = talk; more = passed }

    grouped : (P : List Reply → Type 0) → P ((told ++ read_in talk) ++ passed) → P (told ++ (read_in talk ++ passed))
    grouped P x = subst P (append_assoc told (read_in talk) passed) x

    all : Appends b c (frame (request_body request)) → Appends a c (frames_of (sent_in talk) ++ frame (request_body request))
    all x = Appends-trans a b c (frames_of (sent_in talk)) (frame (request_body request)) w x

    part : (k : ℕ) × Appends b c (take k (frame (request_body request))) → WritesPart a (sent_in talk) (Some request) c
    part x = written_part a b c (sent_in talk) request x.0 w x.1

    at : (error : DriveError) → Asks request (Err error) (before ++ more) (told ++ read_in talk) passed new b c
        → DriveCauseAfter before told error said (Some request) × WritesBy error a (sent_in talk) (Some request) c
    at DriveError.Read x = ((grouped (λ z. IsWaiting (before ++ more) z) x.0, h), all x.1)
    at DriveError.Write x =
        let heard : BeginsWithReplies (before ++ more) (told ++ (read_in talk ++ [])) = heard_all before more told talk x.0 in
        ((subst (λ z. BeginsWithReplies (before ++ more) (told ++ (read_in talk ++ z))) (sym x.1) heard, x.1), part x.2)
    at DriveError.Malformed x = ((x.0.0, grouped (λ z. IsStream replies (before ++ more) z (Fails x.0.0)) x.0.1, h), all x.1)
    at DriveError.Limit x = ((grouped (λ z. BeginsWithReplies (before ++ more) z) x.0.0, h, inr x.0.1), part x.1)
    at DriveError.Memory x = (grouped (λ z. BeginsWithReplies (before ++ more) z) x.0, part x.1)
    at DriveError.Sink x = absurd x

-- a turn more
pub went_on : {C : Type 0} (instance : Instance) (Fits : C → Trace → Type 0) (old mid new : C) (talk : Talk) (turn : Turn) → Went instance Fits old talk mid → IsTurn turn
    → ((es : Trace) → Fits mid es → IsNumbered instance es turn.request)
    → ((es : Trace) → Fits mid es → Fits new (exchange turn.request turn.reply turn.emitted ∷ es)) → Went instance Fits old (turn ∷ talk) new
went_on instance Fits old mid new talk turn w t n f = record {
  turns = (t, w.turns);
  numbered = λ es h.
      let q = n (trace_of talk ++ es) (w.fits es h) in
      (q.0, omega (arith, q.1, length-append (trace_of talk) es, length-map talk (λ (t : Turn). exchange t.request t.reply t.emitted)), w.numbered es h);
  fits = λ es h. f (trace_of talk ++ es) (w.fits es h);
}

-- the same turns, where the client went on by itself
pub went_same : {C : Type 0} (instance : Instance) (Fits : C → Trace → Type 0) (old mid new : C) (talk : Talk) → Went instance Fits old talk mid → ((es : Trace) → Fits mid es → Fits new es)
    → Went instance Fits old talk new
went_same instance Fits old mid new talk w f = record { turns = w.turns; numbered = w.numbered; fits = λ es h. f (trace_of talk ++ es) (w.fits es h) }

-- ---- against a shelf

-- one step more of the store
pub ran_on : (from : Store) (failed : ℕ) (talk : Talk) (turn : Turn) (mid : Store) (count : ℕ) (to : Store) (failing : ℕ) → TalkRan from failed talk mid count → Replies mid turn.request turn.reply to
    → SaysFault count turn.reply.say failing → TalkRan from failed (turn ∷ talk) to failing
ran_on from failed talk turn mid count to failing r s f = record {
  run = run_on from (sent_in talk) (taken_in talk) mid turn.request turn.reply to r.run s;
  cause = causes_on failed count failing (taken_in talk) turn.reply r.cause f;
}

pub may_stay : (mid : Store) (next : Option Request) → MayBeAhead mid next mid
may_stay mid None = refl
may_stay mid (Some request) = inl refl

pub may_step : (mid : Store) (next : Option Request) (request : Request) (reply : Reply) (to : Store) → next ≡ Some request → Replies mid request reply to → MayBeAhead mid next to
may_step mid next request reply to same s = subst (λ n. MayBeAhead mid n to) (sym same) (inr (reply, s))

-- what was kept of one turn more
pub kept_on : (out old new given emitted : List Emission) → old ≡ out ++ given → new ≡ old ++ emitted → new ≡ out ++ (given ++ emitted)
kept_on out old new given emitted p q = q ∙ ap (λ x. x ++ emitted) p ∙ append_assoc out given emitted

pub kept_part : (out old new given emitted : List Emission) (k : ℕ) → old ≡ out ++ given → new ≡ old ++ take k emitted → (n : ℕ) × (new ≡ out ++ take n (given ++ emitted))
kept_part out old new given emitted k p q = (length given + k, q ∙ ap (λ x. x ++ take k emitted) p ∙ append_assoc out given (take k emitted) ∙ ap (λ x. out ++ x) (sym (take-append-add given emitted k)))

pub kept_all : (out new given : List Emission) → new ≡ out ++ given → (n : ℕ) × (new ≡ out ++ take n given)
kept_all out new given p = (length given, p ∙ ap (λ x. out ++ x) (sym (take-length given)))

-- one more of what was given out is kept
pub kept_next : (out old new emitted : List Emission) (k : ℕ) (emission : Emission) → old ≡ out ++ take k emitted → k < length emitted → emission ≡ get_or emitted k emission
    → new ≡ old ++ emission ∷ [] → new ≡ out ++ take (k + 1) emitted
kept_next out old new emitted k emission p within is q =
    let more : k + 1 ≡ suc k = omega arith in
    q ∙ ap (λ x. x ++ emission ∷ []) p ∙ append_assoc out (take k emitted) (emission ∷ [])
    ∙ ap (λ x. out ++ x) (ap (λ e. take k emitted ++ e ∷ []) is ∙ sym (take-suc emitted k emission within) ∙ sym (ap (λ n. take n emitted) more))

-- a request that fits a frame can be answered
answerable_ask : (ask : Ask) → IsAsk ask → IsAnswerable ask
answerable_ask Ask.Ticket h = tt
answerable_ask (Ask.Lock row) h = h.host
answerable_ask (Ask.Refresh token time) h = tt
answerable_ask (Ask.Unlock token) h = tt
answerable_ask Ask.Locks h = tt
answerable_ask (Ask.List kind after) h = tt
answerable_ask (Ask.Get kind name) h = tt
answerable_ask (Ask.Range pack offset len) h = tt
answerable_ask (Ask.Put token kind name bytes) h = tt
answerable_ask (Ask.Delete token kind name) h = tt
answerable_ask (Ask.Upgrade token) h = tt
answerable_ask Ask.Config h = tt

pub answerable : (request : Request) → FitsFrame requests request → IsAnswerable request.ask
answerable request h = answerable_ask request.ask h.0.ask

-- ---- one request

-- nothing was read and nothing written
abbrev pub silent : Said
silent = record { bytes = []; talk = []; more = [] }

pub unasked : (request : Request) (contents : Option (List ℕ)) → AskGives request (Err DriveError.Memory) silent contents contents
unasked request contents = (refl, ([], refl), (0, Appends-nil contents))

-- what asking over a new connection gives
pub once_asked : (request : Request) → FitsFrame requests request → (result : Result Reply DriveError) (bytes : List ℕ) (passed : List Reply) (new : Connection) (a b c d : Option (List ℕ)) → Consumes a b bytes
    → Each (λ reply. ¬ IsReplyTo request reply) passed → Asks request result bytes [] passed new c d → (said : Said) × Consumes a b said.bytes × AskGives request result said c d
once_asked request fits (Ok reply) bytes passed new a b c d read others asks =
    let turn : Turn = record { request = request; passed = passed; reply = reply; emitted = [] } in
    let talk : Talk = turn ∷ [] in
    let heard : BeginsWithReplies bytes (passed ++ reply ∷ []) = begins bytes (passed ++ reply ∷ []) new asks.0.1 in (
      record { bytes = bytes; talk = talk; more = [] },
      read,
      (passed, refl, (record { fits = fits; passed = others; answers = asks.0.0 }, tt), heard_all [] bytes [] talk heard, refl, subst (λ x. Appends c d x) (sym (append-nil (frame (request_body request)))) asks.1),
    )
once_asked request fits (Err error) bytes passed new a b c d read others asks =
    let r = unanswered error request [] bytes [] [] passed new (Some request) c c d refl others asks (Appends-nil c) in
    (record { bytes = bytes; talk = []; more = passed }, read, (refl, r.0, r.1))
