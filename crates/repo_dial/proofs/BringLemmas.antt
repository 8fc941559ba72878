-- A job that was brought on over one connection after another.
use Rattle.std.specs.Prelude.{option_map}
use Rattle.std.proofs.Common.{◌≡◌, ◌≢◌, ◌++◌, ◌∷◌, [], ℕ, Bool, List, Option, Some, None, Result, Ok, Err, length, refl, sym, ap, subst, inl, inr, ◌∙◌}
use Rattle.repo_name.specs.declared.names.Instance.{Instance}
use Rattle.repo_name.specs.declared.tokens.Token.{Token}
use Rattle.repo_wire.specs.declared.messages.Ask.{Ask}
use Rattle.repo_wire.specs.declared.messages.Reply.{Reply}
use Rattle.repo_wire.specs.declared.messages.Request.{Request}
use Rattle.repo_wire.specs.declared.messages.Say.{Say}
use Rattle.repo_store.specs.Channels.{said_in}
use Rattle.repo_session.specs.declared.driving.DriveError.{DriveError}
use Rattle.repo_session.specs.declared.emissions.Emission.{Emission}
use Rattle.repo_session.specs.declared.outcomes.Outcome.{Outcome}
use Rattle.repo_session.specs.Askers.{Asker}
use Rattle.repo_session.specs.Clients.{IsObedientBy, TellsToken}
use Rattle.repo_session.specs.Order.{IsUnlock}
use Rattle.repo_session.specs.Jobs.{Rule}
use Rattle.repo_session.specs.Talks.{Talk, Said, AreNumbered, Drives, trace_of}
use Rattle.repo_session.specs.Traces.{Each, Exchanged, Trace}
use Rattle.repo_session.proofs.Handing.{handed_as}
use Rattle.repo_session.proofs.Joining.{driven_said}
use Rattle.repo_dial.specs.Bringing.{EndsLockOf, IsGivenBack, DrivesTo, LeavesBy, BroughtOn, TriedBy, AreCutOff, IsBegunBy, BroughtInto, Obeyed}
use Rattle.repo_dial.specs.Dialing.{Asking, Call, Connections, IsFarewell, farewell_of, token_to_end, unlock_in_place, Driven, Try, Missed, Turned, Carried, IsStopped, Meets, MeetsSay, config_request, talk_in, talk_over, DrivenOver, EndsOwnLock, TakesLeave, TryGives, AreCut, DrivesAgain}
use Rattle.repo_dial.specs.declared.again.TryError.{TryError}
use Rattle.repo_dial.specs.declared.peers.Acquaintance.{Acquaintance}
use Rattle.repo_dial.proofs.DialLemmas.{trace_of_both, went_driven, first_driven, known_cut, went_try, same_try}
use Rattle.repo_dial.specs.Ends.{ConnectionEnds}
use Rattle.repo_dial.proofs.TryLemmas.{behind_leave}

-- the unlock is of the ticket of the trace at which the client stands
ends_at : {C : Type 0} (instance : Instance) (Fits : C → Trace → Type 0) (client : C) (es : Trace) (farewell : Option Asking) → Fits client es → EndsOwnLock instance Fits client farewell
    → EndsLockOf instance es farewell
ends_at instance Fits client es None fits h = tt
ends_at instance Fits client es (Some asking) fits h = let n = h.2 es fits in (h.0, h.1, n.0, n.1, n.2)

-- the error of a driver, if it came to one
abbrev error_of : Result ℕ DriveError → Option DriveError
error_of (Ok n) = None
error_of (Err error) = Some error

drives_to : {C : Type 0} (instance : Instance) (Fits : C → Trace → Type 0) (next : C → Option Request) (old : C) (result : Result ℕ DriveError) (new : C) (said : Said) (bytes : List ℕ)
    → Drives instance Fits next old result new said (Some []) (Some bytes) → DrivesTo (error_of result) said (next new) bytes
drives_to instance Fits next old (Ok n) new said bytes d = (d.2, d.4, d.5)
drives_to instance Fits next old (Err error) new said bytes d = (d.1, d.2)

-- a client stands by its rule, and tells its token
abbrev pub Stands : Rule → Asker → Option Request → Option Outcome → Option Token → Trace → Type 0
Stands rule who next outcome told es = IsObedientBy rule who next outcome es × TellsToken told outcome es

-- there is a token whose lock is to be ended
some_token : (ask : Ask) (told : Option Token) (token : Token) → (¬ IsUnlock ask → told ≡ Some token) → token_to_end ask told ≢ None
some_token (Ask.Unlock t) told token h none = absurd (cc)
some_token Ask.Ticket told token h none = let is = h (λ x. x) in absurd (cc)
some_token (Ask.Lock row) told token h none = let is = h (λ x. x) in absurd (cc)
some_token (Ask.Refresh t time) told token h none = let is = h (λ x. x) in absurd (cc)
some_token Ask.Locks told token h none = let is = h (λ x. x) in absurd (cc)
some_token (Ask.List k after) told token h none = let is = h (λ x. x) in absurd (cc)
some_token (Ask.Get k n) told token h none = let is = h (λ x. x) in absurd (cc)
some_token (Ask.Range pack offset len) told token h none = let is = h (λ x. x) in absurd (cc)
some_token (Ask.Put t k n x) told token h none = let is = h (λ x. x) in absurd (cc)
some_token (Ask.Delete t k n) told token h none = let is = h (λ x. x) in absurd (cc)
some_token Ask.Config told token h none = let is = h (λ x. x) in absurd (cc)
some_token (Ask.Upgrade t) told token h none = let is = h (λ x. x) in absurd (cc)

-- a token is told where its unlock isn't pending
told_token : (rule : Rule) (who : Asker) (request : Request) (outcome : Option Outcome) (told : Option Token) (es : Trace) (token : Token) → Stands rule who (Some request) outcome told es → Exchanged es Ask.Ticket (Say.Token token)
    → ¬ IsUnlock request.ask → told ≡ Some token
told_token rule who request None told es token stands given other = stands.1.tells token refl given
told_token rule who request (Some outcome) told es token stands given other = absurd (other (stands.0.beside request refl (λ none. absurd (cc))))

asked_back : (request : Request) (end : Option Token) (left : ConnectionEnds) (farewell : Option Asking) → end ≢ None → IsFarewell (option_map (λ token. unlock_in_place request token) end) left farewell → farewell ≢ None
asked_back request None left farewell some h none = some refl
asked_back request (Some token) left None some h none = h
asked_back request (Some token) left (Some asking) some h none = absurd (cc)

given_back : (rule : Rule) (who : Asker) (next : Option Request) (outcome : Option Outcome) (told : Option Token) (es : Trace) (left : ConnectionEnds) (farewell : Option Asking) → Stands rule who next outcome told es
    → IsFarewell (farewell_of next told) left farewell → IsGivenBack es next farewell
given_back rule who None outcome told es left farewell stands h = tt
given_back rule who (Some request) outcome told es left farewell stands h =
    λ token given. asked_back request (token_to_end request.ask told) left farewell (some_token request.ask told token (told_token rule who request outcome told es token stands given)) h

leaves_by : (rule : Rule) (who : Asker) (result : Result ℕ DriveError) (next : Option Request) (outcome : Option Outcome) (told : Option Token) (instance : Instance) (es : Trace) (call : Call) → Stands rule who next outcome told es
    → TakesLeave result next told call → EndsLockOf instance es call.farewell → LeavesBy (error_of result) instance es next call
leaves_by rule who (Ok n) next outcome told instance es call stands leaves ends = leaves
leaves_by rule who (Err DriveError.Read) next outcome told instance es call stands leaves ends = leaves
leaves_by rule who (Err DriveError.Write) next outcome told instance es call stands leaves ends = leaves
leaves_by rule who (Err DriveError.Malformed) next outcome told instance es call stands leaves ends = leaves
leaves_by rule who (Err DriveError.Limit) next outcome told instance es call stands leaves ends = leaves
leaves_by rule who (Err DriveError.Memory) next outcome told instance es call stands leaves ends = leaves
leaves_by rule who (Err DriveError.Sink) next outcome told instance es call stands leaves ends =
    (behind_leave (Err DriveError.Sink) next told call leaves, ends, given_back rule who next outcome told es call.left call.farewell stands leaves)

-- where the job doesn't go on at a store, no other config is known than before
same_say : (known : Option (List ℕ)) (say : Say) (error : TryError) (after : Option (List ℕ)) → MeetsSay known say (Err error) after → after ≡ known
same_say None (Say.Bytes x) error after m = let q = m.0 in absurd (cc)
same_say (Some known) (Say.Bytes x) error after m = m.0
same_say known (Say.Refused code) error after m = m.1
same_say known (Say.Token token) error after m = m.1
same_say known Say.Done error after m = m.1
same_say known (Say.Names more names) error after m = m.1
same_say known (Say.LockList rows) error after m = m.1

same_config : (known : Option (List ℕ)) (answer : Result Reply DriveError) (error : TryError) (after : Option (List ℕ)) → Meets known answer (Err error) after → after ≡ known
same_config known (Ok reply) error after m = same_say known reply.say error after m
same_config known (Err why) error after m = m.1

-- what a job comes to, with this outcome, where its driver came to this
abbrev pub ComesTo : Result ℕ TryError → Option Outcome → Result Outcome TryError → Type 0
ComesTo (Ok n) reached came = (outcome : Outcome) × (reached ≡ Some outcome) × (came ≡ Ok outcome)
ComesTo (Err error) reached came = came ≡ Err error

comes_error : (result : Result ℕ TryError) (reached : Option Outcome) (came : Result Outcome TryError) → ComesTo result reached came → (error : TryError) → came ≡ Err error → result ≡ Err error
comes_error (Ok n) reached came comes error is = let q = comes.2 in absurd (cc)
comes_error (Err e) reached came comes error is = let same : e ≡ error = cc in ap (λ x. Err x) same

comes_stopped : (result : Result ℕ TryError) (reached : Option Outcome) (came : Result Outcome TryError) → ComesTo result reached came → IsStopped result → IsStopped came
comes_stopped (Ok n) reached came comes is = absurd (cc)
comes_stopped (Err e) reached came comes is = let same : e ≡ TryError.Drive DriveError.Sink = cc in comes ∙ ap (λ x. Err x) same

module _ {C J : Type 0} (d : Driven C J) (reached : C → Option Outcome) (rule : Rule) (who : Asker) where
  -- over one connection
  brought : (old new : C) (earlier : Talk) (call : Call) (result : Result ℕ DriveError) → DrivenOver d old call result new → d.own (d.job old) ≡ who.instance → d.fits old (trace_of earlier)
      → ((es : Trace) → d.fits new es → Stands rule who (d.next new) (reached new) (d.told new) es) → BroughtOn rule who earlier (d.next old) call (error_of result) (d.next new) (reached new)
  brought old new earlier call result o own_is fits obeys =
      let said : Said = call.said in
      let is = driven_said (d.own (d.job old)) d.fits d.next old result new said (Some []) (Some (said_in call.passages)) o.drives in
      let went = went_driven (d.own (d.job old)) d.fits d.next old result new said (Some []) (Some (said_in call.passages)) o.drives in
      let here : d.fits new (trace_of (said.talk ++ earlier)) = subst (λ x. d.fits new x) (sym (trace_of_both said.talk earlier)) (went.fits (trace_of earlier) fits) in
      record {
        over = o.over;
        heard = is.1;
        turns = is.0;
        numbered = subst (λ instance. AreNumbered instance (length (trace_of earlier)) said.talk) own_is (went.numbered (trace_of earlier) fits);
        drives = drives_to (d.own (d.job old)) d.fits d.next old result new said (said_in call.passages) o.drives;
        first = first_driven (d.own (d.job old)) d.fits d.next old result new said (Some []) (Some (said_in call.passages)) o.drives;
        obeyed = (obeys (trace_of (said.talk ++ earlier)) here).0;
        leaves = leaves_by rule who result (d.next new) (reached new) (d.told new) who.instance (trace_of (said.talk ++ earlier)) call (obeys (trace_of (said.talk ++ earlier)) here) o.leaves
            (subst (λ instance. EndsLockOf instance (trace_of (said.talk ++ earlier)) call.farewell) (ap d.own o.same ∙ own_is)
            (ends_at (d.own (d.job new)) d.fits new (trace_of (said.talk ++ earlier)) call.farewell here o.ends));
      }

  -- after tries that were cut off the client stands where they lead
  fits_cut : (begun : Acquaintance) (old : C) (tries : List Try) (new : C) (known : Acquaintance) → AreCut d begun old tries new known → d.fits old [] → d.fits new (trace_of (talk_over tries))
  fits_cut begun old [] new known h fits = subst (λ c. d.fits c []) (sym h.0) fits
  fits_cut begun old (try ∷ tries) new known h fits =
      let went = went_try d h.1 h.0 try (Err h.3.0) new known h.3.1 in
      subst (λ x. d.fits new x) (sym (trace_of_both (talk_in try) (talk_over tries))) (went.fits (trace_of (talk_over tries)) (fits_cut begun old tries h.0 h.1 h.2 fits))

  same_cut : (begun : Acquaintance) (old : C) (tries : List Try) (new : C) (known : Acquaintance) → AreCut d begun old tries new known → d.job new ≡ d.job old
  same_cut begun old [] new known h = ap d.job h.0
  same_cut begun old (try ∷ tries) new known h = same_try d h.1 h.0 try (Err h.3.0) new known h.3.1 ∙ same_cut begun old tries h.0 h.1 h.2

  module _ (begun : Acquaintance) (old : C) (obeys : (c : C) → d.job c ≡ d.job old → (es : Trace) → d.fits c es → Stands rule who (d.next c) (reached c) (d.told c) es) (own_is : d.own (d.job old) ≡ who.instance) (fits : d.fits old []) where
    -- the ask for the config has the asker's instance
    asks_own : (c : C) (es : Trace) (next : Option Request) (asking : Asking) → d.job c ≡ d.job old → d.fits c es → d.next c ≡ next → option_map config_request next ≡ Some asking.request
        → asking.request ≡ record { instance = who.instance; sequence = 0; ask = Ask.Config }
    asks_own c es None asking same here is p = absurd (cc)
    asks_own c es (Some request) asking same here is p =
        let of : config_request request ≡ asking.request = cc in
        let instance = ((obeys c same es here).0.pending request is).instance in
        sym of ∙ ap (λ (i : Instance). record { instance = i; sequence = 0; ask = Ask.Config }) instance

    begun_try : (known : Acquaintance) (mid : C) (es : Trace) (try : Try) (result : Result ℕ TryError) (new : C) (after : Acquaintance) → d.job mid ≡ d.job old → d.fits mid es
        → TryGives d known mid try result new after → IsBegunBy who.instance try
    begun_try known mid es Missed result new after same here g = tt
    begun_try known mid es (Turned asking) result new after same here g = let m = g.3 in (asks_own mid es (d.next mid) asking same here refl m.2, m.3)
    begun_try known mid es (Carried None call) result new after same here g = tt
    begun_try known mid es (Carried (Some asking) call) result new after same here g = let m = g.3 in ((asks_own mid es (d.next mid) asking same here refl m.2, m.3), g.4 asking refl)

    begun_cut : (tries : List Try) (new : C) (known : Acquaintance) → AreCut d begun old tries new known → Each (λ try. IsBegunBy who.instance try) tries
    begun_cut [] new known h = tt
    begun_cut (try ∷ tries) new known h =
        (begun_try h.1 h.0 (trace_of (talk_over tries)) try (Err h.3.0) new known (same_cut begun old tries h.0 h.1 h.2) (fits_cut begun old tries h.0 h.1 h.2 fits) h.3.1, begun_cut tries h.0 h.1 h.2)

    module _ (none : begun.config ≡ None) where
      -- over one connection behind some that were cut off
      brought_behind : (tries : List Try) (mid : C) (known : Acquaintance) → AreCut d begun old tries mid known → (call : Call) (result : Result ℕ DriveError) (new : C) → DrivenOver d mid call result new
          → BroughtOn rule who (talk_over tries) (d.next mid) call (error_of result) (d.next new) (reached new)
      brought_behind tries mid known before call result new o =
          brought mid new (talk_over tries) call result o (ap d.own (same_cut begun old tries mid known before) ∙ own_is) (fits_cut begun old tries mid known before fits)
          (obeys new (o.same ∙ same_cut begun old tries mid known before))

      -- a try that came to an error
      failed_by : (tries : List Try) (mid : C) (known : Acquaintance) → AreCut d begun old tries mid known → (try : Try) (error : TryError) (new : C) (after : Acquaintance)
          → TryGives d known mid try (Err error) new after → TriedBy rule who tries (d.next mid) try (Err error) (d.next new)
      failed_by tries mid known before Missed error new after g = let e = g.0 in (cc, ap d.next g.1)
      failed_by tries mid known before (Turned asking) error new after g =
          let met = g.3 in
          let e = g.1 in
          let first = known_cut d begun old tries mid known none before in
          let same = same_config known.config asking.answer g.0 after.config met.4 in (
            g.0,
            cc,
            subst (λ k. Meets k asking.answer (Err g.0) k) first (subst (λ k. Meets known.config asking.answer (Err g.0) k) same met.4),
            ap d.next g.2,
          )
      failed_by tries mid known before (Carried asking call) error new after (Ok n, driven, told, met, left) = absurd (cc)
      failed_by tries mid known before (Carried asking call) error new after (Err cause, driven, told, met, left) =
          (cause, cc, (reached new, brought_behind tries mid known before call (Err cause) new driven))

      -- one that brought it to its end
      ended_by : (tries : List Try) (mid : C) (known : Acquaintance) → AreCut d begun old tries mid known → (try : Try) (n : ℕ) (new : C) (after : Acquaintance) (outcome : Outcome)
          → TryGives d known mid try (Ok n) new after → reached new ≡ Some outcome → TriedBy rule who tries (d.next mid) try (Ok outcome) (d.next new)
      ended_by tries mid known before Missed n new after outcome g is = let e = g.0 in absurd (cc)
      ended_by tries mid known before (Turned asking) n new after outcome g is = let e = g.1 in absurd (cc)
      ended_by tries mid known before (Carried asking call) n new after outcome (Err error, driven, told, met, left) is = absurd (cc)
      ended_by tries mid known before (Carried asking call) n new after outcome (Ok m, driven, told, met, left) is =
          subst (λ o. BroughtOn rule who (talk_over tries) (d.next mid) call None (d.next new) o) is (brought_behind tries mid known before call (Ok m) new driven)

      cut_off : (tries : List Try) (new : C) (known : Acquaintance) → AreCut d begun old tries new known → AreCutOff rule who (d.next old) tries (d.next new)
      cut_off [] new known h = ap d.next h.0
      cut_off (try ∷ tries) new known h = (d.next h.0, cut_off tries h.0 h.1 h.2, (h.3.0, failed_by tries h.0 h.1 h.2 try h.3.0 new known h.3.1, h.3.2))

      -- what a job comes to where its driver came to this
      pub came_by : (result : Result ℕ TryError) (new : C) (came : Result Outcome TryError) (cut : List Try) (mid : C) (known : Acquaintance) (last : Try) (ended : Acquaintance)
          → AreCut d begun old cut mid known → TryGives d known mid last result new ended → ComesTo result (reached new) came → TriedBy rule who cut (d.next mid) last came (d.next new)
      came_by (Ok n) new came cut mid known last ended before gives comes =
          subst (λ r. TriedBy rule who cut (d.next mid) last r (d.next new)) (sym comes.2) (ended_by cut mid known before last n new ended comes.0 gives comes.1)
      came_by (Err error) new came cut mid known last ended before gives comes =
          subst (λ r. TriedBy rule who cut (d.next mid) last r (d.next new)) (sym comes) (failed_by cut mid known before last error new ended gives)

  -- behind a try that brought it to its end nothing is pending
  nothing_next : (known : Acquaintance) (old : C) (try : Try) (n : ℕ) (new : C) (after : Acquaintance) → TryGives d known old try (Ok n) new after → d.next new ≡ None
  nothing_next known old Missed n new after g = let e = g.0 in absurd (cc)
  nothing_next known old (Turned asking) n new after g = let e = g.1 in absurd (cc)
  nothing_next known old (Carried asking call) n new after (Err error, driven, told, met, left) = absurd (cc)
  nothing_next known old (Carried asking call) n new after (Ok m, driven, told, met, left) = driven.drives.2

  module _ {F : Type 0} (Called : F → Emission → Bool → F → Type 0) (old : C) (obeys : (c : C) → d.job c ≡ d.job old → (es : Trace) → d.fits c es → Stands rule who (d.next c) (reached c) (d.told c) es)
      (own_is : d.own (d.job old) ≡ who.instance) (fits : d.fits old []) where
    pub brought_into : (retry : ℕ) (from : F) (result : Result ℕ TryError) (new : C) (to : F) (coming after : Connections) (came : Result Outcome TryError)
        → DrivesAgain d Called retry old from result new to coming after → ComesTo result (reached new) came → BroughtInto Called from rule who came retry coming after to
    brought_into retry from result new to coming after came a comes = record {
      brought = record {
        cut = a.cut;
        last = a.last;
        few = a.few;
        spent = λ error is cut. a.spent error (comes_error result (reached new) came comes error is) cut;
        dialed = a.dialed;
        begun_by = (
          begun_try a.begun old obeys own_is fits a.known a.mid (trace_of (talk_over a.cut)) a.last result new a.ended (same_cut a.begun old a.cut a.mid a.known a.before)
              (fits_cut a.begun old a.cut a.mid a.known a.before fits) a.gives,
          begun_cut a.begun old obeys own_is fits a.cut a.mid a.known a.before,
        );
        store = a.store;
        begun = d.next old;
        waiting = d.next a.mid;
        next = d.next new;
        before = cut_off a.begun old obeys own_is fits a.fresh.0 a.cut a.mid a.known a.before;
        came = came_by a.begun old obeys own_is fits a.fresh.0 result new came a.cut a.mid a.known a.last a.ended a.before a.gives comes;
      };
      handed = handed_as Called (IsStopped result) (IsStopped came) (talk_over (a.last ∷ a.cut)) from to (comes_stopped result (reached new) came comes)
          (λ stopped. comes_error result (reached new) came comes (TryError.Drive DriveError.Sink) stopped) a.handed;
    }

    comes_as : (result : Result ℕ TryError) (new : C) (o : Option Outcome) → reached new ≡ o → ((n : ℕ) → result ≡ Ok n → o ≢ None) → (came : Result Outcome TryError) × ComesTo result (reached new) came
    comes_as (Err error) new o is some = (Err error, refl)
    comes_as (Ok n) new (Some outcome) is some = (Ok outcome, (outcome, is, refl))
    comes_as (Ok n) new None is some = absurd (some n refl refl)

    -- a job that never wants input has an outcome where nothing is pending
    pub comes_over : ((es : Trace) → ¬ rule.wanting es) → (retry : ℕ) (from : F) (result : Result ℕ TryError) (new : C) (to : F) (coming after : Connections)
        → DrivesAgain d Called retry old from result new to coming after → (came : Result Outcome TryError) × ComesTo result (reached new) came
    comes_over never retry from result new to coming after a =
        let es = trace_of (talk_over (a.last ∷ a.cut)) ++ [] in
        let same : d.job new ≡ d.job old = same_try d a.known a.mid a.last result new a.ended a.gives ∙ same_cut a.begun old a.cut a.mid a.known a.before in
        comes_as result new (reached new) refl (λ n is none. never es ((obeys new same es (a.went.fits [] fits)).0.settled
        (nothing_next a.known a.mid a.last n new a.ended (subst (λ r. TryGives d a.known a.mid a.last r new a.ended) is a.gives)) none))

    -- however far it was brought
    pub obeyed_over : ((es : Trace) → ¬ rule.wanting es) → (retry : ℕ) (from : F) (result : Result ℕ TryError) (new : C) (to : F) (coming after : Connections)
        → DrivesAgain d Called retry old from result new to coming after → Obeyed rule who retry coming after
    obeyed_over never retry from result new to coming after a =
        let comes = comes_over never retry from result new to coming after a in
        inr (comes.0, (brought_into retry from result new to coming after comes.0 a comes.1).brought)

-- no connection was asked for
pub obeyed_none : (rule : Rule) (who : Asker) (retry : ℕ) (coming : Connections) → Obeyed rule who retry coming coming
obeyed_none rule who retry coming = inl refl
