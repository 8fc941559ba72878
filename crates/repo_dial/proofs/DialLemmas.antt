-- A client that is driven over one connection after another.
use Rattle.std.proofs.Common.{◌≡◌, ◌≢◌, ◌<◌, ◌≤◌, ◌↔◌, ◌+◌, ◌⊎◌, ◌++◌, ◌∷◌, [], ℕ, zero, suc, take, Bool, true, List, Option, Some, None, IfSome, Result, Ok, Err, length, refl, sym, ap, subst, arith, inl, inr, append_assoc, length-append, ◌∙◌}
use Rattle.std.proofs.lemmas.List.{append-nil, length-map, map-append}
use Rattle.repo_name.specs.declared.names.Instance.{Instance}
use Rattle.repo_wire.specs.declared.messages.Reply.{Reply}
use Rattle.repo_wire.specs.declared.messages.Request.{Request}
use Rattle.repo_wire.specs.declared.messages.Say.{Say}
use Rattle.repo_store.specs.Channels.{said_in}
use Rattle.repo_session.specs.declared.driving.DriveError.{DriveError}
use Rattle.repo_session.specs.declared.emissions.Emission.{Emission}
use Rattle.repo_session.specs.Clients.{exchange}
use Rattle.repo_session.specs.Sinks.{IsHandedOn}
use Rattle.repo_session.specs.Talks.{Talk, Said, IsTurn, AreNumbered, Drives, Went, WritesPart, first_carried, pending_frame, sent_in, trace_of}
use Rattle.repo_session.specs.Traces.{Each, Trace}
use Rattle.repo_session.proofs.Handing.{handed_after}
use Rattle.repo_session.proofs.Talking.{by_part, went_nowhere, whole_part}
use Rattle.repo_dial.specs.Dialing.{Connections, Driven, Try, Missed, Turned, Carried, talk_in, talk_over, AreAtOneStore, AreDialed, IsDialed, IsAtStore, Meets, MeetsSay, config_in, config_of, config_told, or_else, first_told, IsStopped, TryGives, AreCut, is_cut, DrivesAgain}
use Rattle.repo_dial.specs.declared.peers.Acquaintance.{Acquaintance}
use Rattle.repo_dial.specs.declared.again.TryError.{TryError}
use Rattle.repo_dial.proofs.TryLemmas.{no_farewell}

-- ---- talks, one after another

each_of_both : (s t : Talk) → Each IsTurn s → Each IsTurn t → Each IsTurn (s ++ t)
each_of_both [] t p q = q
each_of_both (turn ∷ s) t p q = (p.0, each_of_both s t p.1 q)

pub trace_of_both : (s t : Talk) → trace_of (s ++ t) ≡ trace_of s ++ trace_of t
trace_of_both s t = map-append (λ turn. exchange turn.request turn.reply turn.emitted) s t

-- how many exchanges there are after a talk
trace_length : (s : Talk) (es : Trace) → length (trace_of s ++ es) ≡ length s + length es
trace_length s es = length-append (trace_of s) es ∙ ap (λ n. n + length es) (length-map s (λ turn. exchange turn.request turn.reply turn.emitted))

-- the numbers go on
numbered_both : (instance : Instance) (n : ℕ) (s t : Talk) → AreNumbered instance n s → AreNumbered instance (length s + n) t → AreNumbered instance n (t ++ s)
numbered_both instance n s [] p q = p
numbered_both instance n s (turn ∷ t) p q = (q.0, omega (arith, q.1, length-append t s), numbered_both instance n s t p q.2)

-- one after another, the newer first
went_both : {C : Type 0} (instance : Instance) (Fits : C → Trace → Type 0) (a b c : C) (s t : Talk) → Went instance Fits a s b → Went instance Fits b t c → Went instance Fits a (t ++ s) c
went_both instance Fits a b c s t p q = record {
  turns = each_of_both t s q.turns p.turns;
  numbered = λ es h. numbered_both instance (length es) s t (p.numbered es h)
      (subst (λ n. AreNumbered instance n t) (trace_length s es) (q.numbered (trace_of s ++ es) (p.fits es h)));
  fits = λ es h. subst (λ x. Fits c x) (sym (append_assoc (trace_of t) (trace_of s) es) ∙ ap (λ x. x ++ es) (sym (trace_of_both t s))) (q.fits (trace_of s ++ es) (p.fits es h));
}

-- ---- one try

pub went_driven : {C : Type 0} (instance : Instance) (Fits : C → Trace → Type 0) (next : C → Option Request) (old : C) (result : Result ℕ DriveError) (new : C) (said : Said) (start contents : Option (List ℕ))
    → Drives instance Fits next old result new said start contents → Went instance Fits old said.talk new
went_driven instance Fits next old (Ok n) new said start contents d = d.0
went_driven instance Fits next old (Err error) new said start contents d = d.0

-- what was pending went first
pub first_driven : {C : Type 0} (instance : Instance) (Fits : C → Trace → Type 0) (next : C → Option Request) (old : C) (result : Result ℕ DriveError) (new : C) (said : Said) (start contents : Option (List ℕ))
    → Drives instance Fits next old result new said start contents → first_carried (sent_in said.talk) (next new) ≡ next old
first_driven instance Fits next old (Ok n) new said start contents d = d.6
first_driven instance Fits next old (Err error) new said start contents d = d.3

some_first : (sent : List Request) (request : Request) (next : Option Request) → first_carried (sent ++ request ∷ []) next ≢ None
some_first [] request next p = absurd (cc)
some_first (r ∷ sent) request next p = absurd (cc)

-- what was written over a connection
pub written : {C : Type 0} (instance : Instance) (Fits : C → Trace → Type 0) (next : C → Option Request) (old : C) (result : Result ℕ DriveError) (new : C) (said : Said) (start contents : Option (List ℕ))
    → Drives instance Fits next old result new said start contents → WritesPart start (sent_in said.talk) (next new) contents
written instance Fits next old (Ok n) new said start contents d = whole_part start contents (sent_in said.talk) (next new) d.5
written instance Fits next old (Err error) new said start contents d = by_part error start contents (sent_in said.talk) (next new) d.2

take_none : (k : ℕ) → take k (pending_frame None) ≡ []
take_none zero = refl
take_none (suc k) = refl

-- where nothing was pending nothing was said
silent : (talk : Talk) (next : Option Request) (contents : List ℕ) → first_carried (sent_in talk) next ≡ None → WritesPart (Some []) (sent_in talk) next (Some contents) → (talk ≡ []) × (contents ≡ []) × (next ≡ None)
silent [] None contents p w = (refl, w.1 ∙ take_none w.0, refl)
silent [] (Some request) contents p w = absurd (cc)
silent (turn ∷ talk) next contents p w = absurd (some_first (sent_in talk) turn.request next p)

-- ---- the store of a try

keeps_say : (known : Option (List ℕ)) (say : Say) (result : Result (Unit {0}) TryError) (after : Option (List ℕ)) (config : List ℕ) → MeetsSay known say result after → known ≡ Some config → after ≡ Some config
keeps_say None say result after config m p = absurd (cc)
keeps_say (Some known) (Say.Bytes x) result after config m p = m.0 ∙ p
keeps_say (Some known) (Say.Refused code) result after config m p = m.1 ∙ p
keeps_say (Some known) (Say.Token token) result after config m p = m.1 ∙ p
keeps_say (Some known) Say.Done result after config m p = m.1 ∙ p
keeps_say (Some known) (Say.Names more names) result after config m p = m.1 ∙ p
keeps_say (Some known) (Say.LockList rows) result after config m p = m.1 ∙ p

keeps_config : (known : Option (List ℕ)) (answer : Result Reply DriveError) (result : Result (Unit {0}) TryError) (after : Option (List ℕ)) (config : List ℕ) → Meets known answer result after → known ≡ Some config → after ≡ Some config
keeps_config known (Ok reply) result after config m p = keeps_say known reply.say result after config m p
keeps_config known (Err error) result after config m p = m.1 ∙ p

or_none : (known : Option (List ℕ)) → or_else known None ≡ known
or_none None = refl
or_none (Some known) = refl

-- the first one that was told is known
known_say : (known : Option (List ℕ)) (say : Say) (result : Result (Unit {0}) TryError) (after : Option (List ℕ)) → MeetsSay known say result after → after ≡ or_else known (config_in say)
known_say None (Say.Bytes x) result after m = m.1
known_say (Some known) (Say.Bytes x) result after m = m.0
known_say known (Say.Refused code) result after m = m.1 ∙ sym (or_none known)
known_say known (Say.Token token) result after m = m.1 ∙ sym (or_none known)
known_say known Say.Done result after m = m.1 ∙ sym (or_none known)
known_say known (Say.Names more names) result after m = m.1 ∙ sym (or_none known)
known_say known (Say.LockList rows) result after m = m.1 ∙ sym (or_none known)

known_told : (known : Option (List ℕ)) (answer : Result Reply DriveError) (result : Result (Unit {0}) TryError) (after : Option (List ℕ)) → Meets known answer result after → after ≡ or_else known (config_of answer)
known_told known (Ok reply) result after m = known_say known reply.say result after m
known_told known (Err error) result after m = m.1 ∙ sym (or_none known)

-- no other config is known
abbrev pub MayBe : Option (List ℕ) → List ℕ → Type 0
MayBe known config = (known ≡ None) ⊎ (known ≡ Some config)

told_say : (known : Option (List ℕ)) (say : Say) (after : Option (List ℕ)) (config : List ℕ) → MeetsSay known say (Ok tt) after → MayBe after config → say ≡ Say.Bytes config
told_say None (Say.Bytes x) after config m (inl p) = let q = m.1 in absurd (cc)
told_say None (Say.Bytes x) after config m (inr p) = let q = m.1 in let same : x ≡ config = cc in ap Say.Bytes same
told_say (Some known) (Say.Bytes x) after config m (inl p) = let q = m.0 in absurd (cc)
told_say (Some known) (Say.Bytes x) after config m (inr p) = let q = m.0 in let r = m.1 refl in let same : x ≡ config = cc in ap Say.Bytes same
told_say known (Say.Refused code) after config m may = let q = m.0 in absurd (cc)
told_say known (Say.Token token) after config m may = let q = m.0 in absurd (cc)
told_say known Say.Done after config m may = let q = m.0 in absurd (cc)
told_say known (Say.Names more names) after config m may = let q = m.0 in absurd (cc)
told_say known (Say.LockList rows) after config m may = let q = m.0 in absurd (cc)

told_config : (known : Option (List ℕ)) (answer : Result Reply DriveError) (after : Option (List ℕ)) (config : List ℕ) → Meets known answer (Ok tt) after → MayBe after config
    → (reply : Reply) × (answer ≡ Ok reply) × (reply.say ≡ Say.Bytes config)
told_config known (Ok reply) after config m may = (reply, refl, told_say known reply.say after config m may)
told_config known (Err error) after config m may = let q = m.0 in absurd (cc)

module _ {C J : Type 0} (d : Driven C J) where
  -- what was said in a try
  pub went_try : (known : Acquaintance) (old : C) (try : Try) (result : Result ℕ TryError) (new : C) (after : Acquaintance)
      → TryGives d known old try result new after → Went (d.own (d.job old)) d.fits old (talk_in try) new
  went_try known old Missed result new after g = subst (λ c. Went (d.own (d.job old)) d.fits old [] c) (sym g.1) (went_nowhere (d.own (d.job old)) d.fits old)
  went_try known old (Turned asking) result new after g = subst (λ c. Went (d.own (d.job old)) d.fits old [] c) (sym g.2) (went_nowhere (d.own (d.job old)) d.fits old)
  went_try known old (Carried asking call) result new after g = went_driven (d.own (d.job old)) d.fits d.next old g.0 new call.said (Some []) (Some (said_in call.passages)) g.1.drives

  -- the client has the same job
  pub same_try : (known : Acquaintance) (old : C) (try : Try) (result : Result ℕ TryError) (new : C) (after : Acquaintance) → TryGives d known old try result new after → d.job new ≡ d.job old
  same_try known old Missed result new after g = ap d.job g.1
  same_try known old (Turned asking) result new after g = ap d.job g.2
  same_try known old (Carried asking call) result new after g = g.1.same

  -- stores are asked as before, and a config that is known stays
  asks_same : (known : Acquaintance) (old : C) (try : Try) (result : Result ℕ TryError) (new : C) (after : Acquaintance) → TryGives d known old try result new after → after.asks ≡ known.asks
  asks_same known old Missed result new after g = ap (λ (a : Acquaintance). a.asks) g.2
  asks_same known old (Turned asking) result new after g = let m = g.3 in m.1 ∙ sym m.0
  asks_same known old (Carried None call) result new after g = let m = g.3 in ap (λ (a : Acquaintance). a.asks) m.1
  asks_same known old (Carried (Some asking) call) result new after g = let m = g.3 in m.1 ∙ sym m.0

  config_stays : (known : Acquaintance) (old : C) (try : Try) (result : Result ℕ TryError) (new : C) (after : Acquaintance) (config : List ℕ) → TryGives d known old try result new after
      → known.config ≡ Some config → after.config ≡ Some config
  config_stays known old Missed result new after config g p = ap (λ (a : Acquaintance). a.config) g.2 ∙ p
  config_stays known old (Turned asking) result new after config g p = let m = g.3 in keeps_config known.config asking.answer (Err g.0) after.config config m.4 p
  config_stays known old (Carried None call) result new after config g p = let m = g.3 in ap (λ (a : Acquaintance). a.config) m.1 ∙ p
  config_stays known old (Carried (Some asking) call) result new after config g p = let m = g.3 in keeps_config known.config asking.answer (Ok tt) after.config config m.4 p

  known_try : (known : Acquaintance) (old : C) (try : Try) (result : Result ℕ TryError) (new : C) (after : Acquaintance) → TryGives d known old try result new after
      → after.config ≡ or_else known.config (config_told try)
  known_try known old Missed result new after g = ap (λ (a : Acquaintance). a.config) g.2 ∙ sym (or_none known.config)
  known_try known old (Turned asking) result new after g = let m = g.3 in known_told known.config asking.answer (Err g.0) after.config m.4
  known_try known old (Carried None call) result new after g = let m = g.3 in ap (λ (a : Acquaintance). a.config) m.1 ∙ sym (or_none known.config)
  known_try known old (Carried (Some asking) call) result new after g = let m = g.3 in known_told known.config asking.answer (Ok tt) after.config m.4

  may_before : (known : Acquaintance) (old : C) (try : Try) (result : Result ℕ TryError) (new : C) (after : Acquaintance) (config : List ℕ) (was : Option (List ℕ)) → known.config ≡ was
      → TryGives d known old try result new after → MayBe after.config config → MayBe known.config config
  may_before known old try result new after config None is g may = inl is
  may_before known old try result new after config (Some x) is g (inl p) = let q = config_stays known old try result new after x g is in absurd (cc)
  may_before known old try result new after config (Some x) is g (inr p) = let q = config_stays known old try result new after x g is in let same : x ≡ config = cc in inr (is ∙ ap Some same)

  -- the client says nothing to a store with another config
  at_store : (asks : Bool) (known : Acquaintance) (old : C) (try : Try) (result : Result ℕ TryError) (new : C) (after : Acquaintance) (config : List ℕ) → known.asks ≡ asks
      → TryGives d known old try result new after → MayBe after.config config → IsAtStore asks config try
  at_store asks known old Missed result new after config is g may = tt
  at_store asks known old (Turned asking) result new after config is g may = let m = g.3 in sym is ∙ m.0
  at_store asks known old (Carried None call) result new after config is g may =
      let m = g.3 in
      let all = said_in call.passages in
      λ on.
      let none = silent call.said.talk (d.next new) all (first_driven (d.own (d.job old)) d.fits d.next old g.0 new call.said (Some []) (Some all) g.1.drives ∙ m.2 (is ∙ on))
      (written (d.own (d.job old)) d.fits d.next old g.0 new call.said (Some []) (Some all) g.1.drives) in
      (none.0, none.1, no_farewell g.0 (d.next new) (d.told new) call none.2 g.1.leaves)
  at_store asks known old (Carried (Some asking) call) result new after config is g may =
      let m = g.3 in (sym is ∙ m.0, told_config known.config asking.answer after.config config m.4 may)

-- ---- tries, one after another

-- a sink doesn't stop a try that is cut off
not_stopped_cut : (error : TryError) → is_cut error ≡ true → ¬ IsStopped {T = ℕ} (Err error)
not_stopped_cut error cut stopped =
    let same : error ≡ TryError.Drive DriveError.Sink = cc in
    let is : is_cut (TryError.Drive DriveError.Sink) ≡ true = subst (λ e. is_cut e ≡ true) same cut in
    absurd (cc)

-- behind tries that were cut off the config is known that was told first
pub known_cut : {C J : Type 0} (d : Driven C J) (begun : Acquaintance) (old : C) (tries : List Try) (new : C) (known : Acquaintance) → begun.config ≡ None → AreCut d begun old tries new known
    → known.config ≡ first_told tries
known_cut d begun old [] new known none h = ap (λ (a : Acquaintance). a.config) h.1 ∙ none
known_cut d begun old (try ∷ tries) new known none h =
    known_try d h.1 h.0 try (Err h.3.0) new known h.3.1 ∙ ap (λ o. or_else o (config_told try)) (known_cut d begun old tries h.0 h.1 none h.2)

-- the last of some tries gave this result, and those before it, so many, were cut off; before the first one no config was known
pub record Tried {C J F : Type 0} (d : Driven C J) (Called : F → Emission → Bool → F → Type 0) (asks : Bool) (old : C) (from : F) (result : Result ℕ TryError) (new : C) (to : F) (ended : Acquaintance)
    (coming after : Connections) (n : ℕ) : Type 0 where
  pub begun : Acquaintance
  pub known : Acquaintance
  pub cut : List Try
  pub mid : C
  pub last : Try
  pub fresh : (begun.config ≡ None) × (begun.asks ≡ asks)
  pub before : AreCut d begun old cut mid known
  pub gives : TryGives d known mid last result new ended
  pub dialed : AreDialed coming (last ∷ cut) after
  pub went : Went (d.own (d.job old)) d.fits old (talk_over (last ∷ cut)) new
  pub handed : IsHandedOn Called (IsStopped result) from (talk_over (last ∷ cut)) to
  pub store : (config : List ℕ) → MayBe ended.config config → Each (IsAtStore asks config) (last ∷ cut)
  pub first : ended.config ≡ first_told (last ∷ cut)
  pub asked : ended.asks ≡ asks
  pub count : length cut ≡ n
  pub same : d.job new ≡ d.job old

module _ {C J F : Type 0} (d : Driven C J) (Called : F → Emission → Bool → F → Type 0) (asks : Bool) (old : C) (from : F) where
  -- the first
  pub tried_first : (begun : Acquaintance) (result : Result ℕ TryError) (new : C) (to : F) (ended : Acquaintance) (coming after : Connections) (try : Try) → begun.config ≡ None → begun.asks ≡ asks
      → IsDialed coming try after → TryGives d begun old try result new ended → IsHandedOn Called (IsStopped result) from (talk_in try) to
      → Tried d Called asks old from result new to ended coming after 0
  tried_first begun result new to ended coming after try none is dials gives handed = record {
    begun = begun;
    known = begun;
    cut = [];
    mid = old;
    last = try;
    fresh = (none, is);
    before = (refl, refl);
    gives = gives;
    dialed = (coming, refl, dials);
    went = subst (λ t. Went (d.own (d.job old)) d.fits old t new) (sym (append-nil (talk_in try))) (went_try d begun old try result new ended gives);
    handed = subst (λ t. IsHandedOn Called (IsStopped result) from t to) (sym (append-nil (talk_in try))) handed;
    store = λ config may. (at_store d asks begun old try result new ended config is gives may, tt);
    first = known_try d begun old try result new ended gives ∙ ap (λ o. or_else o (config_told try)) none;
    asked = asks_same d begun old try result new ended gives ∙ is;
    count = refl;
    same = same_try d begun old try result new ended gives;
  }

  -- one more
  pub tried_again : (error : TryError) (result : Result ℕ TryError) (mid new : C) (between to : F) (known ended : Acquaintance) (coming behind after : Connections) (n : ℕ) (try : Try)
      → Tried d Called asks old from (Err error) mid between known coming behind n → is_cut error ≡ true → IsDialed behind try after → TryGives d known mid try result new ended
      → IsHandedOn Called (IsStopped result) between (talk_in try) to → Tried d Called asks old from result new to ended coming after (n + 1)
  tried_again error result mid new between to known ended coming behind after n try t is dials gives handed = record {
    begun = t.begun;
    known = known;
    cut = t.last ∷ t.cut;
    mid = mid;
    last = try;
    fresh = t.fresh;
    before = (t.mid, t.known, t.before, (error, t.gives, is));
    gives = gives;
    dialed = (behind, t.dialed, dials);
    went = went_both (d.own (d.job old)) d.fits old mid new (talk_over (t.last ∷ t.cut)) (talk_in try) t.went
        (subst (λ j. Went (d.own j) d.fits mid (talk_in try) new) t.same (went_try d known mid try result new ended gives));
    handed = handed_after Called (IsStopped result) (talk_in try) (talk_over (t.last ∷ t.cut)) from between to (t.handed.all (not_stopped_cut error is)) handed;
    store = λ config may. (at_store d asks known mid try result new ended config t.asked gives may, t.store config (may_before d known mid try result new ended config known.config refl gives may));
    first = known_try d known mid try result new ended gives ∙ ap (λ o. or_else o (config_told try)) t.first;
    asked = asks_same d known mid try result new ended gives ∙ t.asked;
    count = omega (arith, t.count);
    same = same_try d known mid try result new ended gives ∙ t.same;
  }

  one_store : (retry : ℕ) (known : Option (List ℕ)) (tries : List Try) → ((config : List ℕ) → MayBe known config → Each (IsAtStore asks config) tries) → ((asks ≡ true) ↔ (0 < retry)) → known ≡ first_told tries → AreAtOneStore retry tries
  one_store retry None tries store on first = (asks, [], on, store [] (inl refl), subst (λ o. IfSome o (λ x. [] ≡ x)) first tt)
  one_store retry (Some config) tries store on first = (asks, config, on, store config (inr refl), subst (λ o. IfSome o (λ x. config ≡ x)) first refl)

  -- all that may be tried, or it came to an end before
  pub drives_again : (retry : ℕ) (result : Result ℕ TryError) (new : C) (to : F) (ended : Acquaintance) (coming after : Connections) (n : ℕ) → Tried d Called asks old from result new to ended coming after n → n ≤ retry
      → ((asks ≡ true) ↔ (0 < retry)) → ((error : TryError) → result ≡ Err error → is_cut error ≡ true → n ≡ retry) → DrivesAgain d Called retry old from result new to coming after
  drives_again retry result new to ended coming after n t few on spent = record {
    begun = t.begun;
    known = t.known;
    ended = ended;
    cut = t.cut;
    mid = t.mid;
    last = t.last;
    fresh = (t.fresh.0, subst (λ b. (b ≡ true) ↔ (0 < retry)) (sym t.fresh.1) on);
    before = t.before;
    gives = t.gives;
    dialed = t.dialed;
    went = t.went;
    handed = t.handed;
    store = one_store retry ended.config (t.last ∷ t.cut) t.store on t.first;
    few = omega (arith, t.count, few);
    spent = λ error is cut. t.count ∙ spent error is cut;
  }
