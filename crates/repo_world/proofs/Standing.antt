-- A world in code, over an event.
use Rattle.std.proofs.Common.{◌≡◌, ◌≢◌, ◌⊎◌, inl, inr, ⊎_elim, ◌∙◌, ◌<◌, ◌+◌, ◌++◌, ◌∷◌, [], ℕ, zero, suc, true, false, List, length, map, take, get_or, Option, Some, None, refl, sym, ap, subst, slice_get}
use Rattle.std.specs.Prelude.{⊤, Result, Ok, Err, IfOk, IsOk, OnErr}
use Rattle.std.specs.Result.{is_err}
use Rattle.std.proofs.lemmas.List.{take_more}
use Rattle.std.proofs.lemmas.Option.{get_or_from_slice_get}
use Rattle.repo_wire.specs.declared.messages.Ask.{Ask}
use Rattle.repo_wire.specs.declared.messages.Code.{Code}
use Rattle.repo_wire.specs.declared.messages.Reply.{Reply}
use Rattle.repo_wire.specs.declared.messages.Request.{Request}
use Rattle.repo_wire.specs.declared.messages.Say.{Say}
use Rattle.repo_store.specs.Failing.{Failing, FailsItself, HasFailed, IsLeft, Plainly}
use Rattle.repo_store.specs.Stores.{Store}
use Rattle.repo_store.specs.declared.faults.Armed.{Armed}
use Rattle.repo_store.specs.declared.faults.Fail.{Fail}
use Rattle.repo_session.specs.Clients.{IsReplyTo}
use Rattle.repo_world.specs.Events.{AnswersNobody, AnybodySends, Delivers, Happens, MayAnybodySend, Run}
use Rattle.repo_world.specs.Flows.{Flow, seat_at, world_of}
use Rattle.repo_world.specs.Laws.{IsEmpty}
use Rattle.repo_world.specs.inner.Seating.{StepsAsArmed}
use Rattle.repo_world.specs.Seats.{Seated, empty_seat}
use Rattle.repo_world.specs.Stages.{IsReachable, IsSafely, Leads, LeadsOn, Shelf, Stage, Tells, seen}
use Rattle.repo_world.specs.World.{Asked, Message, Said, World, beginning, client_at}
use Rattle.repo_world.specs.declared.events.Applied.{Applied}
use Rattle.repo_world.specs.declared.events.Event.{Event}
use Rattle.repo_world.proofs.Asking.{memory_or, unchanged}
use Rattle.repo_world.proofs.Flowing.{client_there}
use Rattle.repo_world.proofs.Running.{every_run_is_safe}

-- ---- a step of one sort is a step of another

How : Type 1
How = Store → Ask → Say → Store → Type 0

pub delivers_so : (H G : Store → Ask → Say → Store → Type 0) → ((old : Store) (ask : Ask) (say : Say) (new : Store) → H old ask say new → G old ask say new)
    → (w : World) (m : Option Message) (a : Applied) (v : World) → Delivers H w m a v → Delivers G w m a v
delivers_so H G f w None a v d = d
delivers_so H G f w (Some (Asked k request)) a v (e, s) = (e, record { reply = s.reply; store = s.store; answers = s.answers; step = f w.store request.ask s.reply.say s.store s.step; is = s.is })
delivers_so H G f w (Some (Said k reply)) a v d = d

-- nothing is armed: the step is plain
pub steps_plainly : (own owned : ℕ) (left : Armed) (old : Store) (ask : Ask) (say : Say) (new : Store) → StepsAsArmed Armed.Nothing own left owned old ask say new → Plainly (HasFailed own owned) old ask say new
steps_plainly own owned left old ask say new (s, armed) = (s, caused armed.0)
  where
    caused : IsLeft (HasFailed own owned) Armed.Nothing say left → say ≡ Say.Refused Code.Fault → HasFailed own owned
    caused (inl h) e = absurd (h.0 refl)
    caused (inr h) e = h.1 e

-- a call of a sort is armed: the step fails so
pub steps_failing : (own owned : ℕ) (fail : Fail) (left : Armed) (old : Store) (ask : Ask) (say : Say) (new : Store) → StepsAsArmed (Armed.Next fail) own left owned old ask say new → Failing (HasFailed own owned) fail old ask say new
steps_failing own owned fail left old ask say new (s, armed) = armed.1

-- ---- anybody asks

-- the world with another store
abbrev pub over : World → Store → World
over w store = record { store = store; clients = w.clients; messages = w.messages }

-- nothing is armed, and there was memory
pub answers_plainly : (own owned : ℕ) (left : Armed) (w : World) (request : Request) (reply : Reply) (new : Store) → MayAnybodySend request → IsReplyTo request reply
    → StepsAsArmed Armed.Nothing own left owned w.store request.ask reply.say new → reply.say ≢ Say.Refused Code.NoMemory → (a : AnswersNobody (HasFailed own owned) w request (over w new)) × (reply ≡ a.reply)
answers_plainly own owned left w request reply new may answers s other = (
  record {
    may = may;
    reply = reply;
    store = new;
    answers = answers;
    step = steps_plainly own owned left w.store request.ask reply.say new s;
    memory = other;
    is = refl;
  },
  refl,
)

-- it is the same whatever the device's own failures are counted from
pub sends_so : (Own Other : Type 0) → (Own → Other) → (w : World) (request : Request) (a : Applied) (v : World) → AnybodySends Own w request a v → AnybodySends Other w request a v
sends_so Own Other f w request a v (inl (d, s)) = inl (d, record { may = s.may; reply = s.reply; store = s.store; answers = s.answers; step = (s.step.0, λ e. f (s.step.1 e)); memory = s.memory; is = s.is })
sends_so Own Other f w request a v (inr h) = inr h

-- ---- in a run the device may have failed

module _ (Own : Type 0) where
  plainly_any : (old : Store) (ask : Ask) (say : Say) (new : Store) → Plainly Own old ask say new → Plainly ⊤ old ask say new
  plainly_any old ask say new p = (p.0, λ e. tt)

  itself_any : (old : Store) (ask : Ask) (say : Say) (new : Store) → FailsItself Own old ask say new → FailsItself ⊤ old ask say new
  itself_any old ask say new (l, s, inl h) = (l, s, inl (h.0, tt))
  itself_any old ask say new (l, s, inr h) = (l, s, inr h)

  failing_any : (fail : Fail) (old : Store) (ask : Ask) (say : Say) (new : Store) → Failing Own fail old ask say new → Failing ⊤ fail old ask say new
  failing_any (Fail.Write applied) old ask say new (inl h) = inl h
  failing_any (Fail.Write applied) old ask say new (inr (inl h)) = inr (inl h)
  failing_any (Fail.Write applied) old ask say new (inr (inr h)) = inr (inr (itself_any old ask say new h))
  failing_any Fail.Read old ask say new (inl h) = inl h
  failing_any Fail.Read old ask say new (inr h) = inr (h.0, plainly_any old ask say new h.1)

  pub happens_any : (w : World) (e : Event) (a : Applied) (v : World) → Happens Own w e a v → Happens ⊤ w e a v
  happens_any w (Event.Start job host time old) a v h = h
  happens_any w (Event.Deliver i) a v h = delivers_so (Plainly Own) (Plainly ⊤) plainly_any w (slice_get w.messages i) a v h
  happens_any w (Event.Fault i fail) a v h = delivers_so (Failing Own fail) (Failing ⊤ fail) (failing_any fail) w (slice_get w.messages i) a v h
  happens_any w (Event.Ask request) a v h = sends_so Own ⊤ (λ own. tt) w request a v h
  happens_any w (Event.Feed k item) a v h = h
  happens_any w (Event.Crash k) a v h = h
  happens_any w Event.Restart a v h = h

-- ---- a world that a run reaches

pub run_more : (w : World) (es : List Event) (u : World) (e : Event) (a : Applied) (v : World) → Run w es u → Happens ⊤ u e a v → Run w (es ++ e ∷ []) v
run_more w [] u e a v r h = (v, (a, subst (λ x. Happens ⊤ x e a v) r h), refl)
run_more w (d ∷ es) u e a v r h = (r.0, r.1, run_more r.0 es u e a v r.2 h)

pub reached_more : (Own : Type 0) (w : World) (e : Event) (a : Applied) (v : World) → IsReachable w → Happens Own w e a v → IsReachable v
reached_more Own w e a v r h = record { store = r.store; empty = r.empty; events = r.events ++ e ∷ []; run = run_more (beginning r.store) r.events w e a v r.run (happens_any Own w e a v h) }

pub reached_first : (store : Store) → IsEmpty store → IsReachable (beginning store)
reached_first store empty = record { store = store; empty = empty; events = []; run = refl }

-- it is safe
pub safely : (w : World) → IsReachable w → IsSafely w
safely w r clash = every_run_is_safe r.store r.empty r.events [] w w r.run refl clash

-- ---- some of a list of events happened, the first ones

pub ran_more : (w : World) (es : List Event) (n : ℕ) (d : Event) (u : World) (a : Applied) (v : World) → n < length es → Run w (take n es) u → Happens ⊤ u (get_or es n d) a v → Run w (take (n + 1) es) v
ran_more w es n d u a v less r h = subst (λ (l : List Event). Run w l v) (sym (take_more es n d less)) (run_more w (take n es) u (get_or es n d) a v r h)

-- ---- stages, one after another

led_one : {S : Type 0} (store : S → Store) (failed : S → ℕ) (a : Stage S) (es : List Event) (b : Stage S) (e : Event) (applied : Applied) (c : Stage S) → LeadsOn store failed a es b
    → Leads store failed b e applied c → LeadsOn store failed a (es ++ e ∷ []) c
led_one store failed a [] b e applied c l h = (c, (applied, subst (λ x. Leads store failed x e applied c) l h), refl)
led_one store failed a (d ∷ es) b e applied c l h = (l.0, l.1, led_one store failed l.0 es b e applied c l.2 h)

pub led_more : {S : Type 0} (store : S → Store) (failed : S → ℕ) (a : Stage S) (es : List Event) (n : ℕ) (d : Event) (b : Stage S) (applied : Applied) (c : Stage S) → n < length es
    → LeadsOn store failed a (take n es) b → Leads store failed b (get_or es n d) applied c → LeadsOn store failed a (take (n + 1) es) c
led_more store failed a es n d b applied c less l h =
    subst (λ (x : List Event). LeadsOn store failed a x c) (sym (take_more es n d less)) (led_one store failed a (take n es) b (get_or es n d) applied c l h)

-- ---- a client's seat, as it is looked up

pub seat_is : (seats : List Seated) (k : ℕ) (seat : Seated) → slice_get seats k ≡ Some seat → seat_at seats k ≡ seat
seat_is seats k seat e = get_or_from_slice_get seats k seat empty_seat e

pub no_seat : (seats : List Seated) (k : ℕ) → slice_get seats k ≡ None → seat_at seats k ≡ empty_seat
no_seat [] k e = refl
no_seat (x ∷ seats) zero e = absurd (cc)
no_seat (x ∷ seats) (suc k) e = no_seat seats k e

pub client_is : (seats : List Seated) (k : ℕ) (seat : Seated) → seat_at seats k ≡ seat → client_at (map (λ (s : Seated). s.client) seats) k ≡ seat.client
client_is seats k seat e = client_there seats k ∙ ap (λ (s : Seated). s.client) e

-- ---- a stage, and the one to which an event leads

module _ (S : Type 0) (store : S → Store) (failed : S → ℕ) where
  -- a shelf of which this is armed
  abbrev pub arms : Armed → Shelf S → Shelf S
  arms armed shelf = record { inner = record { inner = shelf.inner.inner; armed = armed; count = shelf.inner.count }; known = shelf.known; alloc = shelf.alloc }

  -- what came of a delivery, over a device of which something was armed
  abbrev pub Delivered : {E : Type 0} → Result Applied E → Armed → Armed → Stage S → ℕ → Stage S → Type 0
  Delivered r armed left old i new = IfOk r (λ applied. Delivers (StepsAsArmed armed (failed old.device) left (failed new.device)) (seen store old) (slice_get (seen store old).messages i) applied (seen store new))

  pub plainly_leads : {E : Type 0} (r : Result Applied E) (armed left : Armed) (old : Stage S) (i : ℕ) (new : Stage S) → armed ≡ Armed.Nothing → Delivered r armed left old i new → IfOk r (λ applied. Leads store failed old (Event.Deliver i) applied new)
  plainly_leads (Ok a) armed left old i new none d =
      let How : Armed → Store → Ask → Say → Store → Type 0 = λ x. StepsAsArmed x (failed old.device) left (failed new.device) in
      delivers_so (How Armed.Nothing) (Plainly (HasFailed (failed old.device) (failed new.device))) (steps_plainly (failed old.device) (failed new.device) left) (seen store old) (slice_get (seen store old).messages i) a (seen store new)
      (subst (λ x. Delivers (How x) (seen store old) (slice_get (seen store old).messages i) a (seen store new)) none d)
  plainly_leads (Err e) armed left old i new none d = tt

  pub failing_leads : {E : Type 0} (r : Result Applied E) (fail : Fail) (left : Armed) (old : Stage S) (i : ℕ) (new : Stage S) → Delivered r (Armed.Next fail) left old i new → IfOk r (λ applied. Leads store failed old (Event.Fault i fail) applied new)
  failing_leads (Ok a) fail left old i new d =
      let How : Store → Ask → Say → Store → Type 0 = StepsAsArmed (Armed.Next fail) (failed old.device) left (failed new.device) in
      delivers_so How (Failing (HasFailed (failed old.device) (failed new.device)) fail) (steps_failing (failed old.device) (failed new.device) fail left) (seen store old) (slice_get (seen store old).messages i) a (seen store new) d
  failing_leads (Err e) fail left old i new d = tt

  -- where there was no memory, nothing changed
  pub unhappened : {A E : Type 0} (r : Result A E) (shelf after : Shelf S) (flow later : Flow) → OnErr r (later ≡ flow) → OnErr r (after ≡ shelf) → OnErr r (world_of (store after.inner.inner) later ≡ world_of (store shelf.inner.inner) flow)
  unhappened (Ok x) shelf after flow later f s = tt
  unhappened (Err e) shelf after flow later f s = λ i. world_of (store (s i).inner.inner) (f i)

  pub reached_by : {E : Type 0} (r : Result Applied E) (old : Stage S) (e : Event) (new : Stage S) → IsReachable (seen store old) → IfOk r (λ applied. Leads store failed old e applied new) → OnErr r (seen store new ≡ seen store old) → IsReachable (seen store new)
  reached_by (Ok a) old e new reached leads same = reached_more (HasFailed (failed old.device) (failed new.device)) (seen store old) e a (seen store new) reached leads
  reached_by (Err x) old e new reached leads same = subst IsReachable (sym same) reached

-- ---- what somebody is told who is no client

pub told_done : {S : Type 0} (store : S → Store) (failed : S → ℕ) (old : Stage S) (request : Request) {reply : Reply} (new : Stage S) → Tells store failed old request (Some reply) new
    → Leads store failed old (Event.Ask request) Applied.Done new
told_done store failed old request new t = inl (refl, t.0)

pub told_ignored : {S : Type 0} (store : S → Store) (failed : S → ℕ) (old : Stage S) (request : Request) (new : Stage S) → Tells store failed old request None new
    → Leads store failed old (Event.Ask request) Applied.Ignored new
told_ignored store failed old request new t = inr (refl, t.0, ap (seen store) t.1)

-- ---- a call that failed, or didn't

pub not_failed : {A E : Type 0} (r : Result A E) → IsOk r → is_err r ≡ true → ⊥
not_failed (Ok a) ok bad = absurd (cc)
not_failed (Err e) ok bad = absurd (cc)

pub if_failed : {T E : Type 0} (r : Result T E) (P : Type 0) → is_err r ≡ true → OnErr r P → P
if_failed (Ok x) P e h = absurd (cc)
if_failed (Err x) P e h = h

pub seen_same : {S E T : Type 0} (store : S → Store) (r : Result T E) (old new : Stage S) → OnErr r (new ≡ old) → OnErr r (seen store new ≡ seen store old)
seen_same store (Ok x) old new h = tt
seen_same store (Err e) old new h = ap (seen store) h

-- ---- what holds of some values holds of equal ones

pub carried : {A B C : Type 0} (P : A → B → C → Type 0) {a x : A} {b y : B} {c z : C} → x ≡ a → y ≡ b → z ≡ c → P a b c → P x y z
carried P {a} {x} {b} {y} {c} {z} p q r h = subst (λ k. P k y z) (sym p) (subst (λ k. P a k z) (sym q) (subst (λ k. P a b k) (sym r) h))

-- ---- what anybody asks, whatever is said to it

pub answer_reached : (own owned : ℕ) (left : Armed) (w : World) (request : Request) (reply : Reply) (new : Store) → MayAnybodySend request → IsReplyTo request reply
    → StepsAsArmed Armed.Nothing own left owned w.store request.ask reply.say new → IsReachable w → IsReachable (over w new)
answer_reached own owned left w request reply new may answers s reached = ⊎_elim
    (λ none. subst IsReachable (sym (ap (over w) (unchanged w.store request.ask reply.say new may.1 none s.0))) reached)
    (λ other. reached_more (HasFailed own owned) w (Event.Ask request) Applied.Done (over w new) reached (inl (refl, (answers_plainly own owned left w request reply new may answers s other).0)))
    (memory_or reply.say)

-- nothing was armed, and nothing is
pub nothing_left : (own owned : ℕ) (say : Say) (left : Armed) → IsLeft (HasFailed own owned) Armed.Nothing say left → left ≡ Armed.Nothing
nothing_left own owned say left (inl h) = h.1
nothing_left own owned say left (inr h) = h.0

pub if_well_with : {T E : Type 0} (r : Result T E) (P : T → Type 0) → is_err r ≡ false → IfOk r P → (x : T) × P x
if_well_with (Ok x) P e h = (x, h)
if_well_with (Err x) P e h = absurd (cc)
