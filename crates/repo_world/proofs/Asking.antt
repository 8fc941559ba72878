-- Anybody asks the store for something that is no put, no deletion and no upgrade: what is kept then.
use Rattle.std.proofs.Common.{◌≡◌, ◌≢◌, ◌⊎◌, inl, inr, ℕ, ◌<◌, ◌≤◌, List, Option, Some, None, Result, Ok, Err, refl, sym, ◌∙◌, ap, subst}
use Rattle.repo_name.specs.declared.kinds.Kind.{Kind}
use Rattle.repo_wire.specs.declared.messages.Ask.{Ask}
use Rattle.repo_wire.specs.declared.messages.Code.{Code}
use Rattle.repo_wire.specs.declared.messages.Request.{Request}
use Rattle.repo_wire.specs.declared.messages.Say.{Say}
use Rattle.repo_wire.specs.Messages.{IsAsk}
use Rattle.repo_locks.specs.declared.outcomes.Grant.{Grant}
use Rattle.repo_locks.specs.declared.outcomes.LockError.{LockError}
use Rattle.repo_locks.specs.declared.outcomes.RefreshError.{RefreshError}
use Rattle.repo_locks.specs.declared.outcomes.TicketError.{TicketError}
use Rattle.repo_locks.specs.TokenMachine.{Tokens}
use Rattle.repo_name.specs.declared.tokens.Token.{Token}
use Rattle.repo_store.specs.StoreMachine.{Answers, GetSays, LockSays, RefreshSays, SliceSays, Step, TicketSays, object_limit}
use Rattle.repo_store.specs.Stores.{Objects, Store}
use Rattle.repo_store.specs.declared.shelves.Slice.{Slice}
use Rattle.repo_name.specs.Limits.{text_limit}
use Rattle.repo_session.specs.Soundness.{IsSound}
use Rattle.repo_world.specs.Bag.{AskedAt, HasBag, IsLawfulAsk, StillSays}
use Rattle.repo_world.specs.Events.{AnswersNobody, MayAnybodyAsk}
use Rattle.repo_world.specs.World.{World, client}
use Rattle.repo_world.proofs.Later.{Later, grows_same}
use Rattle.repo_world.proofs.Moving.{ConfigMoves, ObjectsMove, StoreMoves, below, step_moves}
use Rattle.repo_world.proofs.Sending.{sent_as_asked}
use Rattle.repo_world.proofs.Serving.{versioned_same}
use Rattle.repo_world.proofs.Staying.{served, still_served}

-- ---- what fits a frame is lawful

lawful : (a : Ask) → IsAsk a → IsLawfulAsk a
lawful Ask.Ticket h = tt
lawful (Ask.Lock row) h = (h.time, h.host)
lawful (Ask.Refresh t time) h = h.1
lawful (Ask.Unlock t) h = tt
lawful Ask.Locks h = tt
lawful (Ask.List k after) h = tt
lawful (Ask.Get k n) h = tt
lawful (Ask.Range p offset len) h = tt
lawful (Ask.Put t k n x) h = tt
lawful (Ask.Delete t k n) h = tt
lawful Ask.Config h = tt
lawful (Ask.Upgrade t) h = tt

-- ---- it changes no object, and not the config

stays : (l : Tokens) (old new : Objects) (ask : Ask) → MayAnybodyAsk ask → ObjectsMove l old ask new → new ≡ old
stays l old new ask may (ObjectsMove.stays e) = e
stays l old new ask may (ObjectsMove.adds t k n x e live added) = absurd (subst MayAnybodyAsk e may)
stays l old new ask may (ObjectsMove.removes t k n e live removed) = absurd (subst MayAnybodyAsk e may)

rests : (old new : Store) (ask : Ask) → MayAnybodyAsk ask → ConfigMoves old ask new → new.config ≡ old.config
rests old new ask may (ConfigMoves.rests e) = e
rests old new ask may (ConfigMoves.raises t e live r) = absurd (subst MayAnybodyAsk e may)

-- ---- it keeps the bag in order

module _ (w : World) (bag : HasBag w) (ask : Ask) (say : Say) (store : Store) (may : MayAnybodyAsk ask) (within : IsAsk ask) (step : Step w.store ask say store) where
  moves : StoreMoves w.store ask store
  moves = step_moves w.store ask say store bag.ledger (lawful ask within) step

  objects : store.objects ≡ w.store.objects
  objects = stays w.store.tokens w.store.objects store.objects ask may moves.objects

  config : store.config ≡ w.store.config
  config = rests w.store store ask may moves.config

  later : Later w (served w store w.messages)
  later = record { grows = λ j. grows_same (client w j) (client w j) refl refl refl; messages = λ m h. h }

  kept : (j q : ℕ) (a : Ask) (s : Say) → AskedAt (client w j) q a → StillSays w j a s → StillSays (served w store w.messages) j a s
  kept j q a s h g = still_served w bag store w.messages later moves.tokens (inl objects) (inl config) j q a s h g

  pub asked_bag : HasBag (served w store w.messages)
  asked_bag = record {
    sound = subst IsSound (sym objects) bag.sound;
    ledger = moves.tokens.ok;
    origin = λ j n x h. (let p = bag.origin j n x (ap (λ (o : Objects). o j n) (sym objects) ∙ h) in record { by = p.by; request = p.request; token = p.token; message = p.message; asks = p.asks });
    versions = λ n x h. versioned_same w.store store x config (bag.versions n x (ap (λ (o : Objects). o Kind.Snapshot n) (sym objects) ∙ h));
    behave = bag.behave;
    within = bag.within;
    taken = bag.taken;
    told = λ j a s h. (let g = bag.told j a s h in let q = sent_as_asked (client w j) a s h in (kept j q.0 a s q.1 g.0, g.1));
    asked = bag.asked;
    sent = bag.sent;
    lawful = bag.lawful;
    replied = λ j r h. (let x = bag.replied j r h in (x.0, x.1, kept j r.sequence x.0 r.say x.1 x.2));
    issued = λ j r z h e. (let a : z.0 < w.store.tokens.next = bag.issued j r z h e in below z.0 w.store.tokens.next store.tokens.next a moves.tokens.next);
    owner = bag.owner;
  }

pub asked_keeps : (Own : Type 0) (w v : World) (request : Request) → HasBag w → AnswersNobody Own w request v → HasBag v
asked_keeps Own w v request bag a =
    subst (λ (x : World). HasBag x) (sym a.is) (asked_bag w bag request.ask a.reply.say a.store a.may.1 a.may.0.0.ask a.step.0)

-- and it changes no object, and not the config
pub asked_same : (Own : Type 0) (w v : World) (request : Request) → HasBag w → AnswersNobody Own w request v → (v.store.objects ≡ w.store.objects) × (v.store.config ≡ w.store.config)
asked_same Own w v request bag a = (
  ap (λ (x : World). x.store.objects) a.is ∙ objects w bag request.ask a.reply.say a.store a.may.1 a.may.0.0.ask a.step.0,
  ap (λ (x : World). x.store.config) a.is ∙ config w bag request.ask a.reply.say a.store a.may.1 a.may.0.0.ask a.step.0,
)

-- and no number is given twice
pub asked_next : (Own : Type 0) (w v : World) (request : Request) → HasBag w → AnswersNobody Own w request v → w.store.tokens.next ≤ v.store.tokens.next
asked_next Own w v request bag a =
    subst (λ (x : World). w.store.tokens.next ≤ x.store.tokens.next) (sym a.is) (moves w bag request.ask a.reply.say a.store a.may.1 a.may.0.0.ask a.step.0).tokens.next

-- ---- where there is no memory for an answer, nothing changed

no_get : (limit : ℕ) (o : Option (List ℕ)) → GetSays limit o (Say.Refused Code.NoMemory) → ⊥
no_get limit None h = let e : Say.Refused Code.NoMemory ≡ Say.Refused Code.Missing = h in absurd (cc)
no_get limit (Some y) (inl h) = let e : Say.Refused Code.NoMemory ≡ Say.Bytes y = h.1 in absurd (cc)
no_get limit (Some y) (inr h) = let e : Say.Refused Code.NoMemory ≡ Say.Refused Code.TooLarge = h.1 in absurd (cc)

no_slice : (slice : Slice) → SliceSays slice (Say.Refused Code.NoMemory) → ⊥
no_slice (Slice.Found bytes) h = let e : Say.Refused Code.NoMemory ≡ Say.Bytes bytes = h in absurd (cc)
no_slice Slice.Missing h = let e : Say.Refused Code.NoMemory ≡ Say.Refused Code.Missing = h in absurd (cc)
no_slice Slice.Outside h = let e : Say.Refused Code.NoMemory ≡ Say.Refused Code.Range = h in absurd (cc)

no_ticket : (r : Result Token TicketError) → TicketSays r (Say.Refused Code.NoMemory) → ⊥
no_ticket (Ok t) h = let e : Say.Refused Code.NoMemory ≡ Say.Token t = h in absurd (cc)
no_ticket (Err TicketError.Exhausted) h = let e : Say.Refused Code.NoMemory ≡ Say.Refused Code.Exhausted = h in absurd (cc)
no_ticket (Err TicketError.Memory) h = h

no_lock : (r : Result Grant LockError) → LockSays r (Say.Refused Code.NoMemory) → ⊥
no_lock (Ok grant) h = let e : Say.Refused Code.NoMemory ≡ Say.Done = h in absurd (cc)
no_lock (Err LockError.Dead) h = let e : Say.Refused Code.NoMemory ≡ Say.Refused Code.Dead = h in absurd (cc)
no_lock (Err LockError.OtherKind) h = let e : Say.Refused Code.NoMemory ≡ Say.Refused Code.OtherKind = h in absurd (cc)
no_lock (Err LockError.Busy) h = let e : Say.Refused Code.NoMemory ≡ Say.Refused Code.Busy = h in absurd (cc)
no_lock (Err LockError.Full) h = let e : Say.Refused Code.NoMemory ≡ Say.Refused Code.Full = h in absurd (cc)
no_lock (Err LockError.Memory) h = h

no_refresh : (r : Result (Unit {0}) RefreshError) → RefreshSays r (Say.Refused Code.NoMemory) → ⊥
no_refresh (Ok d) h = let e : Say.Refused Code.NoMemory ≡ Say.Done = h in absurd (cc)
no_refresh (Err RefreshError.Dead) h = let e : Say.Refused Code.NoMemory ≡ Say.Refused Code.Dead = h in absurd (cc)

no_answer : (old : Store) (ask : Ask) (new : Store) → MayAnybodyAsk ask → Answers old ask (Say.Refused Code.NoMemory) new → ⊥
no_answer old Ask.Ticket new may a = no_ticket a.result a.says
no_answer old (Ask.Lock row) new may a = no_lock a.result a.says
no_answer old (Ask.Refresh t time) new may a = no_refresh a.result a.says
no_answer old (Ask.Unlock t) new may a = let e : Say.Refused Code.NoMemory ≡ Say.Done = a.says in absurd (cc)
no_answer old Ask.Locks new may a = let e : Say.Refused Code.NoMemory ≡ Say.LockList old.tokens.live = a.0 in absurd (cc)
no_answer old (Ask.List k after) new may a = let e : Say.Refused Code.NoMemory ≡ Say.Names a.1 a.0 = a.3 in absurd (cc)
no_answer old (Ask.Get k n) new may a = no_get (object_limit k) (old.objects k n) a.0
no_answer old (Ask.Range p offset len) new may (inl a) = let e : Say.Refused Code.NoMemory ≡ Say.Refused Code.Malformed = a.1 in absurd (cc)
no_answer old (Ask.Range p offset len) new may (inr a) = no_slice a.1.0 a.1.2
no_answer old (Ask.Put t k n x) new may a = may
no_answer old (Ask.Delete t k n) new may a = may
no_answer old Ask.Config new may a = no_get text_limit old.config a.0
no_answer old (Ask.Upgrade t) new may a = may

step_without : (old : Store) (ask : Ask) (new : Store) → MayAnybodyAsk ask → Step old ask (Say.Refused Code.NoMemory) new → new ≡ old
step_without old ask new may (inl a) = absurd (no_answer old ask new may a)
step_without old ask new may (inr (looks, inl (fault, h))) = let e : Say.Refused Code.NoMemory ≡ Say.Refused Code.Fault = fault in absurd (cc)
step_without old ask new may (inr (looks, inr h)) = h.1

pub unchanged : (old : Store) (ask : Ask) (say : Say) (new : Store) → MayAnybodyAsk ask → say ≡ Say.Refused Code.NoMemory → Step old ask say new → new ≡ old
unchanged old ask say new may e step = step_without old ask new may (subst (λ s. Step old ask s new) e step)

-- ---- whether there was memory

of_code : (c : Code) → (Say.Refused c ≡ Say.Refused Code.NoMemory) ⊎ (Say.Refused c ≢ Say.Refused Code.NoMemory)
of_code Code.NoMemory = inl refl
of_code Code.Malformed = inr (λ e. absurd (cc))
of_code Code.Dead = inr (λ e. absurd (cc))
of_code Code.Busy = inr (λ e. absurd (cc))
of_code Code.NotExclusive = inr (λ e. absurd (cc))
of_code Code.Missing = inr (λ e. absurd (cc))
of_code Code.NameMismatch = inr (λ e. absurd (cc))
of_code Code.TooLarge = inr (λ e. absurd (cc))
of_code Code.Range = inr (λ e. absurd (cc))
of_code Code.OtherKind = inr (λ e. absurd (cc))
of_code Code.Fault = inr (λ e. absurd (cc))
of_code Code.Full = inr (λ e. absurd (cc))
of_code Code.Exhausted = inr (λ e. absurd (cc))
of_code Code.AppendOnly = inr (λ e. absurd (cc))

pub memory_or : (say : Say) → (say ≡ Say.Refused Code.NoMemory) ⊎ (say ≢ Say.Refused Code.NoMemory)
memory_or (Say.Token t) = inr (λ e. absurd (cc))
memory_or Say.Done = inr (λ e. absurd (cc))
memory_or (Say.Names more names) = inr (λ e. absurd (cc))
memory_or (Say.Bytes bytes) = inr (λ e. absurd (cc))
memory_or (Say.LockList rows) = inr (λ e. absurd (cc))
memory_or (Say.Refused code) = of_code code
