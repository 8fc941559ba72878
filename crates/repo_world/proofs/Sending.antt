-- What a client had done when it sent a request.
use Rattle.std.proofs.Common.{◌≡◌, true, inl, inr, ⊎_elim, ℕ, ◌+◌, List, [], ◌∷◌, ◌++◌, length, refl, sym, ap, ◌∙◌, append_assoc, subst, Option, Some, None}
use Rattle.std.proofs.lemmas.Option.{none-some}
use Rattle.repo_name.specs.declared.kinds.Kind.{Kind}
use Rattle.repo_name.specs.declared.names.Name.{Name}
use Rattle.repo_name.specs.declared.rows.LockRow.{LockRow}
use Rattle.repo_name.specs.declared.tokens.Token.{Token}
use Rattle.repo_wire.specs.declared.messages.Ask.{Ask}
use Rattle.repo_wire.specs.declared.messages.Request.{Request}
use Rattle.repo_wire.specs.declared.messages.Say.{Say}
use Rattle.repo_session.specs.Askers.{Asker}
use Rattle.repo_session.specs.Clients.{IsNextRequest}
use Rattle.repo_session.specs.Order.{Task, May, IsPermitted, Obeys, IsWorking, opened, lock_row}
use Rattle.repo_session.specs.Traces.{Exchange, Trace, Exchanged, WasAsked, fed_in}
use Rattle.repo_backup.specs.Items.{Feeding}
use Rattle.repo_session.proofs.Spoken.{was_asked}
use Rattle.repo_world.specs.Bag.{AskedIn, AskedAt, with_next}
use Rattle.repo_world.specs.Clients.{Client, handed_by, task_of, wants_alone}
use Rattle.repo_world.specs.Duties.{GivesAny, IsDutiful, NothingDeleted, Owes}
use Rattle.repo_world.specs.Laws.{Behaves}
use Rattle.repo_world.specs.World.{nobody}
use Rattle.repo_world.specs.declared.jobs.Job.{Job}

-- ---- traces

-- the items taken in es are the last ones of those taken in fs
abbrev pub FedSince : Trace → Trace → Type 0
FedSince es fs = (more : Feeding) × (fed_in fs ≡ more ++ fed_in es)

-- every exchange of es is one of fs
abbrev pub Within : Trace → Trace → Type 0
Within es fs = (ask : Ask) (say : Say) → Exchanged es ask say → Exchanged fs ask say

pub answered_once : (es : Trace) (a : Ask) → WasAsked es a → (s : Say) × Exchanged es a s
answered_once [] a h = absurd h
answered_once (e ∷ es) a (inl h) = (e.say, inl (h, refl))
answered_once (e ∷ es) a (inr h) = let g = answered_once es a h in (g.0, inr g.1)

pub asked_within : (es fs : Trace) (a : Ask) → Within es fs → WasAsked es a → WasAsked fs a
asked_within es fs a h g = let s = answered_once es a g in was_asked fs a s.0 (h a s.0 s.1)

pub asked_exchange : (es : Trace) (q : ℕ) (a : Ask) → AskedIn es q a → WasAsked es a
asked_exchange [] q a h = absurd h
asked_exchange (e ∷ es) q a (inl h) = inl h.0
asked_exchange (e ∷ es) q a (inr h) = inr (asked_exchange es q a h)

pub exchange_asked : (es : Trace) (a : Ask) → WasAsked es a → (q : ℕ) × AskedIn es q a
exchange_asked [] a h = absurd h
exchange_asked (e ∷ es) a (inl h) = (length es + 1, inl (h, refl))
exchange_asked (e ∷ es) a (inr h) = let g = exchange_asked es a h in (g.0, inr g.1)

pub trace_asked : (next : Option Request) (es : Trace) (q : ℕ) (a : Ask) → AskedIn es q a → AskedIn (with_next next es) q a
trace_asked None es q a h = h
trace_asked (Some r) es q a h = inr h

-- what was asked, and is answered, was sent
pub sent_as_asked : (c : Client) (a : Ask) (s : Say) → Exchanged c.trace a s → (q : ℕ) × AskedAt c q a
sent_as_asked c a s h =
    let q = exchange_asked c.trace a (was_asked c.trace a s h) in
    (q.0, trace_asked c.next c.trace q.0 a q.1)

pub exchanged_later : (later es : Trace) (a : Ask) (s : Say) → Exchanged es a s → Exchanged (later ++ es) a s
exchanged_later [] es a s h = h
exchanged_later (e ∷ later) es a s h = inr (exchanged_later later es a s h)

-- a client that works took its ticket
pub working_took : (task : Task) (token : Token) (es : Trace) → IsWorking task token es → Exchanged es Ask.Ticket (Say.Token token)
working_took task token es h =
    let o = h.1 in
    subst (λ fs. Exchanged fs Ask.Ticket (Say.Token token)) (sym o.since) (exchanged_later o.later (opened task token o.text) Ask.Ticket (Say.Token token) (inr (inr (inl (refl, refl)))))

-- and its lock was granted
pub working_locked : (task : Task) (token : Token) (es : Trace) → IsWorking task token es → Exchanged es (Ask.Lock (lock_row task token)) Say.Done
working_locked task token es h =
    let o = h.1 in
    subst (λ fs. Exchanged fs (Ask.Lock (lock_row task token)) Say.Done) (sym o.since) (exchanged_later o.later (opened task token o.text) (Ask.Lock (lock_row task token)) Say.Done (inr (inl (refl, refl))))

-- a client takes one ticket
pub one_token : (task : Task) (Allows : Trace → Ask → Type 0) (Gives : Trace → Exchange → Type 0) (es : Trace) (t u : Token) → Obeys task Allows Gives es → Exchanged es Ask.Ticket (Say.Token t) → Exchanged es Ask.Ticket (Say.Token u) → t ≡ u
one_token task Allows Gives [] t u o x y = absurd x
one_token task Allows Gives (e ∷ es) t u o (inl x) (inl y) = let a : e.say ≡ Say.Token t = x.1 in let b : e.say ≡ Say.Token u = y.1 in cc
one_token task Allows Gives (e ∷ es) t u o (inl x) (inr y) = let m : es ≡ [] = subst (λ a. May task es a) x.0 o.0 in absurd (subst (λ fs. Exchanged fs Ask.Ticket (Say.Token u)) m y)
one_token task Allows Gives (e ∷ es) t u o (inr x) (inl y) = let m : es ≡ [] = subst (λ a. May task es a) y.0 o.0 in absurd (subst (λ fs. Exchanged fs Ask.Ticket (Say.Token t)) m x)
one_token task Allows Gives (e ∷ es) t u o (inr x) (inr y) = one_token task Allows Gives es t u o.3 x y

-- and asks for the lock of its own host and time alone
pub own_lock : (task : Task) (Allows : Trace → Ask → Type 0) (Gives : Trace → Exchange → Type 0) (es : Trace) (row : LockRow) (say : Say) → Obeys task Allows Gives es → Exchanged es (Ask.Lock row) say
    → (row.host ≡ task.who.host) × (row.time ≡ task.who.time)
own_lock task Allows Gives [] row say o h = absurd h
own_lock task Allows Gives (e ∷ es) row say o (inl h) =
    let m : May task es (Ask.Lock row) = subst (λ a. May task es a) h.0 o.0 in
    let is : row ≡ lock_row task m.0 = m.2 in
    (ap (λ (r : LockRow). r.host) is, ap (λ (r : LockRow). r.time) is)
own_lock task Allows Gives (e ∷ es) row say o (inr h) = own_lock task Allows Gives es row say o.3 h

-- ---- what a client owes

nobody_dutiful : IsDutiful nobody
nobody_dutiful = record { obeys = tt; pending = λ r h. absurd (none-some r h); concluded = λ o h. absurd (none-some o h) }

pub dutiful : (c : Client) → Behaves c → IsDutiful c
dutiful c (inl e) = subst IsDutiful (sym e) nobody_dutiful
dutiful c (inr d) = d

-- its exchanges are in order, by what it owes
abbrev pub Keeps : Job → Asker → Trace → Type 0
Keeps b who es = Obeys (task_of b who) (Owes b) GivesAny es

pub one_ticket : (c : Client) (t u : Token) → Behaves c → Exchanged c.trace Ask.Ticket (Say.Token t) → Exchanged c.trace Ask.Ticket (Say.Token u) → t ≡ u
one_ticket c t u h x y = one_token (task_of c.job c.who) (Owes c.job) GivesAny c.trace t u (dutiful c h).obeys x y

-- the exchanges before a request, which allow it
pub record Sending (b : Job) (who : Asker) (es : Trace) (a : Ask) : Type 0 where
  pub older : Trace
  pub within : Within older es
  pub since : FedSince older es
  pub obeys : Keeps b who older
  pub may : May (task_of b who) older a
  pub permitted : IsPermitted (Owes b) older a

fed_more : (e : Exchange) (es older : Trace) → FedSince older es → FedSince older (e ∷ es)
fed_more e es older since = (e.fed ++ since.0, ap (λ l. e.fed ++ l) since.1 ∙ sym (append_assoc e.fed since.0 (fed_in older)))

module _ (b : Job) (who : Asker) where
  sending_in : (es : Trace) (q : ℕ) (a : Ask) → Keeps b who es → AskedIn es q a → Sending b who es a
  sending_in [] q a o h = absurd h
  sending_in (e ∷ es) q a o (inl h) = record {
    older = es;
    within = λ c s g. inr g;
    since = (e.fed, refl);
    obeys = o.3;
    may = subst (λ c. May (task_of b who) es c) h.0 o.0;
    permitted = subst (λ c. IsPermitted (Owes b) es c) h.0 o.1;
  }
  sending_in (e ∷ es) q a o (inr h) =
      let g = sending_in es q a o.3 h in
      record { older = g.older; within = λ c s x. inr (g.within c s x); since = fed_more e es g.older g.since; obeys = g.obeys; may = g.may; permitted = g.permitted }

  sending_next : (next : Option Request) (es : Trace) (q : ℕ) (a : Ask) → Keeps b who es → ((r : Request) → next ≡ Some r → IsNextRequest (task_of b who) (Owes b) es r) → AskedIn (with_next next es) q a → Sending b who es a
  sending_next None es q a o m h = sending_in es q a o h
  sending_next (Some r) es q a o m (inl h) = record {
    older = es;
    within = λ c s g. g;
    since = ([], refl);
    obeys = o;
    may = subst (λ c. May (task_of b who) es c) h.0 (m r refl).may;
    permitted = subst (λ c. IsPermitted (Owes b) es c) h.0 (m r refl).permitted;
  }
  sending_next (Some r) es q a o m (inr h) = sending_in es q a o h

pub sending : (c : Client) (q : ℕ) (a : Ask) → IsDutiful c → AskedAt c q a → Sending c.job c.who c.trace a
sending c q a is h = sending_next c.job c.who c.next c.trace q a is.obeys is.pending h

-- ---- where it stood when it asked

-- the exchanges before its request of a number, by which it might ask for that
pub record Before (b : Job) (es : Trace) (q : ℕ) (a : Ask) : Type 0 where
  pub later : Trace
  pub older : Trace
  pub trace : es ≡ later ++ older
  pub at : q ≡ length older + 1
  pub permitted : IsPermitted (Owes b) older a

before_in : (b : Job) (who : Asker) (es : Trace) (q : ℕ) (a : Ask) → Keeps b who es → AskedIn es q a → Before b es q a
before_in b who [] q a o h = absurd h
before_in b who (e ∷ es) q a o (inl h) = record { later = e ∷ []; older = es; trace = refl; at = h.1; permitted = subst (λ c. IsPermitted (Owes b) es c) h.0 o.1 }
before_in b who (e ∷ es) q a o (inr h) =
    let g = before_in b who es q a o.3 h in
    record { later = e ∷ g.later; older = g.older; trace = ap (λ l. e ∷ l) g.trace; at = g.at; permitted = g.permitted }

before_next : (b : Job) (who : Asker) (next : Option Request) (es : Trace) (q : ℕ) (a : Ask) → Keeps b who es → ((r : Request) → next ≡ Some r → IsNextRequest (task_of b who) (Owes b) es r) → AskedIn (with_next next es) q a → Before b es q a
before_next b who None es q a o m h = before_in b who es q a o h
before_next b who (Some r) es q a o m (inl h) = record { later = []; older = es; trace = refl; at = h.1; permitted = subst (λ c. IsPermitted (Owes b) es c) h.0 (m r refl).permitted }
before_next b who (Some r) es q a o m (inr h) = before_in b who es q a o h

pub before : (c : Client) (q : ℕ) (a : Ask) → IsDutiful c → AskedAt c q a → Before c.job c.trace q a
before c q a is h = before_next c.job c.who c.next c.trace q a is.obeys is.pending h

-- ---- who deletes

-- who has the lock alone was handed nothing
pub handed_nothing : (b : Job) (es : Trace) → wants_alone b ≡ true → handed_by b es ≡ None
handed_nothing (Job.Backup entries) es alone = absurd (cc)
handed_nothing Job.Pieces es alone = absurd (cc)
handed_nothing _ es alone = refl

-- what it puts it puts before that
put_first : (b : Job) (es : Trace) (u : Token) (j : Kind) (n : Name) (x : List ℕ) → wants_alone b ≡ true → Owes b es (Ask.Put u j n x) → NothingDeleted es
put_first b es u Kind.Pack n x alone r = r.0
put_first b es u Kind.Index n x alone r = r.0
put_first b es u Kind.Snapshot n x alone r = absurd (none-some r.entries (sym (handed_nothing b es alone) ∙ r.handed))

-- the exchanges before a delete: whatever its client ever puts it has put then
pub record Deleting (b : Job) (who : Asker) (es all : Trace) (t : Token) (i : Kind) (m : Name) : Type 0 where
  pub older : Trace
  pub within : Within older es
  pub obeys : Keeps b who older
  pub rule : Owes b older (Ask.Delete t i m)
  pub before : (q : ℕ) (u : Token) (j : Kind) (n : Name) (x : List ℕ) → AskedIn all q (Ask.Put u j n x) → WasAsked older (Ask.Put u j n x)

not_both : (a : Ask) (t : Token) (i : Kind) (m : Name) (u : Token) (j : Kind) (n : Name) (x : List ℕ) → a ≡ Ask.Delete t i m → a ≡ Ask.Put u j n x → ⊥
not_both a t i m u j n x d p = absurd (cc)

module _ (b : Job) (who : Asker) (alone : wants_alone b ≡ true) where
  -- no put comes after a delete
  late_put : (es : Trace) (a : Ask) (p : ℕ) (t : Token) (i : Kind) (m : Name) (u : Token) (j : Kind) (n : Name) (x : List ℕ) → IsPermitted (Owes b) es a → AskedIn es p (Ask.Delete t i m) → a ≡ Ask.Put u j n x → ⊥
  late_put es a p t i m u j n x permitted h q =
      put_first b es u j n x alone (subst (λ c. IsPermitted (Owes b) es c) q permitted tt) i m (t, asked_exchange es p (Ask.Delete t i m) h)

  deleting_in : (es : Trace) (p : ℕ) (t : Token) (i : Kind) (m : Name) → Keeps b who es → AskedIn es p (Ask.Delete t i m) → Deleting b who es es t i m
  deleting_in [] p t i m o h = absurd h
  deleting_in (d ∷ es) p t i m o (inl h) = record {
    older = es;
    within = λ c s g. inr g;
    obeys = o.3;
    rule = subst (λ a. IsPermitted (Owes b) es a) h.0 o.1 tt;
    before = λ q u j n x. ⊎_elim (λ f. absurd (not_both d.ask t i m u j n x h.0 f.0)) (asked_exchange es q (Ask.Put u j n x));
  }
  deleting_in (d ∷ es) p t i m o (inr h) =
      let g = deleting_in es p t i m o.3 h in
      record {
        older = g.older;
        within = λ c s x. inr (g.within c s x);
        obeys = g.obeys;
        rule = g.rule;
        before = λ q u j n x. ⊎_elim (λ f. absurd (late_put es d.ask p t i m u j n x o.1 h f.0)) (g.before q u j n x);
      }

  deleting_next : (next : Option Request) (es : Trace) (p : ℕ) (t : Token) (i : Kind) (m : Name) → Keeps b who es → ((r : Request) → next ≡ Some r → IsNextRequest (task_of b who) (Owes b) es r) → AskedIn (with_next next es) p (Ask.Delete t i m)
      → Deleting b who es (with_next next es) t i m
  deleting_next None es p t i m o may h = deleting_in es p t i m o h
  deleting_next (Some r) es p t i m o may (inl h) = record {
    older = es;
    within = λ c s g. g;
    obeys = o;
    rule = subst (λ a. IsPermitted (Owes b) es a) h.0 (may r refl).permitted tt;
    before = λ q u j n x. ⊎_elim (λ f. absurd (not_both r.ask t i m u j n x h.0 f.0)) (asked_exchange es q (Ask.Put u j n x));
  }
  deleting_next (Some r) es p t i m o may (inr h) =
      let g = deleting_in es p t i m o h in
      record {
        older = g.older;
        within = g.within;
        obeys = g.obeys;
        rule = g.rule;
        before = λ q u j n x. ⊎_elim (λ f. absurd (late_put es r.ask p t i m u j n x (may r refl).permitted h f.0)) (g.before q u j n x);
      }

pub deleting : (c : Client) (p : ℕ) (t : Token) (i : Kind) (m : Name) → IsDutiful c → AskedAt c p (Ask.Delete t i m) → Deleting c.job c.who c.trace (with_next c.next c.trace) t i m
deleting c p t i m is h =
    let s = sending c p (Ask.Delete t i m) is h in
    deleting_next c.job c.who s.may.1 c.next c.trace p t i m is.obeys is.pending h
