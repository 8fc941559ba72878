-- A client takes a reply, and is fed some items then.
use Rattle.std.proofs.Common.{◌≡◌, ◌≢◌, ◌⊎◌, inl, inr, ⊎_elim, ℕ, false, ◌++◌, ◌∷◌, [], List, refl, sym, ◌∙◌, ap, subst, Option, Some, None, slice_set}
use Rattle.std.proofs.lemmas.Option.{none-some, same_Some}
use Rattle.repo_wire.specs.declared.messages.Request.{Request}
use Rattle.repo_store.specs.Stores.{Store}
use Rattle.repo_session.specs.Clients.{IsReplyTo, exchange}
use Rattle.repo_session.specs.Feeds.{Fed}
use Rattle.repo_session.specs.Order.{Obeys}
use Rattle.repo_session.specs.Talks.{Turn}
use Rattle.repo_session.specs.Traces.{Exchange, Trace, fed_in, feeding}
use Rattle.repo_session.specs.declared.outcomes.Outcome.{Outcome}
use Rattle.repo_backup.specs.Items.{AreTaken}
use Rattle.repo_feeding.specs.FedRules.{AreWelcomeOn}
use Rattle.repo_world.specs.Clients.{Client, task_of}
use Rattle.repo_world.specs.Duties.{GivesAny, IsDutiful, Owes}
use Rattle.repo_world.specs.Events.{Feeds, Takes}
use Rattle.repo_world.specs.World.{Message, Asked, IsOneOf, client_at, sends}
use Rattle.repo_world.specs.declared.jobs.Job.{Job}
use Rattle.repo_world.proofs.ClientLists.{changed_set}
use Rattle.repo_world.proofs.Later.{has_left}
use Rattle.repo_runs.specs.Connected.{AreFed, Senders, TakesTurn, with_store}
use Rattle.repo_runs.specs.Fed.{AreWelcomeTo, with_items}

has_right : (xs ys : List Message) (m : Message) → IsOneOf ys m → IsOneOf (xs ++ ys) m
has_right [] ys m h = h
has_right (x ∷ xs) ys m h = inr (has_right xs ys m h)

sends_it : (k : ℕ) (o : Option Request) (request : Request) → o ≡ Some request → IsOneOf (sends k o) (Asked k request)
sends_it k None request e = absurd (none-some request e)
sends_it k (Some x) request e = inl (ap (Asked k) (same_Some x request e))

-- ---- where a client stands among the others

-- it stands so, the others as before, and what is pending was sent
pub record Reached (old : Senders) (k : ℕ) (c : Client) (new : Senders) : Type 0 where
  pub here : client_at new.clients k ≡ c
  pub others : (j : ℕ) → (j ≡ k) ⊎ (client_at new.clients j ≡ client_at old.clients j)
  pub kept : (m : Message) → IsOneOf old.sent m → IsOneOf new.sent m
  pub asked : (request : Request) → c.next ≡ Some request → IsOneOf new.sent (Asked k request)

reached_on : (old : Senders) (k : ℕ) (c d : Client) (mid new : Senders) → Reached old k c mid → Reached mid k d new → Reached old k d new
reached_on old k c d mid new a b = record {
  here = b.here;
  others = λ j. ⊎_elim inl (λ e. ⊎_elim inl (λ g. inr (e ∙ g)) (a.others j)) (b.others j);
  kept = λ m h. b.kept m (a.kept m h);
  asked = b.asked;
}

-- with this client in its place
abbrev put_in : Senders → ℕ → Client → Senders
put_in old k c = record { clients = slice_set old.clients k c; sent = old.sent ++ sends k c.next }

reached_put : (old : Senders) (k : ℕ) (c : Client) → (client_at old.clients k).crashed ≡ false → Reached old k c (put_in old k c)
reached_put old k c up =
    let changed = changed_set old.clients k c up in
    record {
      here = changed.here;
      others = changed.others;
      kept = λ m h. has_left old.sent (sends k c.next) m h;
      asked = λ request e. has_right old.sent (sends k c.next) (Asked k request) (sends_it k c.next request e);
    }

-- ---- between the items

-- it waits for more
abbrev pub hungry_one : Client → List Fed → Exchange → Trace → Client
hungry_one end items e es = record { job = end.job; who = end.who; trace = with_items items e ∷ es; next = None; outcome = None; crashed = false }

module _ (end : Client) (all : List Fed) (e : Exchange) (es : Trace) (pieces : end.job ≡ Job.Pieces) (dutiful : IsDutiful end) (trace : end.trace ≡ with_items all e ∷ es) where
  obeys : Obeys (task_of end.job end.who) (Owes end.job) GivesAny (with_items all e ∷ es)
  obeys = subst (λ t. Obeys (task_of end.job end.who) (Owes end.job) GivesAny t) trace dutiful.obeys

  waits_input : (items : List Fed) → IsDutiful (hungry_one end items e es)
  waits_input items = record { obeys = (obeys.0, obeys.1, inr tt, obeys.3); pending = λ r q. absurd (none-some r q); concluded = λ x q. absurd (none-some x q) }

  -- one item
  module _ (old : Senders) (k : ℕ) (items : List Fed) (item : Fed) (c : Client) (here : client_at old.clients k ≡ hungry_one end items e es) (welcome : AreWelcomeOn (item ∷ items) e.ask e.say e.emitted es)
      (job : c.job ≡ end.job) (who : c.who ≡ end.who) (goes : c.trace ≡ with_items (item ∷ items) e ∷ es) (up : c.crashed ≡ false) (does : IsDutiful c) where
    running : (client_at old.clients k).crashed ≡ false
    running = ap (λ (x : Client). x.crashed) here

    pub one_fed : (store : Store) → Feeds (with_store store old) k item (with_store store (put_in old k c))
    one_fed store = record {
      fed = (running, ap (λ (x : Client). x.job) here ∙ pieces);
      waits = (ap (λ (x : Client). x.next) here, ap (λ (x : Client). x.outcome) here);
      may = subst (λ (x : Client). AreTaken (item ∷ fed_in x.trace)) (sym here) (welcome.1.goes_on, welcome.1.kept, welcome.2, welcome.1.taken);
      new = c;
      job = job ∙ ap (λ (x : Client). x.job) (sym here);
      who = who ∙ ap (λ (x : Client). x.who) (sym here);
      trace = goes ∙ ap (λ (x : Client). feeding item x.trace) (sym here);
      up = up;
      dutiful = does;
      is = refl;
    }

    pub one_reached : Reached old k c (put_in old k c)
    one_reached = reached_put old k c running

  -- all items but the newest
  older_fed : (old : Senders) (k : ℕ) (item : Fed) (items : List Fed) → client_at old.clients k ≡ hungry_one end [] e es → AreWelcomeOn (item ∷ items) e.ask e.say e.emitted es
      → (new : Senders) × AreFed old k items new × Reached old k (hungry_one end items e es) new
  older_fed old k item [] here welcome = (old, refl, record { here = here; others = λ j. inr refl; kept = λ m h. h; asked = λ request q. absurd (none-some request q) })
  older_fed old k item (older ∷ items) here welcome =
      let r = older_fed old k older items here welcome.3 in
      let c = hungry_one end (older ∷ items) e es in
      let does = waits_input (older ∷ items) in
      let fed = one_fed r.0 k items older c r.2.here welcome.3 refl refl refl refl does in
      let reached = one_reached r.0 k items older c r.2.here welcome.3 refl refl refl refl does in
      (put_in r.0 k c, (r.0, r.1, fed), reached_on old k (hungry_one end items e es) c r.0 (put_in r.0 k c) r.2 reached)

-- ---- a turn

-- the reply is taken
module _ (old : Senders) (k : ℕ) (mid c : Client) (turn : Turn) (is : client_at old.clients k ≡ mid) (up : mid.crashed ≡ false) (waits : mid.next ≡ Some turn.request) (answers : IsReplyTo turn.request turn.reply)
    (job : c.job ≡ mid.job) (who : c.who ≡ mid.who) (goes : c.trace ≡ exchange turn.request turn.reply turn.emitted ∷ mid.trace) (runs : c.crashed ≡ false) (does : IsDutiful c)
    (stays : (o : Outcome) → mid.outcome ≡ Some o → c.outcome ≡ Some o) where
  now_running : (client_at old.clients k).crashed ≡ false
  now_running = ap (λ (x : Client). x.crashed) is ∙ up

  took : (store : Store) → Takes (with_store store old) k turn.reply (with_store store (put_in old k c))
  took store = record {
    running = now_running;
    request = turn.request;
    pending = ap (λ (x : Client). x.next) is ∙ waits;
    answers = answers;
    emitted = turn.emitted;
    new = c;
    job = job ∙ ap (λ (x : Client). x.job) (sym is);
    who = who ∙ ap (λ (x : Client). x.who) (sym is);
    trace = goes ∙ ap (λ (x : Client). exchange turn.request turn.reply turn.emitted ∷ x.trace) (sym is);
    up = runs;
    dutiful = does;
    stays = λ o q. stays o (ap (λ (x : Client). x.outcome) (sym is) ∙ q);
    is = refl;
  }

  took_reached : Reached old k c (put_in old k c)
  took_reached = reached_put old k c now_running

-- it is taken, and the items are fed
pub record Nourished (old : Senders) (k : ℕ) (turn : Turn) (items : List Fed) (end : Client) : Type 0 where
  pub mid : Senders
  pub takes : (store : Store) → Takes (with_store store old) k turn.reply (with_store store mid)
  pub new : Senders
  pub fed : AreFed mid k items new
  pub reached : Reached old k end new

module _ (old : Senders) (k : ℕ) (turn : Turn) (mid end : Client) (is : client_at old.clients k ≡ mid) (t : TakesTurn mid turn end) where
  by_items : (items : List Fed) → AreWelcomeTo end.job items turn.request.ask turn.reply.say turn.emitted mid.trace → (items ≢ [] → mid.outcome ≡ None)
      → end.trace ≡ with_items items (exchange turn.request turn.reply turn.emitted) ∷ mid.trace → Nourished old k turn items end
  by_items [] welcome under_way trace = record {
    mid = put_in old k end;
    takes = took old k mid end turn is t.running t.pending t.answers t.job t.who trace t.up t.dutiful t.stays;
    new = put_in old k end;
    fed = refl;
    reached = took_reached old k mid end turn is t.running t.pending t.answers t.job t.who trace t.up t.dutiful t.stays;
  }
  by_items (item ∷ items) welcome under_way trace =
      let e = exchange turn.request turn.reply turn.emitted in
      let es = mid.trace in
      let pieces = welcome.0 in
      let all = item ∷ items in
      let first = hungry_one end [] e es in
      let does = waits_input end all e es pieces t.dutiful trace [] in
      let none : mid.outcome ≡ None = under_way (λ q. absurd (cc)) in
      let stays : (o : Outcome) → mid.outcome ≡ Some o → first.outcome ≡ Some o = λ o q. absurd (none-some o (sym none ∙ q)) in
      let begun = put_in old k first in
      let start = took_reached old k mid first turn is t.running t.pending t.answers t.job t.who refl refl does stays in
      let older = older_fed end all e es pieces t.dutiful trace begun k item items start.here welcome.1 in
      let last = one_reached end all e es pieces t.dutiful trace older.0 k items item end older.2.here welcome.1 refl refl trace t.up t.dutiful in
      let fed = one_fed end all e es pieces t.dutiful trace older.0 k items item end older.2.here welcome.1 refl refl trace t.up t.dutiful in
      let new = put_in older.0 k end in
      record {
        mid = begun;
        takes = took old k mid first turn is t.running t.pending t.answers t.job t.who refl refl does stays;
        new = new;
        fed = (older.0, older.1, fed);
        reached = reached_on old k first end begun new start (reached_on begun k (hungry_one end items e es) end older.0 new older.2 last);
      }

  pub nourished : Nourished old k turn t.items end
  nourished = by_items t.items t.welcome t.under_way t.trace
