-- What somebody does who is no client.
use Rattle.std.specs.Prelude.{⊤}
use Rattle.std.proofs.Common.{◌≡◌, ◌≢◌, ◌<◌, ◌≤◌, ◌+◌, inl, inr, ⊎_elim, ℕ, zero, suc, Bool, true, false, ◌++◌, ◌∷◌, [], List, length, refl, sym, ◌∙◌, ap, subst, arith, slice_get, Option, Some, None}
use Rattle.std.proofs.lemmas.Option.{none-some, same_Some}
use Rattle.repo_name.specs.declared.tokens.Token.{Token}
use Rattle.repo_wire.specs.declared.messages.Ask.{Ask}
use Rattle.repo_wire.specs.declared.messages.Code.{Code}
use Rattle.repo_wire.specs.declared.messages.Reply.{Reply}
use Rattle.repo_wire.specs.declared.messages.Request.{Request}
use Rattle.repo_wire.specs.declared.messages.Say.{Say}
use Rattle.repo_locks.specs.TokenMachine.{Tokens, UnlockStep, unlocked}
use Rattle.repo_locks.proofs.Numbers.{unlocked_same}
use Rattle.repo_store.specs.StoreMachine.{Step}
use Rattle.repo_store.specs.Stores.{Store, SavesTokens}
use Rattle.repo_store.specs.Failing.{Failing, Plainly}
use Rattle.repo_world.specs.Bag.{HasBag}
use Rattle.repo_session.specs.Feeds.{Fed}
use Rattle.repo_backup.specs.Items.{fed_of, fed_part}
use Rattle.repo_backup.specs.declared.items.Item.{Item}
use Rattle.repo_world.specs.Events.{AnswersNobody, Delivers, Feeds, Gives, Happens, Run, Serves}
use Rattle.repo_world.specs.Safe.{HasNoClash}
use Rattle.repo_world.specs.World.{World, Message, Asked, Said, IsOneOf, beginning, first_of, sends}
use Rattle.repo_world.specs.declared.events.Applied.{Applied}
use Rattle.repo_world.specs.declared.events.Event.{Event}
use Rattle.repo_world.proofs.Asking.{asked_keeps, asked_next, asked_same}
use Rattle.repo_world.proofs.Failing.{failing_step}
use Rattle.repo_world.proofs.Happening.{begins, event_keeps}
use Rattle.repo_world.proofs.Later.{has_split}
use Rattle.repo_world.proofs.Moving.{below, step_moves}
use Rattle.repo_world.proofs.Replying.{token_told}
use Rattle.repo_world.proofs.Running.{goes_back, run_calm, run_keeps}
use Rattle.repo_runs.specs.BagLaws.{RemovedLocksAreGone, StrangersKeepBag, StrangersTicketsAreTheirs}

pub strangers_keep : StrangersKeepBag
strangers_keep w v request bag a =
    let same = asked_same ⊤ w v request bag a in
    (asked_keeps ⊤ w v request bag a, same.0, same.1, ap (λ (x : World). x.clients) a.is, ap (λ (x : World). x.messages) a.is)

removed : (l : Tokens) (t : Token) (found : Bool) (new : Tokens) → UnlockStep l t found new → new ≡ unlocked l t
removed l t true new s = s.1
removed l t false new s = s.1 ∙ sym (unlocked_same l t s.0)

gone : (old : Store) (t : Token) (say : Say) (new : Store) → (say ≡ Say.Refused Code.Fault → ⊥) → say ≢ Say.Refused Code.NoMemory → Step old (Ask.Unlock t) say new → SavesTokens (unlocked old.tokens t) old new
gone old t say new sound memory (inl a) = (a.saves.0, a.saves.1, a.saves.2 ∙ removed old.tokens t a.result a.tokens a.step, a.saves.3)
gone old t say new sound memory (inr (looks, inl (fault, h))) = absurd (sound fault)
gone old t say new sound memory (inr (looks, inr h)) = absurd (memory h.0)

pub removed_gone : RemovedLocksAreGone
removed_gone w v request t e a =
    subst (λ (s : Store). SavesTokens (unlocked w.store.tokens t) w.store s) (sym (ap (λ (x : World). x.store) a.is))
    (gone w.store t a.reply.say a.store a.step.1 a.memory (subst (λ b. Step w.store b a.reply.say a.store) e a.step.0))

-- ---- a number that was given to somebody who is no client

-- it was issued, and no client was told it
abbrev IsApart : World → Token → Type 0
IsApart u t = (t.0 < u.store.tokens.next) × ((k : ℕ) (reply : Reply) → IsOneOf u.messages (Said k reply) → reply.say ≢ Say.Token t)

same_apart : (u x : World) (t : Token) → x ≡ u → IsApart u t → IsApart x t
same_apart u x t e a = subst (λ (y : World). IsApart y t) (sym e) a

-- nothing was said, and the store is as it was
quiet_apart : (u x : World) (t : Token) → x.store ≡ u.store → ((k : ℕ) (reply : Reply) → IsOneOf x.messages (Said k reply) → IsOneOf u.messages (Said k reply)) → IsApart u t → IsApart x t
quiet_apart u x t e back a = (subst (λ (s : Store). t.0 < s.tokens.next) (sym e) a.0, λ k reply m. a.1 k reply (back k reply m))

asked_only : (k : ℕ) (request : Request) (j : ℕ) (reply : Reply) → IsOneOf (Asked k request ∷ []) (Said j reply) → ⊥
asked_only k request j reply h = ⊎_elim (λ (e : Asked k request ≡ Said j reply). absurd (cc)) (λ g. g) h

sent_only : (k : ℕ) (o : Option Request) (j : ℕ) (reply : Reply) → IsOneOf (sends k o) (Said j reply) → ⊥
sent_only k None j reply h = h
sent_only k (Some request) j reply h = asked_only k request j reply h

before : (xs ys : List Message) (k : ℕ) (reply : Reply) → (IsOneOf ys (Said k reply) → ⊥) → IsOneOf (xs ++ ys) (Said k reply) → IsOneOf xs (Said k reply)
before xs ys k reply none h = ⊎_elim (λ g. g) (λ g. absurd (none g)) (has_split xs ys (Said k reply) h)

got_one : (xs : List Message) (i : ℕ) (m : Message) → slice_get xs i ≡ Some m → IsOneOf xs m
got_one [] i m e = absurd (none-some m e)
got_one (x ∷ xs) zero m e = inl (same_Some x m e)
got_one (x ∷ xs) (suc i) m e = inr (got_one xs i m e)

module _ (u : World) (bag : HasBag u) (t : Token) (a : IsApart u t) where
  -- a number is told that is the next one
  not_next : (ask : Ask) (say : Say) (new : Store) → Step u.store ask say new → say ≢ Say.Token t
  not_next ask say new step e =
      let p = token_told u.store ask t new (subst (λ s. Step u.store ask s new) e step) in
      let at : t.0 ≡ u.store.tokens.next = p.0 in
      let less : t.0 < u.store.tokens.next = a.0 in
      absurd (omega (arith, at, less))

  served_apart : (How : Store → Ask → Say → Store → Type 0) → ((s : Store) (b : Ask) (z : Say) (n : Store) → How s b z n → Step s b z n) → (x : World) (k : ℕ) (request : Request) → IsOneOf u.messages (Asked k request) → Serves How u k request x → IsApart x t
  served_apart How how x k request m h =
      let step = how u.store request.ask h.reply.say h.store h.step in
      let next : u.store.tokens.next ≤ h.store.tokens.next = (step_moves u.store request.ask h.reply.say h.store bag.ledger (bag.lawful k request m) step).tokens.next in
      subst (λ (y : World). IsApart y t) (sym h.is) (
        below t.0 u.store.tokens.next h.store.tokens.next a.0 next,
        λ j reply said e. ⊎_elim (λ old. a.1 j reply old e)
            (λ g. ⊎_elim (λ (q : Said k h.reply ≡ Said j reply). let b : h.reply ≡ reply = cc in absurd (not_next request.ask h.reply.say h.store step (ap (λ (z : Reply). z.say) b ∙ e))) (λ f. absurd f) g)
            (has_split u.messages (Said k h.reply ∷ []) (Said j reply) said),
      )

  delivered_apart : (How : Store → Ask → Say → Store → Type 0) → ((s : Store) (b : Ask) (z : Say) (n : Store) → How s b z n → Step s b z n) → (x : World) (o : Option Message)
      → ((m : Message) → o ≡ Some m → IsOneOf u.messages m) → (r : Applied) → Delivers How u o r x → IsApart x t
  delivered_apart How how x None has r h = same_apart u x t h.1 a
  delivered_apart How how x (Some (Asked k request)) has r h = served_apart How how x k request (has (Asked k request) refl) h.1
  delivered_apart How how x (Some (Said k reply)) has r (inl (d, h)) =
      quiet_apart u x t (ap (λ (y : World). y.store) h.is) (λ j other m. before u.messages (sends k h.new.next) j other (sent_only k h.new.next j other) (subst (λ (y : World). IsOneOf y.messages (Said j other)) h.is m)) a
  delivered_apart How how x (Some (Said k reply)) has r (inr (inl h)) = same_apart u x t h.3 a
  delivered_apart How how x (Some (Said k reply)) has r (inr (inr h)) = same_apart u x t h.2 a

  fed_apart : (k : ℕ) (item : Fed) (x : World) → Feeds u k item x → IsApart x t
  fed_apart k item x h =
      quiet_apart u x t (ap (λ (y : World). y.store) h.is) (λ j other m. before u.messages (sends k h.new.next) j other (sent_only k h.new.next j other) (subst (λ (y : World). IsOneOf y.messages (Said j other)) h.is m)) a

  given_so : (k : ℕ) (item : Item) (r : Applied) (x : World) → Gives u k item r x → IsApart x t
  given_so k item r x (inl h) = fed_apart k (fed_of item) x h.1
  given_so k item r x (inr (inl h)) = fed_apart k (fed_part h.0 item) x h.2.part
  given_so k item r x (inr (inr (inl h))) = same_apart u x t h.2.is a
  given_so k item r x (inr (inr (inr h))) = same_apart u x t h.2 a

  happened_apart : (e : Event) (r : Applied) (x : World) → Happens ⊤ u e r x → IsApart x t
  happened_apart (Event.Start job host time old) r x (inl h) =
      let first = Asked (length u.clients) (first_of (length u.clients)) ∷ [] in
      quiet_apart u x t (ap (λ (y : World). y.store) h.1.is)
      (λ j other m. before u.messages first j other (asked_only (length u.clients) (first_of (length u.clients)) j other) (subst (λ (y : World). IsOneOf y.messages (Said j other)) h.1.is m)) a
  happened_apart (Event.Start job host time old) r x (inr h) = same_apart u x t h.3 a
  happened_apart (Event.Deliver i) r x h = delivered_apart (Plainly ⊤) (λ s b z n p. p.0) x (slice_get u.messages i) (λ m e. got_one u.messages i m e) r h
  happened_apart (Event.Fault i f) r x h = delivered_apart (Failing ⊤ f) (failing_step ⊤ f) x (slice_get u.messages i) (λ m e. got_one u.messages i m e) r h
  happened_apart (Event.Ask request) r x (inl (d, h)) = (
    below t.0 u.store.tokens.next x.store.tokens.next a.0 (asked_next ⊤ u x request bag h),
    λ j other m. a.1 j other (subst (λ (y : World). IsOneOf y.messages (Said j other)) h.is m),
  )
  happened_apart (Event.Ask request) r x (inr h) = same_apart u x t h.2 a
  happened_apart (Event.Feed k item) r x h = given_so k item r x h
  happened_apart (Event.Crash k) r x (inl h) = quiet_apart u x t (ap (λ (y : World). y.store) h.1.is) (λ j other m. subst (λ (y : World). IsOneOf y.messages (Said j other)) h.1.is m) a
  happened_apart (Event.Crash k) r x (inr h) = same_apart u x t h.2 a
  happened_apart Event.Restart r x h = same_apart u x t h.1 a

run_apart : (u : World) (es : List Event) (x : World) → HasBag u → Run u es x → HasNoClash x → (t : Token) → IsApart u t → IsApart x t
run_apart u [] x bag h clash t a = same_apart u x t h a
run_apart u (e ∷ es) x bag h clash t a =
    run_apart h.0 es x (event_keeps u h.0 e h.1.0 bag (run_calm h.0 es x h.2 clash) h.1.1) h.2 clash t (happened_apart u bag t a e h.1.0 h.0 h.1.1)

given_apart : (w v : World) (request : Request) (t : Token) → HasBag w → (g : AnswersNobody ⊤ w request v) → g.reply.say ≡ Say.Token t → IsApart v t
given_apart w v request t bag g e =
    let p = token_told w.store request.ask t g.store (subst (λ s. Step w.store request.ask s g.store) e g.step.0) in
    let at : t.0 ≡ w.store.tokens.next = p.0 in
    let more : g.store.tokens.next ≡ w.store.tokens.next + 1 = p.1 in
    subst (λ (y : World). IsApart y t) (sym g.is) (
      omega (arith, at, more),
      λ k reply m said. (let less : t.0 < w.store.tokens.next = bag.issued k reply t m said in absurd (omega (arith, at, less))),
    )

pub strangers_tickets : StrangersTicketsAreTheirs
strangers_tickets store empty events more w v last request t run g e rest clash k took =
    let calm : HasNoClash v = run_calm v more last rest clash in
    let bag : HasBag w = run_keeps (beginning store) events w (begins store empty) run (goes_back w v (Event.Ask request) Applied.Done calm (inl (refl, g))) in
    let after : HasBag v = asked_keeps ⊤ w v request bag g in
    let apart = run_apart v more last after rest clash t (given_apart w v request t bag g e) in
    let told = (run_keeps v more last after rest clash).told k Ask.Ticket (Say.Token t) took in
    absurd (apart.1 k told.1.0 told.1.1 told.1.2)
