-- Messages only become more.
use Rattle.std.specs.Prelude.{⊤}
use Rattle.std.proofs.Common.{◌≡◌, ◌⊎◌, ◌+◌, ◌++◌, ◌∷◌, [], inl, inr, ℕ, zero, suc, List, length, Option, Some, None, refl, sym, ap, subst, ◌∙◌, append_assoc, append-nil, slice_get, arith}
use Rattle.std.proofs.lemmas.Option.{none-some, same_Some}
use Rattle.repo_wire.specs.declared.messages.Ask.{Ask}
use Rattle.repo_wire.specs.declared.messages.Request.{Request}
use Rattle.repo_wire.specs.declared.messages.Say.{Say}
use Rattle.repo_store.specs.Failing.{Plainly, Failing}
use Rattle.repo_store.specs.Stores.{Store}
use Rattle.repo_session.specs.Feeds.{Fed}
use Rattle.repo_backup.specs.Items.{fed_of, fed_part}
use Rattle.repo_world.specs.Events.{Happens, Delivers, Feeds}
use Rattle.repo_world.specs.World.{World, Message, Asked, Said, IsOneOf, client, sends, first_of}
use Rattle.repo_world.specs.declared.events.Applied.{Applied}
use Rattle.repo_world.specs.declared.events.Event.{Event}
use Rattle.repo_world.proofs.Later.{has_left}
use Rattle.repo_play.specs.Steps.{AllHappen, HasClient, IsLast, deliveries}

-- ---- places

pub got_has : {A : Type 0} (xs : List A) (i : ℕ) (x : A) → slice_get xs i ≡ Some x → IsOneOf xs x
got_has [] i x e = absurd (none-some x e)
got_has (y ∷ xs) zero x e = inl (same_Some y x e)
got_has (y ∷ xs) (suc i) x e = inr (got_has xs i x e)

pub has_got : {A : Type 0} (xs : List A) (x : A) → IsOneOf xs x → (i : ℕ) × (slice_get xs i ≡ Some x)
has_got [] x h = absurd h
has_got (y ∷ xs) x (inl e) = (zero, ap Some e)
has_got (y ∷ xs) x (inr h) = let r = has_got xs x h in (suc r.0, r.1)

pub got_left : {A : Type 0} (xs ys : List A) (i : ℕ) (x : A) → slice_get xs i ≡ Some x → slice_get (xs ++ ys) i ≡ Some x
got_left [] ys i x e = absurd (none-some x e)
got_left (y ∷ xs) ys zero x e = e
got_left (y ∷ xs) ys (suc i) x e = got_left xs ys i x e

pub got_end : {A : Type 0} (xs : List A) (y : A) → slice_get (xs ++ y ∷ []) (length xs) ≡ Some y
got_end [] y = refl
got_end (x ∷ xs) y = got_end xs y

pub last_there : (messages : List Message) (k place : ℕ) → IsLast messages k place → (request : Request) × IsOneOf messages (Asked k request)
last_there messages k place l = (l.request, got_has messages place (Asked k l.request) l.is)

-- ---- an event

abbrev pub Grows : World → World → Type 0
Grows w v = (more : List Message) × (v.messages ≡ w.messages ++ more)

same_grows : (w v : World) → v ≡ w → Grows w v
same_grows w v e = ([], ap (λ (u : World). u.messages) e ∙ sym (append-nil w.messages))

delivers_grows : (How : Store → Ask → Say → Store → Type 0) (w : World) (o : Option Message) (r : Applied) (v : World) → Delivers How w o r v → Grows w v
delivers_grows How w None r v h = same_grows w v h.1
delivers_grows How w (Some (Asked k request)) r v h = (Said k h.1.reply ∷ [], ap (λ (u : World). u.messages) h.1.is)
delivers_grows How w (Some (Said k reply)) r v (inl h) = (sends k h.1.new.next, ap (λ (u : World). u.messages) h.1.is)
delivers_grows How w (Some (Said k reply)) r v (inr (inl h)) = same_grows w v h.3
delivers_grows How w (Some (Said k reply)) r v (inr (inr h)) = same_grows w v h.2

feeds_grows : (w : World) (k : ℕ) (item : Fed) (v : World) → Feeds w k item v → Grows w v
feeds_grows w k item v f = (sends k f.new.next, ap (λ (u : World). u.messages) f.is)

pub happens_grows : (Own : Type 0) (w : World) (e : Event) (r : Applied) (v : World) → Happens Own w e r v → Grows w v
happens_grows Own w (Event.Start job host time old) r v (inl h) = (Asked (length w.clients) (first_of (length w.clients)) ∷ [], ap (λ (u : World). u.messages) h.1.is)
happens_grows Own w (Event.Start job host time old) r v (inr h) = same_grows w v h.3
happens_grows Own w (Event.Deliver i) r v h = delivers_grows (Plainly Own) w (slice_get w.messages i) r v h
happens_grows Own w (Event.Fault i f) r v h = delivers_grows (Failing Own f) w (slice_get w.messages i) r v h
happens_grows Own w (Event.Ask request) r v (inl (d, a)) = ([], ap (λ (x : World). x.messages) a.is ∙ sym (append-nil w.messages))
happens_grows Own w (Event.Ask request) r v (inr h) = same_grows w v h.2
happens_grows Own w (Event.Feed k item) r v (inl h) = feeds_grows w k (fed_of item) v h.1
happens_grows Own w (Event.Feed k item) r v (inr (inl h)) = feeds_grows w k (fed_part h.0 item) v h.2.part
happens_grows Own w (Event.Feed k item) r v (inr (inr (inl h))) = same_grows w v h.2.is
happens_grows Own w (Event.Feed k item) r v (inr (inr (inr h))) = same_grows w v h.2
happens_grows Own w (Event.Crash k) r v (inl h) = ([], ap (λ (u : World). u.messages) h.1.is ∙ sym (append-nil w.messages))
happens_grows Own w (Event.Crash k) r v (inr h) = same_grows w v h.2
happens_grows Own w Event.Restart r v h = same_grows w v h.1

pub grows_on : (w u v : World) → Grows w u → Grows u v → Grows w v
grows_on w u v a b = (a.0 ++ b.0, b.1 ∙ ap (λ m. m ++ b.0) a.1 ∙ append_assoc w.messages a.0 b.0)

pub all_grow : (w : World) (es : List Event) (v : World) → AllHappen w es v → Grows w v
all_grow w [] v h = same_grows w v h
all_grow w (e ∷ es) v h = grows_on w h.0 v (happens_grows ⊥ w e h.1.0 h.0 h.1.1) (all_grow h.0 es v h.2)

-- a client that is there stays there
pub still_there : (w v : World) (k : ℕ) → Grows w v → HasClient w k → HasClient v k
still_there w v k g there = (there.0, subst (λ m. IsOneOf m (Asked k there.0)) (sym g.1) (has_left w.messages g.0 (Asked k there.0) there.1))

-- ---- events, one after another

pub one_happens : (w : World) (e : Event) (a : Applied) (v : World) → Happens ⊥ w e a v → AllHappen w (e ∷ []) v
one_happens w e a v h = (v, (a, h), refl)

pub two_happen : (w : World) (e : Event) (a : Applied) (u : World) (f : Event) (b : Applied) (v : World) → Happens ⊥ w e a u → Happens ⊥ u f b v → AllHappen w (e ∷ f ∷ []) v
two_happen w e a u f b v h g = (u, (a, h), (v, (b, g), refl))

pub all_more : (w : World) (es : List Event) (u : World) (fs : List Event) (v : World) → AllHappen w es u → AllHappen u fs v → AllHappen w (es ++ fs) v
all_more w [] u fs v h g = subst (λ (x : World). AllHappen x fs v) h g
all_more w (e ∷ es) u fs v h g = (h.0, h.1, all_more h.0 es u fs v h.2 g)

-- ---- deliveries of requests

pub deliveries_more : (n : ℕ) (xs ys : List Message) → deliveries n (xs ++ ys) ≡ deliveries n xs ++ deliveries (n + length xs) ys
deliveries_more n [] ys = ap (λ m. deliveries m ys) (omega arith)
deliveries_more n (Asked k request ∷ xs) ys = ap (λ es. Event.Deliver n ∷ es) (deliveries_more (n + 1) xs ys ∙ ap (λ m. deliveries (n + 1) xs ++ deliveries m ys) (omega arith))
deliveries_more n (Said k reply ∷ xs) ys = deliveries_more (n + 1) xs ys ∙ ap (λ m. deliveries (n + 1) xs ++ deliveries m ys) (omega arith)
