-- What lasts over each step of the store lasts over every run.
use Rattle.std.specs.Prelude.{⊤}
use Rattle.std.proofs.Common.{slice_get, ◌≡◌, ◌∷◌, [], ℕ, List, Option, Some, None, inl, inr, ap}
use Rattle.repo_wire.specs.declared.messages.Ask.{Ask}
use Rattle.repo_wire.specs.declared.messages.Say.{Say}
use Rattle.repo_store.specs.Failing.{Plainly, Failing}
use Rattle.repo_store.specs.StoreMachine.{Step}
use Rattle.repo_store.specs.Stores.{Store}
use Rattle.repo_backup.specs.declared.items.Item.{Item}
use Rattle.repo_world.specs.Events.{Delivers, Gives, Happens, Run}
use Rattle.repo_world.specs.World.{World, Message, Asked, Said}
use Rattle.repo_world.proofs.Failing.{failing_step}
use Rattle.repo_world.specs.declared.events.Event.{Event}
use Rattle.repo_world.specs.declared.events.Applied.{Applied}

-- of two stores one after another: what holds where neither the objects nor the mode changes, over steps, and over one after another
module _ (Lasts : Store → Store → Type 0) (stays : (a b : Store) → b.objects ≡ a.objects → b.append_only ≡ a.append_only → Lasts a b)
    (then_on : (a b c : Store) → Lasts a b → Lasts b c → Lasts a c) (steps : (a b : Store) (ask : Ask) (say : Say) → Step a ask say b → Lasts a b) where
  same_store : (a b : Store) → b ≡ a → Lasts a b
  same_store a b h = stays a b (ap (λ (s : Store). s.objects) h) (ap (λ (s : Store). s.append_only) h)

  same : (w v : World) → v ≡ w → Lasts w.store v.store
  same w v h = same_store w.store v.store (ap (λ (u : World). u.store) h)

  module _ (How : Store → Ask → Say → Store → Type 0) (step : (s : Store) (a : Ask) (y : Say) (t : Store) → How s a y t → Step s a y t) where
    delivered : (w : World) (o : Option Message) (r : Applied) (v : World) → Delivers How w o r v → Lasts w.store v.store
    delivered w None r v h = same w v h.1
    delivered w (Some (Asked k request)) r v (a, h) =
        then_on w.store h.store v.store (steps w.store h.store request.ask h.reply.say (step w.store request.ask h.reply.say h.store h.step))
        (same_store h.store v.store (ap (λ (u : World). u.store) h.is))
    delivered w (Some (Said k reply)) r v (inl (a, t)) = same_store w.store v.store (ap (λ (u : World). u.store) t.is)
    delivered w (Some (Said k reply)) r v (inr (inl h)) = same w v h.3
    delivered w (Some (Said k reply)) r v (inr (inr h)) = same w v h.2

  gave : (w : World) (k : ℕ) (item : Item) (r : Applied) (v : World) → Gives w k item r v → Lasts w.store v.store
  gave w k item r v (inl h) = same_store w.store v.store (ap (λ (u : World). u.store) h.1.is)
  gave w k item r v (inr (inl h)) = same_store w.store v.store (ap (λ (u : World). u.store) h.2.part.is)
  gave w k item r v (inr (inr (inl h))) = same w v h.2.is
  gave w k item r v (inr (inr (inr h))) = same w v h.2

  happened : (w : World) (e : Event) (r : Applied) (v : World) → Happens ⊤ w e r v → Lasts w.store v.store
  happened w (Event.Start job host time old) r v (inl (a, s)) = same_store w.store v.store (ap (λ (u : World). u.store) s.is)
  happened w (Event.Start job host time old) r v (inr h) = same w v h.3
  happened w (Event.Deliver i) r v h = delivered (Plainly ⊤) (λ s a y t p. p.0) w (slice_get w.messages i) r v h
  happened w (Event.Fault i f) r v h = delivered (Failing ⊤ f) (failing_step ⊤ f) w (slice_get w.messages i) r v h
  happened w (Event.Ask request) r v (inl (d, a)) = then_on w.store a.store v.store (steps w.store a.store request.ask a.reply.say a.step.0) (same_store a.store v.store (ap (λ (x : World). x.store) a.is))
  happened w (Event.Ask request) r v (inr h) = same w v h.2
  happened w (Event.Feed k item) r v h = gave w k item r v h
  happened w (Event.Crash k) r v (inl (a, c)) = same_store w.store v.store (ap (λ (u : World). u.store) c.is)
  happened w (Event.Crash k) r v (inr h) = same w v h.2
  happened w Event.Restart r v h = same w v h.1

  pub lasts : (w : World) (es : List Event) (v : World) → Run w es v → Lasts w.store v.store
  lasts w [] v h = same w v h
  lasts w (e ∷ es) v h = then_on w.store h.0.store v.store (happened w e h.1.0 h.0 h.1.1) (lasts h.0 es v h.2)
