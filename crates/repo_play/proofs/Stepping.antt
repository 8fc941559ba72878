-- Steps of a client, one after another.
use Rattle.std.proofs.Common.{Bor, ◌∙◌, Result, Ok, Err, true, option_map, ◌≡◌, ◌+◌, ◌∷◌, [], length, inl, inr, ℕ, zero, suc, Option, Some, None, refl, sym, subst, arith}
use Rattle.std.specs.Option.{is_some}
use Rattle.std.specs.Result.{OnOk}
use Rattle.repo_store.specs.declared.faults.Fail.{Fail}
use Rattle.repo_wire.specs.declared.messages.Request.{Request}
use Rattle.repo_world.specs.World.{World, awaited, client}
use Rattle.repo_world.specs.declared.events.Event.{Event}
use Rattle.repo_script.specs.declared.sorts.AskSort.{AskSort}
use Rattle.repo_play.specs.Steps.{AllHappen, NeedsNoStep, HasClient, IsLast, MayStepClient, StepsClient, StepsClientOn, delivery}
use Rattle.repo_play.proofs.Growing.{all_grow, last_there, still_there}

pub none_over : (sort : Option AskSort) (o : Option Request) → o ≡ None → NeedsNoStep sort o
none_over sort o e = subst (λ x. NeedsNoStep sort x) (sym e) tt

-- one step more, where more are to be made
pub steps_more : (sort : Option AskSort) (n : ℕ) (w : World) (k : ℕ) (u v : World) → StepsClientOn sort n w k u → ¬ NeedsNoStep sort (awaited (client u k)) → StepsClient None u k v → StepsClientOn sort (suc n) w k v
steps_more sort zero w k u v h more s = subst (λ (x : World). StepsClientOn sort (suc zero) x k v) h (more, v, s, refl)
steps_more sort (suc n) w k u v h more s = (h.0, h.1, h.2, steps_more sort n h.1 k u v h.3 more s)

-- a step that may be made is made, where more are to be made
pub step_made : (sort : Option AskSort) (w : World) (k : ℕ) (v : World) → ¬ NeedsNoStep sort (awaited (client w k)) → MayStepClient None w k v → StepsClient None w k v
step_made sort w k v more (inl s) = s
step_made sort w k v more (inr h) = absurd (more (none_over sort (awaited (client w k)) h.0))

-- a client that is there stays there
pub stepped_there : (w : World) (k : ℕ) (v : World) → StepsClient None w k v → HasClient w k → HasClient v k
stepped_there w k v s there = still_there w v k (all_grow w (delivery None s.place ∷ Event.Deliver (length w.messages) ∷ []) v s.both) there

-- the same, where a step may be made
pub go_more : (sort : Option AskSort) (n : ℕ) (w : World) (k : ℕ) (u v : World) → StepsClientOn sort n w k u → ¬ NeedsNoStep sort (awaited (client u k)) → MayStepClient None u k v → StepsClientOn sort (n + 1) w k v
go_more sort n w k u v h more s =
    let next : suc n ≡ n + 1 = omega arith in
    subst (λ m. StepsClientOn sort m w k v) next (steps_more sort n w k u v h more (step_made sort u k v more s))

pub may_there : (w : World) (k : ℕ) (v : World) → MayStepClient None w k v → HasClient w k → HasClient v k
may_there w k v (inl s) there = stepped_there w k v s there
may_there w k v (inr h) there = subst (λ (x : World). HasClient x k) (sym h.1) there

-- a request is pending, and both messages are delivered
pub stepped : {T E : Type 0} (result : Result T E) (fail : Option Fail) (w : World) (k : ℕ) (v : World) (place : ℕ) (event : Event) (o : Option (Bor Request)) → IsLast w.messages k place
    → option_map (λ r. r.now) o ≡ awaited (client w k) → is_some o ≡ true → event ≡ delivery fail place → OnOk result (AllHappen w (event ∷ Event.Deliver (length w.messages) ∷ []) v)
    → OnOk result (HasClient w k × MayStepClient fail w k v)
stepped (Ok x) fail w k v place event (Some r) last pending some is h = (
  last_there w.messages k place last,
  inl (record { request = r.now; pending = sym pending; place = place; last = last; both = subst (λ (e : Event). AllHappen w (e ∷ Event.Deliver (length w.messages) ∷ []) v) is h }),
)
stepped (Ok x) fail w k v place event None last pending some is h = absurd (cc)
stepped (Err x) fail w k v place event o last pending some is h = tt
