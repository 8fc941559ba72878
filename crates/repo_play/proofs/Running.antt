-- Scripts are runs.
use Rattle.std.proofs.Common.{◌+◌, ◌∷◌, [], inl, inr, ℕ, Bool, true, false, zero, suc, List, length, Option, Some, None, refl, sym, subst}
use Rattle.repo_wire.specs.declared.messages.Ask.{Ask}
use Rattle.repo_store.specs.declared.faults.Fail.{Fail}
use Rattle.repo_world.specs.Stages.{IsReachable}
use Rattle.repo_world.specs.World.{World}
use Rattle.repo_world.specs.declared.events.Applied.{Applied}
use Rattle.repo_world.specs.declared.events.Event.{Event}
use Rattle.repo_world.proofs.Standing.{reached_first, reached_more}
use Rattle.repo_script.specs.declared.lines.Line.{Line}
use Rattle.repo_script.specs.declared.sorts.AskSort.{AskSort}
use Rattle.repo_play.specs.Laws.{CarriedIsPlayed}
use Rattle.repo_play.specs.Lines.{State, IsFreshScript, Does, MovesWorld, host_of, time_of}
use Rattle.repo_play.specs.Plays.{LineSays, Played, SayAll}
use Rattle.repo_play.specs.Steps.{AllHappen, MayStepClient, StepsClientOn, asks, deliveries, delivery, stranger}
use Rattle.repo_play.specs.declared.grammars.Grammar.{Grammar}

all_reach : (w : World) (es : List Event) (v : World) → IsReachable w → AllHappen w es v → IsReachable v
all_reach w [] v r h = subst IsReachable (sym h) r
all_reach w (e ∷ es) v r h = all_reach h.0 es v (reached_more ⊥ w e h.1.0 h.0 r h.1.1) h.2

may_reach : (fail : Option Fail) (w : World) (k : ℕ) (v : World) → IsReachable w → MayStepClient fail w k v → IsReachable v
may_reach fail w k v r (inl h) = all_reach w (delivery fail h.place ∷ Event.Deliver (length w.messages) ∷ []) v r h.both
may_reach fail w k v r (inr h) = subst IsReachable (sym h.1) r

on_reach : (sort : Option AskSort) (n : ℕ) (w : World) (k : ℕ) (v : World) → IsReachable w → StepsClientOn sort n w k v → IsReachable v
on_reach sort zero w k v r h = subst IsReachable (sym h) r
on_reach sort (suc n) w k v r h = on_reach sort n h.1 k v (all_reach w (delivery None h.2.place ∷ Event.Deliver (length w.messages) ∷ []) h.1 r h.2.both) h.3

moves_reach : (line : Line) (w v : World) → IsReachable w → MovesWorld line w v → IsReachable v
moves_reach (Line.Step k) w v r h = may_reach None w k v r h.1
moves_reach (Line.Finish k) w v r h = on_reach None h.1.0 w k v r h.1.1
moves_reach (Line.Until k sort) w v r h = on_reach (Some sort) h.1.0 w k v r h.1.1
moves_reach (Line.Fault k fail) w v r h = may_reach (Some fail) w k v r h.1
moves_reach (Line.Deliver i) w v r h = all_reach w (Event.Deliver i ∷ []) v r h
moves_reach (Line.Unlock token) w v r h = all_reach w (Event.Ask (stranger (Ask.Unlock token)) ∷ []) v r h
moves_reach (Line.Crash k) w v r h = all_reach w (Event.Crash k ∷ []) v r h.1
moves_reach Line.Restart w v r h = all_reach w (Event.Restart ∷ []) v r h
moves_reach Line.Replay w v r h = all_reach w (deliveries 0 w.messages) v r h
moves_reach (Line.Entry entry) w v r h = absurd h
moves_reach (Line.Start start old) w v r h = absurd h
moves_reach (Line.Late k) w v r h = absurd h
moves_reach (Line.Ask question) w v r h = absurd h
moves_reach (Line.Feed k item) w v r h = absurd h
moves_reach Line.Report w v r h = absurd h
moves_reach Line.AppendOnly w v r h = absurd h

does_reach : (line : Line) (s : State) (text : List ℕ) (t : State) → IsReachable s.world → Does line s text t → IsReachable t.world
does_reach (Line.Entry entry) s text t r h = subst (λ (u : State). IsReachable u.world) (sym h.1) r
does_reach (Line.Start start old) s text t r h = reached_more ⊥ s.world (Event.Start h.job (host_of start) (time_of start) old) h.applied t.world r h.happens
does_reach (Line.Late k) s text t r h = all_reach s.world (Event.Deliver h.0.place ∷ []) t.world r h.0.happen
does_reach (Line.Ask question) s text t r h = reached_more ⊥ s.world (Event.Ask (stranger (asks question))) Applied.Done t.world r (inl (refl, h.0.answered))
does_reach (Line.Feed k item) s text t r h = reached_more ⊥ s.world (Event.Feed k h.0.given) h.0.applied t.world r h.0.happens
does_reach Line.Report s text t r h = subst (λ (u : State). IsReachable u.world) (sym h.1) r
does_reach line s text t r h = moves_reach line s.world t.world r h.1

fresh_reaches : (appends : Bool) (s : State) → IsFreshScript appends s → IsReachable s.world
fresh_reaches appends s f = subst IsReachable (sym f.world) (reached_first f.store f.empty)

says_reach : (grammar : Grammar) (before : ℕ) (bytes : List ℕ) (s : State) (text : List ℕ) (t : State) → IsReachable s.world → LineSays grammar before bytes s text t → IsReachable t.world
says_reach grammar before bytes s text t r (inl h) = subst (λ (u : State). IsReachable u.world) (sym h.2) r
says_reach grammar before bytes s text t r (inr (inl h)) = does_reach h.0 s text t r h.2
says_reach grammar before bytes s text t r (inr (inr h)) = fresh_reaches true t h.2

all_say : (grammar : Grammar) (before : ℕ) (lines : List (List ℕ)) (s : State) (text : List ℕ) (t : State) → IsReachable s.world → SayAll grammar before lines s text t → IsReachable t.world
all_say grammar before [] s text t r h = subst (λ (u : State). IsReachable u.world) (sym h.1) r
all_say grammar before (bytes ∷ lines) s text t r h = all_say grammar (before + 1) lines h.0 h.2 t (says_reach grammar before bytes s h.1 h.0 r h.3) h.4

pub played_reaches : (grammar : Grammar) (input : List ℕ) (done left : List (List ℕ)) (text : List ℕ) (s : State) → Played grammar input done left text s → IsReachable s.world
played_reaches grammar input done left text s p = all_say grammar 0 done p.begun text s (fresh_reaches false p.begun p.fresh) p.say

-- ---- what is carried

says_as_whole : (before : ℕ) (bytes : List ℕ) (s : State) (text : List ℕ) (t : State) → LineSays Grammar.Carried before bytes s text t → LineSays Grammar.Whole before bytes s text t
says_as_whole before bytes s text t (inl h) = inl h
says_as_whole before bytes s text t (inr (inl h)) = inr (inl (h.0, (h.1.0, tt), h.2))
says_as_whole before bytes s text t (inr (inr h)) = absurd h.0.1.1

all_as_whole : (before : ℕ) (lines : List (List ℕ)) (s : State) (text : List ℕ) (t : State) → SayAll Grammar.Carried before lines s text t → SayAll Grammar.Whole before lines s text t
all_as_whole before [] s text t h = h
all_as_whole before (bytes ∷ lines) s text t h = (h.0, h.1, h.2, says_as_whole before bytes s h.1 h.0 h.3, all_as_whole (before + 1) lines h.0 h.2 t h.4, h.5, h.6)

pub carried_as_whole : CarriedIsPlayed
carried_as_whole input unread start contents (lines, s, some) =
    let p = some.played in
    (lines, s, record { text = some.text; played = record { lines = p.lines; begun = p.begun; fresh = p.fresh; say = all_as_whole 0 lines p.begun some.text s p.say }; wrote = some.wrote })
