-- Connections that are served one after another.
use Rattle.std.proofs.Common.{◌≡◌, ◌↔◌, ◌++◌, ◌∷◌, [], Bool, false, List, Option, Some, None, Result, IsOk, ℕ, ◌+◌, refl, sym, subst, arith}
use Rattle.std.proofs.lemmas.List.Elements.{All-nil, All-cons, All-head, All-tail}
use Rattle.repo_store.specs.AppendOnly.{OnlyAppends}
use Rattle.repo_store.specs.Serving.{Ran, seen}
use Rattle.repo_store.specs.Channels.{ServesChannel, heard_in, said_in}
use Rattle.repo_store.specs.Stores.{Store}
use Rattle.repo_store.specs.declared.serving.ServeError.{ServeError}
use Rattle.repo_hall.specs.Halls.{Hosted}
use Rattle.repo_hall.specs.Happenings.{Log, all_asked, all_replies}
use Rattle.repo_store.proofs.Appending.{runs_only_append}
use Rattle.repo_store.proofs.ServiceLemmas.{runs_compose, serving_runs}
use Rattle.repo_prog.specs.Serving.{AreServed, IsServed, ServesInTurn, Turn, Visit, ending}
use Rattle.repo_prog.specs.declared.status.Status.{Status}

-- ---- what stays of a store

-- a store that is as it was keeps its objects
pub kept_still : (store : Store) → OnlyAppends store store
kept_still store only = ((λ kind name bytes is. is), only)

pub kept_on : (a b c : Store) → OnlyAppends a b → OnlyAppends b c → OnlyAppends a c
kept_on a b c first then only =
    let f = first only in
    let t = then f.1 in
    ((λ kind name bytes is. t.0 kind name bytes (f.0 kind name bytes is)), t.1)

-- nothing that is asked leads nowhere else
pub ran_still : (store : Store) (failures : ℕ) → Ran store failures store failures
ran_still store failures = ([], [], refl, refl)

-- what a hall answered is a run
pub hosted_ran : (old : Store) (failed : ℕ) (log : Log) (new : Store) (failing : ℕ) → Hosted old failed log new failing → Ran old failed new failing
hosted_ran old failed log new failing h = (all_asked log, all_replies log, h.run, h.cause)

-- what a hall answered keeps them
pub hosted_kept : (old : Store) (failed : ℕ) (log : Log) (new : Store) (failing : ℕ) → Hosted old failed log new failing → OnlyAppends old new
hosted_kept old failed log new failing h = runs_only_append old new (all_asked log) (all_replies log) h.run

-- ---- connections

module _ {L C : Type 0} (Accepts : L → Bool → Option C → L → Type 0) (Leaves : L → C → L → Type 0) (Hears Says : C → List ℕ → C → Type 0) (IsOver : C → Type 0) where
  -- none was
  pub none_served : (old : L) (from : Store) (failures : ℕ) → ServesInTurn Accepts Leaves Hears Says IsOver 0 Status.Done old from failures old from failures
  none_served old from failures = record {
    turns = [];
    number = refl;
    served = (refl, refl, refl);
    done = ((λ done. All-nil (λ (turn : Turn C). (turn.refused ≡ false) × IsOk (ending turn.visit))), λ well. refl);
  }

  -- one more, after others
  pub more_served : (count : ℕ) (before after : Status) (refused : Bool) (result : Result ℕ ServeError) (old mid new : L) (from between to : Store) (failures k failing : ℕ)
      → ((after ≡ Status.Done) ↔ ((before ≡ Status.Done) × (refused ≡ false) × IsOk result)) → ServesInTurn Accepts Leaves Hears Says IsOver count before old from failures mid between k
      → (visit : Option (Visit C)) × (result ≡ ending visit) × IsServed Accepts Leaves Hears Says IsOver refused visit mid between k new to failing
      → ServesInTurn Accepts Leaves Hears Says IsOver (count + 1) after old from failures new to failing
  more_served count before after refused result old mid new from between to failures k failing turns h (visit, is, one) = record {
    turns = turn ∷ h.turns;
    number = let n = h.number in omega (arith, n);
    served = (mid, between, k, h.served, one);
    done = (
      (λ ends. let t = turns.0 ends in All-cons P turn h.turns (t.1, subst (λ here. IsOk here) is t.2) (h.done.0 t.0)),
      λ well. let w = All-head P turn h.turns well in turns.1 (h.done.1 (All-tail P turn h.turns well), w.0, subst (λ here. IsOk here) (sym is) w.1),
    );
  } where
    turn : Turn C
    turn = record { refused = refused; visit = visit }

    P : Turn C → Type 0
    P turn = (turn.refused ≡ false) × IsOk (ending turn.visit)

  -- what serving a channel asked is a run
  channel_ran : (came left : C) (result : Result ℕ ServeError) (from to : Store) (failures count : ℕ) → ServesChannel Hears Says IsOver came from failures result left to count → Ran from failures to count
  channel_ran came left result from to failures count h =
      serving_runs (Some (heard_in h.passages ++ h.left)) (Some h.left) (seen from failures (Some [])) (seen to count (Some (said_in h.passages))) result h.serves

  -- what a connection asked is a run
  visit_ran : (refused : Bool) (visit : Option (Visit C)) (old new : L) (from to : Store) (failures count : ℕ) → IsServed Accepts Leaves Hears Says IsOver refused visit old from failures new to count → Ran from failures to count
  visit_ran refused (Some visit) old new from to failures count one = channel_ran visit.came visit.left visit.result from to failures count one.2
  visit_ran refused None old new from to failures count one =
      subst (λ here. Ran from failures here count) (sym one.1) (subst (λ here. Ran from failures from here) (sym one.2) (ran_still from failures))

  -- what connections asked is a run
  served_ran : (turns : List (Turn C)) (old new : L) (from to : Store) (failures count : ℕ) → AreServed Accepts Leaves Hears Says IsOver turns old from failures new to count → Ran from failures to count
  served_ran [] old new from to failures count (same, is, alike) = subst (λ here. Ran from failures here count) (sym is) (subst (λ here. Ran from failures from here) (sym alike) (ran_still from failures))
  served_ran (turn ∷ earlier) old new from to failures count (mid, between, k, are, one) =
      runs_compose from between to failures k count (served_ran earlier old mid from between failures k are)
      (visit_ran turn.refused turn.visit mid new between to k count one)

  pub in_turn_ran : (connections : ℕ) (status : Status) (old new : L) (from to : Store) (failures count : ℕ) → ServesInTurn Accepts Leaves Hears Says IsOver connections status old from failures new to count → Ran from failures to count
  in_turn_ran connections status old new from to failures count h = served_ran h.turns old new from to failures count h.served
