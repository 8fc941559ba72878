-- What a store at rest has, to which a run led: a client alone finds all that it wants.
use Rattle.std.proofs.Common.{arith, ap, ◌≡◌, ◌≤◌, [], ℕ, List, Some, None, length, inl, inr, ⊎_elim, sym, subst, ◌∙◌}
use Rattle.repo_name.specs.declared.kinds.Kind.{Kind}
use Rattle.repo_name.specs.declared.names.Name.{Name}
use Rattle.repo_wire.specs.declared.messages.Ask.{Ask}
use Rattle.repo_store.specs.StoreMachine.{object_limit}
use Rattle.repo_store.specs.Stores.{Objects, Store}
use Rattle.repo_session.specs.Alone.{IsFit, AreVersionsUpto, IsSent, IsSpoken, NoClash, WasThere}
use Rattle.repo_session.proofs.Growing.{Moves, step_moves}
use Rattle.std.proofs.lemmas.Option.{same_Some}
use Rattle.repo_tree.specs.ConfigText.{IsConfigText}
use Rattle.repo_tree.specs.declared.configs.Config.{Config}
use Rattle.repo_tree.specs.declared.snapshots.Snapshot.{Snapshot}
use Rattle.repo_tree.proofs.ConfigLemmas.{config_texts_one}
use Rattle.repo_tree.proofs.SnapshotLemmas.{snapshot_texts_one}
use Rattle.repo_session.specs.Versions.{upto}
use Rattle.repo_restore.specs.Restoring.{restore_task}
use Rattle.repo_restore.proofs.RestoreRuns.{restore_ends}
use Rattle.repo_world.specs.Bag.{HasBag}
use Rattle.repo_world.specs.Events.{Run}
use Rattle.repo_world.specs.Laws.{IsEmpty}
use Rattle.repo_runs.specs.Laws.{IsAtRest, EveryStoreIsFit, EverySnapshotIsRestored}
use Rattle.repo_world.specs.Safe.{HasNoClash, IsKnown, known_part, known_spoken, by_put}
use Rattle.repo_world.specs.Safe as safe
use Rattle.repo_world.specs.World.{World, beginning}
use Rattle.repo_world.proofs.Happening.{begins}
use Rattle.repo_runs.proofs.Lasting.{lasts}
use Rattle.repo_world.proofs.Running.{run_calm, run_keeps}
use Rattle.repo_world.specs.declared.events.Event.{Event}

-- ---- no object is above its limit

AreWithin : Objects → Type 0
AreWithin objects = (k : Kind) (n : Name) (x : List ℕ) → objects k n ≡ Some x → length x ≤ object_limit k

-- none of the later store is where none of the earlier one was
StayWithin : Store → Store → Type 0
StayWithin a b = AreWithin a.objects → AreWithin b.objects

same_objects : (a b : Store) → b.objects ≡ a.objects → StayWithin a b
unfolding AreWithin StayWithin
same_objects a b same within k n x there = within k n x (subst (λ (o : Objects). o k n ≡ Some x) same there)

moved_within : (a : Store) (ask : Ask) (b : Store) → Moves a ask b → StayWithin a b
unfolding AreWithin StayWithin
moved_within a ask b (inl same) within k n x there = within k n x (subst (λ (o : Objects). o k n ≡ Some x) same there)
moved_within a ask b (inr (inl p)) within k n x there = ⊎_elim
    (λ old. within k n x old)
    (λ new. subst (λ j. length x ≤ object_limit j) (sym new.0) (subst (λ y. length y ≤ object_limit p.kind) (sym new.2) p.small))
    (p.added.only k n x there)
moved_within a ask b (inr (inr d)) within k n x there = within k n x (d.removed.only k n x there)

within_after : (store : Store) → IsEmpty store → (events : List Event) (w : World) → Run (beginning store) events w → AreWithin w.store.objects
unfolding AreWithin StayWithin
within_after store empty events w run =
    lasts StayWithin (λ a b same mode. same_objects a b same) (λ a b c first second within. second (first within)) (λ a b ask say step. moved_within a ask b (step_moves a ask say b step))
    (beginning store) events w run (λ k n x there. let none : None ≡ Some x = sym (empty.none k n) ∙ there in absurd (cc))

-- ---- where a run led

module _ (store : Store) (empty : IsEmpty store) (events more : List Event) (w last : World) (run : Run (beginning store) events w) (rest : Run w more last) (clash : HasNoClash last) where
  calm : HasNoClash w
  calm = run_calm w more last rest clash

  bag : HasBag w
  unfolding calm
  bag = run_keeps (beginning store) events w (begins store empty) run calm

  fit : IsAtRest w.store → IsFit w.store
  unfolding AreWithin bag
  fit at = record {
    sound = bag.sound;
    within = within_after store empty events w run;
    text = at.text;
    config = at.config;
    configured = at.configured;
    reads = at.reads;
    free = at.free;
    numbers = at.numbers;
  }

  -- its versions go up to its config's
  versions : (at : IsAtRest w.store) (known : ℕ) → at.config.version ≤ known → AreVersionsUpto known w.store
  unfolding bag
  versions at known low = record {
    config = λ x c there reads.
        let text : at.text ≡ x = same_Some at.text x (sym at.configured ∙ there) in
        let one : at.config ≡ c = config_texts_one x at.config c (subst (λ y. IsConfigText y at.config) text at.reads) reads in
        subst (λ (d : Config). d.version ≤ known) one low;
    snapshots = λ n x s there reads.
        let v = bag.versions n x there in
        let text : at.text ≡ v.text = same_Some at.text v.text (sym at.configured ∙ v.configured) in
        let one : at.config ≡ v.config = config_texts_one v.text at.config v.config (subst (λ y. IsConfigText y at.config) text at.reads) v.reads in
        let of_config : at.config.version ≡ v.config.version = ap (λ (c : Config). c.version) one in
        let of_snapshot : v.snapshot.version ≡ s.version = ap (λ (z : Snapshot). z.version) (snapshot_texts_one x v.snapshot s v.is reads) in
        let within : v.snapshot.version ≤ v.config.version = v.within in
        omega (arith, of_config, of_snapshot, within, low);
  }

  -- an object that is there was put
  there_spoken : (k : Kind) (x : List ℕ) → WasThere w.store (IsSent [] None) k x → safe.IsSpoken w x
  unfolding bag
  there_spoken k x (inl (n, there)) = by_put k n (bag.origin k n x there)
  there_spoken k x (inr (token, n, sent)) = absurd sent

  -- so all that stands in the store is known
  known : (x : List ℕ) → IsSpoken (λ y. ⊥) w.store (IsSent [] None) x → IsKnown w x
  known x (inl (k, there)) = known_spoken (there_spoken k x there)
  known x (inr (inl part)) = known_part (record {
    index = part.index;
    fact = part.fact;
    pack = part.pack;
    listed = there_spoken Kind.Index part.index part.listed;
    says = part.says;
    there = there_spoken Kind.Pack part.pack part.there;
    named = part.named;
    stands = part.stands;
  })
  known x (inr (inr none)) = absurd none

  apart : NoClash (IsSpoken (λ y. ⊥) w.store (IsSent [] None))
  unfolding calm
  apart x y a b same = calm x y (known x a) (known y b) same

pub every_store_is_fit : EveryStoreIsFit
every_store_is_fit store empty events more w last run rest clash at = fit store empty events more w last run rest clash at

pub every_snapshot_is_restored : EverySnapshotIsRestored
every_snapshot_is_restored store empty events more w last run rest clash at wish low text there to failed talk outcome few ran short is =
    restore_ends wish w.store to failed talk outcome text (fit store empty events more w last run rest clash at)
    (versions store empty events more w last run rest clash at (upto (restore_task wish).versions) low) there few ran short (apart store empty events more w last run rest clash) is
