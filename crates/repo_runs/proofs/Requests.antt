-- What each kind of request keeps.
use Rattle.std.proofs.Common.{◌≡◌, ◌≤◌, ℕ, inl, inr, ⊎_elim, ◌∙◌, refl, sym, ap, subst, arith}
use Rattle.repo_wire.specs.declared.messages.Ask.{Ask}
use Rattle.repo_wire.specs.declared.messages.Request.{Request}
use Rattle.repo_wire.specs.declared.messages.Say.{Say}
use Rattle.repo_store.specs.StoreMachine.{Answers, Step}
use Rattle.repo_store.specs.Stores.{Store, Objects}
use Rattle.repo_session.specs.Versions.{upto}
use Rattle.repo_session.specs.declared.versions.Versions.{Versions}
use Rattle.repo_session.proofs.Growing.{range_same}
use Rattle.repo_runs.specs.BagLaws.{PutKeepsBag, DeleteKeepsBag, UpgradeKeepsBag, PutsAreOfVersion, OldClientsAreFenced, UpgradedIsOfVersion, IsOfDead, DeadKeepBag, IsReadingAsk, ReadsKeepBag, IsOnLocks, LocksKeepBag}
use Rattle.repo_world.specs.Events.{Serves}
use Rattle.repo_world.specs.World.{World, client}
use Rattle.repo_name.specs.declared.tokens.Token.{Token}
use Rattle.repo_session.specs.Order.{Task, IsWorking, opened}
use Rattle.repo_session.specs.Traces.{Trace, Exchanged}
use Rattle.repo_session.specs.declared.outcomes.Outcome.{Outcome}
use Rattle.repo_prune.specs.Upgrading.{HasReadVersion}
use Rattle.repo_world.specs.Bag.{AskedAt}
use Rattle.repo_world.specs.Clients.{task_of}
use Rattle.repo_world.specs.Safe.{Took}
use Rattle.repo_world.proofs.Sending.{dutiful, working_took, exchanged_later}
use Rattle.repo_world.proofs.Serving.{put_versioned}
use Rattle.repo_world.proofs.Happening.{serve_keeps}
use Rattle.repo_world.proofs.Moving.{ObjectsMove, ConfigMoves, step_moves}

pub put_keeps : PutKeepsBag
put_keeps w v k request t j n x bag clash h e live = serve_keeps w v k request bag clash h

pub delete_keeps : DeleteKeepsBag
delete_keeps w v k request t j n bag clash h e live = serve_keeps w v k request bag clash h

-- ---- under a dead token

dead_stays : (w : World) (ask : Ask) (O : Objects) → IsOfDead w ask → ObjectsMove w.store.tokens w.store.objects ask O → O ≡ w.store.objects
dead_stays w ask O dead (ObjectsMove.stays e) = e
dead_stays w ask O dead (ObjectsMove.adds t j n x e live added) = absurd (subst (λ a. IsOfDead w a) e dead live)
dead_stays w ask O dead (ObjectsMove.removes t j n e live removed) = absurd (subst (λ a. IsOfDead w a) e dead live)

dead_rests : (w : World) (ask : Ask) (store : Store) → IsOfDead w ask → ConfigMoves w.store ask store → store.config ≡ w.store.config
dead_rests w ask store dead (ConfigMoves.rests e) = e
dead_rests w ask store dead (ConfigMoves.raises t e live r) = absurd (subst (λ a. IsOfDead w a) e dead live)

objects_after : (w v : World) (k : ℕ) (request : Request) → (h : Serves Step w k request v) → h.store.objects ≡ w.store.objects → v.store.objects ≡ w.store.objects
objects_after w v k request h e = ap (λ (u : World). u.store.objects) h.is ∙ e

pub dead_keep : DeadKeepBag
dead_keep w v k request bag clash (m, h) dead = (
  serve_keeps w v k request bag clash (m, h),
  objects_after w v k request h (dead_stays w request.ask h.store.objects dead (step_moves w.store request.ask h.reply.say h.store bag.ledger (bag.lawful k request m) h.step).objects),
  ap (λ (u : World). u.store.config) h.is ∙ dead_rests w request.ask h.store dead (step_moves w.store request.ask h.reply.say h.store bag.ledger (bag.lawful k request m) h.step).config,
)

-- ---- on tickets and locks

locks_stay : (w : World) (ask : Ask) (O : Objects) → IsOnLocks ask → ObjectsMove w.store.tokens w.store.objects ask O → O ≡ w.store.objects
locks_stay w ask O on (ObjectsMove.stays e) = e
locks_stay w ask O on (ObjectsMove.adds t j n x e live added) = absurd (subst (λ a. IsOnLocks a) e on)
locks_stay w ask O on (ObjectsMove.removes t j n e live removed) = absurd (subst (λ a. IsOnLocks a) e on)

pub locks_keep : LocksKeepBag
locks_keep w v k request bag clash (m, h) on = (
  serve_keeps w v k request bag clash (m, h),
  objects_after w v k request h (locks_stay w request.ask h.store.objects on (step_moves w.store request.ask h.reply.say h.store bag.ledger (bag.lawful k request m) h.step).objects),
)

-- ---- that read

read_answer : (old : Store) (ask : Ask) (say : Say) (new : Store) → IsReadingAsk ask → Answers old ask say new → new ≡ old
read_answer old (Ask.List k after) say new r h = h.4
read_answer old (Ask.Get k n) say new r h = h.1
read_answer old (Ask.Range pack offset len) say new r h = range_same old pack offset len say new h
read_answer old Ask.Config say new r h = h.1
read_answer old Ask.Locks say new r h = h.1
read_answer old Ask.Ticket say new r h = absurd r
read_answer old (Ask.Lock row) say new r h = absurd r
read_answer old (Ask.Refresh t time) say new r h = absurd r
read_answer old (Ask.Unlock t) say new r h = absurd r
read_answer old (Ask.Put t k n x) say new r h = absurd r
read_answer old (Ask.Delete t k n) say new r h = absurd r
read_answer old (Ask.Upgrade t) say new r h = absurd r

read_step : (old : Store) (ask : Ask) (say : Say) (new : Store) → IsReadingAsk ask → Step old ask say new → new ≡ old
read_step old ask say new r (inl h) = read_answer old ask say new r h
read_step old ask say new r (inr (looks, inl (fault, inl h))) = h
read_step old ask say new r (inr (looks, inl (fault, inr h))) = read_answer old ask h.0 new r h.1
read_step old ask say new r (inr (looks, inr h)) = h.1

pub reads_keep : ReadsKeepBag
reads_keep w v k request bag clash (m, h) r = (
  serve_keeps w v k request bag clash (m, h),
  ap (λ (u : World). u.store) h.is ∙ read_step w.store request.ask h.reply.say h.store r h.step,
)

-- ---- upgrades

upgrade_stays : (w : World) (ask : Ask) (t : Token) (O : Objects) → ask ≡ Ask.Upgrade t → ObjectsMove w.store.tokens w.store.objects ask O → O ≡ w.store.objects
upgrade_stays w ask t O q (ObjectsMove.stays e) = e
upgrade_stays w ask t O q (ObjectsMove.adds u j n x e live added) = let c : Ask.Upgrade t ≡ Ask.Put u j n x = sym q ∙ e in absurd (cc)
upgrade_stays w ask t O q (ObjectsMove.removes u j n e live removed) = let c : Ask.Upgrade t ≡ Ask.Delete u j n = sym q ∙ e in absurd (cc)

pub upgrade_keeps : UpgradeKeepsBag
upgrade_keeps w v k request t bag clash (m, h) q live = (
  serve_keeps w v k request bag clash (m, h),
  objects_after w v k request h (upgrade_stays w request.ask t h.store.objects q (step_moves w.store request.ask h.reply.say h.store bag.ledger (bag.lawful k request m) h.step).objects),
)

pub puts_of_version : PutsAreOfVersion
puts_of_version w k request t n x snapshot bag m q live reads = put_versioned w bag k request.sequence t n x snapshot (subst (λ a. AskedAt (client w k) request.sequence a) q (bag.asked k request m)) live reads

-- the config was read of whom works
opened_read : (task : Task) (token : Token) (es : Trace) → (h : IsWorking task token es) → Exchanged es Ask.Config (Say.Bytes h.1.text)
opened_read task token es h =
    let o = h.1 in
    subst (λ fs. Exchanged fs Ask.Config (Say.Bytes o.text)) (sym o.since) (exchanged_later o.later (opened task token o.text) Ask.Config (Say.Bytes o.text) (inl (refl, refl)))

pub old_fenced : OldClientsAreFenced
old_fenced w k t bag old working live never =
    let o = working.1 in
    let read : Exchanged (client w k).trace Ask.Config (Say.Bytes o.text) = opened_read (task_of (client w k).job (client w k).who) t (client w k).trace working in
    let took : Took w k t = working_took (task_of (client w k).job (client w k).who) t (client w k).trace working in
    let there = (bag.told k Ask.Config (Say.Bytes o.text) read).0.configured o.text refl refl t took live in
    let low : working.0.version ≤ 1 = subst (λ (v : Versions). working.0.version ≤ upto v) old o.known in
    let known : 1 ≤ working.0.version = o.reads.known.0 in
    record { text = o.text; config = working.0; configured = ⊎_elim (λ u. absurd (never u)) (λ c. c) there; reads = o.reads; of_version = omega (arith, low, known) }

-- who reported an upgrade
pub upgraded_of_version : UpgradedIsOfVersion
upgraded_of_version w k bag told = ⊎_elim
    (λ (r : HasReadVersion (client w k).trace 2). record {
      text = r.text;
      config = r.config;
      configured = (bag.told k Ask.Config (Say.Bytes r.text) r.read).0.settled r.text r.config refl refl r.reads r.of_version;
      reads = r.reads;
      of_version = r.of_version;
    })
    (λ d. (bag.told k (Ask.Upgrade d.0) Say.Done d.1).0.raised d.0 refl refl)
    ((dutiful (client w k) (bag.behave k)).concluded Outcome.Upgraded told)
