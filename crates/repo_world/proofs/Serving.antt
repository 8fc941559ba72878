-- A request that is delivered keeps the bag in order.
use Rattle.std.proofs.Common.{◌≡◌, ◌⊎◌, inl, inr, ⊎_elim, ℕ, ◌<◌, ◌≤◌, ◌+◌, ◌++◌, ◌∷◌, [], List, refl, sym, ◌∙◌, ap, subst, Some, arith}
use Rattle.repo_name.specs.declared.kinds.Kind.{Kind}
use Rattle.repo_name.specs.declared.names.Name.{Name}
use Rattle.repo_name.specs.declared.tokens.Token.{Token}
use Rattle.repo_wire.specs.declared.messages.Ask.{Ask}
use Rattle.repo_wire.specs.declared.messages.Reply.{Reply}
use Rattle.repo_wire.specs.declared.messages.Request.{Request}
use Rattle.repo_wire.specs.declared.messages.Say.{Say}
use Rattle.repo_store.specs.StoreMachine.{Step}
use Rattle.repo_store.specs.Stores.{Store, Objects}
use Rattle.repo_world.specs.World.{World, client, IsOneOf, Asked, Said}
use Rattle.repo_world.specs.Safe.{IsPutBy, Took, HasNoClash}
use Rattle.repo_world.specs.Bag.{AskedAt, HasUpgraded, IsLive, IsOfVersion, IsVersioned, StillSays, HasBag}
use Rattle.repo_world.proofs.Later.{Later, grows_same, later_put, has_left, has_split}
use Rattle.repo_world.proofs.Changing.{move_keeps_sound}
use Rattle.repo_world.proofs.Staying.{Move, turn_of, served, still_served, says_now}
use Rattle.repo_world.proofs.Moving.{StoreMoves, step_moves, ObjectsMove, ConfigMoves}
use Rattle.repo_world.proofs.Knowing.{sent_now, put_took}
use Rattle.repo_store.proofs.Upgrading.{Raises}
use Rattle.repo_world.specs.Duties.{MayPutSnapshot}
use Rattle.repo_tree.specs.declared.configs.Config.{Config}
use Rattle.repo_tree.specs.declared.snapshots.Snapshot.{Snapshot}
use Rattle.repo_tree.specs.ConfigText.{IsConfigText, config_text, upgraded}
use Rattle.repo_tree.specs.SnapshotText.{IsSnapshotText}
use Rattle.repo_tree.proofs.ConfigLemmas.{config_texts_one}
use Rattle.repo_tree.proofs.SnapshotLemmas.{snapshot_texts_one}
use Rattle.std.proofs.lemmas.Option.{none-some, same_Some}
use Rattle.repo_world.proofs.Replying.{token_told}
use Rattle.repo_world.proofs.Sending.{handed_nothing, sent_as_asked}

-- ---- versions

pub versioned_same : (old new : Store) (x : List ℕ) → new.config ≡ old.config → IsVersioned old x → IsVersioned new x
versioned_same old new x e v = record { text = v.text; config = v.config; configured = e ∙ v.configured; reads = v.reads; snapshot = v.snapshot; is = v.is; within = v.within }

versioned_raised : (old new : Store) (x : List ℕ) → Raises old new → IsVersioned old x → IsVersioned new x
versioned_raised old new x r v =
    let same : r.text ≡ v.text = same_Some r.text v.text (sym r.was ∙ v.configured) in
    let one : r.config ≡ v.config = config_texts_one v.text r.config v.config (subst (λ y. IsConfigText y r.config) same r.reads) v.reads in
    let e : r.config.version ≡ v.config.version = ap (λ (c : Config). c.version) one in
    let first : r.config.version ≡ 1 = r.first in
    let low : v.snapshot.version ≤ v.config.version = v.within in
    record { text = config_text (upgraded r.config); config = upgraded r.config; configured = r.saves.0; reads = r.anew; snapshot = v.snapshot; is = v.is; within = omega (arith, e, first, low) }

versioned_after : (old : Store) (ask : Ask) (new : Store) (x : List ℕ) → ConfigMoves old ask new → IsVersioned old x → IsVersioned new x
versioned_after old ask new x (ConfigMoves.rests e) v = versioned_same old new x e v
versioned_after old ask new x (ConfigMoves.raises t e live r) v = versioned_raised old new x r v

module _ (w : World) (bag : HasBag w) where
  -- a snapshot that is put under a live token is of the version of the config there
  source_versioned : (k q : ℕ) (t : Token) (n : Name) (x : List ℕ) → AskedAt (client w k) q (Ask.Put t Kind.Snapshot n x) → Took w k t → IsLive w t
      → (text : List ℕ) × (config : Config) × (snapshot : Snapshot) × (w.store.config ≡ Some text) × IsConfigText text config × IsSnapshotText x snapshot × (snapshot.version ≡ config.version)
  source_versioned k q t n x h took live =
      let s = sent_now w bag k q (Ask.Put t Kind.Snapshot n x) h in
      let r : MayPutSnapshot (client w k).job s.older t x = s.permitted tt in
      let v = r.version_is in
      let there = (bag.told k Ask.Config (Say.Bytes v.text) (s.within Ask.Config (Say.Bytes v.text) v.read)).0.configured v.text refl refl t took live in
      let alone : HasUpgraded w k → ⊥ = λ u. none-some r.entries (sym (handed_nothing (client w k).job s.older (sent_now w bag k u.0 (Ask.Upgrade u.1) u.2).may.1) ∙ r.handed) in
      (v.text, v.config, r.snapshot, ⊎_elim (λ u. absurd (alone u)) (λ c. c) there, v.reads, r.reads, sym v.of_version)

  pub put_versioned : (k q : ℕ) (t : Token) (n : Name) (x : List ℕ) (snapshot : Snapshot) → AskedAt (client w k) q (Ask.Put t Kind.Snapshot n x) → IsLive w t → IsSnapshotText x snapshot → IsOfVersion w.store snapshot.version
  put_versioned k q t n x snapshot h live reads =
      let s = source_versioned k q t n x h (put_took w bag k q t Kind.Snapshot n x h) live in
      record { text = s.0; config = s.1; configured = s.3; reads = s.4; of_version = sym s.6 ∙ ap (λ (z : Snapshot). z.version) (snapshot_texts_one x s.2 snapshot s.5 reads) }

  snapshot_put : (k q : ℕ) (t : Token) (n : Name) (x : List ℕ) → AskedAt (client w k) q (Ask.Put t Kind.Snapshot n x) → IsLive w t → IsVersioned w.store x
  snapshot_put k q t n x h live =
      let s = source_versioned k q t n x h (put_took w bag k q t Kind.Snapshot n x h) live in
      let v : s.2.version ≡ s.1.version = s.6 in
      record { text = s.0; config = s.1; configured = s.3; reads = s.4; snapshot = s.2; is = s.5; within = omega (arith, v) }

  versions_moved : (k : ℕ) (request : Request) → IsOneOf w.messages (Asked k request) → (O : Objects) → ObjectsMove w.store.tokens w.store.objects request.ask O → (n : Name) (x : List ℕ) → O Kind.Snapshot n ≡ Some x → IsVersioned w.store x
  versions_moved k request m O (ObjectsMove.stays e) n x h = bag.versions n x (ap (λ (P : Objects). P Kind.Snapshot n) (sym e) ∙ h)
  versions_moved k request m O (ObjectsMove.removes t c o e live removed) n x h = bag.versions n x (removed.only Kind.Snapshot n x h)
  versions_moved k request m O (ObjectsMove.adds t c o y e live added) n x h = ⊎_elim (bag.versions n x)
      (λ g. (let asked = subst (λ a. AskedAt (client w k) request.sequence a) (e ∙ ap (λ j. Ask.Put t j o y) (sym g.0)) (bag.asked k request m) in
      subst (λ z. IsVersioned w.store z) (sym g.2) (snapshot_put k request.sequence t o y asked live)))
      (added.only Kind.Snapshot n x h)

module _ (w : World) (bag : HasBag w) (clash : HasNoClash w) (k : ℕ) (request : Request) (m : IsOneOf w.messages (Asked k request)) (reply : Reply) (store : Store) (instance : reply.instance ≡ request.instance) (sequence : reply.sequence ≡ request.sequence) (step : Step w.store request.ask reply.say store) where
  pub later : Later w (served w store (w.messages ++ Said k reply ∷ []))
  later = record { grows = λ j. grows_same (client w j) (client w j) refl refl refl; messages = λ x h. has_left w.messages (Said k reply ∷ []) x h }

  moves : StoreMoves w.store request.ask store
  moves = step_moves w.store request.ask reply.say store bag.ledger (bag.lawful k request m) step

  move : Move w store.objects
  move = inr (k, request, m, moves.objects)

  here : AskedAt (client w k) request.sequence request.ask
  here = bag.asked k request m

  kept : (j q : ℕ) (a : Ask) (s : Say) → AskedAt (client w j) q a → StillSays w j a s → StillSays (served w store (w.messages ++ Said k reply ∷ [])) j a s
  kept j q a s h g = still_served w bag store (w.messages ++ Said k reply ∷ []) later moves.tokens move (turn_of w k request store m moves.config) j q a s h g

  fresh : StillSays (served w store (w.messages ++ Said k reply ∷ [])) k request.ask reply.say
  fresh = says_now w bag store (w.messages ++ Said k reply ∷ []) later moves.tokens.ok k request.ask reply.say step

  old_asked : (j : ℕ) (r : Request) → IsOneOf (w.messages ++ Said k reply ∷ []) (Asked j r) → IsOneOf w.messages (Asked j r)
  old_asked j r h = ⊎_elim (λ g. g) (λ g. ⊎_elim (λ (e : Said k reply ≡ Asked j r). absurd (cc)) (λ g. absurd g) g) (has_split w.messages (Said k reply ∷ []) (Asked j r) h)

  said : (j : ℕ) (r : Reply) → IsOneOf (w.messages ++ Said k reply ∷ []) (Said j r) → IsOneOf w.messages (Said j r) ⊎ ((k ≡ j) × (reply ≡ r))
  said j r h = ⊎_elim inl (λ g. ⊎_elim (λ (e : Said k reply ≡ Said j r). let a : k ≡ j = cc in let b : reply ≡ r = cc in inr (a, b)) (λ g. absurd g) g) (has_split w.messages (Said k reply ∷ []) (Said j r) h)

  new_token : (t : Token) → reply.say ≡ Say.Token t → (t.0 ≡ w.store.tokens.next) × (store.tokens.next ≡ w.store.tokens.next + 1)
  new_token t e = token_told w.store request.ask t store (subst (λ s. Step w.store request.ask s store) e step)

  replied_new : (j : ℕ) (r : Reply) → k ≡ j → reply ≡ r → (a : Ask) × AskedAt (client w j) r.sequence a × StillSays (served w store (w.messages ++ Said k reply ∷ [])) j a r.say
  replied_new j r a b = subst (λ i. (x : Ask) × AskedAt (client w i) r.sequence x × StillSays (served w store (w.messages ++ Said k reply ∷ [])) i x r.say) a
      (subst (λ (z : Reply). (x : Ask) × AskedAt (client w k) z.sequence x × StillSays (served w store (w.messages ++ Said k reply ∷ [])) k x z.say) b
      (request.ask, subst (λ q. AskedAt (client w k) q request.ask) (sym sequence) here, fresh))

  origin_after : (O : Objects) → ObjectsMove w.store.tokens w.store.objects request.ask O → (j : Kind) (n : Name) (x : List ℕ) → O j n ≡ Some x → IsPutBy w j n x
  origin_after O (ObjectsMove.stays e) j n x h = bag.origin j n x (ap (λ (P : Objects). P j n) (sym e) ∙ h)
  origin_after O (ObjectsMove.adds t c o y e live added) j n x h = ⊎_elim (bag.origin j n x)
      (λ g. subst (λ z. IsPutBy w j n z) (sym g.2) (subst (λ z. IsPutBy w j z y) (sym g.1) (subst (λ z. IsPutBy w z o y) (sym g.0) (record { by = k; request = request; token = t; message = m; asks = e })))) (added.only j n x h)
  origin_after O (ObjectsMove.removes t c o e live removed) j n x h = bag.origin j n x (removed.only j n x h)

  pub keeps_serve : HasBag (served w store (w.messages ++ Said k reply ∷ []))
  keeps_serve = record {
    sound = move_keeps_sound w bag clash k request m store.objects moves.objects;
    ledger = moves.tokens.ok;
    versions = λ n x h. versioned_after w.store request.ask store x moves.config (versions_moved w bag k request m store.objects moves.objects n x h);
    behave = bag.behave;
    within = bag.within;
    taken = bag.taken;
    told = λ j a s h.
        let t = bag.told j a s h in
        let q = sent_as_asked (client w j) a s h in
        (kept j q.0 a s q.1 t.0, (t.1.0, has_left w.messages (Said k reply ∷ []) (Said j t.1.0) t.1.1, t.1.2));
    asked = λ j r h. bag.asked j r (old_asked j r h);
    sent = λ j q a h. let s = bag.sent j q a h in (s.0, has_left w.messages (Said k reply ∷ []) (Asked j s.0) s.1, s.2);
    replied = λ j r h. ⊎_elim (λ g. let x = bag.replied j r g in (x.0, x.1, kept j r.sequence x.0 r.say x.1 x.2)) (λ g. replied_new j r g.0 g.1) (said j r h);
    issued = λ j r t h e. ⊎_elim
        (λ g. let a : t.0 < w.store.tokens.next = bag.issued j r t g e in let b : w.store.tokens.next ≤ store.tokens.next = moves.tokens.next in omega arith)
        (λ g. let p = new_token t (ap (λ (z : Reply). z.say) g.1 ∙ e) in let a : t.0 ≡ w.store.tokens.next = p.0 in let b : store.tokens.next ≡ w.store.tokens.next + 1 = p.1 in omega arith)
        (said j r h);
    owner = λ i j r o t h g e d. ⊎_elim
        (λ a. ⊎_elim (λ b. bag.owner i j r o t a b e d) (λ b. let x : t.0 < w.store.tokens.next = bag.issued i r t a e in let y : t.0 ≡ w.store.tokens.next = (new_token t (ap (λ (z : Reply). z.say) b.1 ∙ d)).0 in absurd (omega arith)) (said j o g))
        (λ a. ⊎_elim (λ b. let x : t.0 < w.store.tokens.next = bag.issued j o t b d in let y : t.0 ≡ w.store.tokens.next = (new_token t (ap (λ (z : Reply). z.say) a.1 ∙ e)).0 in absurd (omega arith)) (λ b. sym a.0 ∙ b.0) (said j o g))
        (said i r h);
    origin = λ j n x h. later_put w (served w store (w.messages ++ Said k reply ∷ [])) later j n x (origin_after store.objects moves.objects j n x h);
    lawful = λ j r h. bag.lawful j r (old_asked j r h);
  }
