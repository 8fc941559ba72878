-- A forget of what the backup stored, and a prune after it, are a run.
use Rattle.std.proofs.Common.{◌≡◌, ◌<◌, ◌^◌, lit≤, inl, inr, ⊎_elim, ℕ, Bool, true, false, cond, ◌∷◌, ◌++◌, [], List, length, refl, sym, ◌∙◌, ap, subst, Option, Some, None, arith, Ok, Contains}
use Rattle.std.specs.Ordering.{is_eq}
use Rattle.std.proofs.lemmas.Option.{none-some, same_Some}
use Rattle.repo_name.specs.Naming as naming
use Rattle.repo_name.specs.Naming.{name_cmp}
use Rattle.repo_name.specs.Rows.{IsHost}
use Rattle.repo_name.specs.declared.kinds.Kind.{Kind}
use Rattle.repo_name.specs.declared.names.Name.{Name}
use Rattle.repo_name.proofs.NameMaps.{same_name}
use Rattle.repo_wire.specs.declared.messages.Ask.{Ask}
use Rattle.repo_wire.specs.declared.messages.Say.{Say}
use Rattle.repo_wire.specs.Messages.{page_limit}
use Rattle.repo_locks.specs.declared.outcomes.Grant.{Grant}
use Rattle.repo_locks.specs.TokenMachine.{issued, granted, unlocked, Tokens}
use Rattle.repo_store.specs.Pages.{IsPage}
use Rattle.repo_store.specs.StoreMachine.{object_limit, GetSays}
use Rattle.repo_store.specs.Stores.{Store, Objects}
use Rattle.repo_session.specs.declared.versions.Versions.{Versions}
use Rattle.repo_session.specs.Askers.{asker}
use Rattle.repo_session.specs.Order.{Task, IsWorking, Obeys, opened, lock_row}
use Rattle.repo_session.specs.Traces.{Trace, Exchanged, WasAsked, silent}
use Rattle.repo_session.specs.declared.outcomes.Outcome.{Outcome}
use Rattle.repo_name.proofs.Containing.{none_contained}
use Rattle.repo_session.proofs.Holding.{working_more, holds_of, opened_working}
use Rattle.repo_session.proofs.Meeting.{first_page}
use Rattle.repo_runs.specs.Backed.{configured, AreTexts, stored}
use Rattle.repo_world.specs.Clients.{Client, task_of}
use Rattle.repo_world.specs.Duties.{GivesAny, IndexMayGo, IsDutiful, Owes, PackMayGo, Tells}
use Rattle.repo_world.specs.Events.{Run}
use Rattle.repo_runs.specs.Lone.{ended}
use Rattle.repo_world.specs.World.{World, client_at, beginning, instance_of}
use Rattle.repo_runs.proofs.Backing as backup
use Rattle.repo_runs.proofs.Backing.{there_now}
use Rattle.repo_runs.proofs.GivingBack.{bytes_no_dead, names_no_dead, token}
use Rattle.repo_runs.proofs.Calming.{ExchangesFew, IsQuiet, quiet_more, few_config, few_index, calm}
use Rattle.repo_runs.proofs.Joining.{Stepped, finished}
use Rattle.std.proofs.Common.{◌⊎◌}
use Rattle.repo_name.specs.declared.tokens.Token.{Token}
use Rattle.repo_store.specs.Stores.{Removed}
use Rattle.repo_session.specs.Deletions.{DeleteDone}
use Rattle.repo_session.specs.Told.{AskedToPut}
use Rattle.repo_prune.specs.Forgetting.{MayForget}
use Rattle.repo_prune.specs.declared.choices.Choice.{Choice}
use Rattle.repo_runs.specs.Backed.{IsForgottenInRun, ForgetIsARun}
use Rattle.repo_runs.proofs.Backing.{is_here, at_here, here_is}
use Rattle.repo_world.specs.declared.jobs.Job.{Job}
use Rattle.repo_world.specs.declared.events.Event.{Event}

-- ---- an object that goes

abbrev without_object : Objects → Kind → Name → Objects
without_object old k n = λ j m. cond (is_here k n j m) None (old j m)

gone_now : (old : Objects) (k : Kind) (n : Name) → without_object old k n k n ≡ None
gone_now old k n = ap (λ b. cond b None (old k n)) (at_here k n)

removed_by : (old : Objects) (k : Kind) (n : Name) (j : Kind) (m : Name) (b : Bool) (y : List ℕ) → is_here k n j m ≡ b → (old j m ≡ Some y → (cond b None (old j m) ≡ Some y) ⊎ ((j ≡ k) × (m ≡ n))) × (cond b None (old j m) ≡ Some y → old j m ≡ Some y)
removed_by old k n j m true y e = ((λ was. inr (here_is k n j m e)), (λ now. absurd (none-some y now)))
removed_by old k n j m false y e = ((λ was. inl was), (λ now. now))

now_removed : (old : Objects) (k : Kind) (n : Name) → Removed old k n (without_object old k n)
now_removed old k n = record {
  kept = λ j m y was. (removed_by old k n j m (is_here k n j m) y refl).0 was;
  only = λ j m y now. (removed_by old k n j m (is_here k n j m) y refl).1 now;
  gone = gone_now old k n;
}

twice : (b : Bool) (x : List ℕ) → cond b None (cond b (Some x) None) ≡ None
twice true x = refl
twice false x = refl

-- the third token
abbrev third : Token
third = record { 0 = 3 }

no_unlock_delete : (t : Token) (k : Kind) (n : Name) (u : Token) → Ask.Delete t k n ≡ Ask.Unlock u → ⊥
no_unlock_delete t k n u h = absurd (cc)

module _ (host : List ℕ) (time : ℕ) (config pack index snapshot : List ℕ) (names : List Name) (limits : (time < 2 ^ 64) × IsHost host) (texts : AreTexts host time config pack index snapshot) (chosen : Contains names (naming.name snapshot)) where
  abbrev np : Name
  np = naming.name pack

  abbrev ni : Name
  ni = naming.name index

  abbrev ns : Name
  ns = naming.name snapshot

  abbrev from : Store
  from = backup.last_store host time config pack index snapshot limits texts

  abbrev forgotten_objects : Objects
  forgotten_objects = without_object from.objects Kind.Snapshot ns

  only_here : (x : List ℕ) (m n : Name) (b : Bool) (y : List ℕ) → is_eq (name_cmp m n) ≡ b → cond b (Some x) None ≡ Some y → m ≡ n
  only_here x m n true y e h = same_name m n e
  only_here x m n false y e h = absurd (none-some y h)

  page_of : (objects : Objects) (k : Kind) (n : Name) (x : List ℕ) → objects k n ≡ Some x → ((m : Name) (y : List ℕ) → objects k m ≡ Some y → m ≡ n) → IsPage objects k None page_limit (n ∷ []) false
  page_of objects k n x there one = record {
    ascends = (tt, tt);
    few = lit≤ tt;
    there = λ m h. ⊎_elim (λ e. (x, ap (λ i. objects k i) e ∙ there)) (λ none. absurd none) h;
    least = λ m y h above. inl (inl (one m y h));
    follow = λ q. absurd (cc);
  }

  -- ---- the forget

  abbrev choice : Choice
  choice = Choice.Names names

  module _ (w : World) (same : w.store ≡ from) where
    abbrev task : Task
    task = task_of (Job.Forget choice) (asker (instance_of (length w.clients)) host time Versions.Both)

    abbrev f0 : Trace
    f0 = opened task token config

    abbrev f1 : Trace
    f1 = silent (Ask.List Kind.Snapshot None) (Say.Names false (ns ∷ [])) ∷ f0

    abbrev f2 : Trace
    f2 = silent (Ask.Delete token Kind.Snapshot ns) Say.Done ∷ f1

    abbrev forgetting : Trace
    forgetting = silent (Ask.Unlock token) Say.Done ∷ f2

    works_0 : IsWorking task token f0
    works_0 = opened_working task token config texts.read texts.configured (let first = texts.first in omega (arith, first))

    works_1 : IsWorking task token f1
    works_1 = working_more task token (silent (Ask.List Kind.Snapshot None) (Say.Names false (ns ∷ []))) f0 works_0 (names_no_dead false (ns ∷ [])) (λ t h. absurd (cc))

    works_2 : IsWorking task token f2
    works_2 = working_more task token (silent (Ask.Delete token Kind.Snapshot ns) Say.Done) f1 works_1 backup.done_no_dead (λ t h. no_unlock_delete token Kind.Snapshot ns t h)

    no_more_names : (more : List Name) (x : Name) → Say.Names false (x ∷ more) ≡ Say.Names true [] → ⊥
    no_more_names more x h = absurd (cc)

    no_next : (after : Option Name) → Exchanged f1 (Ask.List Kind.Snapshot after) (Say.Names true []) → ⊥
    no_next after (inl h) = no_more_names [] ns h.1
    no_next after (inr (inl h)) = let q = h.0 in absurd (cc)
    no_next after (inr (inr (inl h))) = let q = h.0 in absurd (cc)
    no_next after (inr (inr (inr (inl h)))) = let q = h.0 in absurd (cc)
    no_next after (inr (inr (inr (inr h)))) = h

    -- it is listed, and chosen by its name
    chooses : MayForget choice f1 ns
    chooses = record { rows = []; decided = record { complete = refl; rise = record { ascend = (tt, tt); moves = no_next } }; among = inl refl; chosen = chosen }

    obeys : Obeys task (Owes (Job.Forget choice)) GivesAny forgetting
    obeys = (
      holds_of task token f2 works_2,
      (λ x. absurd x),
      inl refl,
      (
        (works_1, refl),
        (λ x. (choice, refl, chooses)),
        inl refl,
        (
          ((token, works_0), first_page task token config Kind.Snapshot),
          (λ x. tt),
          inl refl,
          ((token, refl), (λ x. absurd x), inl refl, ((token, refl, refl), (λ x. absurd x), inl refl, (refl, (λ x. absurd x), inl refl, tt))),
        ),
      ),
    )

    dutiful : IsDutiful (ended (length w.clients) (Job.Forget choice) host time forgetting (Some (Outcome.Forgotten (ns ∷ []))))
    dutiful = record {
      obeys = obeys;
      pending = λ r h. absurd (none-some r h);
      concluded = λ o e. subst (λ x. Tells (Job.Forget choice) forgetting x) (same_Some (Outcome.Forgotten (ns ∷ [])) o e) tt;
    }

    abbrev tokens : Tokens
    tokens = granted (issued from.tokens) (lock_row task token)

    abbrev store_of : Objects → Tokens → Store
    store_of objects l = record { config = Some config; objects = objects; tokens = l; append_only = false }

    snapshot_there : from.objects Kind.Snapshot ns ≡ Some snapshot
    snapshot_there = there_now (backup.with_index host time config pack index snapshot limits texts) Kind.Snapshot ns snapshot

    steps : Stepped w (Job.Forget choice) host time (λ none. none) limits w.store forgetting (store_of forgotten_objects (unlocked tokens token))
    steps = (
      store_of forgotten_objects tokens,
      (
        store_of from.objects tokens,
        (
          store_of from.objects tokens,
          (
            store_of from.objects tokens,
            (
              store_of from.objects (issued from.tokens),
              (from, sym same, inl (record { result = Ok token; tokens = issued from.tokens; step = (omega arith, refl, refl); says = refl; saves = (refl, refl, refl, refl) })),
              inl (record { result = Ok Grant.New; tokens = tokens; step = ((refl, refl, refl, omega arith), refl); says = refl; saves = (refl, refl, refl, refl) }),
            ),
            inl (inl (texts.config_short, refl), refl),
          ),
          inl (ns ∷ [], false, page_of from.objects Kind.Snapshot ns snapshot snapshot_there (λ m y h. only_here snapshot m ns (is_eq (name_cmp m ns)) y refl h), refl, refl),
        ),
        inl (inr (refl, inr (inr (refl, refl, (now_removed from.objects Kind.Snapshot ns, refl, refl, refl))))),
      ),
      inl (record { result = true; tokens = unlocked tokens token; step = (refl, refl); says = refl; saves = (refl, refl, refl, refl) }),
    )

    -- ---- the prune, over the store that the forget leaves

    abbrev left : Store
    left = store_of forgotten_objects (unlocked tokens token)

    abbrev without_index : Objects
    without_index = without_object forgotten_objects Kind.Index ni

    abbrev without_pack : Objects
    without_pack = without_object without_index Kind.Pack np

    module _ (v : World) (next : v.store ≡ left) where
      abbrev work : Task
      work = task_of Job.Prune (asker (instance_of (length v.clients)) host time Versions.Both)

      abbrev p0 : Trace
      p0 = opened work third config

      abbrev p1 : Trace
      p1 = silent (Ask.List Kind.Snapshot None) (Say.Names false []) ∷ p0

      abbrev p2 : Trace
      p2 = silent (Ask.List Kind.Index None) (Say.Names false (ni ∷ [])) ∷ p1

      abbrev p3 : Trace
      p3 = silent (Ask.Get Kind.Index ni) (Say.Bytes index) ∷ p2

      abbrev p4 : Trace
      p4 = silent (Ask.List Kind.Pack None) (Say.Names false (np ∷ [])) ∷ p3

      abbrev p5 : Trace
      p5 = silent (Ask.Delete third Kind.Index ni) Say.Done ∷ p4

      abbrev p6 : Trace
      p6 = silent (Ask.Delete third Kind.Pack np) Say.Done ∷ p5

      abbrev pruning : Trace
      pruning = silent (Ask.Unlock third) Say.Done ∷ p6

      at_0 : IsWorking work third p0
      at_0 = opened_working work third config texts.read texts.configured (let first = texts.first in omega (arith, first))

      at_1 : IsWorking work third p1
      at_1 = working_more work third (silent (Ask.List Kind.Snapshot None) (Say.Names false [])) p0 at_0 (names_no_dead false []) (λ t h. absurd (cc))

      at_2 : IsWorking work third p2
      at_2 = working_more work third (silent (Ask.List Kind.Index None) (Say.Names false (ni ∷ []))) p1 at_1 (names_no_dead false (ni ∷ [])) (λ t h. absurd (cc))

      at_3 : IsWorking work third p3
      at_3 = working_more work third (silent (Ask.Get Kind.Index ni) (Say.Bytes index)) p2 at_2 (bytes_no_dead index) (λ t h. absurd (cc))

      at_4 : IsWorking work third p4
      at_4 = working_more work third (silent (Ask.List Kind.Pack None) (Say.Names false (np ∷ []))) p3 at_3 (names_no_dead false (np ∷ [])) (λ t h. absurd (cc))

      at_5 : IsWorking work third p5
      at_5 = working_more work third (silent (Ask.Delete third Kind.Index ni) Say.Done) p4 at_4 backup.done_no_dead (λ t h. no_unlock_delete third Kind.Index ni t h)

      at_6 : IsWorking work third p6
      at_6 = working_more work third (silent (Ask.Delete third Kind.Pack np) Say.Done) p5 at_5 backup.done_no_dead (λ t h. no_unlock_delete third Kind.Pack np t h)

      none_follow : Say.Names false [] ≡ Say.Names true [] → ⊥
      none_follow h = absurd (cc)

      no_turn : (k : Kind) (after : Option Name) → Exchanged p6 (Ask.List k after) (Say.Names true []) → ⊥
      no_turn k after (inl h) = let q = h.0 in absurd (cc)
      no_turn k after (inr (inl h)) = let q = h.0 in absurd (cc)
      no_turn k after (inr (inr (inl h))) = no_more_names [] np h.1
      no_turn k after (inr (inr (inr (inl h)))) = let q = h.0 in absurd (cc)
      no_turn k after (inr (inr (inr (inr (inl h))))) = no_more_names [] ni h.1
      no_turn k after (inr (inr (inr (inr (inr (inl h)))))) = none_follow h.1
      no_turn k after (inr (inr (inr (inr (inr (inr (inl h))))))) = let q = h.0 in absurd (cc)
      no_turn k after (inr (inr (inr (inr (inr (inr (inr (inl h)))))))) = let q = h.0 in absurd (cc)
      no_turn k after (inr (inr (inr (inr (inr (inr (inr (inr (inl h))))))))) = let q = h.0 in absurd (cc)
      no_turn k after (inr (inr (inr (inr (inr (inr (inr (inr (inr h))))))))) = h

      no_put : (t : Token) (k : Kind) (n : Name) (x : List ℕ) → WasAsked p6 (Ask.Put t k n x) → ⊥
      no_put t k n x (inl h) = absurd (cc)
      no_put t k n x (inr (inl h)) = absurd (cc)
      no_put t k n x (inr (inr (inl h))) = absurd (cc)
      no_put t k n x (inr (inr (inr (inl h)))) = absurd (cc)
      no_put t k n x (inr (inr (inr (inr (inl h))))) = absurd (cc)
      no_put t k n x (inr (inr (inr (inr (inr (inl h)))))) = absurd (cc)
      no_put t k n x (inr (inr (inr (inr (inr (inr (inl h))))))) = absurd (cc)
      no_put t k n x (inr (inr (inr (inr (inr (inr (inr (inl h)))))))) = absurd (cc)
      no_put t k n x (inr (inr (inr (inr (inr (inr (inr (inr (inl h))))))))) = absurd (cc)
      no_put t k n x (inr (inr (inr (inr (inr (inr (inr (inr (inr h))))))))) = h

      index_gone : (es : Trace) (n : Name) → (n ≡ ni) ⊎ ⊥ → DeleteDone es Kind.Index ni → AskedToPut es Kind.Index n ⊎ DeleteDone es Kind.Index n
      index_gone es n l d = ⊎_elim (λ e. inr (subst (λ m. DeleteDone es Kind.Index m) (sym e) d)) (λ none. absurd none) l

      -- nothing is needed, and nothing was put
      index_rule : IndexMayGo p4 ni
      index_rule = record {
        listed = record { complete = refl; rise = record { ascend = tt; moves = λ after h. no_turn Kind.Snapshot after (inr (inr h)) } };
        trees = [];
        received = λ x c. absurd (none_contained x c);
        carried = λ s l. absurd l;
        done = λ t i x asked. absurd (no_put t Kind.Index i x (inr (inr asked)));
        unput = λ p. no_put p.0 Kind.Index ni p.1 (inr (inr p.2));
      }

      pack_rule : PackMayGo p5 np
      pack_rule = record {
        listed = record { complete = refl; rise = record { ascend = (tt, tt); moves = λ after h. no_turn Kind.Index after (inr h) } };
        replaced = λ n l. index_gone p5 n l (third, inl (refl, refl));
        unput = λ p. no_put p.0 Kind.Pack np p.1 (inr p.2);
        unnamed = λ t i x fact asked says. absurd (no_put t Kind.Index i x (inr asked));
      }

      keeps_order : Obeys work (Owes Job.Prune) GivesAny pruning
      keeps_order = (
        holds_of work third p6 at_6,
        (λ x. absurd x),
        inl refl,
        (
          (at_5, refl),
          (λ x. pack_rule),
          inl refl,
          (
            (at_4, refl),
            (λ x. index_rule),
            inl refl,
            (
              ((third, at_3), record { rise = record { ascend = tt; moves = λ after h. no_turn Kind.Pack after (inr (inr (inr h))) }; incomplete = refl; last = refl }),
              (λ x. tt),
              inl refl,
              (
                ((third, at_2), inl (record { ascend = (tt, tt); moves = λ after h. no_turn Kind.Index after (inr (inr (inr (inr h)))) }, inl refl)),
                (λ x. tt),
                inl refl,
                (
                  ((third, at_1), record { rise = record { ascend = tt; moves = λ after h. no_turn Kind.Index after (inr (inr (inr (inr (inr h))))) }; incomplete = refl; last = refl }),
                  (λ x. tt),
                  inl refl,
                  (
                    ((third, at_0), first_page work third config Kind.Snapshot),
                    (λ x. tt),
                    inl refl,
                    ((third, refl), (λ x. absurd x), inl refl, ((third, refl, refl), (λ x. absurd x), inl refl, (refl, (λ x. absurd x), inl refl, tt))),
                  ),
                ),
              ),
            ),
          ),
        ),
      )

      prunes_well : IsDutiful (ended (length v.clients) Job.Prune host time pruning (Some (Outcome.Pruned 1 0)))
      prunes_well = record {
        obeys = keeps_order;
        pending = λ r h. absurd (none-some r h);
        concluded = λ o e. subst (λ x. Tells Job.Prune pruning x) (same_Some (Outcome.Pruned 1 0) o e) tt;
      }

      abbrev last_tokens : Tokens
      last_tokens = granted (issued left.tokens) (lock_row work third)

      index_there : forgotten_objects Kind.Index ni ≡ Some index
      index_there = there_now (backup.with_pack host time config pack index snapshot limits texts) Kind.Index ni index

      pack_there : forgotten_objects Kind.Pack np ≡ Some pack
      pack_there = there_now (backup.first_objects host time config pack index snapshot limits texts) Kind.Pack np pack

      prune_steps : Stepped v Job.Prune host time tt limits v.store pruning (store_of without_pack (unlocked last_tokens third))
      prune_steps = (
        store_of without_pack last_tokens,
        (
          store_of without_index last_tokens,
          (
            store_of forgotten_objects last_tokens,
            (
              store_of forgotten_objects last_tokens,
              (
                store_of forgotten_objects last_tokens,
                (
                  store_of forgotten_objects last_tokens,
                  (
                    store_of forgotten_objects last_tokens,
                    (
                      store_of forgotten_objects last_tokens,
                      (
                        store_of forgotten_objects (issued left.tokens),
                        (left, sym next, inl (record { result = Ok third; tokens = issued left.tokens; step = (omega arith, refl, refl); says = refl; saves = (refl, refl, refl, refl) })),
                        inl (record { result = Ok Grant.New; tokens = last_tokens; step = ((refl, refl, refl, omega arith), refl); says = refl; saves = (refl, refl, refl, refl) }),
                      ),
                      inl (inl (texts.config_short, refl), refl),
                    ),
                    inl ([], false, record { ascends = tt; few = lit≤ tt; there = λ n h. absurd h; least = λ n x h above. absurd (none-some x (sym (twice (is_eq (name_cmp n ns)) snapshot) ∙ h)); follow = λ q. absurd (cc) }, refl, refl),
                  ),
                  inl (ni ∷ [], false, page_of forgotten_objects Kind.Index ni index index_there (λ m y h. only_here index m ni (is_eq (name_cmp m ni)) y refl h), refl, refl),
                ),
                inl (subst (λ o. GetSays (object_limit Kind.Index) o (Say.Bytes index)) (sym index_there) (inl (texts.index_short, refl)), refl),
              ),
              inl (np ∷ [], false, page_of forgotten_objects Kind.Pack np pack pack_there (λ m y h. only_here pack m np (is_eq (name_cmp m np)) y refl h), refl, refl),
            ),
            inl (inr (refl, inr (inr (refl, refl, (now_removed forgotten_objects Kind.Index ni, refl, refl, refl))))),
          ),
          inl (inr (refl, inr (inr (refl, refl, (now_removed without_index Kind.Pack np, refl, refl, refl))))),
        ),
        inl (record { result = true; tokens = unlocked last_tokens third; step = (refl, refl); says = refl; saves = (refl, refl, refl, refl) }),
      )

  none_left : (k : Kind) (n : Name) → without_object (without_object (without_object from.objects Kind.Snapshot ns) Kind.Index ni) Kind.Pack np k n ≡ None
  none_left Kind.Pack n = twice (is_eq (name_cmp n np)) pack
  none_left Kind.Index n = twice (is_eq (name_cmp n ni)) index
  none_left Kind.Snapshot n = twice (is_eq (name_cmp n ns)) snapshot

  -- ---- one after another

  abbrev backer : Client
  backer = backup.backer host time config pack index snapshot limits texts

  forgetting_few : (w : World) (same : w.store ≡ from) → ExchangesFew config pack index snapshot (forgetting w same)
  forgetting_few w same = (tt, tt, (tt, tt, (tt, tt, (tt, few_config config pack index snapshot, (tt, tt, (tt, tt, tt))))))

  pruning_few : (w : World) (same : w.store ≡ from) (v : World) (next : v.store ≡ left w same) → ExchangesFew config pack index snapshot (pruning w same v next)
  pruning_few w same v next = (tt, tt, (tt, tt, (tt, tt, (tt, tt, (tt, few_index config pack index snapshot, (tt, tt, (tt, tt, (tt, few_config config pack index snapshot, (tt, tt, (tt, tt, tt))))))))))

  abbrev forgetter : (w : World) → w.store ≡ from → Client
  forgetter w same = ended (length w.clients) (Job.Forget choice) host time (forgetting w same) (Some (Outcome.Forgotten (ns ∷ [])))

  abbrev pruner : (w : World) (same : w.store ≡ from) (v : World) → v.store ≡ left w same → Client
  pruner w same v next = ended (length v.clients) Job.Prune host time (pruning w same v next) (Some (Outcome.Pruned 1 0))

  module _ (w : World) (events : List Event) (run : Run (beginning (configured config)) events w) (same : w.store ≡ from) (one : w.clients ≡ backer ∷ []) (quiet : IsQuiet config pack index snapshot w) where
    after_forget : (v : World) (more : List Event) → Run w more v → (next : v.store ≡ left w same) → v.clients ≡ backer ∷ forgetter w same ∷ [] → IsQuiet config pack index snapshot v → IsForgottenInRun names config pack index snapshot
    after_forget v more begun next two still =
        let done = finished v Job.Prune host time tt limits (silent (Ask.Unlock third) Say.Done) (p6 w same v next) (store_of w same (without_pack w same) (unlocked (last_tokens w same v next) third)) (Outcome.Pruned 1 0) (prune_steps w same v next) (refl, (refl, (refl, (refl, (refl, (refl, (refl, (refl, (refl, (refl, tt)))))))))) (prunes_well w same v next) in
        let trace = ap (λ (cs : List Client). (client_at (cs ++ pruner w same v next ∷ []) 2).trace) two in
        record {
          backup = backup.backed_up_at host time config pack index snapshot limits texts w events run same one quiet;
          more = more;
          mid = v;
          begun = begun;
          two = ap (λ (cs : List Client). length cs) two;
          forgot = (ap (λ (cs : List Client). (client_at cs 1).job) two, ap (λ (cs : List Client). (client_at cs 1).outcome) two);
          rest = done.0;
          last = _;
          run = done.1;
          forgets = ap (λ (cs : List Client). (client_at (cs ++ pruner w same v next ∷ []) 1).job) two;
          forgotten = ap (λ (cs : List Client). (client_at (cs ++ pruner w same v next ∷ []) 1).outcome) two;
          prunes = ap (λ (cs : List Client). (client_at (cs ++ pruner w same v next ∷ []) 2).job) two;
          pruned = ap (λ (cs : List Client). (client_at (cs ++ pruner w same v next ∷ []) 2).outcome) two;
          index_deleted = subst (λ (es : Trace). DeleteDone es Kind.Index ni) (sym trace) (third, inr (inr (inl (refl, refl))));
          pack_deleted = subst (λ (es : Trace). DeleteDone es Kind.Pack np) (sym trace) (third, inr (inl (refl, refl)));
          none_left = none_left;
          calm = λ apart. calm config pack index snapshot host time texts apart _ (quiet_more config pack index snapshot v (pruner w same v next) (pruning w same v next)
              (store_of w same (without_pack w same) (unlocked (last_tokens w same v next) third)) still (pruning_few w same v next) (λ x none. absurd none));
        }

    after_backup : IsForgottenInRun names config pack index snapshot
    after_backup =
        let done = finished w (Job.Forget choice) host time (λ none. none) limits (silent (Ask.Unlock token) Say.Done) (f2 w same) (left w same) (Outcome.Forgotten (ns ∷ [])) (steps w same) (refl, (refl, (refl, (refl, (refl, (refl, tt)))))) (dutiful w same) in
        after_forget _ done.0 done.1 refl
        (ap (λ (cs : List Client). cs ++ forgetter w same ∷ []) one)
        (quiet_more config pack index snapshot w (forgetter w same) (forgetting w same) (left w same) quiet (forgetting_few w same) (λ x none. absurd none))

  all_forgotten : IsForgottenInRun names config pack index snapshot
  all_forgotten =
      let first = finished (beginning (configured config)) (Job.Backup []) host time tt limits (silent (Ask.Unlock backup.token) Say.Done) (backup.storing host time config pack index snapshot limits texts) from (stored snapshot)
      (backup.steps host time config pack index snapshot limits texts) (backup.all_unfed host time config pack index snapshot limits texts) (backup.dutiful host time config pack index snapshot limits texts) in
      after_backup _ first.0 first.1 refl refl (backup.quiet host time config pack index snapshot limits texts)

pub forget_is_a_run : ForgetIsARun
forget_is_a_run host time config pack index snapshot names limits texts chosen = all_forgotten host time config pack index snapshot names limits texts chosen
