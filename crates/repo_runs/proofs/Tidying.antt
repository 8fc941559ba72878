-- A prune of what the backup stored is a run.
use Rattle.std.proofs.Common.{◌≡◌, ◌<◌, ◌≤◌, ◌^◌, lit≤, inl, inr, ⊎_elim, ℕ, zero, suc, Bool, true, false, cond, ◌∷◌, ◌++◌, [], List, length, slice_get, refl, sym, ◌∙◌, ap, subst, Option, Some, None, arith, Ok, Contains}
use Rattle.std.specs.Ordering.{is_eq}
use Rattle.std.proofs.lemmas.Option.{none-some, same_Some}
use Rattle.repo_name.specs.Naming as naming
use Rattle.repo_name.specs.Naming.{name_cmp}
use Rattle.repo_name.specs.Rows.{IsHost}
use Rattle.repo_name.specs.declared.kinds.Kind.{Kind}
use Rattle.repo_name.specs.declared.names.Name.{Name}
use Rattle.repo_name.proofs.NameMaps.{same_name}
use Rattle.repo_wire.specs.declared.messages.Ask.{Ask}
use Rattle.repo_wire.specs.declared.messages.Say.{Say}
use Rattle.repo_wire.specs.Messages.{page_limit}
use Rattle.repo_locks.specs.declared.outcomes.Grant.{Grant}
use Rattle.repo_locks.specs.TokenMachine.{issued, granted, unlocked, Tokens}
use Rattle.repo_pack.proofs.Offsets.{range_is}
use Rattle.repo_pack.specs.PackLayout.{Item}
use Rattle.repo_index.specs.declared.facts.Fact.{Fact}
use Rattle.repo_index.specs.declared.facts.PackFacts.{PackFacts}
use Rattle.repo_index.specs.Exactness.{fact_at}
use Rattle.repo_index.specs.IndexText.{IsIndexText, Says, facts_in}
use Rattle.repo_index.proofs.ExactLemmas.{fact_there, item_there}
use Rattle.repo_index.proofs.OneLemmas.{index_texts_one}
use Rattle.repo_tree.specs.TreeWriting.{tree_text}
use Rattle.repo_store.specs.declared.shelves.Slice.{Slice}
use Rattle.repo_store.specs.Pages.{IsPage}
use Rattle.repo_store.specs.StoreMachine.{Step, object_limit, GetSays}
use Rattle.repo_store.specs.Stores.{Store, Objects}
use Rattle.repo_session.specs.declared.versions.Versions.{Versions}
use Rattle.repo_session.specs.Askers.{asker}
use Rattle.repo_session.specs.Order.{Task, IsWorking, Obeys, opened, lock_row}
use Rattle.repo_session.specs.Traces.{Trace, Exchanged, ReadFact, silent}
use Rattle.repo_session.specs.declared.outcomes.Outcome.{Outcome}
use Rattle.repo_name.proofs.Containing.{none_contained, first_contained, contained_or, contains_flat, flat_contains}
use Rattle.repo_session.proofs.Holding.{working_more, holds_of, opened_working}
use Rattle.repo_session.proofs.Meeting.{first_page}
use Rattle.repo_writing.specs.Laws.{IsPutOrKept}
use Rattle.repo_writing.specs.Putting.{IsIndexOf, IsKeptPack, PutDone}
use Rattle.repo_writing.proofs.Keeping.{fact_of_listed}
use Rattle.repo_prune.proofs.PruneRuns.{nothing_deleted}
use Rattle.repo_runs.specs.Backed.{configured, empty_tree, AreTexts, stored, IsTidied, PruneIsARun}
use Rattle.repo_world.specs.Clients.{Client, task_of}
use Rattle.repo_world.specs.Duties.{GivesAny, IsDutiful, Owes, Tells}
use Rattle.repo_world.specs.Events.{Run}
use Rattle.repo_runs.specs.Lone.{ended}
use Rattle.repo_world.specs.World.{World, client_at, beginning, instance_of}
use Rattle.repo_runs.proofs.Backing as backup
use Rattle.repo_runs.proofs.Backing.{there_now}
use Rattle.repo_runs.proofs.GivingBack.{bytes_no_dead, names_no_dead, token}
use Rattle.repo_runs.proofs.Calming.{ExchangesFew, IsQuiet, quiet_more, few_config, few_index, few_snapshot, few_tree, calm}
use Rattle.repo_runs.proofs.Joining.{Stepped, finished}
use Rattle.repo_world.specs.declared.jobs.Job.{Job}
use Rattle.repo_world.specs.declared.events.Event.{Event}

-- a list of one element
pub only : {A : Type 0} (a b : A) → Contains (a ∷ []) b → a ≡ b
only a b c = ⊎_elim (λ same. same) (λ none. absurd (none_contained b none)) (contained_or a [] b c)

-- ---- facts of one item

one_item : (items : List Item) (i j : Item) (k : ℕ) → slice_get (i ∷ []) k ≡ Some j → (k ≡ 0) × (j ≡ i)
one_item items i j zero h = (refl, sym (same_Some i j h))
one_item items i j (suc k) h = absurd (none-some j h)

module _ (host : List ℕ) (time : ℕ) (config pack index snapshot : List ℕ) (limits : (time < 2 ^ 64) × IsHost host) (texts : AreTexts host time config pack index snapshot) where
  abbrev np : Name
  np = naming.name pack

  abbrev ni : Name
  ni = naming.name index

  abbrev ns : Name
  ns = naming.name snapshot

  abbrev fact : Fact
  fact = fact_at (naming.name pack) (empty_tree ∷ []) 0 empty_tree

  -- what the index lists
  abbrev listed : PackFacts
  listed = record { pack = naming.name pack; facts = texts.facts }

  fact_here : Contains texts.facts fact
  fact_here = fact_there (naming.name pack) (empty_tree ∷ []) texts.facts 0 empty_tree texts.exact refl

  all_facts : (f : Fact) → Contains texts.facts f → Contains (facts_in (listed ∷ [])) f
  all_facts f c = contains_flat (λ (p : PackFacts). p.facts) (listed ∷ []) listed f (first_contained listed []) c

  facts_back : (f : Fact) → Contains (facts_in (listed ∷ [])) f → Contains texts.facts f
  facts_back f c =
      let found = flat_contains (λ (p : PackFacts). p.facts) (listed ∷ []) f c in
      subst (λ (p : PackFacts). Contains p.facts f) (sym (only listed found.0 found.1)) found.2

  says : (f : Fact) → Contains texts.facts f → Says index f
  says f c = record { packs = listed ∷ []; text = texts.indexed; among = all_facts f c }

  one_fact : (f : Fact) → Contains texts.facts f → f ≡ fact
  one_fact f c =
      let at = item_there (naming.name pack) (empty_tree ∷ []) texts.facts f texts.exact c in
      let is = one_item [] empty_tree at.1 at.0 at.2 in
      at.3 ∙ (ap (λ k. fact_at (naming.name pack) (empty_tree ∷ []) k at.1) is.0 ∙ ap (λ (i : Item). fact_at (naming.name pack) (empty_tree ∷ []) 0 i) is.1)

  abbrev from : Store
  from = backup.last_store host time config pack index snapshot limits texts

  module _ (w : World) (same : w.store ≡ from) where
    abbrev task : Task
    task = task_of Job.Prune (asker (instance_of (length w.clients)) host time Versions.Both)

    abbrev t0 : Trace
    t0 = opened task token config

    abbrev t1 : Trace
    t1 = silent (Ask.List Kind.Snapshot None) (Say.Names false (ns ∷ [])) ∷ t0

    abbrev t2 : Trace
    t2 = silent (Ask.Get Kind.Snapshot ns) (Say.Bytes snapshot) ∷ t1

    abbrev t3 : Trace
    t3 = silent (Ask.List Kind.Index None) (Say.Names false (ni ∷ [])) ∷ t2

    abbrev t4 : Trace
    t4 = silent (Ask.Get Kind.Index ni) (Say.Bytes index) ∷ t3

    abbrev t5 : Trace
    t5 = silent (Ask.List Kind.Pack None) (Say.Names false (np ∷ [])) ∷ t4

    abbrev t6 : Trace
    t6 = silent (Ask.Range fact.place.pack fact.place.offset fact.place.length) (Say.Bytes (tree_text [])) ∷ t5

    abbrev t7 : Trace
    t7 = silent (Ask.Put token Kind.Index ni index) Say.Done ∷ t6

    abbrev all : Trace
    all = silent (Ask.Unlock token) Say.Done ∷ t7

    works_0 : IsWorking task token t0
    works_0 = opened_working task token config texts.read texts.configured (let first = texts.first in omega (arith, first))

    works_1 : IsWorking task token t1
    works_1 = working_more task token (silent (Ask.List Kind.Snapshot None) (Say.Names false (ns ∷ []))) t0 works_0 (names_no_dead false (ns ∷ [])) (λ t h. absurd (cc))

    works_2 : IsWorking task token t2
    works_2 = working_more task token (silent (Ask.Get Kind.Snapshot ns) (Say.Bytes snapshot)) t1 works_1 (bytes_no_dead snapshot) (λ t h. absurd (cc))

    works_3 : IsWorking task token t3
    works_3 = working_more task token (silent (Ask.List Kind.Index None) (Say.Names false (ni ∷ []))) t2 works_2 (names_no_dead false (ni ∷ [])) (λ t h. absurd (cc))

    works_4 : IsWorking task token t4
    works_4 = working_more task token (silent (Ask.Get Kind.Index ni) (Say.Bytes index)) t3 works_3 (bytes_no_dead index) (λ t h. absurd (cc))

    works_5 : IsWorking task token t5
    works_5 = working_more task token (silent (Ask.List Kind.Pack None) (Say.Names false (np ∷ []))) t4 works_4 (names_no_dead false (np ∷ [])) (λ t h. absurd (cc))

    works_6 : IsWorking task token t6
    works_6 = working_more task token (silent (Ask.Range fact.place.pack fact.place.offset fact.place.length) (Say.Bytes (tree_text []))) t5 works_5 (bytes_no_dead (tree_text [])) (λ t h. absurd (cc))

    works_7 : IsWorking task token t7
    works_7 = working_more task token (silent (Ask.Put token Kind.Index ni index) Say.Done) t6 works_6 backup.done_no_dead (λ t h. absurd (cc))

    -- ---- no page lacks names and is followed by another

    no_more_names : (more : List Name) (x : Name) → Say.Names false (x ∷ more) ≡ Say.Names true [] → ⊥
    no_more_names more x h = absurd (cc)

    no_page : (k : Kind) (after : Option Name) → Exchanged t7 (Ask.List k after) (Say.Names true []) → ⊥
    no_page k after (inl h) = let q = h.0 in absurd (cc)
    no_page k after (inr (inl h)) = let q = h.0 in absurd (cc)
    no_page k after (inr (inr (inl h))) = no_more_names [] np h.1
    no_page k after (inr (inr (inr (inl h)))) = let q = h.0 in absurd (cc)
    no_page k after (inr (inr (inr (inr (inl h))))) = no_more_names [] ni h.1
    no_page k after (inr (inr (inr (inr (inr (inl h)))))) = let q = h.0 in absurd (cc)
    no_page k after (inr (inr (inr (inr (inr (inr (inl h))))))) = no_more_names [] ns h.1
    no_page k after (inr (inr (inr (inr (inr (inr (inr (inl h)))))))) = let q = h.0 in absurd (cc)
    no_page k after (inr (inr (inr (inr (inr (inr (inr (inr (inl h))))))))) = let q = h.0 in absurd (cc)
    no_page k after (inr (inr (inr (inr (inr (inr (inr (inr (inr (inl h)))))))))) = let q = h.0 in absurd (cc)
    no_page k after (inr (inr (inr (inr (inr (inr (inr (inr (inr (inr h)))))))))) = h

    -- ---- what was read

    read_fact : (es : Trace) (f : Fact) → Contains texts.facts f → Exchanged es (Ask.Get Kind.Index ni) (Say.Bytes index) → ReadFact es f
    read_fact es f c h = record { index = ni; text = index; read = (h, refl); says = says f c }

    got_bytes : (i : Name) (x : List ℕ) → Exchanged t6 (Ask.Get Kind.Index i) (Say.Bytes x) → x ≡ index
    got_bytes i x (inl h) = let q = h.0 in absurd (cc)
    got_bytes i x (inr (inl h)) = let q = h.0 in absurd (cc)
    got_bytes i x (inr (inr (inl h))) = let q : Say.Bytes index ≡ Say.Bytes x = h.1 in let e : index ≡ x = cc in sym e
    got_bytes i x (inr (inr (inr (inl h)))) = let q = h.0 in absurd (cc)
    got_bytes i x (inr (inr (inr (inr (inl h))))) = let q = h.0 in absurd (cc)
    got_bytes i x (inr (inr (inr (inr (inr (inl h)))))) = let q = h.0 in absurd (cc)
    got_bytes i x (inr (inr (inr (inr (inr (inr (inl h))))))) = let q = h.0 in absurd (cc)
    got_bytes i x (inr (inr (inr (inr (inr (inr (inr (inl h)))))))) = let q = h.0 in absurd (cc)
    got_bytes i x (inr (inr (inr (inr (inr (inr (inr (inr (inl h))))))))) = let q = h.0 in absurd (cc)
    got_bytes i x (inr (inr (inr (inr (inr (inr (inr (inr (inr h))))))))) = absurd h

    -- the pack is kept
    kept : IsKeptPack t6 listed
    kept f = (
      λ c. (read_fact t6 f c (inr (inr (inl (refl, refl)))), fact_of_listed index (listed ∷ []) listed f texts.indexed (first_contained listed []) c),
      λ r.
          let x : r.0.text ≡ index = got_bytes r.0.index r.0.text r.0.read.0 in
          let packs : r.0.says.packs ≡ listed ∷ [] = index_texts_one index r.0.says.packs (listed ∷ []) (subst (λ y. IsIndexText y r.0.says.packs) x r.0.says.text) texts.indexed in
          facts_back f (subst (λ (ps : List PackFacts). Contains (facts_in ps) f) packs r.0.says.among),
    )

    index_lists : IsIndexOf (IsPutOrKept t6) index
    index_lists = record {
      packs = listed ∷ [];
      reads = texts.indexed;
      some = λ none. omega (arith, ap length none);
      each = λ p c. inr (subst (λ (q : PackFacts). IsKeptPack t6 q) (only listed p c) kept);
    }

    obeys : Obeys task (Owes Job.Prune) GivesAny all
    obeys = (
      holds_of task token t7 works_7,
      (λ x. absurd x),
      inl refl,
      (
        (works_6, refl, texts.index_short),
        (λ x. (nothing_deleted t6 (λ k. refl), index_lists)),
        inl refl,
        (
          ((token, works_5), (fact, read_fact t5 fact fact_here (inr (inl (refl, refl))), refl, refl, refl)),
          (λ x. tt),
          inl refl,
          (
            ((token, works_4), record { rise = record { ascend = tt; moves = λ after h. no_page Kind.Pack after (inr (inr (inr h))) }; incomplete = refl; last = refl }),
            (λ x. tt),
            inl refl,
            (
              ((token, works_3), inl (record { ascend = (tt, tt); moves = λ after h. no_page Kind.Index after (inr (inr (inr (inr h)))) }, inl refl)),
              (λ x. tt),
              inl refl,
              (
                ((token, works_2), record { rise = record { ascend = tt; moves = λ after h. no_page Kind.Index after (inr (inr (inr (inr (inr h))))) }; incomplete = refl; last = refl }),
                (λ x. tt),
                inl refl,
                (
                  ((token, works_1), inl (record { ascend = (tt, tt); moves = λ after h. no_page Kind.Snapshot after (inr (inr (inr (inr (inr (inr h)))))) }, inl refl)),
                  (λ x. tt),
                  inl refl,
                  (
                    ((token, works_0), first_page task token config Kind.Snapshot),
                    (λ x. tt),
                    inl refl,
                    ((token, refl), (λ x. absurd x), inl refl, ((token, refl, refl), (λ x. absurd x), inl refl, (refl, (λ x. absurd x), inl refl, tt))),
                  ),
                ),
              ),
            ),
          ),
        ),
      ),
    )

    dutiful : IsDutiful (ended (length w.clients) Job.Prune host time all (Some (Outcome.Pruned 0 0)))
    dutiful = record {
      obeys = obeys;
      pending = λ r h. absurd (none-some r h);
      concluded = λ o e. subst (λ x. Tells Job.Prune all x) (same_Some (Outcome.Pruned 0 0) o e) tt;
    }

    -- ---- the store's steps

    abbrev objects : Objects
    objects = from.objects

    abbrev tokens : Tokens
    tokens = granted (issued from.tokens) (lock_row task token)

    abbrev store_of : Tokens → Store
    store_of l = record { config = Some config; objects = objects; tokens = l; append_only = false }

    snapshot_there : objects Kind.Snapshot ns ≡ Some snapshot
    snapshot_there = there_now (backup.with_index host time config pack index snapshot limits texts) Kind.Snapshot ns snapshot

    index_there : objects Kind.Index ni ≡ Some index
    index_there = there_now (backup.with_pack host time config pack index snapshot limits texts) Kind.Index ni index

    pack_there : objects Kind.Pack np ≡ Some pack
    pack_there = there_now (backup.first_objects host time config pack index snapshot limits texts) Kind.Pack np pack

    get_step : (k : Kind) (n : Name) (x : List ℕ) → length x ≤ object_limit k → objects k n ≡ Some x → Step (store_of tokens) (Ask.Get k n) (Say.Bytes x) (store_of tokens)
    get_step k n x short there = inl (subst (λ o. GetSays (object_limit k) o (Say.Bytes x)) (sym there) (inl (short, refl)), refl)

    page_of : (k : Kind) (n : Name) (x : List ℕ) → objects k n ≡ Some x → ((m : Name) (y : List ℕ) → objects k m ≡ Some y → m ≡ n) → IsPage objects k None page_limit (n ∷ []) false
    page_of k n x there one = record {
      ascends = (tt, tt);
      few = lit≤ tt;
      there = λ m h. ⊎_elim (λ e. (x, ap (λ i. objects k i) e ∙ there)) (λ none. absurd none) h;
      least = λ m y h above. inl (inl (one m y h));
      follow = λ q. absurd (cc);
    }

    only_here : (x : List ℕ) (m n : Name) (b : Bool) (y : List ℕ) → is_eq (name_cmp m n) ≡ b → cond b (Some x) None ≡ Some y → m ≡ n
    only_here x m n true y e h = same_name m n e
    only_here x m n false y e h = absurd (none-some y h)

    list_step : (k : Kind) (n : Name) → IsPage objects k None page_limit (n ∷ []) false → Step (store_of tokens) (Ask.List k None) (Say.Names false (n ∷ [])) (store_of tokens)
    list_step k n page = inl (n ∷ [], false, page, refl, refl)

    range_step : Step (store_of tokens) (Ask.Range fact.place.pack fact.place.offset fact.place.length) (Say.Bytes (tree_text [])) (store_of tokens)
    range_step = inl (inr ((texts.packed.pack.each 0 empty_tree (lit≤ tt)).0, (Slice.Found (tree_text []), (pack, pack_there, range_is pack (empty_tree ∷ []) 0 empty_tree texts.packed.pack refl), refl), refl))

    put_step : Step (store_of tokens) (Ask.Put token Kind.Index ni index) Say.Done (store_of tokens)
    put_step = inl (inr (inr (inr (texts.index_short, (λ q. none-some true (sym q)), refl, refl, (record { kept = λ k n x h. h; only = λ k n x h. inl h; here = (index, index_there) }, refl, refl, refl)))))

    steps : Stepped w Job.Prune host time tt limits w.store all (store_of (unlocked tokens token))
    steps = (
      store_of tokens,
      (
        store_of tokens,
        (
          store_of tokens,
          (
            store_of tokens,
            (
              store_of tokens,
              (
                store_of tokens,
                (
                  store_of tokens,
                  (
                    store_of tokens,
                    (
                      store_of tokens,
                      (
                        store_of (issued from.tokens),
                        (from, sym same, inl (record { result = Ok token; tokens = issued from.tokens; step = (omega arith, refl, refl); says = refl; saves = (refl, refl, refl, refl) })),
                        inl (record { result = Ok Grant.New; tokens = tokens; step = ((refl, refl, refl, omega arith), refl); says = refl; saves = (refl, refl, refl, refl) }),
                      ),
                      inl (inl (texts.config_short, refl), refl),
                    ),
                    list_step Kind.Snapshot ns (page_of Kind.Snapshot ns snapshot snapshot_there (λ m y h. only_here snapshot m ns (is_eq (name_cmp m ns)) y refl h)),
                  ),
                  get_step Kind.Snapshot ns snapshot texts.snapshot_short snapshot_there,
                ),
                list_step Kind.Index ni (page_of Kind.Index ni index index_there (λ m y h. only_here index m ni (is_eq (name_cmp m ni)) y refl h)),
              ),
              get_step Kind.Index ni index texts.index_short index_there,
            ),
            list_step Kind.Pack np (page_of Kind.Pack np pack pack_there (λ m y h. only_here pack m np (is_eq (name_cmp m np)) y refl h)),
          ),
          range_step,
        ),
        put_step,
      ),
      inl (record { result = true; tokens = unlocked tokens token; step = (refl, refl); says = refl; saves = (refl, refl, refl, refl) }),
    )

  -- ---- after the backup

  abbrev pruner : (w : World) → w.store ≡ from → Client
  pruner w same = ended (length w.clients) Job.Prune host time (all w same) (Some (Outcome.Pruned 0 0))

  abbrev backer : Client
  backer = backup.backer host time config pack index snapshot limits texts

  all_few : (w : World) (same : w.store ≡ from) → ExchangesFew config pack index snapshot (all w same)
  all_few w same =
      let few = few_config config pack index snapshot in
      let of_index = few_index config pack index snapshot in
      (tt, tt, (of_index, tt, (tt, few_tree config pack index snapshot, (tt, tt, (tt, of_index, (tt, tt, (tt, few_snapshot config pack index snapshot, (tt, tt, (tt, few, (tt, tt, (tt, tt, tt)))))))))))

  after : (w : World) (events : List Event) → Run (beginning (configured config)) events w → (same : w.store ≡ from) → w.clients ≡ backer ∷ [] → IsQuiet config pack index snapshot w → IsTidied config pack index snapshot
  after w events run same one quiet =
      let second = finished w Job.Prune host time tt limits (silent (Ask.Unlock token) Say.Done) (t7 w same) (store_of w same (unlocked (tokens w same) token)) (Outcome.Pruned 0 0) (steps w same) (refl, (refl, (refl, (refl, (refl, (refl, (refl, (refl, (refl, (refl, (refl, tt))))))))))) (dutiful w same) in
      record {
        backup = backup.backed_up_at host time config pack index snapshot limits texts w events run same one quiet;
        more = second.0;
        last = _;
        run = second.1;
        reported = ap (λ (cs : List Client). (client_at (cs ++ pruner w same ∷ []) 0).outcome) one;
        prunes = ap (λ (cs : List Client). (client_at (cs ++ pruner w same ∷ []) 1).job) one;
        pruned = ap (λ (cs : List Client). (client_at (cs ++ pruner w same ∷ []) 1).outcome) one;
        again = subst (λ (es : Trace). PutDone es Kind.Index ni index) (sym (ap (λ (cs : List Client). (client_at (cs ++ pruner w same ∷ []) 1).trace) one)) (token, inr (inl (refl, refl)));
        kept = (pack_there w same, index_there w same, snapshot_there w same);
        calm = λ apart. calm config pack index snapshot host time texts apart _ (quiet_more config pack index snapshot w (pruner w same) (all w same) (store_of w same (unlocked (tokens w same) token)) quiet (all_few w same) (λ x none. absurd none));
      }

  tidied : IsTidied config pack index snapshot
  tidied =
      let first = finished (beginning (configured config)) (Job.Backup []) host time tt limits (silent (Ask.Unlock backup.token) Say.Done) (backup.storing host time config pack index snapshot limits texts) from (stored snapshot)
      (backup.steps host time config pack index snapshot limits texts) (backup.all_unfed host time config pack index snapshot limits texts) (backup.dutiful host time config pack index snapshot limits texts) in
      after _ first.0 first.1 refl refl (backup.quiet host time config pack index snapshot limits texts)

pub prune_is_a_run : PruneIsARun
prune_is_a_run host time config pack index snapshot limits texts = tidied host time config pack index snapshot limits texts
