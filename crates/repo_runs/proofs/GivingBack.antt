-- A restore of what the backup stored is a run.
use Rattle.std.proofs.Common.{◌≡◌, ◌<◌, ◌≤◌, ◌^◌, lit≤, inl, inr, ⊎_elim, ℕ, Bool, true, false, cond, ◌∷◌, ◌++◌, [], List, length, refl, sym, ◌∙◌, ap, subst, Option, Some, None, arith, Ok}
use Rattle.std.specs.Ordering.{is_eq}
use Rattle.std.proofs.lemmas.Option.{none-some, same_Some}
use Rattle.repo_name.specs.Naming as naming
use Rattle.repo_name.specs.Naming.{name_cmp}
use Rattle.repo_name.specs.Rows.{IsHost}
use Rattle.repo_name.specs.declared.kinds.BlobKind.TheVariants.{Tree}
use Rattle.repo_name.specs.declared.kinds.Kind.{Kind}
use Rattle.repo_name.specs.declared.names.Name.{Name}
use Rattle.repo_name.specs.declared.tokens.Token.{Token}
use Rattle.repo_name.proofs.NameMaps.{same_name}
use Rattle.repo_wire.specs.declared.messages.Ask.{Ask}
use Rattle.repo_wire.specs.declared.messages.Code.{Code}
use Rattle.repo_wire.specs.declared.messages.Say.{Say}
use Rattle.repo_wire.specs.Messages.{page_limit}
use Rattle.repo_locks.specs.declared.outcomes.Grant.{Grant}
use Rattle.repo_locks.specs.TokenMachine.{issued, granted, unlocked, Tokens}
use Rattle.repo_pack.proofs.Offsets.{range_is}
use Rattle.repo_index.specs.declared.facts.Fact.{Fact}
use Rattle.repo_index.specs.declared.facts.PackFacts.{PackFacts}
use Rattle.repo_index.specs.Exactness.{fact_at}
use Rattle.repo_index.specs.IndexText.{Says}
use Rattle.repo_index.proofs.ExactLemmas.{fact_there}
use Rattle.repo_tree.specs.TreeWriting.{tree_text}
use Rattle.repo_tree.proofs.SpellingLemmas.{empty_spelled}
use Rattle.repo_store.specs.declared.shelves.Slice.{Slice}
use Rattle.repo_store.specs.Pages.{IsPage}
use Rattle.repo_store.specs.StoreMachine.{Step, object_limit, GetSays}
use Rattle.repo_store.specs.Stores.{Store, Objects}
use Rattle.repo_session.specs.declared.versions.Versions.{Versions}
use Rattle.repo_session.specs.Askers.{asker}
use Rattle.repo_session.specs.Order.{Task, IsWorking, Obeys, opened, lock_row}
use Rattle.repo_session.specs.Received.{Received}
use Rattle.repo_session.specs.Traces.{Trace, Exchanged, ReadFact, silent}
use Rattle.repo_session.specs.declared.outcomes.Outcome.{Outcome}
use Rattle.repo_name.proofs.Containing.{first_contained, contains_flat}
use Rattle.repo_session.proofs.Holding.{working_more, holds_of, opened_working}
use Rattle.repo_runs.specs.Backed.{configured, empty_tree, snapshot_of, AreTexts, stored, IsGivenBack, RestoreIsARun}
use Rattle.repo_world.specs.Clients.{Client, task_of}
use Rattle.repo_world.specs.Duties.{GivesAny, HasGivenBack, IsDutiful, Owes, Tells}
use Rattle.repo_world.specs.Events.{Run}
use Rattle.repo_runs.specs.Lone.{ended}
use Rattle.repo_world.specs.World.{World, client_at, beginning, instance_of}
use Rattle.repo_runs.proofs.Backing as backup
use Rattle.repo_runs.proofs.Backing.{there_now}
use Rattle.repo_runs.proofs.Calming.{ExchangesFew, IsQuiet, quiet_more, few_config, few_index, few_snapshot, few_tree, calm}
use Rattle.repo_runs.proofs.Joining.{Stepped, finished}
use Rattle.repo_world.specs.declared.jobs.Job.{Job}
use Rattle.repo_world.specs.declared.events.Event.{Event}

pub bytes_no_dead : (x : List ℕ) → Say.Bytes x ≡ Say.Refused Code.Dead → ⊥
bytes_no_dead x h = absurd (cc)

pub names_no_dead : (more : Bool) (names : List Name) → Say.Names more names ≡ Say.Refused Code.Dead → ⊥
names_no_dead more names h = absurd (cc)

-- the second token
abbrev pub token : Token
token = record { 0 = 2 }

module _ (host : List ℕ) (time : ℕ) (config pack index snapshot : List ℕ) (limits : (time < 2 ^ 64) × IsHost host) (texts : AreTexts host time config pack index snapshot) where
  abbrev np : Name
  np = naming.name pack

  abbrev ni : Name
  ni = naming.name index

  abbrev ns : Name
  ns = naming.name snapshot

  -- the place of the tree
  abbrev fact : Fact
  fact = fact_at (naming.name pack) (empty_tree ∷ []) 0 empty_tree

  says : Says index fact
  says = record {
    packs = record { pack = naming.name pack; facts = texts.facts } ∷ [];
    text = texts.indexed;
    among = contains_flat (λ (p : PackFacts). p.facts) (record { pack = naming.name pack; facts = texts.facts } ∷ []) (record { pack = naming.name pack; facts = texts.facts }) fact
        (first_contained (record { pack = naming.name pack; facts = texts.facts }) []) (fact_there (naming.name pack) (empty_tree ∷ []) texts.facts 0 empty_tree texts.exact refl);
  }

  abbrev from : Store
  from = backup.last_store host time config pack index snapshot limits texts

  -- ---- over a world with that store, as its next client

  module _ (w : World) (same : w.store ≡ from) where
    abbrev task : Task
    task = task_of (Job.Restore ns) (asker (instance_of (length w.clients)) host time Versions.Both)

    abbrev opening : Trace
    opening = opened task token config

    abbrev getting : Trace
    getting = silent (Ask.Get Kind.Snapshot ns) (Say.Bytes snapshot) ∷ opening

    abbrev listing : Trace
    listing = silent (Ask.List Kind.Index None) (Say.Names false (ni ∷ [])) ∷ getting

    abbrev reading : Trace
    reading = silent (Ask.Get Kind.Index ni) (Say.Bytes index) ∷ listing

    abbrev walking : Trace
    walking = silent (Ask.Range fact.place.pack fact.place.offset fact.place.length) (Say.Bytes (tree_text [])) ∷ reading

    abbrev all : Trace
    all = silent (Ask.Unlock token) Say.Done ∷ walking

    works_0 : IsWorking task token opening
    works_0 = opened_working task token config texts.read texts.configured (let first = texts.first in omega (arith, first))

    works_1 : IsWorking task token getting
    works_1 = working_more task token (silent (Ask.Get Kind.Snapshot ns) (Say.Bytes snapshot)) opening works_0 (bytes_no_dead snapshot) (λ t h. absurd (cc))

    works_2 : IsWorking task token listing
    works_2 = working_more task token (silent (Ask.List Kind.Index None) (Say.Names false (ni ∷ []))) getting works_1 (names_no_dead false (ni ∷ [])) (λ t h. absurd (cc))

    works_3 : IsWorking task token reading
    works_3 = working_more task token (silent (Ask.Get Kind.Index ni) (Say.Bytes index)) listing works_2 (bytes_no_dead index) (λ t h. absurd (cc))

    works_4 : IsWorking task token walking
    works_4 = working_more task token (silent (Ask.Range fact.place.pack fact.place.offset fact.place.length) (Say.Bytes (tree_text []))) reading works_3 (bytes_no_dead (tree_text [])) (λ t h. absurd (cc))

    no_page : (after : Option Name) → Exchanged getting (Ask.List Kind.Index after) (Say.Names true []) → ⊥
    no_page after (inl h) = let q = h.0 in absurd (cc)
    no_page after (inr (inl h)) = let q = h.0 in absurd (cc)
    no_page after (inr (inr (inl h))) = let q = h.0 in absurd (cc)
    no_page after (inr (inr (inr (inl h)))) = let q = h.0 in absurd (cc)
    no_page after (inr (inr (inr (inr h)))) = h

    no_page_more : (after : Option Name) → Exchanged listing (Ask.List Kind.Index after) (Say.Names true []) → ⊥
    no_page_more after (inl h) = let q : Say.Names false (ni ∷ []) ≡ Say.Names true [] = h.1 in absurd (cc)
    no_page_more after (inr h) = no_page after h

    read_fact : (es : Trace) → Exchanged es (Ask.Get Kind.Index ni) (Say.Bytes index) → ReadFact es fact
    read_fact es h = record { index = ni; text = index; read = (h, refl); says = says }

    obeys : Obeys task (Owes (Job.Restore ns)) GivesAny all
    obeys = (
      holds_of task token walking works_4,
      (λ x. absurd x),
      inl refl,
      (
        ((token, works_3), (fact, read_fact reading (inl (refl, refl)), refl, refl, refl)),
        (λ x. tt),
        inl refl,
        (
          ((token, works_2), inl (record { ascend = (tt, tt); moves = no_page_more }, inl refl)),
          (λ x. tt),
          inl refl,
          (
            ((token, works_1), record { rise = record { ascend = tt; moves = no_page }; incomplete = refl; last = refl }),
            (λ x. tt),
            inl refl,
            (
              ((token, works_0), inr (refl, refl)),
              (λ x. tt),
              inl refl,
              ((token, refl), (λ x. absurd x), inl refl, ((token, refl, refl), (λ x. absurd x), inl refl, (refl, (λ x. absurd x), inl refl, tt))),
            ),
          ),
        ),
      ),
    )

    tree_received : Received all Tree (tree_text [])
    tree_received = record { fact = fact; given = read_fact all (inr (inr (inl (refl, refl)))); of_kind = refl; replied = inr (inl (refl, refl)); long = refl; named = refl }

    given_back : HasGivenBack all ns
    given_back = record {
      version = 1;
      root = naming.name (tree_text []);
      found = (snapshot, snapshot_of host time, (inr (inr (inr (inr (inl (refl, refl))))), refl), texts.reads, refl, refl);
      spells = empty_spelled 1 (Received all) (naming.name (tree_text [])) [] (record { text = tree_text []; among = tree_received; named = refl; reads = texts.empty });
      whole = refl;
    }

    dutiful : IsDutiful (ended (length w.clients) (Job.Restore ns) host time all (Some (Outcome.Complete 0)))
    dutiful = record {
      obeys = obeys;
      pending = λ r h. absurd (none-some r h);
      concluded = λ o e. subst (λ x. Tells (Job.Restore ns) all x) (same_Some (Outcome.Complete 0) o e) given_back;
    }

    -- ---- the store's steps

    abbrev objects : Objects
    objects = from.objects

    abbrev tokens : Tokens
    tokens = granted (issued from.tokens) (lock_row task token)

    abbrev store_of : Tokens → Store
    store_of l = record { config = Some config; objects = objects; tokens = l; append_only = false }

    snapshot_there : objects Kind.Snapshot ns ≡ Some snapshot
    snapshot_there = there_now (backup.with_index host time config pack index snapshot limits texts) Kind.Snapshot ns snapshot

    index_there : objects Kind.Index ni ≡ Some index
    index_there = there_now (backup.with_pack host time config pack index snapshot limits texts) Kind.Index ni index

    pack_there : objects Kind.Pack np ≡ Some pack
    pack_there = there_now (backup.first_objects host time config pack index snapshot limits texts) Kind.Pack np pack

    get_step : (k : Kind) (n : Name) (x : List ℕ) → length x ≤ object_limit k → objects k n ≡ Some x → Step (store_of tokens) (Ask.Get k n) (Say.Bytes x) (store_of tokens)
    get_step k n x short there = inl (subst (λ o. GetSays (object_limit k) o (Say.Bytes x)) (sym there) (inl (short, refl)), refl)

    only_index : (n : Name) (b : Bool) (x : List ℕ) → is_eq (name_cmp n ni) ≡ b → cond b (Some index) None ≡ Some x → n ≡ ni
    only_index n true x e h = same_name n ni e
    only_index n false x e h = absurd (none-some x h)

    page : IsPage objects Kind.Index None page_limit (ni ∷ []) false
    page = record {
      ascends = (tt, tt);
      few = lit≤ tt;
      there = λ n h. ⊎_elim (λ e. (index, ap (λ m. objects Kind.Index m) e ∙ index_there)) (λ none. absurd none) h;
      least = λ n x h above. inl (inl (only_index n (is_eq (name_cmp n ni)) x refl h));
      follow = λ q. absurd (cc);
    }

    list_step : Step (store_of tokens) (Ask.List Kind.Index None) (Say.Names false (ni ∷ [])) (store_of tokens)
    list_step = inl (ni ∷ [], false, page, refl, refl)

    range_step : Step (store_of tokens) (Ask.Range fact.place.pack fact.place.offset fact.place.length) (Say.Bytes (tree_text [])) (store_of tokens)
    range_step = inl (inr ((texts.packed.pack.each 0 empty_tree (lit≤ tt)).0, (Slice.Found (tree_text []), (pack, pack_there, range_is pack (empty_tree ∷ []) 0 empty_tree texts.packed.pack refl), refl), refl))

    steps : Stepped w (Job.Restore ns) host time tt limits w.store all (store_of (unlocked tokens token))
    steps = (
      store_of tokens,
      (
        store_of tokens,
        (
          store_of tokens,
          (
            store_of tokens,
            (
              store_of tokens,
              (
                store_of tokens,
                (
                  store_of (issued from.tokens),
                  (from, sym same, inl (record { result = Ok token; tokens = issued from.tokens; step = (omega arith, refl, refl); says = refl; saves = (refl, refl, refl, refl) })),
                  inl (record { result = Ok Grant.New; tokens = tokens; step = ((refl, refl, refl, omega arith), refl); says = refl; saves = (refl, refl, refl, refl) }),
                ),
                inl (inl (texts.config_short, refl), refl),
              ),
              get_step Kind.Snapshot ns snapshot texts.snapshot_short snapshot_there,
            ),
            list_step,
          ),
          get_step Kind.Index ni index texts.index_short index_there,
        ),
        range_step,
      ),
      inl (record { result = true; tokens = unlocked tokens token; step = (refl, refl); says = refl; saves = (refl, refl, refl, refl) }),
    )

  -- ---- after the backup

  abbrev restorer : (w : World) → w.store ≡ from → Client
  restorer w same = ended (length w.clients) (Job.Restore ns) host time (all w same) (Some (Outcome.Complete 0))

  abbrev backer : Client
  backer = backup.backer host time config pack index snapshot limits texts

  all_few : (w : World) (same : w.store ≡ from) → ExchangesFew config pack index snapshot (all w same)
  all_few w same =
      let few = few_config config pack index snapshot in
      (tt, tt, (tt, few_tree config pack index snapshot, (tt, few_index config pack index snapshot, (tt, tt, (tt, few_snapshot config pack index snapshot, (tt, few, (tt, tt, (tt, tt, tt))))))))

  after : (w : World) (events : List Event) → Run (beginning (configured config)) events w → (same : w.store ≡ from) → w.clients ≡ backer ∷ [] → IsQuiet config pack index snapshot w → IsGivenBack config pack index snapshot
  after w events run same one quiet =
      let second = finished w (Job.Restore ns) host time tt limits (silent (Ask.Unlock token) Say.Done) (walking w same) (store_of w same (unlocked (tokens w same) token)) (Outcome.Complete 0) (steps w same) (refl, (refl, (refl, (refl, (refl, (refl, (refl, (refl, tt)))))))) (dutiful w same) in
      record {
        backup = backup.backed_up_at host time config pack index snapshot limits texts w events run same one quiet;
        more = second.0;
        last = _;
        run = second.1;
        reported = ap (λ (cs : List Client). (client_at (cs ++ restorer w same ∷ []) 0).outcome) one;
        restores = ap (λ (cs : List Client). (client_at (cs ++ restorer w same ∷ []) 1).job) one;
        complete = ap (λ (cs : List Client). (client_at (cs ++ restorer w same ∷ []) 1).outcome) one;
        calm = λ apart. calm config pack index snapshot host time texts apart _ (quiet_more config pack index snapshot w (restorer w same) (all w same) (store_of w same (unlocked (tokens w same) token)) quiet (all_few w same) (λ x none. absurd none));
      }

  restored : IsGivenBack config pack index snapshot
  restored =
      let first = finished (beginning (configured config)) (Job.Backup []) host time tt limits (silent (Ask.Unlock backup.token) Say.Done) (backup.storing host time config pack index snapshot limits texts) from (stored snapshot)
      (backup.steps host time config pack index snapshot limits texts) (backup.all_unfed host time config pack index snapshot limits texts) (backup.dutiful host time config pack index snapshot limits texts) in
      after _ first.0 first.1 refl refl (backup.quiet host time config pack index snapshot limits texts)

pub restore_is_a_run : RestoreIsARun
restore_is_a_run host time config pack index snapshot limits texts = restored host time config pack index snapshot limits texts
