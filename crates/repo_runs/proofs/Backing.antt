-- A backup of an empty folder is a run.
use Rattle.std.proofs.Common.{◌≡◌, ◌⊎◌, ◌<◌, ◌≤◌, ◌^◌, ◌&&◌, lit≤, inl, inr, ⊎_elim, ℕ, Bool, true, false, cond, ◌∷◌, ◌++◌, [], List, length, refl, sym, ◌∙◌, ap, subst, Some, None, arith, Ok, Contains}
use Rattle.std.specs.declared.cmp.Ordering.{Ordering}
use Rattle.std.specs.declared.cmp.Ordering.TheVariants.{Less, Equal, Greater}
use Rattle.std.specs.Cmp.Lexicographic.{nat_list_cmp_total}
use Rattle.std.specs.Ordering.{is_eq, ordering_reverse}
use Rattle.std.proofs.lemmas.Option.{none-some, same_Some}
use Rattle.repo_name.specs.Naming as naming
use Rattle.repo_name.specs.Naming.{name_cmp}
use Rattle.repo_name.specs.Rows.{IsHost}
use Rattle.repo_name.specs.declared.kinds.BlobKind.TheVariants.{Tree}
use Rattle.repo_name.specs.declared.kinds.Kind.{Kind}
use Rattle.repo_name.specs.declared.names.Name.{Name}
use Rattle.repo_name.specs.declared.tokens.Token.{Token}
use Rattle.repo_name.proofs.NameMaps.{same_name}
use Rattle.repo_wire.specs.declared.messages.Ask.{Ask}
use Rattle.repo_wire.specs.declared.messages.Code.{Code}
use Rattle.repo_wire.specs.declared.messages.Say.{Say}
use Rattle.repo_locks.specs.declared.outcomes.Grant.{Grant}
use Rattle.repo_locks.specs.TokenMachine.{start, issued, granted, unlocked, Tokens}
use Rattle.repo_pack.specs.PackLayout.{Item, item_of}
use Rattle.repo_index.specs.declared.facts.Fact.{Fact}
use Rattle.repo_index.specs.declared.facts.PackFacts.{PackFacts}
use Rattle.repo_index.specs.Exactness.{fact_at}
use Rattle.repo_index.proofs.ExactLemmas.{fact_there}
use Rattle.repo_tree.specs.TreeWriting.{tree_text}
use Rattle.repo_tree.proofs.SpellingLemmas.{empty_spelled}
use Rattle.repo_store.specs.StoreMachine.{Step, object_limit}
use Rattle.repo_store.specs.Stores.{Store, Objects, Added}
use Rattle.repo_session.specs.declared.versions.Versions.{Versions}
use Rattle.repo_session.specs.Askers.{asker}
use Rattle.repo_session.specs.Order.{Task, IsWorking, Obeys, opened, lock_row}
use Rattle.repo_session.specs.Traces.{Trace, IsGiven, silent, same_kind}
use Rattle.repo_name.proofs.Containing.{none_contained, first_contained, contained_or, contains_flat}
use Rattle.repo_session.proofs.Holding.{working_more, holds_of, opened_working}
use Rattle.repo_session.proofs.Meeting.{first_page}
use Rattle.repo_session.proofs.Rolling.{same_self}
use Rattle.repo_session.proofs.Receiving.{kinds_same}
use Rattle.repo_writing.specs.Laws.{AreGiven, IsPutOrKept, blobs_in}
use Rattle.repo_writing.specs.Putting.{IsIndexOf, IsIndexed}
use Rattle.repo_backup.specs.Folders.{nothing}
use Rattle.repo_prune.proofs.PruneRuns.{nothing_deleted}
use Rattle.repo_runs.specs.Backed.{configured, empty_tree, snapshot_of, AreTexts, AreStored, stored, IsBackedUp, BackupIsARun}
use Rattle.repo_world.specs.Clients.{Client, task_of}
use Rattle.repo_world.specs.Duties.{GivesAny, IsDutiful, MayPutSnapshot, Owes, Tells}
use Rattle.repo_world.specs.Events.{Run}
use Rattle.repo_runs.specs.Lone.{ended}
use Rattle.repo_world.specs.World.{World, client_at, beginning, instance_of}
use Rattle.repo_runs.proofs.Calming.{empty_blobs, ExchangesFew, IsQuiet, quiet_first, quiet_more, backs_nothing, few_config, few_pack, few_index, few_snapshot, calm}
use Rattle.repo_runs.proofs.Joining.{AreUnfed, Stepped, finished, posts}
use Rattle.repo_world.specs.declared.jobs.Job.{Job}
use Rattle.repo_world.specs.declared.events.Event.{Event}

-- ---- objects that are put where nothing was

own_order : (o : Ordering) → o ≡ ordering_reverse o → o ≡ Equal
own_order Less h = absurd (cc)
own_order Equal h = refl
own_order Greater h = absurd (cc)

is_itself : (n : Name) → is_eq (name_cmp n n) ≡ true
is_itself n = ap is_eq (own_order (name_cmp n n) (nat_list_cmp_total.antisymm n.0 n.0))

-- it is this kind and this name
abbrev pub is_here : Kind → Name → Kind → Name → Bool
is_here k n j m = same_kind j k && is_eq (name_cmp m n)

abbrev pub with_object : Objects → Kind → Name → List ℕ → Objects
with_object old k n x = λ j m. cond (is_here k n j m) (Some x) (old j m)

and_both : (a b : Bool) → (a && b) ≡ true → (a ≡ true) × (b ≡ true)
and_both true b h = (refl, h)
and_both false b h = absurd (cc)

pub here_is : (k : Kind) (n : Name) (j : Kind) (m : Name) → is_here k n j m ≡ true → (j ≡ k) × (m ≡ n)
here_is k n j m h = let p = and_both (same_kind j k) (is_eq (name_cmp m n)) h in (kinds_same j k p.0, same_name m n p.1)

pub at_here : (k : Kind) (n : Name) → is_here k n k n ≡ true
at_here k n = ap (λ b. b && is_eq (name_cmp n n)) (same_self k) ∙ is_itself n

pub there_now : (old : Objects) (k : Kind) (n : Name) (x : List ℕ) → with_object old k n x k n ≡ Some x
there_now old k n x = ap (λ b. cond b (Some x) (old k n)) (at_here k n)

module _ (old : Objects) (k : Kind) (n : Name) (x : List ℕ) (free : old k n ≡ None) where
  added_by : (j : Kind) (m : Name) (b : Bool) → is_here k n j m ≡ b → (y : List ℕ) → (old j m ≡ Some y → cond b (Some x) (old j m) ≡ Some y) × (cond b (Some x) (old j m) ≡ Some y → (old j m ≡ Some y) ⊎ ((j ≡ k) × (m ≡ n) × (y ≡ x)))
  added_by j m true h y =
      let at = here_is k n j m h in (
        λ was. absurd (none-some y (sym free ∙ (ap (λ i. old i n) (sym at.0) ∙ (ap (λ i. old j i) (sym at.1) ∙ was)))),
        λ now. inr (at.0, at.1, sym (same_Some x y now)),
      )
  added_by j m false h y = ((λ was. was), (λ now. inl now))

  now_added : Added old k n x (with_object old k n x)
  now_added = record {
    kept = λ j m y was. (added_by j m (is_here k n j m) refl y).0 was;
    only = λ j m y now. (added_by j m (is_here k n j m) refl y).1 now;
    here = (x, there_now old k n x);
  }

-- ---- the backup

abbrev pub token : Token
token = record { 0 = 1 }

pub done_no_dead : Say.Done ≡ Say.Refused Code.Dead → ⊥
done_no_dead h = absurd (cc)

put_no_unlock : (t : Token) (k : Kind) (n : Name) (x : List ℕ) (u : Token) → Ask.Put t k n x ≡ Ask.Unlock u → ⊥
put_no_unlock t k n x u h = absurd (cc)

module _ (host : List ℕ) (time : ℕ) (config pack index snapshot : List ℕ) (limits : (time < 2 ^ 64) × IsHost host) (texts : AreTexts host time config pack index snapshot) where
  abbrev task : Task
  task = task_of (Job.Backup []) (asker (instance_of 0) host time Versions.Both)

  abbrev opening : Trace
  opening = opened (task_of (Job.Backup []) (asker (instance_of 0) host time Versions.Both)) token config

  abbrev listing : Trace
  listing = silent (Ask.List Kind.Index None) (Say.Names false []) ∷ opening

  abbrev packing : Trace
  packing = silent (Ask.Put token Kind.Pack (naming.name pack) pack) Say.Done ∷ listing

  abbrev indexing : Trace
  indexing = silent (Ask.Put token Kind.Index (naming.name index) index) Say.Done ∷ packing

  abbrev pub storing : Trace
  storing = silent (Ask.Put token Kind.Snapshot (naming.name snapshot) snapshot) Say.Done ∷ indexing

  abbrev pub all : Trace
  all = silent (Ask.Unlock token) Say.Done ∷ storing

  -- ---- it works

  works_0 : IsWorking task token opening
  works_0 = opened_working task token config texts.read texts.configured (let first = texts.first in omega (arith, first))

  works_1 : IsWorking task token listing
  works_1 = working_more task token (silent (Ask.List Kind.Index None) (Say.Names false [])) opening works_0 (λ h. absurd (cc)) (λ t h. absurd (cc))

  works_2 : IsWorking task token packing
  works_2 = working_more task token (silent (Ask.Put token Kind.Pack (naming.name pack) pack) Say.Done) listing works_1 done_no_dead (λ t h. put_no_unlock token Kind.Pack (naming.name pack) pack t h)

  works_3 : IsWorking task token indexing
  works_3 = working_more task token (silent (Ask.Put token Kind.Index (naming.name index) index) Say.Done) packing works_2 done_no_dead (λ t h. put_no_unlock token Kind.Index (naming.name index) index t h)

  works_4 : IsWorking task token storing
  works_4 = working_more task token (silent (Ask.Put token Kind.Snapshot (naming.name snapshot) snapshot) Say.Done) indexing works_3 done_no_dead (λ t h. put_no_unlock token Kind.Snapshot (naming.name snapshot) snapshot t h)

  -- ---- its puts

  index_lists : IsIndexOf (IsPutOrKept packing) index
  index_lists = record {
    packs = record { pack = naming.name pack; facts = texts.facts } ∷ [];
    reads = texts.indexed;
    some = λ none. omega (arith, ap length none);
    each = λ listed c. listed_is listed (contained_or (record { pack = naming.name pack; facts = texts.facts }) [] listed c);
  }
    where
      listed_is : (listed : PackFacts) → (record { pack = naming.name pack; facts = texts.facts } ≡ listed) ⊎ Contains [] listed → IsPutOrKept packing listed
      listed_is listed (inl same) = subst (λ (l : PackFacts). IsPutOrKept packing l) same (inl (record { bytes = pack; items = empty_tree ∷ []; put = (token, inl (refl, refl)); holds = texts.packed; exact = texts.exact }))
      listed_is listed (inr none) = absurd (none_contained listed none)

  tree_given : IsIndexed indexing Tree (naming.name (tree_text []))
  tree_given =
      let listed : PackFacts = record { pack = naming.name pack; facts = texts.facts } in
      let fact : Fact = fact_at (naming.name pack) (empty_tree ∷ []) 0 empty_tree in
      record {
        index = naming.name index;
        text = index;
        fact = fact_at (naming.name pack) (empty_tree ∷ []) 0 empty_tree;
        put = (token, inl (refl, refl));
        says = record {
          packs = record { pack = naming.name pack; facts = texts.facts } ∷ [];
          text = texts.indexed;
          among = contains_flat (λ (p : PackFacts). p.facts) (record { pack = naming.name pack; facts = texts.facts } ∷ []) (record { pack = naming.name pack; facts = texts.facts }) (fact_at (naming.name pack) (empty_tree ∷ []) 0 empty_tree)
              (first_contained (record { pack = naming.name pack; facts = texts.facts }) []) (fact_there (naming.name pack) (empty_tree ∷ []) texts.facts 0 empty_tree texts.exact refl);
        };
        kind = refl;
        name = refl;
      }

  given : AreGiven indexing (empty_tree ∷ [])
  given item c = ⊎_elim (λ same. subst (λ (i : Item). IsGiven indexing i.kind i.name ⊎ IsIndexed indexing i.kind i.name) same (inr tree_given)) (λ none. absurd (none_contained item none)) (contained_or empty_tree [] item c)

  snapshot_rule : MayPutSnapshot (Job.Backup []) indexing token snapshot
  snapshot_rule = record {
    snapshot = snapshot_of host time;
    reads = texts.reads;
    token_is = refl;
    row = lock_row task token;
    locked = inr (inr (inr (inr (inl (refl, refl)))));
    host_is = refl;
    time_is = refl;
    version_is = record { text = config; config = texts.read; read = inr (inr (inr (inl (refl, refl)))); reads = texts.configured; of_version = texts.first };
    entries = [];
    handed = refl;
    all = tt;
    items = empty_tree ∷ [];
    made = λ kind y c. record {
      folder = nothing;
      kind = kind;
      cut = record {
        text = config;
        config = texts.read;
        read = inr (inr (inr (inl (refl, refl))));
        reads = texts.configured;
        known = (let first = texts.first in omega (arith, first));
        cut = record { holds = refl; cut = tt };
      };
      among = subst (λ l. Contains l (item_of kind y)) (sym (empty_blobs texts.read.version)) c;
    };
    given = given;
    spells = empty_spelled 1 (blobs_in (empty_tree ∷ [])) (naming.name (tree_text [])) [] (record { text = tree_text []; among = first_contained empty_tree []; named = refl; reads = texts.empty });
  }

  obeys : Obeys task (Owes (Job.Backup [])) GivesAny all
  obeys = (
    holds_of task token storing works_4,
    (λ w. absurd w),
    inl refl,
    (
      (works_3, refl, texts.snapshot_short),
      (λ w. snapshot_rule),
      inl refl,
      (
        (works_2, refl, texts.index_short),
        (λ w. (nothing_deleted packing (λ k. refl), index_lists)),
        inl refl,
        (
          (works_1, refl, texts.pack_short),
          (λ w. (nothing_deleted listing (λ k. refl), (empty_tree ∷ [], texts.packed))),
          inl refl,
          (
            ((token, works_0), first_page task token config Kind.Index),
            (λ w. tt),
            inl refl,
            ((token, refl), (λ w. absurd w), inl refl, ((token, refl, refl), (λ w. absurd w), inl refl, (refl, (λ w. absurd w), inl refl, tt))),
          ),
        ),
      ),
    ),
  )

  pub dutiful : IsDutiful (ended 0 (Job.Backup []) host time all (Some (stored snapshot)))
  dutiful = record {
    obeys = obeys;
    pending = λ r h. absurd (none-some r h);
    concluded = λ o e. subst (λ x. Tells (Job.Backup []) all x) (same_Some (stored snapshot) o e) (snapshot, (token, inr (inl (refl, refl))));
  }

  -- ---- the store's steps

  abbrev pub first_objects : Objects
  first_objects = λ k n. None

  abbrev pub with_pack : Objects
  with_pack = with_object first_objects Kind.Pack (naming.name pack) pack

  abbrev pub with_index : Objects
  with_index = with_object with_pack Kind.Index (naming.name index) index

  abbrev pub with_snapshot : Objects
  with_snapshot = with_object with_index Kind.Snapshot (naming.name snapshot) snapshot

  abbrev pub tokens : Tokens
  tokens = granted (issued start) (lock_row task token)

  abbrev pub store_of : Objects → Tokens → Store
  store_of objects l = record { config = Some config; objects = objects; tokens = l; append_only = false }

  abbrev pub last_store : Store
  last_store = store_of with_snapshot (unlocked tokens token)

  put_step : (old : Objects) (k : Kind) (x : List ℕ) → length x ≤ object_limit k → old k (naming.name x) ≡ None → Step (store_of old tokens) (Ask.Put token k (naming.name x) x) Say.Done (store_of (with_object old k (naming.name x) x) tokens)
  put_step old k x short free = inl (inr (inr (inr (short, (λ q. none-some false (sym q)), refl, refl, (now_added old k (naming.name x) x free, refl, refl, refl)))))

  list_step : Step (store_of first_objects tokens) (Ask.List Kind.Index None) (Say.Names false []) (store_of first_objects tokens)
  list_step = inl ([], false, record { ascends = tt; few = lit≤ tt; there = λ n h. absurd h; least = λ n x h above. absurd (none-some x h); follow = λ q. absurd (cc) }, refl, refl)

  pub steps : Stepped (beginning (configured config)) (Job.Backup []) host time tt limits (configured config) all last_store
  steps = (
    store_of with_snapshot tokens,
    (
      store_of with_index tokens,
      (
        store_of with_pack tokens,
        (
          store_of first_objects tokens,
          (
            store_of first_objects tokens,
            (
              store_of first_objects tokens,
              (
                store_of first_objects (issued start),
                (configured config, refl, inl (record { result = Ok token; tokens = issued start; step = (omega arith, refl, refl); says = refl; saves = (refl, refl, refl, refl) })),
                inl (record { result = Ok Grant.New; tokens = tokens; step = ((refl, refl, refl, omega arith), refl); says = refl; saves = (refl, refl, refl, refl) }),
              ),
              inl (inl (texts.config_short, refl), refl),
            ),
            list_step,
          ),
          put_step first_objects Kind.Pack pack texts.pack_short refl,
        ),
        put_step with_pack Kind.Index index texts.index_short refl,
      ),
      put_step with_index Kind.Snapshot snapshot texts.snapshot_short refl,
    ),
    inl (record { result = true; tokens = unlocked tokens token; step = (refl, refl); says = refl; saves = (refl, refl, refl, refl) }),
  )

  pub all_unfed : AreUnfed all
  all_unfed = (refl, (refl, (refl, (refl, (refl, (refl, (refl, (refl, tt))))))))

  pub all_few : ExchangesFew config pack index snapshot all
  all_few =
      let few = few_config config pack index snapshot in
      (tt, tt, (few_snapshot config pack index snapshot, tt, (few_index config pack index snapshot, tt, (few_pack config pack index snapshot, tt, (tt, tt, (tt, few, (tt, tt, (tt, tt, tt))))))))

  pub quiet : IsQuiet config pack index snapshot (record { store = last_store; clients = ended 0 (Job.Backup []) host time all (Some (stored snapshot)) ∷ []; messages = posts 0 all ++ [] })
  quiet = quiet_more config pack index snapshot (beginning (configured config)) (ended 0 (Job.Backup []) host time all (Some (stored snapshot))) all last_store (quiet_first config pack index snapshot (beginning (configured config)) refl refl) all_few
      (backs_nothing config pack index snapshot (ended 0 (Job.Backup []) host time all (Some (stored snapshot))) refl)

  -- ---- where it leads

  abbrev pub backer : Client
  backer = ended 0 (Job.Backup []) host time all (Some (stored snapshot))

  pub last_stored : (w : World) → w.store ≡ last_store → AreStored w pack index snapshot
  last_stored w same = subst (λ (s : Store). (s.objects Kind.Pack (naming.name pack) ≡ Some pack) × (s.objects Kind.Index (naming.name index) ≡ Some index) × (s.objects Kind.Snapshot (naming.name snapshot) ≡ Some snapshot)) (sym same)
      (there_now first_objects Kind.Pack (naming.name pack) pack, there_now with_pack Kind.Index (naming.name index) index, there_now with_index Kind.Snapshot (naming.name snapshot) snapshot)

  abbrev pub backed_up_at : (w : World) (events : List Event) → Run (beginning (configured config)) events w → w.store ≡ last_store → w.clients ≡ backer ∷ [] → IsQuiet config pack index snapshot w → IsBackedUp config pack index snapshot
  backed_up_at w events run same one quiet = record {
    events = events;
    last = w;
    run = run;
    alone = ap (λ (cs : List Client). length cs) one;
    backs_up = ap (λ (cs : List Client). (client_at cs 0).job) one;
    reported = ap (λ (cs : List Client). (client_at cs 0).outcome) one;
    there = last_stored w same;
    calm = λ apart. calm config pack index snapshot host time texts apart w quiet;
  }

  pub is_backed_up : IsBackedUp config pack index snapshot
  is_backed_up =
      let found = finished (beginning (configured config)) (Job.Backup []) host time tt limits (silent (Ask.Unlock token) Say.Done) storing last_store (stored snapshot) steps all_unfed dutiful in
      backed_up_at _ found.0 found.1 refl refl quiet

pub backup_is_a_run : BackupIsARun
backup_is_a_run host time config pack index snapshot limits texts = is_backed_up host time config pack index snapshot limits texts
