-- Where the messages of a world say just a few byte lists, of which no two have one name, nothing clashes in it.
use Rattle.std.specs.Prelude.{⊤}
use Rattle.std.proofs.Common.{◌≡◌, ◌++◌, ◌∷◌, [], inl, inr, ⊎_elim, ℕ, zero, suc, List, length, refl, sym, ◌∙◌, ap, subst, Some, Contains, slice_get}
use Rattle.std.proofs.lemmas.Option.{none-some, same_Some}
use Rattle.repo_name.specs.Naming as naming
use Rattle.repo_name.specs.Ranges.{range}
use Rattle.repo_name.proofs.Containing.{contained_or, none_contained, first_contained, later_contained, flat_contains}
use Rattle.repo_wire.specs.declared.messages.Ask.{Ask}
use Rattle.repo_wire.specs.declared.messages.Say.{Say}
use Rattle.repo_pack.specs.PackLayout.{Item, item_of}
use Rattle.repo_pack.proofs.Offsets.{range_is}
use Rattle.repo_index.specs.declared.facts.Fact.{Fact}
use Rattle.repo_index.specs.declared.facts.PackFacts.{PackFacts}
use Rattle.repo_index.specs.Exactness.{fact_at}
use Rattle.repo_index.specs.IndexText.{facts_in, Says}
use Rattle.repo_index.proofs.ExactLemmas.{item_there}
use Rattle.repo_index.proofs.OneLemmas.{index_texts_one}
use Rattle.repo_tree.specs.TreeWriting.{tree_text}
use Rattle.repo_session.specs.Traces.{Each, Trace}
use Rattle.repo_store.specs.Stores.{Store}
use Rattle.repo_backup.specs.Folders.{Folder, nothing, file_then, dir_then, blobs_of, entries_of}
use Rattle.repo_backup.specs.Laws.{IsMadeOf}
use Rattle.repo_world.specs.Clients.{Client, MadeOf}
use Rattle.repo_world.specs.Safe.{IsSpoken, by_put, by_reply, IsPartOf, IsKnown, known_spoken, known_part, known_made, HasNoClash}
use Rattle.repo_world.specs.World.{World, Message, Asked, Said, IsOneOf, client_at}
use Rattle.repo_world.specs.declared.jobs.Job.{Job}
use Rattle.repo_runs.specs.Backed.{empty_tree, AreTexts, AreApart, lists_of}
use Rattle.repo_runs.proofs.Joining.{posts}

each_joined : {A : Type 0} (P : A → Type 0) (xs ys : List A) → Each P xs → Each P ys → Each P (xs ++ ys)
each_joined P [] ys a b = b
each_joined P (x ∷ xs) ys a b = (a.0, each_joined P xs ys a.1 b)

-- an empty folder has one blob, the tree of nothing, in each version
pub empty_blobs : (version : ℕ) → blobs_of version nothing ≡ empty_tree ∷ []
empty_blobs zero = refl
empty_blobs (suc zero) = refl
empty_blobs (suc (suc zero)) = refl
empty_blobs (suc (suc (suc version))) = refl

-- what a backup of no entries made is the tree of nothing
made_nothing : (es : Trace) (x : List ℕ) → IsMadeOf [] es x → x ≡ tree_text []
made_nothing es x made = by_folder made.cut.config.version made.folder made.cut.cut.holds made.among
  where
    by_folder : (version : ℕ) (f : Folder) → entries_of [] f ≡ [] → Contains (blobs_of version f) (item_of made.kind x) → x ≡ tree_text []
    by_folder version nothing none among = ⊎_elim (λ same. sym (ap (λ (i : Item). i.bytes) same)) (λ h. absurd (none_contained (item_of made.kind x) h)) (contained_or empty_tree [] (item_of made.kind x) (subst (λ l. Contains l (item_of made.kind x)) (empty_blobs version) among))
    by_folder version (file_then name chunks rest) none among = absurd (cc)
    by_folder version (dir_then name inside rest) none among = absurd (cc)

module _ (config pack index snapshot : List ℕ) where
  abbrev Few : List ℕ → Type 0
  Few x = Contains (lists_of config pack index snapshot) x

  pub few_config : Few config
  few_config = first_contained config (pack ∷ index ∷ snapshot ∷ tree_text [] ∷ [])

  pub few_pack : Few pack
  few_pack = later_contained config (pack ∷ index ∷ snapshot ∷ tree_text [] ∷ []) pack (first_contained pack (index ∷ snapshot ∷ tree_text [] ∷ []))

  pub few_index : Few index
  few_index = later_contained config (pack ∷ index ∷ snapshot ∷ tree_text [] ∷ []) index (later_contained pack (index ∷ snapshot ∷ tree_text [] ∷ []) index (first_contained index (snapshot ∷ tree_text [] ∷ [])))

  pub few_snapshot : Few snapshot
  few_snapshot = later_contained config (pack ∷ index ∷ snapshot ∷ tree_text [] ∷ []) snapshot (later_contained pack (index ∷ snapshot ∷ tree_text [] ∷ []) snapshot
      (later_contained index (snapshot ∷ tree_text [] ∷ []) snapshot (first_contained snapshot (tree_text [] ∷ []))))

  pub few_tree : Few (tree_text [])
  few_tree = later_contained config (pack ∷ index ∷ snapshot ∷ tree_text [] ∷ []) (tree_text []) (later_contained pack (index ∷ snapshot ∷ tree_text [] ∷ []) (tree_text [])
      (later_contained index (snapshot ∷ tree_text [] ∷ []) (tree_text []) (later_contained snapshot (tree_text [] ∷ []) (tree_text []) (first_contained (tree_text []) []))))

  -- what is put, and what is told
  abbrev PutsFew : Ask → Type 0
  PutsFew (Ask.Put t k n x) = Contains (lists_of config pack index snapshot) x
  PutsFew _ = ⊤

  abbrev TellsFew : Say → Type 0
  TellsFew (Say.Bytes x) = Contains (lists_of config pack index snapshot) x
  TellsFew _ = ⊤

  abbrev SaysFew : Message → Type 0
  SaysFew (Asked k request) = PutsFew request.ask
  SaysFew (Said k reply) = TellsFew reply.say

  -- of exchanges
  abbrev pub ExchangesFew : Trace → Type 0
  ExchangesFew [] = ⊤
  ExchangesFew (e ∷ es) = PutsFew e.ask × TellsFew e.say × ExchangesFew es

  posts_few : (k : ℕ) (es : Trace) → ExchangesFew es → Each SaysFew (posts k es)
  posts_few k [] h = tt
  posts_few k (e ∷ es) h = each_joined SaysFew (posts k es) _ (posts_few k es h.2) (h.0, (h.1, tt))

  -- what clients made
  abbrev pub MakesFew : Client → Type 0
  MakesFew c = (x : List ℕ) → MadeOf c.job c.trace x → x ≡ tree_text []

  pub record IsQuiet (w : World) : Type 0 where
    pub messages : Each SaysFew w.messages
    pub makers : Each MakesFew w.clients

  pub quiet_first : (w : World) → w.messages ≡ [] → w.clients ≡ [] → IsQuiet w
  quiet_first w m c = record { messages = subst (Each SaysFew) (sym m) tt; makers = subst (Each MakesFew) (sym c) tt }

  pub quiet_more : (w : World) (c : Client) (es : Trace) (store : Store) → IsQuiet w → ExchangesFew es → MakesFew c
      → IsQuiet (record { store = store; clients = w.clients ++ c ∷ []; messages = (w.messages ++ posts (length w.clients) es) ++ [] })
  quiet_more w c es store quiet few makes = record {
    messages = each_joined SaysFew (w.messages ++ posts (length w.clients) es) [] (each_joined SaysFew w.messages (posts (length w.clients) es) quiet.messages (posts_few (length w.clients) es few)) tt;
    makers = each_joined MakesFew w.clients (c ∷ []) quiet.makers (makes, tt);
  }

  pub backs_nothing : (c : Client) → c.job ≡ Job.Backup [] → MakesFew c
  backs_nothing c e x made = made_nothing c.trace x (subst (λ j. MadeOf j c.trace x) e made)

  -- ---- so what is known in the world is these few

  one_says : (ms : List Message) → Each SaysFew ms → (m : Message) → IsOneOf ms m → SaysFew m
  one_says (y ∷ ms) h m (inl e) = subst SaysFew e h.0
  one_says (y ∷ ms) h m (inr e) = one_says ms h.1 m e
  one_says [] h m e = absurd e

  one_makes : (cs : List Client) → Each MakesFew cs → (k : ℕ) → MakesFew (client_at cs k)
  one_makes [] h k = λ x made. absurd made
  one_makes (c ∷ cs) h zero = h.0
  one_makes (c ∷ cs) h (suc k) = one_makes cs h.1 k

  module _ (host : List ℕ) (time : ℕ) (texts : AreTexts host time config pack index snapshot) (apart : AreApart config pack index snapshot) (w : World) (quiet : IsQuiet w) where
    spoken : (x : List ℕ) → IsSpoken w x → Few x
    spoken x (by_put k n p) = subst PutsFew p.asks (one_says w.messages quiet.messages (Asked p.by p.request) p.message)
    spoken x (by_reply k reply m e) = subst TellsFew e (one_says w.messages quiet.messages (Said k reply) m)

    abbrev listed : PackFacts
    listed = record { pack = naming.name pack; facts = texts.facts }

    abbrev tree_fact : Fact
    tree_fact = fact_at (naming.name pack) (empty_tree ∷ []) 0 empty_tree

    -- the index has one fact
    one_fact : (fact : Fact) → Says index fact → fact ≡ tree_fact
    one_fact fact says =
        let packs : says.packs ≡ listed ∷ [] = index_texts_one index says.packs (listed ∷ []) says.text texts.indexed in
        let found = flat_contains (λ (p : PackFacts). p.facts) (listed ∷ []) fact (subst (λ (ps : List PackFacts). Contains (facts_in ps) fact) packs says.among) in
        let own : listed ≡ found.0 = ⊎_elim (λ same. same) (λ none. absurd (none_contained found.0 none)) (contained_or listed [] found.0 found.1) in
        let there = item_there (naming.name pack) (empty_tree ∷ []) texts.facts fact texts.exact (subst (λ (p : PackFacts). Contains p.facts fact) (sym own) found.2) in
        at_place there.0 there.1 there.2 there.3
      where
        at_place : (k : ℕ) (item : Item) → slice_get (empty_tree ∷ []) k ≡ Some item → fact ≡ fact_at (naming.name pack) (empty_tree ∷ []) k item → fact ≡ tree_fact
        at_place zero item here is = is ∙ ap (λ i. fact_at (naming.name pack) (empty_tree ∷ []) 0 i) (sym (same_Some empty_tree item here))
        at_place (suc k) item here is = absurd (none-some item here)

    part : (x : List ℕ) → IsPartOf w x → x ≡ tree_text []
    part x p =
        let index_is : p.index ≡ index = apart.one p.index p.fact (spoken p.index p.listed) p.says in
        let fact_is : p.fact ≡ tree_fact = one_fact p.fact (subst (λ (l : List ℕ). Says l p.fact) index_is p.says) in
        let pack_is : p.pack ≡ pack = apart.names p.pack pack (spoken p.pack p.there) few_pack (p.named ∙ ap (λ (f : Fact). f.place.pack) fact_is) in
        let stands : range pack tree_fact.place.offset tree_fact.place.length ≡ Some x = subst (λ (f : Fact). range pack f.place.offset f.place.length ≡ Some x) fact_is (subst (λ (l : List ℕ). range l p.fact.place.offset p.fact.place.length ≡ Some x) pack_is p.stands) in
        same_Some x (tree_text []) (sym stands ∙ range_is pack (empty_tree ∷ []) 0 empty_tree texts.packed.pack refl)

    known : (x : List ℕ) → IsKnown w x → Few x
    known x (known_spoken h) = spoken x h
    known x (known_part p) = subst (λ (y : List ℕ). Few y) (sym (part x p)) few_tree
    known x (known_made k made) = subst (λ (y : List ℕ). Few y) (sym (one_makes w.clients quiet.makers k x made)) few_tree

    pub calm : HasNoClash w
    calm x y a b same = apart.names x y (known x a) (known y b) same
