-- The example texts are as they are written, no two have one name (their digests are computed), and so nothing clashes in the runs with them.
use Rattle.std.proofs.Common.{◌<◌, ◌^◌, ◌&&◌, Bool, false, true, ◌≤◌, ◌⊎◌, inl, inr, ⊎_elim, ◌∙◌, sym, ap, subst, cond, ◌==◌, zero, suc, Contains, arith, ◌≡◌, ◌∷◌, [], List, ℕ, refl, Some, None, codes, length, replicate, lit≤, slice_index_or, slice_get}
use Rattle.std.specs.Prelude.{IsUtf8}
use Rattle.std.proofs.Math.Dec.{ltb}
use Rattle.std.proofs.lemmas.Bool.{ltb-true}
use Rattle.std.proofs.lemmas.List.Elements.{All-cons, All-nil}
use Rattle.std.proofs.lemmas.Option.{none-some, same_Some}
use Rattle.hex.specs.Hex.{IsBytes}
use Rattle.serde_json.specs.Data.{Data}
use Rattle.repo_json.specs.JsonText.{items_at}
use Rattle.repo_name.proofs.Containing.{contained_or, none_contained, first_contained}
use Rattle.repo_pack.specs.PackLayout.{IsItem, IsNamed, IsTruePack}
use Rattle.repo_index.specs.declared.facts.Fact.{Fact}
use Rattle.repo_index.specs.Exactness.{AreFactsAt}
use Rattle.repo_index.specs.IndexText.{IsIndexText, IsFact, Says}
use Rattle.repo_index.specs.IndexWriting.{AreLawful, ArePacks}
use Rattle.repo_pack.specs.PackLayout.{IsWithin}
use Rattle.repo_index.proofs.WritingLemmas.{index_reads as index_is_read}
use Rattle.repo_tree.specs.ConfigText.{IsConfigText}
use Rattle.repo_tree.specs.SnapshotText.{IsSnapshotText}
use Rattle.repo_tree.specs.TreeText.{IsTreeText}
use Rattle.repo_tree.proofs.ConfigLemmas.{config_reads as config_is_read}
use Rattle.repo_tree.proofs.SnapshotLemmas.{snapshot_reads as snapshot_is_read}
use Rattle.repo_tree.proofs.WritingLemmas.{tree_reads as tree_is_read}
use Rattle.std.specs.Fmt.{digits}
use Rattle.std.specs.Float.Numeral.{scan_numeral}
use Rattle.sha2.specs.Sha256.{compress, digest_bytes, first_words, hash_after, rounds, schedule, sha256}
use Rattle.serde_json.specs.Read.{read, number_of}
use Rattle.json.specs.Json.{value}
use Rattle.json.specs.Lex.{lex, punctuate}
use Rattle.json.specs.Text.{content}
use Rattle.json.specs.Word.{word, after_number}
use Rattle.json.specs.Print.{escape_byte}
use Rattle.hex.specs.Hex.{encode_with}
use Rattle.repo_name.specs.Naming as naming
use Rattle.repo_name.specs.declared.names.Name.{Name}
use Rattle.std.specs.List.{All}
use Rattle.repo_pack.specs.PackLayout.{Item}
use Rattle.repo_index.specs.declared.facts.PackFacts.{PackFacts}
use Rattle.repo_index.specs.Exactness.{fact_at}
use Rattle.repo_index.specs.IndexWriting.{index_data}
use Rattle.repo_tree.specs.ConfigText.{config_data}
use Rattle.repo_tree.specs.SnapshotText.{snapshot_data}
use Rattle.repo_tree.specs.TreeWriting.{tree_text, tree_data}
use Rattle.repo_name.specs.Rows.{IsHost}
use Rattle.repo_name.specs.declared.kinds.Kind.{Kind}
use Rattle.repo_store.specs.StoreMachine.{object_limit}
use Rattle.repo_runs.specs.Backed.{empty_tree, snapshot_of, lists_of, AreTexts, AreApart, IsBackedUp, IsGivenBack, IsTidied, IsForgottenInRun}
use Rattle.repo_runs.specs.SomeTexts.{host, time, read as read_config, config, pack, listed, index, snapshot, TextsAreApart, NothingClashesInRuns}
use Rattle.repo_runs.proofs.Backing.{backup_is_a_run}
use Rattle.repo_runs.proofs.GivingBack.{restore_is_a_run}
use Rattle.repo_runs.proofs.Tidying.{prune_is_a_run}
use Rattle.repo_runs.proofs.Forgetting.{forget_is_a_run}

-- ---- what the texts are as JSON

tree_reads : read (tree_text []) ≡ Some (tree_data [])
unfolding number_of value lex punctuate content word after_number scan_numeral encode_with escape_byte digits
tree_reads = refl

tree_utf8 : IsUtf8 (tree_text [])
unfolding encode_with escape_byte digits lib.Utf8.encode
tree_utf8 = (tree_text [], (refl, refl))

config_reads : read config ≡ Some (config_data read_config)
unfolding number_of value lex punctuate content word after_number scan_numeral encode_with escape_byte digits
config_reads = refl

config_utf8 : IsUtf8 config
unfolding encode_with escape_byte digits lib.Utf8.encode
config_utf8 = (config, (refl, refl))

pack_is_none : read pack ≡ None
unfolding number_of value lex punctuate content word after_number scan_numeral encode_with escape_byte digits first_words schedule rounds compress hash_after digest_bytes sha256
pack_is_none = refl

snapshot_reads : read snapshot ≡ Some (snapshot_data (snapshot_of host time))
unfolding number_of value lex punctuate content word after_number scan_numeral encode_with escape_byte digits first_words schedule rounds compress hash_after digest_bytes sha256
snapshot_reads = refl

snapshot_utf8 : IsUtf8 snapshot
unfolding encode_with escape_byte digits lib.Utf8.encode first_words schedule rounds compress hash_after digest_bytes sha256
snapshot_utf8 = (snapshot, (refl, refl))

index_reads : read index ≡ Some (index_data (listed ∷ []))
unfolding number_of value lex punctuate content word after_number scan_numeral encode_with escape_byte digits first_words schedule rounds compress hash_after digest_bytes sha256
index_reads = refl

index_utf8 : IsUtf8 index
unfolding encode_with escape_byte digits lib.Utf8.encode first_words schedule rounds compress hash_after digest_bytes sha256
index_utf8 = (index, (refl, refl))

-- ---- their names

abbrev first_of : List ℕ → ℕ
first_of x = slice_index_or (naming.name x).0 0 0

firsts : (first_of config ≡ 37) × (first_of pack ≡ 248) × (first_of index ≡ 43) × (first_of snapshot ≡ 62) × (first_of (tree_text []) ≡ 172)
unfolding encode_with escape_byte digits first_words schedule rounds compress hash_after digest_bytes sha256
firsts = (refl, refl, refl, refl, refl)

pack_short : length pack ≤ object_limit Kind.Pack
unfolding escape_byte first_words schedule rounds compress hash_after digest_bytes sha256
pack_short = lit≤ tt

index_short : length index ≤ object_limit Kind.Index
unfolding encode_with escape_byte digits first_words schedule rounds compress hash_after digest_bytes sha256
index_short = lit≤ tt

-- ---- names have 32 bytes

all_bytes : List ℕ → Bool
all_bytes [] = true
all_bytes (x ∷ xs) = ltb x 256 && all_bytes xs

both : (a b : Bool) → (a && b) ≡ true → (a ≡ true) × (b ≡ true)
both true b h = (refl, h)
both false b h = absurd (cc)

are_bytes : (xs : List ℕ) → all_bytes xs ≡ true → IsBytes xs
unfolding all_bytes
are_bytes [] h i = lit≤ tt
are_bytes (x ∷ xs) h zero = ltb-true x 256 (both (ltb x 256) (all_bytes xs) h).0
are_bytes (x ∷ xs) h (suc i) = are_bytes xs (both (ltb x 256) (all_bytes xs) h).1 i

tree_named : naming.IsName (naming.name (tree_text []))
unfolding all_bytes escape_byte first_words schedule rounds compress hash_after digest_bytes sha256
tree_named = (refl, are_bytes (sha256 (tree_text [])) refl)

pack_named : naming.IsName (naming.name pack)
unfolding all_bytes escape_byte first_words schedule rounds compress hash_after digest_bytes sha256
pack_named = (refl, are_bytes (sha256 pack) refl)

-- ---- they are as they are written

zeros : all_bytes (replicate 16 0) ≡ true
unfolding all_bytes
zeros = refl

is_config : IsConfigText config read_config
is_config = config_is_read read_config config (record { least = lit≤ tt; ordered = lit≤ tt; greatest = lit≤ tt; some_bits = lit≤ tt; few_bits = lit≤ tt }) (lit≤ tt, lit≤ tt) (refl, are_bytes (replicate 16 0) zeros) (lit≤ tt, lit≤ tt) refl config_utf8 config_reads

tree_some : 1 ≤ length (tree_text [])
unfolding escape_byte
tree_some = lit≤ tt

tree_short : length (tree_text []) ≤ 8388608
unfolding escape_byte
tree_short = lit≤ tt

is_tree : IsTreeText (tree_text []) []
is_tree = tree_is_read [] (tree_text []) (All-nil _, tt) (All-nil _) tree_short tree_utf8 tree_reads

host_utf8 : IsUtf8 (97 ∷ [])
unfolding lib.Utf8.encode
host_utf8 = (97 ∷ [], (refl, refl))

is_snapshot : IsSnapshotText snapshot (snapshot_of host time)
is_snapshot = snapshot_is_read (snapshot_of host time) snapshot (lit≤ tt, lit≤ tt, host_utf8) (lit≤ tt) (lit≤ tt) tree_named (lit≤ tt, lit≤ tt) refl snapshot_utf8 snapshot_reads

is_pack : IsTruePack pack (empty_tree ∷ [])
is_pack = record { pack = record { count = (lit≤ tt, lit≤ tt); each = All-cons IsItem empty_tree [] ((tree_some, tree_short), tree_named) (All-nil IsItem); layout = refl }; named = All-cons IsNamed empty_tree [] refl (All-nil IsNamed) }

facts_are : AreFactsAt (naming.name pack) (empty_tree ∷ []) listed.facts
facts_are = record { count = refl; each = each }
  where
    each : (k : ℕ) (item : Item) → slice_get (empty_tree ∷ []) k ≡ Some item → slice_get listed.facts k ≡ Some (fact_at (naming.name pack) (empty_tree ∷ []) k item)
    each zero item e = ap (λ i. Some (fact_at (naming.name pack) (empty_tree ∷ []) 0 i)) (same_Some empty_tree item e)
    each (suc k) item e = absurd (none-some item e)

length_is : length (tree_text []) ≡ 12
unfolding escape_byte
length_is = refl

abbrev fact : Fact
fact = fact_at (naming.name pack) (empty_tree ∷ []) 0 empty_tree

is_fact : IsFact fact
is_fact = record { name = tree_named; place = record { pack = pack_named; offset = lit≤ tt; length = (let len = length_is in omega (arith, len)) } }

is_within : IsWithin fact.place.offset fact.place.length
is_within = record { blob = (tree_some, tree_short); ends = (let len = length_is in omega (arith, len)) }

are_packs : ArePacks (listed ∷ [])
are_packs = All-cons (λ (p : PackFacts). naming.IsName p.pack × All IsFact p.facts) listed [] (pack_named, All-cons IsFact fact [] is_fact (All-nil IsFact)) (All-nil (λ (p : PackFacts). naming.IsName p.pack × All IsFact p.facts))

are_lawful : AreLawful (listed ∷ [])
are_lawful = All-cons (λ (p : PackFacts). All (λ (f : Fact). (f.place.pack ≡ p.pack) × IsWithin f.place.offset f.place.length) p.facts) listed []
    (All-cons (λ (f : Fact). (f.place.pack ≡ listed.pack) × IsWithin f.place.offset f.place.length) fact [] (refl, is_within) (All-nil (λ (f : Fact). (f.place.pack ≡ listed.pack) × IsWithin f.place.offset f.place.length)))
    (All-nil (λ (p : PackFacts). All (λ (f : Fact). (f.place.pack ≡ p.pack) × IsWithin f.place.offset f.place.length) p.facts))

is_index : IsIndexText index (listed ∷ [])
is_index = index_is_read (listed ∷ []) index are_packs are_lawful index_utf8 index_reads

-- ---- they are apart

five : (x : List ℕ) → Contains (lists_of config pack index snapshot) x → (config ≡ x) ⊎ ((pack ≡ x) ⊎ ((index ≡ x) ⊎ ((snapshot ≡ x) ⊎ (tree_text [] ≡ x))))
five x c = ⊎_elim inl (λ c1. inr (⊎_elim inl (λ c2. inr (⊎_elim inl (λ c3. inr (⊎_elim inl (λ c4. inr (⊎_elim (λ e. e) (λ none. absurd (none_contained x none)) (contained_or (tree_text []) [] x c4)))
    (contained_or snapshot (tree_text [] ∷ []) x c3))) (contained_or index (snapshot ∷ tree_text [] ∷ []) x c2))) (contained_or pack (index ∷ snapshot ∷ tree_text [] ∷ []) x c1))) (contained_or config (pack ∷ index ∷ snapshot ∷ tree_text [] ∷ []) x c)

-- the one whose name begins with this byte
abbrev by_first : ℕ → List ℕ
by_first n = cond (n == 37) config (cond (n == 248) pack (cond (n == 43) index (cond (n == 62) snapshot (tree_text []))))

is_by_first : (x : List ℕ) → Contains (lists_of config pack index snapshot) x → by_first (first_of x) ≡ x
is_by_first x c = go (five x c)
  where
    go : (config ≡ x) ⊎ ((pack ≡ x) ⊎ ((index ≡ x) ⊎ ((snapshot ≡ x) ⊎ (tree_text [] ≡ x)))) → by_first (first_of x) ≡ x
    go (inl e) = subst (λ (y : List ℕ). by_first (first_of y) ≡ y) e (ap by_first firsts.0)
    go (inr (inl e)) = subst (λ (y : List ℕ). by_first (first_of y) ≡ y) e (ap by_first firsts.1)
    go (inr (inr (inl e))) = subst (λ (y : List ℕ). by_first (first_of y) ≡ y) e (ap by_first firsts.2)
    go (inr (inr (inr (inl e)))) = subst (λ (y : List ℕ). by_first (first_of y) ≡ y) e (ap by_first firsts.3)
    go (inr (inr (inr (inr e)))) = subst (λ (y : List ℕ). by_first (first_of y) ≡ y) e (ap by_first firsts.4)

names_apart : (x y : List ℕ) → Contains (lists_of config pack index snapshot) x → Contains (lists_of config pack index snapshot) y → naming.name x ≡ naming.name y → x ≡ y
names_apart x y a b e = sym (is_by_first x a) ∙ (ap (λ (n : Name). by_first (slice_index_or n.0 0 0)) e ∙ is_by_first y b)

-- a text says no fact that reads as an object without packs
says_none : (x : List ℕ) (d : Data) (f : Fact) → read x ≡ Some d → items_at (codes "packs") d ≡ None → Says x f → ⊥
says_none x d f reads none says =
    let same : d ≡ says.text.root = same_Some d says.text.root (sym reads ∙ says.text.json.reads) in
    none-some says.text.index.items (sym none ∙ (ap (λ r. items_at (codes "packs") r) same ∙ says.text.index.listed))

one_says : (x : List ℕ) (f : Fact) → Contains (lists_of config pack index snapshot) x → Says x f → x ≡ index
one_says x f c says = go (five x c)
  where
    go : (config ≡ x) ⊎ ((pack ≡ x) ⊎ ((index ≡ x) ⊎ ((snapshot ≡ x) ⊎ (tree_text [] ≡ x)))) → x ≡ index
    go (inl e) = absurd (says_none config (config_data read_config) f config_reads refl (subst (λ (y : List ℕ). Says y f) (sym e) says))
    go (inr (inl e)) = absurd (none-some says.text.root (sym pack_is_none ∙ (ap read e ∙ says.text.json.reads)))
    go (inr (inr (inl e))) = sym e
    go (inr (inr (inr (inl e)))) = absurd (says_none snapshot (snapshot_data (snapshot_of host time)) f snapshot_reads refl (subst (λ (y : List ℕ). Says y f) (sym e) says))
    go (inr (inr (inr (inr e)))) = absurd (says_none (tree_text []) (tree_data []) f tree_reads refl (subst (λ (y : List ℕ). Says y f) (sym e) says))

-- ---- so nothing clashes

texts : AreTexts host time config pack index snapshot
texts = record {
  read = read_config;
  configured = is_config;
  first = refl;
  config_short = is_config.json.short;
  empty = is_tree;
  packed = is_pack;
  pack_short = pack_short;
  facts = listed.facts;
  exact = facts_are;
  indexed = is_index;
  index_short = index_short;
  reads = is_snapshot;
  snapshot_short = is_snapshot.json.short;
}

apart : AreApart config pack index snapshot
apart = record { names = names_apart; one = one_says }

limits : (time < 2 ^ 64) × IsHost host
limits = (lit≤ tt, (lit≤ tt, lit≤ tt, host_utf8))

pub texts_apart : TextsAreApart
texts_apart = (texts, apart)

pub nothing_clashes : NothingClashesInRuns
nothing_clashes =
    let b : IsBackedUp config pack index snapshot = backup_is_a_run host time config pack index snapshot limits texts in
    let r : IsGivenBack config pack index snapshot = restore_is_a_run host time config pack index snapshot limits texts in
    let p : IsTidied config pack index snapshot = prune_is_a_run host time config pack index snapshot limits texts in
    let f : IsForgottenInRun (naming.name snapshot ∷ []) config pack index snapshot = forget_is_a_run host time config pack index snapshot (naming.name snapshot ∷ []) limits texts (first_contained (naming.name snapshot) []) in
    ((b, b.calm apart), (r, r.calm apart), (p, p.calm apart), (f, f.calm apart))
