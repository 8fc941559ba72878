-- What the indexes that were put list, and which packs they don't.
use Rattle.std.proofs.Common.{◌≡◌, ◌<◌, ◌∷◌, [], List, length, map, refl, sym, ap, subst, ◌∙◌, Contains}
use Rattle.repo_name.proofs.Containing.{map_contains, flat_contains, contains_flat}
use Rattle.repo_name.specs.Limits.{facts_limit}
use Rattle.repo_name.specs.declared.kinds.BlobKind.{BlobKind}
use Rattle.repo_name.specs.declared.kinds.Kind.{Kind}
use Rattle.repo_name.specs.declared.names.Name.{Name}
use Rattle.repo_index.proofs.OneLemmas.{index_texts_one}
use Rattle.repo_index.specs.IndexText.{facts_in, IsIndexText}
use Rattle.repo_index.specs.declared.facts.PackFacts.{PackFacts}
use Rattle.repo_wire.specs.declared.messages.Ask.{Ask}
use Rattle.repo_wire.specs.declared.messages.Say.{Say}
use Rattle.repo_session.proofs.Spoken.{was_asked}
use Rattle.repo_session.specs.Traces.{Each, Object, Trace}
use Rattle.repo_writing.specs.Blobs.{HasFact}
use Rattle.repo_writing.specs.Putting.{IsIndexed}
use Rattle.repo_writing.specs.Writing.{Put, IsPut, ArePut, AreListed, Listing, packs_of, IsDone, ListsEachPack, FewAreUnlisted}
use Rattle.repo_writing.specs.declared.counts.Counts.{Counts}
use Rattle.repo_writing.proofs.PutLemmas.{each_contained, asked_put}
use Rattle.repo_writing.proofs.Writings.{listing_of, each_alone, put_listed, waits_among}

-- what an index put before gives is among what those list
pub indexed_before : (listed waiting : List PackFacts) (es : Trace) (h : AreListed listed waiting es) (k : BlobKind) (n : Name) → IsIndexed es k n → HasFact (facts_in (packs_of h.listings)) k n
indexed_before listed waiting es h k n is =
    let object : Object = record { name = is.index; bytes = is.text } in
    let put = asked_put es is.put.0 Kind.Index is.index is.text (was_asked es (Ask.Put is.put.0 Kind.Index is.index is.text) Say.Done is.put.1) in
    let found = map_contains (λ (l : Listing). l.index) h.listings object (subst (λ os. Contains os object) (sym h.indexes) put) in
    let done : IsDone es found.0 = each_contained (IsDone es) h.listings found.0 h.read_back found.1 in
    let reads : IsIndexText is.text found.0.packs = subst (λ (o : Object). IsIndexText o.bytes found.0.packs) found.2 done.reads in
    let there : Contains (facts_in found.0.packs) is.fact = subst (λ ps. Contains (facts_in ps) is.fact) (index_texts_one is.text is.says.packs found.0.packs is.says.text reads) is.says.among in
    let pack = flat_contains (λ (p : PackFacts). p.facts) found.0.packs is.fact there in
    let among : Contains (packs_of h.listings) pack.0 = contains_flat (λ (l : Listing). l.packs) h.listings found.0 pack.0 found.1 pack.1 in
    let all : Contains (facts_in (packs_of h.listings)) is.fact = contains_flat (λ (p : PackFacts). p.facts) (packs_of h.listings) pack.0 is.fact among pack.2 in
    (is.fact.place, subst (λ fact. Contains (facts_in (packs_of h.listings)) fact) (λ i. record { kind = is.kind i; name = is.name i; place = is.fact.place }) all)

-- packs are listed under their names
listed_names : (puts : List Put) → Each IsPut puts → map (λ (p : PackFacts). p.pack) (map listing_of puts) ≡ map (λ (o : Object). o.name) (map (λ (p : Put). p.pack) puts)
listed_names [] h = refl
listed_names (p ∷ puts) h = λ i. h.0.same i ∷ listed_names puts h.1 i

module _ (counts : Counts) (puts : List Put) (waiting : List PackFacts) (es : Trace) (put : ArePut counts puts [] es) (listed : AreListed (map listing_of puts) waiting es) where
  -- with what waits, the indexes put list each pack put, in their order
  pub waits_last : ListsEachPack waiting es
  waits_last = record { packs = map listing_of puts; listed = listed; names = listed_names puts (each_alone puts put.each) ∙ ap (map (λ (o : Object). o.name)) put.packs }

  -- so where less than a full index waits, none is due
  pub few_unlisted : length (facts_in waiting) < facts_limit → FewAreUnlisted es
  few_unlisted few = record {
    waiting = waiting;
    each = λ l among. put_listed counts puts es put l (waits_among (map listing_of puts) waiting es l listed among);
    whole = waits_last;
    few = few;
  }
