-- Blobs that no index put before gives.
use Rattle.std.proofs.Common.{arith, ◌≡◌, ◌+◌, ◌++◌, List, sym, ap, subst, ◌∙◌, Contains}
use Rattle.std.proofs.lemmas.List.{map-append}
use Rattle.repo_name.proofs.Containing.{map_contains, flat_contains, contains_flat}
use Rattle.repo_name.specs.declared.kinds.BlobKind.{BlobKind}
use Rattle.repo_name.specs.declared.kinds.Kind.{Kind}
use Rattle.repo_name.specs.declared.names.Name.{Name}
use Rattle.repo_index.proofs.OneLemmas.{index_texts_one}
use Rattle.repo_index.specs.IndexText.{facts_in, IsIndexText}
use Rattle.repo_index.specs.declared.facts.Fact.{Fact}
use Rattle.repo_index.specs.declared.facts.PackFacts.{PackFacts}
use Rattle.repo_wire.specs.declared.messages.Ask.{Ask}
use Rattle.repo_wire.specs.declared.messages.Say.{Say}
use Rattle.repo_session.proofs.Spoken.{was_asked}
use Rattle.repo_session.specs.Traces.{Object, Trace}
use Rattle.repo_writing.proofs.PutLemmas.{each_contained, asked_put}
use Rattle.repo_writing.specs.Blobs.{HasFact, AreFactsOnce}
use Rattle.repo_writing.specs.Putting.{IsIndexed}
use Rattle.repo_writing.specs.Writing.{AreListed, Listing, packs_of, IsDone}
use Rattle.repo_prune.specs.Pruning.{pair_of_fact}
use Rattle.repo_prune.proofs.Pairs.{count, count_append, counted_once, has_counted, once_counted, pairs_of}

-- what an index put before gives is among what those list
pub indexed_before : (listed waiting : List PackFacts) (es : Trace) (h : AreListed listed waiting es) (k : BlobKind) (n : Name) → IsIndexed es k n → HasFact (facts_in (packs_of h.listings)) k n
indexed_before listed waiting es h k n is =
    let object : Object = record { name = is.index; bytes = is.text } in
    let put = asked_put es is.put.0 Kind.Index is.index is.text (was_asked es (Ask.Put is.put.0 Kind.Index is.index is.text) Say.Done is.put.1) in
    let found = map_contains (λ (l : Listing). l.index) h.listings object (subst (λ os. Contains os object) (sym h.indexes) put) in
    let done : IsDone es found.0 = each_contained (IsDone es) h.listings found.0 h.read_back found.1 in
    let reads : IsIndexText is.text found.0.packs = subst (λ (o : Object). IsIndexText o.bytes found.0.packs) found.2 done.reads in
    let there : Contains (facts_in found.0.packs) is.fact = subst (λ ps. Contains (facts_in ps) is.fact) (index_texts_one is.text is.says.packs found.0.packs is.says.text reads) is.says.among in
    let pack = flat_contains (λ (p : PackFacts). p.facts) found.0.packs is.fact there in
    let among : Contains (packs_of h.listings) pack.0 = contains_flat (λ (l : Listing). l.packs) h.listings found.0 pack.0 found.1 pack.1 in
    let all : Contains (facts_in (packs_of h.listings)) is.fact = contains_flat (λ (p : PackFacts). p.facts) (packs_of h.listings) pack.0 is.fact among pack.2 in
    (is.fact.place, subst (λ fact. Contains (facts_in (packs_of h.listings)) fact) (λ i. record { kind = is.kind i; name = is.name i; place = is.fact.place }) all)

-- of facts of one pair each, some first ones, some behind these, and those that are left
module _ (before some rest : List Fact) (once : AreFactsOnce ((before ++ some) ++ rest)) where
  counts : (k : BlobKind) (n : Name) → count k n (pairs_of ((before ++ some) ++ rest)) ≡ (count k n (pairs_of before) + count k n (pairs_of some)) + count k n (pairs_of rest)
  counts k n =
      let front = both before some in
      let all = both (before ++ some) rest in
      omega (arith, front, all)
    where
      both : (xs ys : List Fact) → count k n (pairs_of (xs ++ ys)) ≡ count k n (pairs_of xs) + count k n (pairs_of ys)
      both xs ys = ap (count k n) (map-append pair_of_fact xs ys) ∙ count_append k n (pairs_of xs) (pairs_of ys)

  -- those behind the first ones are of one pair each
  pub some_once : AreFactsOnce some
  some_once = counted_once some (λ k n.
      let most = once_counted ((before ++ some) ++ rest) once k n in
      let all = counts k n in
      omega (arith, most, all))

  -- and of none of the first ones' pairs
  pub some_first : (k : BlobKind) (n : Name) → HasFact some k n → ¬ HasFact before k n
  some_first k n here was =
      let most = once_counted ((before ++ some) ++ rest) once k n in
      let all = counts k n in
      let a = has_counted k n some here in
      let b = has_counted k n before was in
      omega (arith, most, all, a, b)
