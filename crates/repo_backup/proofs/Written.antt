-- What was written, from one exchange to the next.
use Rattle.std.proofs.Common.{◌≡◌, ◌≢◌, ◌<◌, ◌↔◌, ◌++◌, ◌∷◌, [], ℕ, List, length, map, sym, ap, subst, inl, inr, refl, ◌⊎◌, ◌∙◌, Contains}
use Rattle.std.proofs.lemmas.List.{append-nil, map_push}
use Rattle.repo_name.specs.Limits.{facts_limit}
use Rattle.repo_name.specs.declared.kinds.BlobKind.{BlobKind}
use Rattle.repo_name.specs.declared.kinds.Kind.{Kind}
use Rattle.repo_name.specs.declared.names.Name.{Name}
use Rattle.repo_name.specs.declared.tokens.Token.{Token}
use Rattle.repo_wire.specs.declared.messages.Ask.{Ask}
use Rattle.repo_wire.specs.declared.messages.Say.{Say}
use Rattle.repo_pack.specs.PackLayout.{Item}
use Rattle.repo_index.specs.IndexText.{facts_in, fact_of, IsIndexText}
use Rattle.repo_index.specs.IndexWriting.{AreFew, index_text}
use Rattle.repo_index.specs.declared.facts.Fact.{Fact}
use Rattle.repo_index.specs.declared.facts.PackFacts.{PackFacts}
use Rattle.repo_session.specs.Catalogs.{AreIndexed}
use Rattle.repo_session.specs.Traces.{Each, Exchange, Trace, object_put, objects_put, ReadFact, IsGiven}
use Rattle.repo_writing.specs.Blobs.{AreOnce, HasFact}
use Rattle.repo_writing.specs.Putting.{IsPacked, IsIndexed}
use Rattle.repo_writing.specs.Writing.{Put, IsPut, items_of, AreCounts, AreListed, ListsEachPack, FewAreUnlisted}
use Rattle.repo_writing.specs.declared.counts.Counts.{Counts}
use Rattle.repo_writing.proofs.BlobLemmas.{once_apart}
use Rattle.repo_name.proofs.Containing.{contains_map}
use Rattle.repo_writing.proofs.PutLemmas.{each_contained, objects_put_other, put_done_now, gives_later, indexed_later}
use Rattle.repo_writing.proofs.Writings.{listing_of, none_put, none_listed, packs_stay, lists_stay, pack_sent, pack_done, packed_one, put_listed, waits_among, waits_more, index_done, put_indexed, counted}
use Rattle.repo_writing.proofs.Unlisted.{waits_last, few_unlisted}
use Rattle.repo_backup.specs.Backing.{HasWritten}
use Rattle.repo_backup.specs.Packings.{IsCovered}
use Rattle.repo_backup.specs.Rules.{IndexRule, IsStored}
use Rattle.repo_backup.proofs.FactsOnce.{waits_once, waits_unindexed}

-- all indexes are read, and nothing was put
pub begin_written : (known : List Fact) (counts : Counts) (es : Trace) → AreIndexed es → ((fact : Fact) → Contains known fact ↔ ReadFact es fact)
    → ((k : Kind) → objects_put k es ≡ []) → AreCounts counts [] → HasWritten known [] counts [] [] es
begin_written known counts es indexed gives none counted = record {
  indexed = indexed;
  gives = gives;
  put = none_put counts es (none Kind.Pack) counted;
  lists = none_listed [] es (none Kind.Index);
  none = none Kind.Snapshot;
}

-- a fact that is given is known
pub given_known : (known : List Fact) (es : Trace) (k : BlobKind) (n : Name) → ((fact : Fact) → Contains known fact ↔ ReadFact es fact) → IsGiven es k n → HasFact known k n
given_known known es k n gives g =
    let kinds = g.2 in
    let names = g.3 in
    (g.0.place, subst (λ j. Contains known (fact_of j n g.0.place)) kinds (subst (λ m. Contains known (fact_of g.0.kind m g.0.place)) names ((gives g.0).1 g.1)))

-- a fact that is known is given
pub known_given : (known : List Fact) (es : Trace) (k : BlobKind) (n : Name) → ((fact : Fact) → Contains known fact ↔ ReadFact es fact) → HasFact known k n → IsGiven es k n
known_given known es k n gives h = (fact_of k n h.0, (gives (fact_of k n h.0)).0 h.1, refl, refl)

module _ (known : List Fact) (waiting : List PackFacts) (counts : Counts) (puts : List Put) where
  -- none of some items that are not known is given
  pub not_given : (next : List Put) (es : Trace) (items : List Item) (item : Item) → HasWritten known waiting counts puts next es → Each (λ i. ¬ HasFact known i.kind i.name) items → Contains items item → ¬ IsGiven es item.kind item.name
  not_given next es items item b unknown among given = each_contained (λ i. ¬ HasFact known i.kind i.name) items item unknown among (given_known known es item.kind item.name b.gives given)

  -- none of some items that are once beside those of the packs put is in a pack put
  pub not_packed : (es : Trace) (items : List Item) (item : Item) → HasWritten known waiting counts puts [] es → AreOnce (items_of puts ++ items) → Contains items item → ¬ IsPacked es item.kind item.name
  not_packed es items item b once among packed = once_apart (items_of puts) items item.kind item.name once (packed_one counts puts es b.put item.kind item.name packed) (item, among, refl, refl)

  -- a pack is put next: it waits to be listed, and its blobs count
  pub pack_next : (counts' : Counts) (p : Put) (es : Trace) → HasWritten known waiting counts puts [] es → IsPut p
      → (AreCounts counts (items_of puts) → AreCounts counts' (items_of puts ++ p.items)) → HasWritten known (waiting ++ p.listed ∷ []) counts' puts (p ∷ []) es
  pack_next counts' p es b is more =
      let all = ap (map listing_of) (append-nil puts) in
      let lists = subst (λ ls. AreListed (ls ++ p.listed ∷ []) (waiting ++ p.listed ∷ []) es) all (waits_more (map listing_of (puts ++ [])) waiting p.listed es b.lists) in
      record {
        indexed = b.indexed;
        gives = b.gives;
        put = pack_sent counts counts' puts p es b.put is more;
        lists = subst (λ ls. AreListed ls (waiting ++ p.listed ∷ []) es) (sym (map_push listing_of puts p)) lists;
        none = b.none;
      }

  -- its put is done
  pub pack_written : (p : Put) (token : Token) (e : Exchange) (es : Trace) → HasWritten known waiting counts puts (p ∷ []) es
      → e.ask ≡ Ask.Put token Kind.Pack p.pack.name p.pack.bytes → e.say ≡ Say.Done → HasWritten known waiting counts (puts ++ p ∷ []) [] (e ∷ es)
  pack_written p token e es b q s = record {
    indexed = indexed_later e es token Kind.Pack p.pack.name p.pack.bytes q b.indexed;
    gives = gives_later known e es token Kind.Pack p.pack.name p.pack.bytes q b.gives;
    put = pack_done counts puts p token e es q s b.put;
    lists = subst (λ ps. AreListed (map listing_of ps) waiting (e ∷ es)) (sym (append-nil (puts ++ p ∷ [])))
        (lists_stay (map listing_of (puts ++ p ∷ [])) waiting e es (ap (λ a. object_put Kind.Index a) q) b.lists);
    none = objects_put_other Kind.Snapshot e es (ap (λ a. object_put Kind.Snapshot a) q) ∙ b.none;
  }

  -- what is listed are the packs put
  pub listed_puts : (es : Trace) → HasWritten known waiting counts puts [] es → AreListed (map listing_of puts) waiting es
  listed_puts es b = subst (λ ps. AreListed (map listing_of ps) waiting es) (append-nil puts) b.lists

  -- where less than a full index waits, none is due
  pub none_due : (es : Trace) → HasWritten known waiting counts puts [] es → length (facts_in waiting) < facts_limit → FewAreUnlisted es
  none_due es b few = few_unlisted counts puts waiting es b.put (listed_puts es b) few

  -- where each blob of the packs put is there once, an index of what waits may be put, and with it each pack is listed
  pub index_may : (es : Trace) (x : List ℕ) → HasWritten known waiting counts puts [] es → AreOnce (items_of puts) → IsIndexText x waiting → x ≡ index_text waiting → AreFew waiting → waiting ≢ [] → (rule : IndexRule es x) × ListsEachPack rule.lists.packs es
  index_may es x b once reads written few some =
      let listed = listed_puts es b in (
        record {
          indexes = b.indexed;
          first = b.none;
          lists = record { packs = waiting; reads = reads; some = some; each = λ l among. put_listed counts puts es b.put l (waits_among (map listing_of puts) waiting es l listed among) };
          written = written;
          few = few;
          once = waits_once counts puts waiting es b.put listed once;
          unindexed = waits_unindexed counts puts waiting es b.put listed once;
        },
        waits_last counts puts waiting es b.put listed,
      )

  -- its put is done, and nothing waits
  pub index_written : (token : Token) (n : Name) (x : List ℕ) (e : Exchange) (es : Trace) → HasWritten known waiting counts puts [] es
      → IsIndexText x waiting → e.ask ≡ Ask.Put token Kind.Index n x → e.say ≡ Say.Done → HasWritten known [] counts puts [] (e ∷ es)
  index_written token n x e es b reads q s = record {
    indexed = indexed_later e es token Kind.Index n x q b.indexed;
    gives = gives_later known e es token Kind.Index n x q b.gives;
    put = packs_stay counts puts [] e es (ap (λ a. object_put Kind.Pack a) q) b.put;
    lists = index_done (map listing_of (puts ++ [])) waiting token n x e es reads q s b.lists;
    none = objects_put_other Kind.Snapshot e es (ap (λ a. object_put Kind.Snapshot a) q) ∙ b.none;
  }

  -- the snapshot's put is done
  pub written_stored : (token : Token) (n : Name) (x : List ℕ) (e : Exchange) (es : Trace) → HasWritten known waiting counts puts [] es
      → e.ask ≡ Ask.Put token Kind.Snapshot n x → e.say ≡ Say.Done → IsStored (e ∷ es) n counts.blobs counts.bytes
  written_stored token n x e es b q s = record {
    text = x;
    put = put_done_now e es token Kind.Snapshot n x q s;
    counted = counted counts puts (e ∷ es) (packs_stay counts puts [] e es (ap (λ a. object_put Kind.Pack a) q) b.put);
  }

-- each blob that is known or in the packs put is given, where nothing waits
pub covered_given : (known : List Fact) (counts : Counts) (puts : List Put) (es : Trace) (item : Item) → HasWritten known [] counts puts [] es → IsCovered known (items_of puts) item
    → IsGiven es item.kind item.name ⊎ IsIndexed es item.kind item.name
covered_given known counts puts es item b (inl fact) = inl (known_given known es item.kind item.name b.gives fact)
covered_given known counts puts es item b (inr has) = inr (put_indexed counts puts (map listing_of puts) es item.kind item.name b.put (listed_puts known [] counts puts es b)
    (λ p among. contains_map listing_of puts p among) has)
