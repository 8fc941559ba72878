-- What stays known over an exchange that lists and reads nothing.
use Rattle.std.proofs.Common.{◌≡◌, ◌∷◌, [], ℕ, false, refl, sym, subst, inr, ◌∙◌}
use Rattle.std.specs.Prelude.{⊤}
use Rattle.repo_name.specs.declared.kinds.Kind.{Kind}
use Rattle.repo_store.specs.Pages.{Has}
use Rattle.repo_wire.specs.declared.messages.Ask.{Ask}
use Rattle.repo_wire.specs.declared.messages.Say.{Say}
use Rattle.repo_index.specs.declared.facts.Fact.{Fact}
use Rattle.repo_session.specs.Catalogs.{AreIndexed}
use Rattle.repo_session.specs.Traces.{Exchange, Trace, object_put, page_names, is_last_page, IsListed, ReadFact}
use Rattle.repo_session.proofs.Cataloguing.{fact_stays, fact_before}
use Rattle.repo_session.proofs.Deleting.{DeletesNone, ListsNone, listed_stays, listing_stays, names_stay, none_deleted_on}
use Rattle.repo_session.proofs.Rolling.{paged_on}
use Rattle.repo_writing.proofs.Filling.{config_later}
use Rattle.repo_writing.proofs.PutLemmas.{objects_put_other}
use Rattle.repo_prune.specs.Pruning.{ArePacksListed, HasOnlyListed, IsUntouched}
use Rattle.repo_prune.specs.PruneStates.{Known, HaveRead, HasTarget}

-- a request for a part of a pack, a put, or a delete
abbrev pub IsAside : Ask → Type 0
IsAside (Ask.Range pack offset len) = ⊤
IsAside (Ask.Put token k n x) = ⊤
IsAside (Ask.Delete token k n) = ⊤
IsAside (Ask.Upgrade token) = ⊤
IsAside _ = ⊥

no_page : (k : Kind) (ask : Ask) (say : Say) → IsAside ask → page_names k ask say ≡ []
no_page k (Ask.Range pack offset len) say h = refl
no_page k (Ask.Put token j n x) say h = refl
no_page k (Ask.Delete token j n) say h = refl
no_page k (Ask.Upgrade token) say h = refl
no_page k (Ask.List j after) say h = absurd h
no_page k (Ask.Get j n) say h = absurd h
no_page k Ask.Ticket say h = absurd h
no_page k (Ask.Lock row) say h = absurd h
no_page k (Ask.Refresh token time) say h = absurd h
no_page k (Ask.Unlock token) say h = absurd h
no_page k Ask.Locks say h = absurd h
no_page k Ask.Config say h = absurd h

no_last : (k : Kind) (ask : Ask) (say : Say) → IsAside ask → is_last_page k ask say ≡ false
no_last k (Ask.Range pack offset len) say h = refl
no_last k (Ask.Put token j n x) say h = refl
no_last k (Ask.Delete token j n) say h = refl
no_last k (Ask.Upgrade token) say h = refl
no_last k (Ask.List j after) say h = absurd h
no_last k (Ask.Get j n) say h = absurd h
no_last k Ask.Ticket say h = absurd h
no_last k (Ask.Lock row) say h = absurd h
no_last k (Ask.Refresh token time) say h = absurd h
no_last k (Ask.Unlock token) say h = absurd h
no_last k Ask.Locks say h = absurd h
no_last k Ask.Config say h = absurd h

pub aside_lists : (k : Kind) (e : Exchange) → IsAside e.ask → ListsNone k e
aside_lists k e h = record { page = no_page k e.ask e.say h; last = no_last k e.ask e.say h; ask = λ after is. subst IsAside is h }

-- all packs are listed where all was read
pub packs_whole : (k : Known) (es : Trace) → HaveRead k es → IsListed Kind.Pack es
packs_whole k es h = record { complete = h.all.packs.complete; rise = h.all.packs.rise }

-- what the config wants stays known
pub target_later : (e : Exchange) (es : Trace) (bytes : ℕ) → HasTarget es bytes → HasTarget (e ∷ es) bytes
target_later e es bytes (config, has, wants) = (config, config_later e es config has, wants)

module _ (e : Exchange) (es : Trace) (aside : IsAside e.ask) where
  pub fact_same : (fact : Fact) → ReadFact (e ∷ es) fact → ReadFact es fact
  fact_same fact h = fact_before e es fact (λ n x is said. subst IsAside is aside) h

  pub indexed_same : AreIndexed es → AreIndexed (e ∷ es)
  indexed_same h = record {
    listed = listed_stays Kind.Index e es (aside_lists Kind.Index e aside) h.listed;
    each = λ n lists.
        let r = h.each n (subst (λ ns. Has ns n) (names_stay Kind.Index e es (aside_lists Kind.Index e aside)) lists) in
        (r.0, r.1, (inr r.2.0, r.2.1), r.3);
  }

  pub packs_listed_same : ArePacksListed es → ArePacksListed (e ∷ es)
  packs_listed_same h fact read = subst (λ ns. Has ns fact.place.pack) (sym (names_stay Kind.Pack e es (aside_lists Kind.Pack e aside))) (h fact (fact_same fact read))

  pub read_same : (k : Known) → HaveRead k es → HaveRead k (e ∷ es)
  read_same k h =
      let packs = aside_lists Kind.Pack e aside in
      record {
        all = record {
          snapshots = listing_stays e es k.rows (aside_lists Kind.Snapshot e aside) h.all.snapshots;
          indexes = indexed_same h.all.indexes;
          listed = names_stay Kind.Index e es (aside_lists Kind.Index e aside) ∙ h.all.listed;
          gives = λ fact. (λ has. fact_stays e es fact ((h.all.gives fact).0 has), λ read. (h.all.gives fact).1 (fact_same fact read));
          packs = paged_on Kind.Pack e k.packs _ es packs.page packs.last packs.ask h.all.packs;
          target = target_later e es k.target h.all.target;
        };
        there = packs_listed_same h.there;
      }

-- a request that neither puts nor deletes
pub record IsNoChange (ask : Ask) : Type 0 where
  pub puts : (k : Kind) → object_put k ask ≡ []
  pub deletes : DeletesNone ask

pub only_listed : (es : Trace) → HasOnlyListed es → IsUntouched es
only_listed es h = record { none_put = h.none_put; none_deleted = h.none_deleted }

pub untouched_same : (e : Exchange) (es : Trace) → IsNoChange e.ask → IsUntouched es → IsUntouched (e ∷ es)
untouched_same e es same h = record {
  none_put = λ k. objects_put_other k e es (same.puts k) ∙ h.none_put k;
  none_deleted = none_deleted_on e es same.deletes h.none_deleted;
}
