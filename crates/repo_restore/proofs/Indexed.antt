-- Where all indexes were read, a restore reads none again: what they give stays.
use Rattle.std.proofs.Common.{◌≢◌, ◌⊎◌, ◌↔◌, ◌∷◌, List, Option, Contains, inl, inr, subst}
use Rattle.repo_name.specs.declared.kinds.Kind.{Kind}
use Rattle.repo_name.specs.declared.names.Name.{Name}
use Rattle.repo_wire.specs.declared.messages.Ask.{Ask}
use Rattle.repo_wire.specs.declared.messages.Say.{Say}
use Rattle.repo_index.specs.declared.facts.Fact.{Fact}
use Rattle.repo_store.specs.Pages.{Has}
use Rattle.repo_session.specs.Catalogs.{AreIndexed}
use Rattle.repo_session.specs.Order.{IsPermitted, May, MayGet, Obeys}
use Rattle.repo_session.specs.Traces.{Exchange, Trace, WasAsked, ReadFact}
use Rattle.repo_session.proofs.Cataloguing.{fact_stays, fact_before}
use Rattle.repo_session.proofs.Deleting.{ListsNone, listed_stays, names_stay}
use Rattle.repo_session.proofs.PageLemmas.{IsPageOf, GivesNoPage, page_or}
use Rattle.repo_session.proofs.Spoken.{was_asked}
use Rattle.repo_restore.specs.Restoring.{Wish, restore_task, RestoreAllows, RestoreGives}
use Rattle.repo_session.specs.Ends.{AsksPart}

-- a blob is asked for where all indexes were read
pub range_indexed : (snapshot : Name) (es : Trace) (ask : Ask) → AsksPart ask → IsPermitted (RestoreAllows snapshot) es ask → AreIndexed es
range_indexed snapshot es (Ask.Range pack offset len) blob allowed = (allowed tt).indexes
range_indexed snapshot es Ask.Ticket blob allowed = absurd blob
range_indexed snapshot es (Ask.Lock row) blob allowed = absurd blob
range_indexed snapshot es (Ask.Refresh token time) blob allowed = absurd blob
range_indexed snapshot es (Ask.Unlock token) blob allowed = absurd blob
range_indexed snapshot es Ask.Locks blob allowed = absurd blob
range_indexed snapshot es (Ask.List k after) blob allowed = absurd blob
range_indexed snapshot es (Ask.Get k n) blob allowed = absurd blob
range_indexed snapshot es (Ask.Put token k n x) blob allowed = absurd blob
range_indexed snapshot es (Ask.Delete token k n) blob allowed = absurd blob
range_indexed snapshot es Ask.Config blob allowed = absurd blob
range_indexed snapshot es (Ask.Upgrade token) blob allowed = absurd blob

module _ (w : Wish) (e : Exchange) (es : Trace) (all : AreIndexed es) (o : Obeys (restore_task w) (RestoreAllows w.snapshot) (RestoreGives w.snapshot) (e ∷ es)) where
  no_page : (after : Option Name) → e.ask ≢ Ask.List Kind.Index after
  no_page after is =
      let may = subst (λ a. May (restore_task w) es a) is o.0 in
      let no = may.1.incomplete in
      let yes = all.listed.complete in
      absurd (cc)

  no_index : (n : Name) → e.ask ≢ Ask.Get Kind.Index n
  no_index n is =
      let may = subst (λ a. May (restore_task w) es a) is o.0 in
      let allowed = subst (λ a. IsPermitted (RestoreAllows w.snapshot) es a) is o.1 tt in
      again may.1 allowed.0.1
    where
      again : MayGet (restore_task w) Kind.Index n es → ¬ WasAsked es (Ask.Get Kind.Index n) → ⊥
      again (inl lists) once = let read = all.each n lists.1 in once (was_asked es (Ask.Get Kind.Index n) (Say.Bytes read.0) read.2.0)
      again (inr given) once = absurd (cc given.0)

  lists_none : ListsNone Kind.Index e
  lists_none = by (page_or Kind.Index e.ask e.say)
    where
      by : IsPageOf Kind.Index e.ask e.say ⊎ GivesNoPage Kind.Index e.ask e.say → ListsNone Kind.Index e
      by (inl page) = absurd (no_page page.after page.asked)
      by (inr none) = record { page = none.0; last = none.1; ask = no_page }

  pub indexed_stays : AreIndexed (e ∷ es)
  indexed_stays = record {
    listed = listed_stays Kind.Index e es lists_none all.listed;
    each = λ n l.
        let read = all.each n (subst (λ ns. Has ns n) (names_stay Kind.Index e es lists_none) l) in
        (read.0, read.1, (inr read.2.0, read.2.1), read.3);
  }

  pub gives_stays : (facts : List Fact) → ((fact : Fact) → Contains facts fact ↔ ReadFact es fact) → (fact : Fact) → Contains facts fact ↔ ReadFact (e ∷ es) fact
  gives_stays facts gives fact = (λ has. fact_stays e es fact ((gives fact).0 has), λ is. (gives fact).1 (fact_before e es fact (λ n x asked said. no_index n asked) is))
