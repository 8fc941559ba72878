-- Packs that indexes name, and that aren't listed.
use Rattle.std.proofs.Common.{◌≡◌, ◌∷◌, [], false, List, slice_get, refl, sym, ap, subst, inl, inr, ◌∙◌, Contains}
use Rattle.std.specs.Ordering.{ordering_reverse}
use Rattle.std.specs.declared.cmp.Ordering.TheVariants.{Less, Greater}
use Rattle.std.proofs.lemmas.Map.Keys.{sorted_head}
use Rattle.repo_name.specs.Naming.{name_cmp, Before}
use Rattle.repo_name.specs.declared.kinds.Kind.{Kind}
use Rattle.repo_name.specs.declared.names.Name.{Name}
use Rattle.repo_name.proofs.Containing.{none_contained, first_contained, contained_or}
use Rattle.repo_index.specs.Lookups.{ArePacksOf, HasSame}
use Rattle.repo_index.specs.Order.{names_total}
use Rattle.repo_index.specs.declared.facts.Fact.{Fact}
use Rattle.repo_session.specs.Traces.{Trace, Lists, names_in}
use Rattle.repo_prune.specs.Pruning.{ArePacksListed, IsMissingPack}
use Rattle.repo_prune.specs.PruneStates.{AreAllListed, Known}
use Rattle.repo_prune.specs.inner.Picking.{ArePicked}
use Rattle.repo_prune.specs.inner.Unlisted.{AreAllIn, FindsUnlisted, IsUnlisted}
use Rattle.repo_prune.proofs.Ascending.{each_all}
use Rattle.repo_prune.proofs.Choosing.{contained_has, has_contained}
use Rattle.repo_prune.proofs.PruneDeletes.{IsUnlike, among_or, is_not_among, not_among}
use Rattle.repo_prune.proofs.Those.{are_those, those_are, those_ascend}

-- of two names one alone is less than the other
not_less : (m n : Name) → Before m n → Before n m → ⊥
not_less m n less more = let back : name_cmp n m ≡ Greater = names_total.antisymm n m ∙ ap ordering_reverse less in absurd (cc)

module _ (facts placed : List Fact) (packs listed : List Name) (same : HasSame facts placed) (of_facts : ArePacksOf placed packs) where
  pack_of : (fact : Fact) → Contains facts fact → Contains packs fact.place.pack
  pack_of fact among = (of_facts.each fact.place.pack).1 (fact, (same fact).1 among, refl)

  -- of a pack that isn't picked as unlisted, it is known that it is listed
  in_listed : (unlisted : List Name) → ArePicked packs listed false unlisted → (pack : Name) → Contains packs pack → ¬ Contains unlisted pack → Contains listed pack
  in_listed unlisted picked pack among none = elim (among_or listed pack) [
    | inl there ↦ there
    | inr lacks ↦ absurd (none (are_those (IsUnlike listed) packs unlisted pack picked among (is_not_among listed pack lacks)))
  ]

  none_unlisted : ArePicked packs listed false [] → AreAllIn facts listed
  none_unlisted picked fact among = in_listed [] picked fact.place.pack (pack_of fact among) (λ h. none_contained fact.place.pack h)

  first_unlisted : (pack : Name) (rest : List Name) → ArePicked packs listed false (pack ∷ rest) → IsUnlisted facts listed pack
  first_unlisted pack rest picked =
      let is = those_are (IsUnlike listed) packs (pack ∷ rest) pack picked (first_contained pack rest) in
      let of = (of_facts.each pack).0 is.0 in
      let sorted = those_ascend (IsUnlike listed) name_cmp packs (pack ∷ rest) picked of_facts.ascend in
      record {
        fact = of.0;
        among = (same of.0).0 of.1;
        of_pack = of.2;
        unlisted = not_among listed pack is.1;
        least = λ other among less. in_listed (pack ∷ rest) picked other.place.pack (pack_of other among) (λ h. elim (contained_or pack rest other.place.pack h) [
          | inl here ↦ not_less other.place.pack pack less (subst (Before pack) here (subst (λ n. Before n pack) (sym here) less))
          | inr later ↦ not_less pack other.place.pack (each_all (λ (n : Name). name_cmp pack n ≡ Less) rest other.place.pack (sorted_head name_cmp pack rest sorted) later) less
        ]);
      }

  -- what stands first of those that were picked
  pub found : (unlisted : List Name) → ArePicked packs listed false unlisted → FindsUnlisted facts listed (slice_get unlisted 0)
  found [] picked = none_unlisted picked
  found (pack ∷ rest) picked = first_unlisted pack rest picked

-- ---- over the trace

module _ (k : Known) (es : Trace) (h : AreAllListed k es) where
  lists_pack : (pack : Name) → Contains k.packs pack → Lists es Kind.Pack pack
  lists_pack pack among = contained_has (names_in Kind.Pack es) pack (subst (λ ns. Contains ns pack) (sym h.packs.listed) among)

  pub all_in : AreAllIn k.facts k.packs → ArePacksListed es
  all_in there fact read = lists_pack fact.place.pack (there fact ((h.gives fact).1 read))

  pub pack_missing : (pack : Name) → IsUnlisted k.facts k.packs pack → IsMissingPack es pack
  pack_missing pack u = record {
    indexes = h.indexes;
    packs = record { complete = h.packs.complete; rise = h.packs.rise };
    fact = u.fact;
    read = (h.gives u.fact).0 u.among;
    of_pack = u.of_pack;
    unlisted = λ lists. u.unlisted (subst (λ ns. Contains ns pack) h.packs.listed (has_contained (names_in Kind.Pack es) pack lists));
    least = λ other read less. lists_pack other.place.pack (u.least other ((h.gives other).1 read) less);
  }
