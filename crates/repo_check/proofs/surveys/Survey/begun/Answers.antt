use Rattle.std.proofs.Common.{[], refl, sym, subst}
use Rattle.std.specs.List.{flat_map}
use Rattle.repo_index.specs.Lookups.{Joins}
use Rattle.repo_check.specs.Gathering.{facts_noted, root_noted}
use Rattle.repo_check.specs.Visiting.{BeginsAt}
use Rattle.repo_check.proofs.surveys.Survey.begun.Goals as goal

pub returns : goal.returns
returns c =
    let s = c.args.self.now in
    let lookup = c.in_ok-lookup.lookup in
    let facts = subst (λ notes. Joins [] (flat_map facts_noted notes) lookup) c.as_slice.ensures.value c.in_ok-lookup.ensures in
    let begins = subst (λ notes. BeginsAt (flat_map root_noted notes) c.in_ok-visits.visits) c.as_slice-2.ensures.value c.in_ok-visits.ensures in
    let fresh = c.new.ensures.fresh in
    record {
      roots = flat_map root_noted s.snapshots.notes.items;
      roots_are = refl;
      facts = subst (λ fs. Joins [] (flat_map facts_noted s.indexes.notes.items) fs) (sym fresh.0) facts;
      fresh = (refl, fresh.1, fresh.2);
      walks = c.new.ensures.begun (flat_map root_noted s.snapshots.notes.items) begins;
    }
