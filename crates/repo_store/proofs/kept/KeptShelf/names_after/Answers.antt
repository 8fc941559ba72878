use Rattle.std.proofs.Common.{ap, sym, refl, subst, option_map, ◌∙◌}
use Rattle.repo_store.specs.Kept.{Names, AreThere, is_in}
use Rattle.repo_store.proofs.PageLemmas.{page_of}
use Rattle.repo_store.proofs.Remembering.{known_there, there_known}
use Rattle.repo_store.proofs.kept.KeptShelf.names_after.Goals as goal

pub returns-in-Some-clause-law : goal.returns-in-Some-clause-law
returns-in-Some-clause-law g c h =
    let p = c.in_ok-page_after in
    let names = c.in-Some.names.now in
    let there = (g.S.Shelf.store c.args.self.now.inner).objects c.args.kind in
    let P : Names → Type 0 = λ known. AreThere known there in
    let same = subst P (sym c.names.ensures ∙ ap (option_map (λ names. is_in names.now)) c.in-Some.is) (h.1.names c.args.kind) in
    (page_of _ _ _ _ names (known_there names there same) (there_known names there same) p.ensures.ordered _ _ p.ensures.cut, refl)

pub returns-clause-law : goal.returns-clause-law
returns-clause-law g c h =
    let p = c.in_ok-page in
    let names = c.in_ok-names.names in
    let law = c.in_ok-names.ensures.law h.0 in
    let there = (g.S.Shelf.store c.args.self.now.inner).objects c.args.kind in
    (page_of _ _ _ _ names (known_there names there law.0) (there_known names there law.0) p.ensures.ordered _ _ p.ensures.cut, law.1)
