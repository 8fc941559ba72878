use Rattle.std.proofs.Common.{List, Option, None, sym, ap, subst, ◌∙◌, option_map, Bor}
use Rattle.repo_index.specs.declared.facts.Fact.{Fact}
use Rattle.repo_store.specs.Pages.{NamesAscend}
use Rattle.repo_check.specs.Fitting.{facts_at}
use Rattle.repo_check.proofs.PackFinds.{found_none, none_here, noted_here}
use Rattle.repo_check.proofs.fitting.facts_of.Goals as goal

pub returns-in_default : goal.returns-in_default
returns-in_default c = λ ascend.
    let same = c.as_slice.ensures.value in
    let notes = c.args.packs.now.notes.items in
    let pack = c.args.pack.now in
    sym (ap (λ ns. facts_at ns notes pack) (sym same) ∙ found_none c.as_slice.result.now notes pack c.in_default.field-0 c.in_default.ensures.bound (subst (λ ns. NamesAscend None ns) (sym same) ascend) c.in_default.ensures.position)

pub returns-in_err-note : goal.returns-in_err-note
returns-in_err-note c = λ ascend.
    let gone = none_here c.args.packs.now.roll.names.items c.as_slice.result.now c.args.packs.now.notes.items c.deref.result.now c.args.pack.now c.in-Ok.place c.as_slice.ensures.value c.deref.ensures.value c.in-Ok.ensures.bound c.in-Ok.ensures.position ascend c.in_err-note.ensures.lookup.3 in
    ap (λ (o : Option (Bor (List Fact))). option_map (λ facts. facts.now) o) c.from_residual.ensures ∙ sym gone

pub returns : goal.returns
returns c = λ ascend. c.well_of.ensures ∙ sym (noted_here c.args.packs.now.roll.names.items c.as_slice.result.now c.args.packs.now.notes.items c.deref.result.now c.args.pack.now c.in-Ok.place c.as_slice.ensures.value c.deref.ensures.value c.in-Ok.ensures.bound c.in-Ok.ensures.position ascend
    c.in_ok-note.note.now c.in_ok-note.ensures.lookup.3.0 c.in_ok-note.ensures.lookup.3.1)
