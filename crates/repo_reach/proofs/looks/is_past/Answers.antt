use Rattle.std.proofs.Common.{Some, slice_get, sym, ap, ◌∙◌}
use Rattle.std.proofs.lemmas.Option.{slice_get-get_or}
use Rattle.repo_reach.proofs.Looking.{is_unset}
use Rattle.repo_reach.proofs.looks.is_past.Goals as goal

pub returns-in-Some-get-clause-left : goal.returns-in-Some-get-clause-left
returns-in-Some-get-clause-left c = λ no.
    let seen = c.in-Some.seen.now in
    let there = c.in-Some.ensures.lookup in
    let flag = c.in-Some-get.ensures.lookup in (
      seen,
      slice_get-get_or c.args.all.now c.args.at seen there.3.0 ∙ ap Some (sym there.1),
      ap (λ xs. slice_get xs c.args.depth) (sym c.flags.ensures) ∙ slice_get-get_or c.flags.result.now c.args.depth c.in-Some-get.flag.now flag.3.0 ∙ ap Some (sym flag.1 ∙ is_unset c.in-Some-get.flag.now no),
    )
