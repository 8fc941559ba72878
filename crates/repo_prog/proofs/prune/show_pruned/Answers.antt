use Rattle.std.proofs.Common.{rules, ◌≡◌}
use Rattle.repo_session.specs.declared.outcomes.Outcome.{Outcome}
use Rattle.repo_prog.specs.Tellings.{pruned_line}
use Rattle.repo_prog.proofs.TellLemmas.{shown}
use Rattle.repo_prog.proofs.prune.show_pruned.Goals as goal

pub returns-clause-shows : goal.returns-clause-shows
returns-clause-shows g c =
    let p = c.in-Pruned.packs in
    let b = c.in-Pruned.bytes in
    let came : c.args.outcome.now ≡ Outcome.Pruned p b = search rules in
    shown _ _ _ _ _ (p, b) came (c.show_made.ensures.shows (pruned_line p b) c.pruned_line.ensures)
