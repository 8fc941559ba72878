use Rattle.std.proofs.Common.{rules, ◌≡◌}
use Rattle.repo_session.specs.declared.outcomes.Outcome.{Outcome}
use Rattle.repo_prog.specs.Tellings.{complete_line}
use Rattle.repo_prog.proofs.TellLemmas.{shown}
use Rattle.repo_prog.proofs.restore.show_restored.Goals as goal

pub returns-clause-shows : goal.returns-clause-shows
returns-clause-shows g c =
    let n = c.in-Complete.entries in
    let came : c.args.outcome.now ≡ Outcome.Complete n = search rules in
    shown _ _ _ _ _ n came (c.show_made.ensures.shows (complete_line n) c.complete_line.ensures)
