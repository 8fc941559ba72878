use Rattle.std.proofs.Common.{rules, ◌≡◌}
use Rattle.repo_session.specs.declared.outcomes.Outcome.{Outcome}
use Rattle.repo_prog.specs.Tellings.{upgraded_line}
use Rattle.repo_prog.proofs.TellLemmas.{shown}
use Rattle.repo_prog.proofs.upgrade.show_upgraded.Goals as goal

pub returns-clause-shows : goal.returns-clause-shows
returns-clause-shows g c =
    let came : c.args.outcome.now ≡ Outcome.Upgraded = search rules in
    shown _ _ _ _ _ tt came (c.show_made.ensures.shows upgraded_line c.upgraded_line.ensures)
