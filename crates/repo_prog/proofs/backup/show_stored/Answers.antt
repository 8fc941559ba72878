use Rattle.std.proofs.Common.{rules, ◌≡◌, Some}
use Rattle.std.specs.Prelude.{option_map}
use Rattle.repo_session.specs.declared.outcomes.Outcome.{Outcome}
use Rattle.repo_prog.specs.Tellings.{stored_line}
use Rattle.repo_prog.proofs.TellLemmas.{shown}
use Rattle.repo_prog.proofs.backup.show_stored.Goals as goal

pub returns-clause-shows : goal.returns-clause-shows
returns-clause-shows g c =
    let n = c.in-Some-Stored.name in
    let b = c.in-Some-Stored.blobs in
    let s = c.in-Some-Stored.bytes in
    let came : option_map (λ o. o.now) c.args.outcome ≡ Some (Outcome.Stored n b s) = search rules in
    shown _ _ _ _ _ (n, b, s) came (c.show_made.ensures.shows (stored_line n b s) c.stored_line.ensures)
