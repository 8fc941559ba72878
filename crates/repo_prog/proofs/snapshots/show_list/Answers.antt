use Rattle.std.proofs.Common.{rules, ◌≡◌, subst}
use Rattle.std.specs.Prelude.{IfOk, string_bytes}
use Rattle.repo_session.specs.declared.outcomes.Outcome.{Outcome}
use Rattle.repo_prog.specs.Tellings.{snapshot_lines}
use Rattle.repo_prog.proofs.TellLemmas.{shown}
use Rattle.repo_prog.proofs.snapshots.show_list.Goals as goal

pub returns-clause-shows : goal.returns-clause-shows
returns-clause-shows g c =
    let n = c.in-Listed.snapshots in
    let came : c.args.outcome.now ≡ Outcome.Listed n = search rules in
    shown _ _ _ _ _ n came (c.show_made.ensures.shows (snapshot_lines n) (subst (λ all. IfOk c.snapshot_lines.result (λ text. string_bytes text ≡ snapshot_lines all)) c.as_slice.ensures c.snapshot_lines.ensures))
