use Rattle.std.proofs.Common.{rules, ◌≡◌, subst}
use Rattle.std.specs.Prelude.{IfOk, string_bytes}
use Rattle.repo_session.specs.declared.outcomes.Outcome.{Outcome}
use Rattle.repo_prune.specs.Forgetting.{WouldForget}
use Rattle.repo_prog.specs.Tellings.{foreseen_lines}
use Rattle.repo_prog.proofs.TellLemmas.{shown}
use Rattle.repo_prog.proofs.foresee.show_foreseen.Goals as goal

pub returns-clause-shows : goal.returns-clause-shows
returns-clause-shows g c =
    let rows = c.in-Listed.snapshots in
    let n = c.in-Ok.names.items in
    let came : c.args.outcome.now ≡ Outcome.Listed rows = search rules in
    let would : WouldForget c.args.choice.now rows n = search rules in
    shown _ _ _ _ _ n (rows, came, would) (c.show_made.ensures.shows (foreseen_lines n) (subst (λ all. IfOk c.foreseen_lines.result (λ text. string_bytes text ≡ foreseen_lines all)) c.as_slice-2.ensures.value c.foreseen_lines.ensures))
