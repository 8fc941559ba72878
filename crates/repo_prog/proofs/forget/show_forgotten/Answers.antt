use Rattle.std.proofs.Common.{rules, ◌≡◌, subst}
use Rattle.std.specs.Prelude.{IfOk, string_bytes}
use Rattle.repo_session.specs.declared.outcomes.Outcome.{Outcome}
use Rattle.repo_prog.specs.Tellings.{forgotten_lines}
use Rattle.repo_prog.proofs.TellLemmas.{shown}
use Rattle.repo_prog.proofs.forget.show_forgotten.Goals as goal

pub returns-clause-shows : goal.returns-clause-shows
returns-clause-shows g c =
    let n = c.in-Forgotten.names in
    let came : c.args.outcome.now ≡ Outcome.Forgotten n = search rules in
    shown _ _ _ _ _ n came (c.show_made.ensures.shows (forgotten_lines n) (subst (λ all. IfOk c.forgotten_lines.result (λ text. string_bytes text ≡ forgotten_lines all)) c.as_slice.ensures.value c.forgotten_lines.ensures))
