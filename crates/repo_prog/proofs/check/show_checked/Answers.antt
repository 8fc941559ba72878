use Rattle.std.proofs.Common.{rules, ◌≡◌, subst}
use Rattle.std.specs.Prelude.{IfOk, string_bytes}
use Rattle.repo_session.specs.declared.outcomes.Outcome.{Outcome}
use Rattle.repo_prog.specs.Tellings.{clean_line, fault_lines}
use Rattle.repo_prog.proofs.TellLemmas.{shown_ill, shown_well}
use Rattle.repo_prog.proofs.check.show_checked.Goals as goal

pub returns-in-Clean-clause-shows : goal.returns-in-Clean-clause-shows
returns-in-Clean-clause-shows g c =
    let s = c.in-Clean.snapshots in
    let i = c.in-Clean.indexes in
    let p = c.in-Clean.packs in
    let b = c.in-Clean.blobs in
    let came : c.args.outcome.now ≡ Outcome.Clean s i p b = search rules in
    shown_well _ _ _ _ _ _ _ (s, i, p, b) came (c.show_made.ensures.shows (clean_line s i p b) c.clean_line-line.ensures)

pub returns-in-Faults-clause-shows : goal.returns-in-Faults-clause-shows
returns-in-Faults-clause-shows g c =
    let found = c.in-Faults.found in
    let came : c.args.outcome.now ≡ Outcome.Faults found = search rules in
    shown_ill _ _ _ _ _ _ _ _ c.flawed.ensures.done c.flawed.ensures.same found came (c.show_made-in-Faults.ensures.shows (fault_lines found) (subst (λ all. IfOk c.fault_lines.result (λ text. string_bytes text ≡ fault_lines all)) c.as_slice.ensures c.fault_lines.ensures))
