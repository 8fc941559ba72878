use Rattle.std.proofs.Common.{◌≡◌, refl, ◌∙◌}
use Rattle.repo_script.proofs.CutLemmas.{no_line_ends, line_ends}
use Rattle.repo_script.proofs.streams.LineCutter.next_line.Goals as goal

pub returns-in_default-clause-line : goal.returns-in_default-clause-line
returns-in_default-clause-line c =
    let same : c.as_slice-stream.result.now ≡ c.args.self.now = c.as_slice-stream.ensures ∙ c.self.view_is in
    (rw same at (no_line_ends c.as_slice-stream.result.now (rw c.in_default.is at c.memchr.ensures)), refl)

pub returns-clause-line : goal.returns-clause-line
returns-clause-line c =
    let same : c.as_slice-stream.result.now ≡ c.args.self.now = c.as_slice-stream.ensures ∙ c.self.view_is in
    let found = rw same at (line_ends c.as_slice-stream.result.now c.in-Some.end (rw c.in-Some.is at c.memchr.ensures)) in
    rw (c.in_ok-line.ensures.items, same, c.advance.ensures.items, c.self.view_is) found
