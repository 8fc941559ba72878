use Rattle.std.proofs.Common.{ℕ, List, ◌⊎◌, inr, subst, string_bytes}
use Rattle.std.specs.Io.KnownBytes.{Appends}
use Rattle.repo_store.specs.Output.{AppendsPart}
use Rattle.repo_prog.proofs.serve.show_listening.Goals as goal

pub returns-clause-cut : goal.returns-clause-cut
returns-clause-cut g c failed =
    let start = g.W.Write.contents c.args.console.now.output in
    let contents = g.W.Write.contents c.write_out.new.output in
    let P : List ℕ → Type 0 = λ lines. AppendsPart start contents lines ⊎ Appends start contents lines in
    inr (string_bytes c.in-Ok.lines, c.in-Ok.ensures, subst P c.as_str.ensures.value c.in-Err.ensures.err)
