use Rattle.std.proofs.Common.{ℕ, List, subst}
use Rattle.repo_prog.specs.Tellings.{WritesFirst}
use Rattle.repo_prog.proofs.TellLemmas.{either_way}
use Rattle.repo_prog.proofs.telling.tell_lines.Goals as goal

pub returns : goal.returns
returns g c =
    let P : List ℕ → Type 0 = λ lines. WritesFirst lines (g.F.Write.contents c.args.faults.now) (g.F.Write.contents c.write_whole.new.writer) in
    subst P c.as_bytes.ensures.value (either_way c.write_whole.result c.write_whole.ensures.ok c.write_whole.ensures.err)
