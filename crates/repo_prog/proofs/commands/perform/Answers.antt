use Rattle.std.proofs.Common.{ℕ, List, refl, subst}
use Rattle.repo_prog.specs.Commands.{Listens, ListensAtMost}
use Rattle.repo_prog.proofs.commands.perform.Goals as goal

pub returns-in-Serve-clause-gives : goal.returns-in-Serve-clause-gives
returns-in-Serve-clause-gives g c =
    let start = g.W.Write.contents c.args.console.now.output in
    let now = g.W.Write.contents c.serve_folder.new.console.output in
    let P : List ℕ → Type 0 = λ a. Listens a start now in
    let Q : List ℕ → Type 0 = λ a. ListensAtMost a start now in
    let text = c.as_str-in-Serve-2.ensures.value in
    rw c.in-Serve.is (refl, c.serve_folder.ensures.status, (λ done. subst P text (c.serve_folder.ensures.written done)), (λ failed. subst Q text (c.serve_folder.ensures.cut failed)))
