use Rattle.std.proofs.Common.{string_bytes}
use Rattle.repo_prog.proofs.ListenLemmas.{left_listens}
use Rattle.repo_prog.proofs.serve.listening_lines.Goals as goal

pub returns-in-Some : goal.returns-in-Some
returns-in-Some c = left_listens string_bytes c.args.address.now c.in-Some.host.now c.args.port c.left_lines.result c.in-Some.ensures.some c.left_lines.ensures
