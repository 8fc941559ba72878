use Rattle.repo_prog.proofs.ListenLemmas.{whole_listens}
use Rattle.repo_prog.proofs.serve.serve_folder.Goals as goal

pub returns-clause-cut : goal.returns-clause-cut
returns-clause-cut g c failed = whole_listens c.args.address.now (g.W.Write.contents c.args.console.now.output) (g.W.Write.contents c.show_listening.new.console.output) (c.show_listening.ensures.written c.in-Done.is)
