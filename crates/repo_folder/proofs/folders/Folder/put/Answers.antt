use Rattle.std.proofs.Common.{sym, refl, Some, None, ◌∙◌}
use Rattle.repo_folder.proofs.Deciding.{puts_after, puts_again, puts_there, none_there}
use Rattle.repo_folder.proofs.folders.Folder.put.Goals as goal

pub returns-then-not-branch-clause-law : goal.returns-then-not-branch-clause-law
returns-then-not-branch-clause-law g c h =
    let law = c.in_ok-has.ensures.law h in
    puts_after c.args.room c.args.name.now (Some c.args.bytes.now) (g.D.Disk.state c.args.self.now.disk) (g.D.Disk.state c.has.new.self.disk) (g.D.Disk.state c.keep.new.self.disk) law.1 c.args.bytes.now refl
    (none_there _ (sym law.0 ∙ c.if-not-branch.true)) c.keep.result (c.keep.ensures.law (c.in_ok-has.ensures.honest h))

pub returns-then-not-has_failed-clause-law : goal.returns-then-not-has_failed-clause-law
returns-then-not-has_failed-clause-law g c h =
    let law = c.in_ok-has.ensures.law h in
    puts_there c.args.room c.args.name.now None (g.D.Disk.state c.args.self.now.disk) (g.D.Disk.state c.has.new.self.disk) (g.D.Disk.state c.has.new.self.disk) law.1 c.args.bytes.now (sym law.0 ∙ c.if-not-branch.false)

pub returns-clause-law : goal.returns-clause-law
returns-clause-law g c h =
    let law = c.in_ok-has.ensures.law h in
    puts_again c.args.room c.args.name.now (g.D.Disk.state c.args.self.now.disk) (g.D.Disk.state c.has.new.self.disk) (g.D.Disk.state c.renew.new.self.disk) law.1 (c.renew.ensures.same (c.in_ok-has.ensures.honest h)) c.args.bytes.now
    (sym law.0 ∙ c.if-not-branch.false) c.renew.result
