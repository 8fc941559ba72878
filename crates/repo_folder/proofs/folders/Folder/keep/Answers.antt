use Rattle.std.proofs.Common.{subst}
use Rattle.repo_folder.specs.Folders.{IsHonest}
use Rattle.repo_folder.proofs.Deciding.{keeps_after}
use Rattle.repo_folder.proofs.folders.Folder.keep.Goals as goal

pub returns-clause-law : goal.returns-clause-law
returns-clause-law g c h =
    let p = c.in_ok-prepare.ensures in
    let ok = p.ok h in
    let settled = subst (λ standing. IsHonest (g.D.Disk.faithful c.prepare.new.self.disk) standing (g.D.Disk.state c.prepare.new.self.disk)) ok.0 (p.honest h) in
    keeps_after _ _ _ _ _ _ (p.same h) _ (c.give.ensures.law c.args.bytes.now ok.1 settled)
