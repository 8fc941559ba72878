use Rattle.std.proofs.Common.{refl, sym, subst}
use Rattle.repo_restore.specs.declared.nodes.Level.{Level}
use Rattle.repo_restore.specs.Walking.{NodeHasBegun}
use Rattle.repo_restore.proofs.Passing.{last_same}
use Rattle.repo_restore.proofs.walks.open_content.Goals as goal

pub returns-in-Some : goal.returns-in-Some
returns-in-Some c = λ above level node size content are h is.
    let same = last_same c.args.levels.now c.args.levels.now above c.in-Some.level.now level refl c.in-Some.ensures.value are in
    let H : Level → Type 0 = λ l. NodeHasBegun l node in
    c.begun_content.ensures node size content (subst H (sym same) h) is
