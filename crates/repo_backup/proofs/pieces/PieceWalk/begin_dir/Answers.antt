use Rattle.std.proofs.Common.{rules, ◌≡◌, ◌++◌, ◌∷◌, [], refl, sym, subst, ◌∙◌}
use Rattle.repo_backup.specs.Folders.{nothing}
use Rattle.repo_backup.specs.Pieces.{IsRootAt}
use Rattle.repo_backup.specs.declared.pieces.Outer.{Outer}
use Rattle.repo_backup.proofs.pieces.PieceWalk.begin_dir.Goals as goal

pub returns-clause-ok : goal.returns-clause-ok
returns-clause-ok c = λ st at.
    let outer : Outer = record { nodes = c.replace-nodes.result; name = c.args.name } in
    let above : c.push.new.self.items ≡ c.args.self.now.above.items ++ outer ∷ [] = search rules in
    let nodes : c.replace-nodes.new.dest.items ≡ [] = search rules in
    let before : c.replace-nodes.result.items ≡ c.args.self.now.nodes.items = search rules in
    record { outers = (c.args.self.now.above.items, outer, above, refl, before ∙ at.nodes, at.outers); nodes = nodes; file = at.file; over = at.over; root = subst (λ r. IsRootAt c.args.self.now.version r nothing) (sym c.requires.unended) tt }
