use Rattle.std.proofs.Common.{rules, arith, ◌≡◌, ◌<◌, ◌≤◌, length, None, sym, subst}
use Rattle.repo_tree.specs.Components.{IsComponent}
use Rattle.repo_tree.specs.TreeText.{Follows}
use Rattle.repo_backup.proofs.NamePlaces.{depth_of, may_begin, no_begin, too_deep, not_deep}
use Rattle.repo_backup.proofs.pieces.PieceWalk.check_name.Goals as goal

pub returns-then-not-follows-clause-fault : goal.returns-then-not-follows-clause-fault
returns-then-not-follows-clause-fault c = λ st at.
    let name = c.args.name.now in
    let component : IsComponent name = c.is_component.ensures.0 c.if-not-is_component.false in
    let never : Follows c.args.self.now.nodes.items name → ⊥ = λ f. let yes = c.follows.ensures.1 (subst (λ ns. Follows ns name) (sym c.as_slice.ensures.value) f) in let no = c.if-not-follows.true in absurd (cc) in
    (component, no_begin c.args.self.now st name at never)

pub returns-then-len-ge-DEEPEST-clause-fault : goal.returns-then-len-ge-DEEPEST-clause-fault
returns-then-len-ge-DEEPEST-clause-fault c = λ st at.
    let name = c.args.name.now in
    let component : IsComponent name = c.is_component.ensures.0 c.if-not-is_component.false in
    let none : c.args.self.now.file ≡ None = search rules in
    let follows : Follows c.args.self.now.nodes.items name = subst (λ ns. Follows ns name) c.as_slice.ensures.value (c.follows.ensures.0 c.if-not-follows.false) in
    let many : 100 ≤ length c.args.self.now.above.items = omega (arith, c.len.ensures, c.if-len-ge-DEEPEST.true) in
    (component, may_begin c.args.self.now st name at none follows, too_deep (length c.args.self.now.above.items) _ (depth_of c.args.self.now st name at) many)

pub returns-clause-ok : goal.returns-clause-ok
returns-clause-ok c = λ st at.
    let name = c.args.name.now in
    let component : IsComponent name = c.is_component.ensures.0 c.if-not-is_component.false in
    let none : c.args.self.now.file ≡ None = search rules in
    let follows : Follows c.args.self.now.nodes.items name = subst (λ ns. Follows ns name) c.as_slice.ensures.value (c.follows.ensures.0 c.if-not-follows.false) in
    let few : length c.args.self.now.above.items < 100 = omega (arith, c.len.ensures, c.if-len-ge-DEEPEST.false) in
    (component, may_begin c.args.self.now st name at none follows, not_deep (length c.args.self.now.above.items) _ (depth_of c.args.self.now st name at) few)
