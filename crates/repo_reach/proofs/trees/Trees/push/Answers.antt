use Rattle.std.proofs.Common.{rules, ◌+◌, ℕ, refl, subst}
use Rattle.repo_tree.specs.Spelling.{greatest_depth}
use Rattle.repo_reach.specs.declared.looks.Seen.{Seen}
use Rattle.repo_reach.proofs.Flagging.{each_length, each_never}
use Rattle.repo_name.specs.NameMaps.{found, Inserted}
use Rattle.repo_reach.proofs.trees.Trees.push.Goals as goal

pub returns-clause-added : goal.returns-clause-added
returns-clause-added c =
    let old = c.args.self.now in
    let tree : Seen = record { name = c.args.name; links = c.args.links; joint = c.args.joint; depths = c.in_ok-depths.depths; followed = c.in_ok-followed.followed } in (
      tree,
      record {
        name = refl;
        flags = each_length tree (greatest_depth + 1) c.in_ok-depths.ensures.size c.in_ok-followed.ensures.size;
        never = each_never tree c.in_ok-depths.ensures.none c.in_ok-followed.ensures.none;
      },
      refl,
      refl,
      record {
        seen = search rules;
        places = subst (λ (k : ℕ). Inserted (found old.places) c.args.name k (found c.insert_named.new.map)) (search rules) c.in_ok-insert_named.ensures.ok;
        stand = record { roots = refl; root = refl; waiting = refl };
      },
    )
