use Rattle.std.proofs.Common.{List, ap, subst}
use Rattle.repo_reach.specs.Walks.{Flags}
use Rattle.repo_reach.specs.declared.looks.Seen.{Seen}
use Rattle.repo_reach.proofs.Steps.{unlooked_same, walk_looked, same_of}
use Rattle.repo_reach.proofs.trees.Trees.look.Goals as goal

pub returns-in_err-spread-clause-kept : goal.returns-in_err-spread-clause-kept
returns-in_err-spread-clause-kept c = unlooked_same c.args.self.now c.spread.new.self c.spread.ensures.kept

pub returns-clause-walk : goal.returns-clause-walk
returns-clause-walk c = λ texts seen w there led within next.
    let same = c.spread.ensures.kept in
    let flags : Flags c.args.self.now.seen.items c.args.at c.args.visit.follows c.args.visit.depth c.flag.new.all.items = subst (λ (all : List Seen). Flags all c.args.at c.args.visit.follows c.args.visit.depth c.flag.new.all.items) (ap (λ v. v.items) same.seen) c.flag.ensures in
    walk_looked texts c.args.self.now _ seen c.args.at c.args.visit.follows c.args.visit.depth w there led within next flags (c.in_ok-spread.ensures.more seen there) same.places same.roots c.spread.ensures.root

pub returns-clause-kept : goal.returns-clause-kept
returns-clause-kept c =
    let same = c.spread.ensures.kept in
    let flags : Flags c.args.self.now.seen.items c.args.at c.args.visit.follows c.args.visit.depth c.flag.new.all.items = subst (λ (all : List Seen). Flags all c.args.at c.args.visit.follows c.args.visit.depth c.flag.new.all.items) (ap (λ v. v.items) same.seen) c.flag.ensures in
    record { trees = same_of c.args.self.now.seen.items c.args.at c.args.visit.follows c.args.visit.depth c.flag.new.all.items flags; places = same.places; roots = same.roots }

pub returns-clause-flags : goal.returns-clause-flags
returns-clause-flags c = subst (λ (all : List Seen). Flags all c.args.at c.args.visit.follows c.args.visit.depth c.flag.new.all.items) (ap (λ v. v.items) c.spread.ensures.kept.seen) c.flag.ensures
