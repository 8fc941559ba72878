use Rattle.std.proofs.Common.{rules, ◌≡◌, Result, Ok, Err, OnOk, None, refl}
use Rattle.repo_prune.specs.declared.moving.Moving.{Moving}
use Rattle.repo_prune.proofs.Repacking.{sealed_moving}
use Rattle.repo_prune.proofs.moving.Moving.seal.Goals as goal

all_ok : {T E A B C D : Type 0} (r : Result T E) → (A → B → C → D) → OnOk r A → OnOk r B → OnOk r C → OnOk r D
all_ok (Ok x) f a b c = f a b c
all_ok (Err e) f a b c = tt

pub returns-clause-moving : goal.returns-clause-moving
returns-clause-moving c =
    let m = c.args.self.now in
    let n : Moving = record m { packer = c.seal.new.self } in
    let none : m.packer.sealed ≡ None = search rules in
    all_ok c.seal.result
    (λ is begun size sent sealed may moving. (m.packer.writer.items, sealed_moving m n sent sealed none c.requires may moving is.0 begun size c.seal.ensures.target refl refl refl))
    c.seal.ensures.ok c.seal.ensures.begun c.seal.ensures.size
