use Rattle.std.proofs.Common.{None, arith, refl, sym, subst}
use Rattle.repo_store.specs.Services.{nothing, Rests}
use Rattle.repo_store.specs.Serving.{seen}
use Rattle.repo_store.specs.Stores.{Store, empty}
use Rattle.repo_prog.specs.HexLines.{hex_line}
use Rattle.repo_prog.proofs.talks.Talk.new.Goals as goal

pub returns-clause-talks : goal.returns-clause-talks
returns-clause-talks c start =
    let P : Store → Type 0 = λ s. Rests hex_line (seen empty 0 start) c.new-2.result nothing (seen s 0 start) in
    record { spelled = refl; rests = subst P (sym c.new-3.ensures) (c.new-2.ensures (seen empty 0 start)); number = refl }

pub returns-clause-few : goal.returns-clause-few
returns-clause-few c = let none = (c.new-2.ensures (seen empty 0 None)).has.count in omega (arith, none)
