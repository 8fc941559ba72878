use Rattle.std.proofs.Common.{None, ◌∙◌, sym, subst}
use Rattle.repo_reach.specs.Walks.{StandsAt}
use Rattle.repo_prune.proofs.TreeReading.{awaits_stay, none_parts}
use Rattle.repo_prune.proofs.reading.untake.Goals as goal

pub returns-clause-still : goal.returns-clause-still
returns-clause-still c = λ facts texts before fact h a.
    let back = c.take_back.ensures in
    let none = subst (λ n. StandsAt before.seen.items n None) (sym h.named) a.next.2 in
    awaits_stay facts texts before c.take_back.new.self fact (back.trees before h.added h.seen h.adds h.same)
    (back.roots ∙ h.same.roots ∙ h.adds.stand.roots) (back.walk texts before h.added h.seen a.walks.walk none h.adds h.same) (none_parts c.take_back.new.self.seen.items back.never) a
