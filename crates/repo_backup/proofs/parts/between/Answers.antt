use Rattle.std.proofs.Common.{arith, ◌≡◌, ◌+◌, ◌-◌, drop, take, sym, ap, ◌∙◌}
use Rattle.std.proofs.lemmas.List.{drop-take}
use Rattle.repo_backup.proofs.parts.between.Goals as goal

pub returns : goal.returns
returns c = λ forward within.
    let nodes = c.args.nodes.now in
    let from = c.args.from in
    let end = c.args.end in
    let e : c.min-end.result ≡ end = omega (arith, c.min-end.ensures, within) in
    let f : c.min.result ≡ from = omega (arith, c.min.ensures, e, forward) in
    let all : from + (end - from) ≡ end = omega (arith, forward) in
    (λ i. take (e i - f i) (drop (f i) nodes)) ∙ sym (drop-take from (end - from) nodes) ∙ ap (λ n. drop from (take n nodes)) all
