use Rattle.std.proofs.Common.{arith, inr, ◌∙◌}
use Rattle.repo_check.proofs.Arriving.{pack_length}
use Rattle.repo_check.proofs.objects.facts_of.Goals as goal

pub returns-then-bytes-ge-LARGE : goal.returns-then-bytes-ge-LARGE
returns-then-bytes-ge-LARGE c =
    let size = pack_length c.args.bytes.now c.args.view.now c.requires in
    let large = c.if-bytes-ge-LARGE.true in
    inr (c.of.ensures ∙ c.new.ensures.items, omega (arith, size, large))
