use Rattle.std.proofs.Common.{rules, ◌≡◌, [], length, take, sym, ◌∙◌}
use Rattle.std.proofs.Math.Seq.{take-append_seam}
use Rattle.repo_backup.proofs.packing.Packing.pack_all.Goals as goal

pub returns-in-Err-clause-err : goal.returns-in-Err-clause-err
returns-in-Err-clause-err c =
    let known = c.args.lookup.now in
    let old = c.args.self.now in
    let back = c.take_back.ensures in
    let grows = c.in-Err.ensures.more in
    let count : c.len-count.result ≡ length old.packer.writer.items = search rules in
    let items : c.take_back.new.self.packer.writer.items ≡ old.packer.writer.items = back.items ∙ (λ i. take (count i) (grows.0.1 i)) ∙ take-append_seam old.packer.writer.items grows.0.0 in
    let target : c.take_back.new.self.packer.writer.target ≡ old.packer.writer.target = back.size ∙ grows.1 in
    ((λ i. record { items = items i; target = target i }), back.sealed ∙ c.in-Err.ensures.still ∙ sym c.requires.none, λ sent h. back.packing known sent [] (c.in-Err.ensures.packs sent h))
