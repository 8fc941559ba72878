use Rattle.std.proofs.Common.{rules, arith, ◌≡◌, ◌≤◌, ◌<◌, ◌++◌, ◌∷◌, [], length, take, refl, sym, ap, subst, ◌∙◌, append_assoc, length-append}
use Rattle.std.proofs.lemmas.List.{take-append-le}
use Rattle.repo_pack.specs.PackLayout.{Item}
use Rattle.repo_session.specs.Traces.{Each}
use Rattle.repo_writing.specs.Blobs.{HasItem, AreOnce, HasFact}
use Rattle.repo_writing.proofs.BlobLemmas.{has_one, once_apart, once_left, each_left}
use Rattle.repo_backup.specs.Packings.{Notes}
use Rattle.repo_backup.proofs.packing.Packing.take_back.Goals as goal

pub loop-self-preserved : goal.loop-self-preserved
loop-self-preserved c =
    let old = c.loop-self.self in
    let inv = c.loop-self.invariant in
    let k = c.in-Some.ensures.popped in
    let item = k.0 in
    let front = c.pop.new.self.items in
    let items : old.packer.writer.items ≡ front ++ item ∷ [] = ap (λ w. w.items) k.1 in
    let many : c.args.count < length old.packer.writer.items = search (rules, arith) in
    let keep : c.args.count ≤ length front = omega (arith, many, ap length items, length-append front (item ∷ [])) in
    record {
      packing = λ known sent sealed h. (
          let p = inv.packing known sent sealed h in
          let before = (sent ++ sealed) ++ front in
          let U : Item → Type 0 = λ i. ¬ HasFact known i.kind i.name in
          let all : (sent ++ sealed) ++ old.packer.writer.items ≡ before ++ item ∷ [] = ap (λ l. (sent ++ sealed) ++ l) items ∙ sym (append_assoc (sent ++ sealed) front (item ∷ [])) in
          let once = subst AreOnce all p.once in
          let absent : HasItem before item.kind item.name → ⊥ = λ has. once_apart before (item ∷ []) item.kind item.name once has (has_one item item.kind item.name refl refl) in
          record {
            sealed_is = p.sealed_is;
            noted = c.remove.ensures before item (sym k.2) (sym k.3) (λ has. absent (rw (sym k.2, sym k.3) has)) (subst (λ l. Notes old.added l) all p.noted);
            once = once_left before (item ∷ []) once;
            unknown = each_left U before (item ∷ []) (subst (λ l. Each U l) all p.unknown);
          });
      items = sym (take-append-le c.args.count front (item ∷ []) keep) ∙ ap (take c.args.count) (sym items) ∙ inv.items;
      size = sym (ap (λ w. w.target) k.1) ∙ inv.size;
      target = inv.target;
      sealed = inv.sealed;
    }
