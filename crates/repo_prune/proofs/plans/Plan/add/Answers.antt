use Rattle.std.proofs.Common.{refl}
use Rattle.repo_index.proofs.PackLemmas.{same_facts_of}
use Rattle.repo_prune.proofs.Planning.{pack_stays, pack_moves}
use Rattle.repo_prune.proofs.plans.Plan.add.Goals as goal

pub returns-in_ok-push : goal.returns-in_ok-push
returns-in_ok-push c = λ same.
    let is = rw c.as_slice-2.ensures at (rw c.as_slice-3.ensures.value at (c.if-is_kept.ensures.0 refl)) in
    pack_stays c.args.used.now c.args.lookup.now c.args.pack c.in_ok-own.own c.in_ok-copies.copies.items (same_facts_of c.args.lookup.now c.args.placed.now c.args.pack c.in_ok-own.own same c.in_ok-own.ensures) (rw c.as_slice.ensures at c.in_ok-copies.ensures) is c.args.self.now _ c.in_ok-push.ensures.items refl

pub returns-in_ok-extend_from_slice : goal.returns-in_ok-extend_from_slice
returns-in_ok-extend_from_slice c = λ same.
    let back = rw c.as_slice-2.ensures at (rw c.as_slice-3.ensures.value at c.if-is_kept.ensures.1) in
    pack_moves c.args.used.now c.args.lookup.now c.args.pack c.in_ok-own.own c.in_ok-copies.copies.items (same_facts_of c.args.lookup.now c.args.placed.now c.args.pack c.in_ok-own.own same c.in_ok-own.ensures) (rw c.as_slice.ensures at c.in_ok-copies.ensures) (λ is. let yes = back is in absurd (cc)) c.args.self.now _
    (rw c.as_slice-else-is_kept.ensures.value at c.in_ok-extend_from_slice.ensures.items) refl
