use Rattle.std.proofs.Common.{◌≡◌, ◌++◌, [], List, true, sym, ap, subst, inr, ◌∙◌, append-nil}
use Rattle.std.proofs.Common.{rules}
use Rattle.repo_pack.specs.PackLayout.{Item}
use Rattle.repo_pack.specs.PackWriting.{IsDue}
use Rattle.repo_backup.specs.Packings.{IsPacking, all_items}
use Rattle.repo_backup.specs.Standings.{chunk_items}
use Rattle.repo_backup.specs.Waiting.{AllGainMore}
use Rattle.repo_backup.proofs.PackingLemmas.{on_any}
use Rattle.repo_backup.proofs.packing.Packing.add_all.Goals as goal

pub returns-in_err-listed-clause-packs : goal.returns-in_err-listed-clause-packs
returns-in_err-listed-clause-packs c = on_any _ c.from_residual-in_err-listed.result (λ sent h. subst (λ q. IsPacking q c.args.lookup.now sent []) (sym c.in_err-listed.ensures.err) (c.add_to.ensures.packs sent [] h))

pub returns-clause-ok : goal.returns-clause-ok
returns-clause-ok c = λ sent h.
    let known = c.args.lookup.now in
    let old = c.args.self.now in
    let mid = c.add_to.new.packing in
    let new = c.seal_listed.new.self in
    let added = c.in_ok-add_to.ensures.ok sent [] h in
    let sealed : List Item = mid.packer.writer.items in
    let all : all_items sent sealed new ≡ all_items sent [] mid = ap (λ l. (sent ++ sealed) ++ l) c.in_ok-listed.ensures.begun ∙ append-nil (sent ++ sealed) ∙ ap (λ l. l ++ sealed) (sym (append-nil sent)) in
    let yes : c.is_due.result ≡ true = search rules in
    let due : IsDue mid.packer.writer = c.is_due.ensures.due.0 yes in (
      sealed,
      c.in_ok-listed.ensures.ok known sent added.0,
      subst (λ l. AllGainMore known (all_items sent [] old) (chunk_items c.args.ended.now) l) (sym all) added.1,
      inr (c.in_ok-add_to.ensures.due due),
    )
