use Rattle.std.proofs.Common.{rules, arith, ◌≡◌, length, sym, subst}
use Rattle.std.proofs.lemmas.Bool.{lt-ltb, ltb-true}
use Rattle.repo_backup.specs.Waiting.{TakesMore}
use Rattle.repo_backup.proofs.Waits.{fits_now, fits_then}
use Rattle.repo_backup.proofs.ended.Ended.fits.Goals as goal

pub returns-then-len-wanted : goal.returns-then-len-wanted
returns-then-len-wanted c =
    let writer = c.args.writer.now in
    let bytes = c.self.inside.bytes.items in
    let ns = c.self.inside.lengths.items in
    let size : c.len.result ≡ length bytes = search rules in
    let count : c.len-then-len-wanted.result ≡ length ns = search rules in (
      (λ yes.
          let few = ltb-true c.len-then-len-wanted.result c.saturating_sub.result yes in
          subst (TakesMore writer) c.self.view_is (fits_now writer bytes ns c.self.invariant (omega (arith, size, c.if-len-wanted.true, c.wanted.ensures)) (omega (arith, count, few, c.saturating_sub.ensures, c.len-then-len-wanted-2.ensures)))),
      (λ more.
          let few = (fits_then writer bytes ns c.self.invariant (subst (TakesMore writer) (sym c.self.view_is) more)).1 in
          lt-ltb c.len-then-len-wanted.result c.saturating_sub.result (omega (arith, count, few, c.saturating_sub.ensures, c.len-then-len-wanted-2.ensures))),
    )

pub returns-else-len-wanted : goal.returns-else-len-wanted
returns-else-len-wanted c =
    let writer = c.args.writer.now in
    let bytes = c.self.inside.bytes.items in
    let ns = c.self.inside.lengths.items in
    let size : c.len.result ≡ length bytes = search rules in (
      (λ yes.
          let less = ltb-true c.len.result c.wanted.result yes in
          absurd (omega (arith, less, c.if-len-wanted.false))),
      (λ more.
          let short = (fits_then writer bytes ns c.self.invariant (subst (TakesMore writer) (sym c.self.view_is) more)).0 in
          absurd (omega (arith, short, size, c.wanted.ensures, c.if-len-wanted.false))),
    )
