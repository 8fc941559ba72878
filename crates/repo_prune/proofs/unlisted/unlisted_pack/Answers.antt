use Rattle.std.proofs.Common.{rules, ◌≡◌, false, slice_get, sym, subst}
use Rattle.repo_prune.specs.inner.Picking.{ArePicked}
use Rattle.repo_prune.specs.inner.Unlisted.{FindsUnlisted}
use Rattle.repo_prune.proofs.MissingPacks.{found}
use Rattle.repo_prune.proofs.unlisted.unlisted_pack.Goals as goal

pub returns : goal.returns
returns c =
    let facts = c.args.lookup.now in
    let listed = c.args.listed.now in
    let unlisted = c.in_ok-unlisted.unlisted.items in
    let packs = c.in_ok-packs.packs in
    let picked : ArePicked packs listed false unlisted = rw c.as_slice.ensures.value at c.in_ok-unlisted.ensures.picked in
    let first : c.copied.result ≡ slice_get unlisted 0 = search rules in
    record { found = subst (FindsUnlisted facts listed) (sym first) (found facts c.in_ok-placed.placed packs listed c.in_ok-placed.ensures c.in_ok-packs.ensures unlisted picked) }
