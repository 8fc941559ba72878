use Rattle.std.proofs.Common.{rules, ◌≡◌, ◌≤◌, ◌<◌, ◌+◌, ◌∙◌, inl, inr, true, option_map, IfSome, subst}
use Rattle.std.specs.BTreeMap.{IsOrdered}
use Rattle.repo_name.specs.Naming.{name_cmp}
use Rattle.repo_store.specs.Memory.{above, IsFirstPart}
use Rattle.repo_store.specs.declared.shelves.Page.{Page}
use Rattle.repo_folder.proofs.ListingLemmas.{packs_step, page_of_packs}
use Rattle.repo_folder.proofs.SpellingLemmas.{store_stays}
use Rattle.repo_folder.proofs.dir_shelf.DirShelf.pack_page.Goals as goal

pub returns-in-Some-clause-law : goal.returns-in-Some-clause-law
returns-in-Some-clause-law g c h =
    let inv = c.loop-first.invariant in
    let add = c.in_ok-add_room.ensures in
    let first = c.loop-first.first in
    let after = option_map (λ name. name.now) c.args.after in
    let old = g.D.Disk.state c.args.self.now.folder.disk in
    let names = c.add_room.new.names in
    let page = c.in-Some.page in
    let small : first < 256 = search rules in
    let packs = packs_step after first old (g.D.Disk.state c.loop-first.self.folder.disk) c.loop-first.names names c.packs_at-room.result c.packs_at-room.ensures.room small (inv.stays h) (inv.packs h)
    (add.joins (inv.honest h)) in
    let Cut : Page → Type 0 = λ page. IsFirstPart (above after names) c.args.limit page.names page.more in
    let Ordered : Page → Type 0 = λ page. IsOrdered name_cmp names in
    let More : Page → Type 0 = λ page. page.more ≡ true in
    let cut : Cut page = subst (λ o. IfSome o Cut) c.in-Some.is c.in_ok-page.ensures.page in
    let ordered : Ordered page = subst (λ o. IfSome o Ordered) c.in-Some.is c.in_ok-page.ensures.ordered in
    let more : More page = subst (λ o. IfSome o More) c.in-Some.is c.in_ok-page.ensures.more in (
      page_of_packs old.fate after c.args.limit (first + 1) names page.names page.more ordered packs (inl more) cut,
      store_stays old (g.D.Disk.state c.add_room.new.folder.disk) (λ r n is. add.stays (inv.honest h) r n is ∙ inv.stays h r n is),
    )

pub returns-clause-law : goal.returns-clause-law
returns-clause-law g c h =
    let inv = c.loop-first.invariant in
    let first = c.loop-first.first in
    let after = option_map (λ name. name.now) c.args.after in
    let old = g.D.Disk.state c.args.self.now.folder.disk in
    let page = c.in_ok-page_after.field-0 in
    let all : 256 ≤ first = search rules in (
      page_of_packs old.fate after c.args.limit first c.loop-first.names page.names page.more c.in_ok-page_after.ensures.ordered (inv.packs h) (inr all) c.in_ok-page_after.ensures.cut,
      store_stays old (g.D.Disk.state c.loop-first.self.folder.disk) (inv.stays h),
    )
