use Rattle.std.proofs.Common.{rules, ◌≡◌, false, option_map}
use Rattle.repo_name.specs.declared.names.Name.{Name}
use Rattle.repo_store.specs.Kept.{is_in}
use Rattle.repo_folder.proofs.ListingLemmas.{page_of_room}
use Rattle.repo_folder.proofs.SpellingLemmas.{store_stays}
use Rattle.repo_folder.proofs.dir_shelf.DirShelf.room_page.Goals as goal

pub returns-clause-law : goal.returns-clause-law
returns-clause-law g c h all =
    let old = g.D.Disk.state c.args.self.now.folder.disk in
    let page = c.in_ok-page_after.field-0 in
    let empty : (n : Name) → is_in c.new-names.result n ≡ false = λ n. search rules in (
      page_of_room old.fate c.args.kind c.args.room (option_map (λ name. name.now) c.args.after) c.args.limit c.new-names.result c.add_room.new.names page.names page.more empty all
          c.in_ok-page_after.ensures.ordered (c.in_ok-add_room.ensures.joins h) c.in_ok-page_after.ensures.cut,
      store_stays old (g.D.Disk.state c.add_room.new.folder.disk) (c.in_ok-add_room.ensures.stays h),
    )
