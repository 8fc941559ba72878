use Rattle.std.proofs.Common.{rules, ◌≡◌, ◌⊎◌, ◌∙◌, Bool, Some, None, OnOk, OnErr, is_some, refl, sym, subst}
use Rattle.repo_locks.specs.LedgerBytes.{ledger_bytes}
use Rattle.repo_locks.specs.TokenMachine.{start}
use Rattle.repo_disk.specs.declared.rooms.Room.{Room}
use Rattle.repo_folder.specs.Folders.{IsHonest, Shows, Stays, Comes, Keeps}
use Rattle.repo_folder.specs.Spelling.{ledger_name, BeginsLedger}
use Rattle.repo_folder.proofs.Deciding.{none_there, puts_after, puts_there}
use Rattle.repo_folder.proofs.SpellingLemmas.{begun_there, begun_kept, made_told, told_ok}
use Rattle.repo_folder.proofs.opening.begin_ledger.Given as given
use Rattle.repo_folder.proofs.opening.begin_ledger.Goals as goal

pub returns-then-branch-clause-begun : goal.returns-then-branch-clause-begun
returns-then-branch-clause-begun g c h begun =
    let old = g.D.Disk.state c.args.folder.now.disk in
    let mid = g.D.Disk.state c.has.new.self.disk in
    let P : Bool → Type 0 = λ is_there. is_there ≡ is_some (old.fate Room.Top ledger_name) in
    let is = told_ok c.has.result c.in_ok-told.field-0 (sym c.told.ensures ∙ c.in_ok-told.was) in
    let law = subst (λ r. Shows P old r mid) is (c.has.ensures.law h) in
    begun_there old mid mid begun law.1 (sym law.0 ∙ c.if-branch.true)

pub returns-clause-begun : goal.returns-clause-begun
returns-clause-begun g c h begun =
    let old = g.D.Disk.state c.args.folder.now.disk in
    let mid = g.D.Disk.state c.has.new.self.disk in
    let new = g.D.Disk.state c.keep.new.self.disk in
    let P : Bool → Type 0 = λ is_there. is_there ≡ is_some (old.fate Room.Top ledger_name) in
    let is = told_ok c.has.result c.in_ok-told.field-0 (sym c.told.ensures ∙ c.in_ok-told.was) in
    let law = subst (λ r. Shows P old r mid) is (c.has.ensures.law h) in
    let bytes : c.as_slice.result.now ≡ ledger_bytes start = search rules in
    begun_kept old mid new begun law.1 c.keep.result c.told-2.result c.told-2.ensures
    (subst (λ text. Keeps (Comes Room.Top ledger_name (Some text)) mid c.keep.result new) bytes (c.keep.ensures.law (c.has.ensures.honest h)))

pub returns-then-branch-clause-ok : goal.returns-then-branch-clause-ok
returns-then-branch-clause-ok g c h =
    let old = g.D.Disk.state c.args.folder.now.disk in
    let mid = g.D.Disk.state c.has.new.self.disk in
    let P : Bool → Type 0 = λ is_there. is_there ≡ is_some (old.fate Room.Top ledger_name) in
    let is = told_ok c.has.result c.in_ok-told.field-0 (sym c.told.ensures ∙ c.in_ok-told.was) in
    let law = subst (λ r. Shows P old r mid) is (c.has.ensures.law h) in
    puts_there Room.Top ledger_name None old mid mid law.1 (ledger_bytes start) (sym law.0 ∙ c.if-branch.true)

-- the ledger is put, where there was none; on an error it may be
made : (g : given.Over) (c : goal.After-drop-bytes g) → IsHonest (g.D.Disk.faithful c.args.folder.now.disk) c.args.folder.now.standing (g.D.Disk.state c.args.folder.now.disk)
    → OnOk c.told-2.result (BeginsLedger (g.D.Disk.state c.args.folder.now.disk) (g.D.Disk.state c.keep.new.self.disk))
    × OnErr c.told-2.result (Stays (g.D.Disk.state c.args.folder.now.disk) (g.D.Disk.state c.keep.new.self.disk) ⊎ BeginsLedger (g.D.Disk.state c.args.folder.now.disk) (g.D.Disk.state c.keep.new.self.disk))
made g c h =
    let old = g.D.Disk.state c.args.folder.now.disk in
    let mid = g.D.Disk.state c.has.new.self.disk in
    let new = g.D.Disk.state c.keep.new.self.disk in
    let P : Bool → Type 0 = λ is_there. is_there ≡ is_some (old.fate Room.Top ledger_name) in
    let is = told_ok c.has.result c.in_ok-told.field-0 (sym c.told.ensures ∙ c.in_ok-told.was) in
    let law = subst (λ r. Shows P old r mid) is (c.has.ensures.law h) in
    let bytes : c.as_slice.result.now ≡ ledger_bytes start = search rules in
    let kept = subst (λ text. Keeps (Comes Room.Top ledger_name (Some text)) mid c.keep.result new) bytes (c.keep.ensures.law (c.has.ensures.honest h)) in
    made_told BeginsLedger old new c.keep.result c.told-2.result c.told-2.ensures
    (puts_after Room.Top ledger_name (Some (ledger_bytes start)) old mid new law.1 (ledger_bytes start) refl (none_there _ (sym law.0 ∙ c.if-branch.false)) c.keep.result kept)

pub returns-clause-ok : goal.returns-clause-ok
returns-clause-ok g c h = (made g c h).0

pub returns-clause-err : goal.returns-clause-err
returns-clause-err g c h = (made g c h).1

pub keep-requires-clause-draft : goal.keep-requires-clause-draft
keep-requires-clause-draft g c = (ledger_name, refl)
