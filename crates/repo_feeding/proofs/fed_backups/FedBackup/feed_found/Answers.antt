use Rattle.std.proofs.Common.{arith, ◌≡◌, [], ℕ, List, Option, Some, None, sym, ap, subst, inl, inr, ◌∙◌}
use Rattle.repo_session.specs.Feeds.{Fed}
use Rattle.repo_session.specs.Traces.{feeding, fed_in}
use Rattle.repo_backup.specs.Items.{Place, fed_of, fed_part, place_of, size_of}
use Rattle.repo_feeding.specs.FedStates.{feeder_of, held_of, told_to, IsFed, IsFedUpto}
use Rattle.repo_feeding.specs.Reasons.{HasReason, IsNextItem, Justifies}
use Rattle.repo_feeding.specs.Sources.{Comes, Told, fed_found, told_with, whole_of}
use Rattle.repo_feeding.specs.declared.reasons.GivenUp.{GivenUp}
use Rattle.repo_feeding.specs.declared.sources.Found.{Found}
use Rattle.repo_feeding.proofs.Feeding.{standing, bytes_found, fed_found_item, fed_none, fills_whole, found_next, found_none, found_some, hungry_clear, hungry_wants, item_found, item_held, no_reason, sound_of, reason_so, still_found}
use Rattle.repo_feeding.specs.inner.Rooms.{IsItemOf, Lessens}
use Rattle.repo_feeding.proofs.Places.{IsWhole, less_bytes, less_item, told_again, told_none, with_whole}
use Rattle.repo_feeding.proofs.fed_backups.FedBackup.feed_found.Goals as goal

-- nothing waits beside it
clear : (told : Option Told) (name : List ℕ) (held : Option Found) → held ≡ None → told_with told (held_of name held) ≡ told
clear told name held none = ap (λ h. told_with told (held_of name h)) none ∙ told_none told

pub returns-in_default-clause-ok : goal.returns-in_default-clause-ok
returns-in_default-clause-ok g c = λ es fs upto. (
    let old = c.args.self.now in
    let f = feeder_of g.S.Source.told g.S.Source.name g.S.Source.failed g.S.Source.rewinds old in
    let told = g.S.Source.told c.next_found.new.source in
    let name = g.S.Source.name c.next_found.new.source in
    let failed = g.S.Source.failed c.next_found.new.source in
    let rewinds = g.S.Source.rewinds in
    let room = c.next_found.new.room in
    let p = place_of (fed_in fs) in
    let none = no_reason f es fs c.requires.hungry upto.fed in
    let sound = c.in-Ok.ensures.fails (sound_of (g.S.Source.failed old.source) rewinds (whole_of f.told) p old.given_up none (upto.caused (inr (inl c.requires.hungry.1)))) in
    let is = subst (λ n. IsItemOf n c.in-Ok.found None) c.name.ensures c.in_default.ensures in
    let comes = found_none name f.told room told c.in-Ok.found is c.in-Ok.ensures.found in
    let fed = bytes_found f es fs room told (λ q. HasReason failed rewinds (whole_of told) q old.given_up) c.requires.hungry c.requires.empty comes.0 comes.1 (reason_so failed rewinds (whole_of told) old.given_up none sound) upto in
    (fs, subst (λ o. IsFedUpto (standing old.backup o room f.gave (λ q. HasReason failed rewinds (whole_of o) q old.given_up)) es fs) (sym (clear told name c.next_found.new.held c.next_found.ensures.none)) fed))

pub returns-in_default-clause-fewer : goal.returns-in_default-clause-fewer
returns-in_default-clause-fewer g c = λ es fs upto. (
    let old = c.args.self.now in
    let f = feeder_of g.S.Source.told g.S.Source.name g.S.Source.failed g.S.Source.rewinds old in
    let told = g.S.Source.told c.next_found.new.source in
    let name = g.S.Source.name c.next_found.new.source in
    let failed = g.S.Source.failed c.next_found.new.source in
    let rewinds = g.S.Source.rewinds in
    let room = c.next_found.new.room in
    let p = place_of (fed_in fs) in
    let none = no_reason f es fs c.requires.hungry upto.fed in
    let sound = c.in-Ok.ensures.fails (sound_of (g.S.Source.failed old.source) rewinds (whole_of f.told) p old.given_up none (upto.caused (inr (inl c.requires.hungry.1)))) in
    let goes = (hungry_wants old.backup fs c.requires.hungry upto.fed.at).goes_on in
    let here = hungry_clear f old.backup es fs c.requires.hungry upto c.requires.empty in
    let is = subst (λ n. IsItemOf n c.in-Ok.found None) c.name.ensures c.in_default.ensures in
    let comes = found_none name f.told room told c.in-Ok.found is c.in-Ok.ensures.found in
    subst (λ o. Lessens f.told old.room o room) (sym (clear told name c.next_found.new.held c.next_found.ensures.none)) (less_bytes f.told old.room room told p goes comes.0 comes.1 here))

pub returns-in-Ok-feed-clause-ok : goal.returns-in-Ok-feed-clause-ok
returns-in-Ok-feed-clause-ok g c = λ es fs upto. (
    let old = c.args.self.now in
    let f = feeder_of g.S.Source.told g.S.Source.name g.S.Source.failed g.S.Source.rewinds old in
    let told = g.S.Source.told c.next_found.new.source in
    let name = g.S.Source.name c.next_found.new.source in
    let failed = g.S.Source.failed c.next_found.new.source in
    let rewinds = g.S.Source.rewinds in
    let room = c.next_found.new.room in
    let p = place_of (fed_in fs) in
    let none = no_reason f es fs c.requires.hungry upto.fed in
    let sound = c.in-Ok.ensures.fails (sound_of (g.S.Source.failed old.source) rewinds (whole_of f.told) p old.given_up none (upto.caused (inr (inl c.requires.hungry.1)))) in
    let item = c.in-Some.item in
    let is : IsItemOf name c.in-Ok.found (Some item) = subst (λ n. IsItemOf n c.in-Ok.found (Some item)) c.name.ensures c.in-Some.ensures in
    let n = c.in-Ok-feed.field-0 in
    let took = c.in-Ok-feed.ensures.took in
    let one = found_some name f.told room told c.in-Ok.found item n is c.in-Ok.ensures.found took.1.0 in
    let cause : Place → Type 0 = λ q. HasReason failed rewinds (whole_of told) q old.given_up in
    let more = feeding (fed_part n item) fs in
    let fed = fed_found_item f c.feed.new.self es fs c.requires.hungry upto (fed_part n item) told cause (c.in-Ok-feed.ensures.may fs upto.fed.at).2 c.requires.empty one.on one.comes (reason_so failed rewinds (whole_of told) old.given_up none sound) (took.2 fs upto.fed.at) in
    let there = subst (λ rest. IsFedUpto (standing c.feed.new.self told rest f.gave cause) es more) (sym one.none) fed in
    (more, subst (λ o. IsFedUpto (standing c.feed.new.self o room f.gave (λ q. HasReason failed rewinds (whole_of o) q old.given_up)) es more) (sym (clear told name c.next_found.new.held c.next_found.ensures.none)) there))

pub returns-in-Ok-feed-clause-fewer : goal.returns-in-Ok-feed-clause-fewer
returns-in-Ok-feed-clause-fewer g c = λ es fs upto. (
    let old = c.args.self.now in
    let f = feeder_of g.S.Source.told g.S.Source.name g.S.Source.failed g.S.Source.rewinds old in
    let told = g.S.Source.told c.next_found.new.source in
    let name = g.S.Source.name c.next_found.new.source in
    let failed = g.S.Source.failed c.next_found.new.source in
    let rewinds = g.S.Source.rewinds in
    let room = c.next_found.new.room in
    let p = place_of (fed_in fs) in
    let none = no_reason f es fs c.requires.hungry upto.fed in
    let sound = c.in-Ok.ensures.fails (sound_of (g.S.Source.failed old.source) rewinds (whole_of f.told) p old.given_up none (upto.caused (inr (inl c.requires.hungry.1)))) in
    let goes = (hungry_wants old.backup fs c.requires.hungry upto.fed.at).goes_on in
    let here = hungry_clear f old.backup es fs c.requires.hungry upto c.requires.empty in
    let item = c.in-Some.item in
    let is : IsItemOf name c.in-Ok.found (Some item) = subst (λ n. IsItemOf n c.in-Ok.found (Some item)) c.name.ensures c.in-Some.ensures in
    let n = c.in-Ok-feed.field-0 in
    let one = found_some name f.told room told c.in-Ok.found item n is c.in-Ok.ensures.found c.in-Ok-feed.ensures.took.1.0 in
    let less = subst (λ rest. Lessens f.told old.room told rest) (sym one.none) (less_item f.told old.room (fed_part n item) told p goes one.whole one.comes here) in
    subst (λ o. Lessens f.told old.room o room) (sym (clear told name c.next_found.new.held c.next_found.ensures.none)) less)

pub returns-in-Err-feed-clause-still : goal.returns-in-Err-feed-clause-still
returns-in-Err-feed-clause-still g c = λ refusal es fs upto. (
    let old = c.args.self.now in
    let f = feeder_of g.S.Source.told g.S.Source.name g.S.Source.failed g.S.Source.rewinds old in
    let told = g.S.Source.told c.next_found.new.source in
    let name = g.S.Source.name c.next_found.new.source in
    let failed = g.S.Source.failed c.next_found.new.source in
    let rewinds = g.S.Source.rewinds in
    let room = c.next_found.new.room in
    let p = place_of (fed_in fs) in
    let none = no_reason f es fs c.requires.hungry upto.fed in
    let sound = c.in-Ok.ensures.fails (sound_of (g.S.Source.failed old.source) rewinds (whole_of f.told) p old.given_up none (upto.caused (inr (inl c.requires.hungry.1)))) in
    let goes = (hungry_wants old.backup fs c.requires.hungry upto.fed.at).goes_on in
    let here = hungry_clear f old.backup es fs c.requires.hungry upto c.requires.empty in
    let item = c.in-Some.item in
    let is : IsItemOf name c.in-Ok.found (Some item) = subst (λ n. IsItemOf n c.in-Ok.found (Some item)) c.name.ensures c.in-Some.ensures in
    let found = c.in-Ok.found in
    let one = found_some name f.told room told found item (size_of item) is c.in-Ok.ensures.found (omega (arith)) in
    let comes : Comes f.told (Some (fed_found name [] found)) told = subst (λ (x : Fed). Comes f.told (Some x) told) (item_found name found item is) one.comes in
    let whole = subst IsWhole (item_found name found item is) one.whole in
    let held = told_with told (Some (fed_found name [] found)) in
    let cause : Option Fed → Place → Type 0 = λ h q. HasReason failed rewinds (whole_of (told_with told h)) q old.given_up in
    let still = still_found f c.feed.new.self es fs held room (cause (Some (fed_found name [] found))) (told_again f.told (fed_found name [] found) told p goes whole comes here) (one.none ∙ sym c.requires.empty)
    (reason_so failed rewinds (whole_of held) old.given_up none sound) (c.in-Err-feed.ensures.stays fs upto.fed.at) c.in-Err-feed.ensures.next.1 upto in
    subst (λ h. IsFedUpto (standing c.feed.new.self (told_with told h) room f.gave (cause h)) es fs) (sym (item_held name found item is)) still)

pub returns-in-Err-feed-clause-err : goal.returns-in-Err-feed-clause-err
returns-in-Err-feed-clause-err g c = λ es fs upto. (
    let old = c.args.self.now in
    let f = feeder_of g.S.Source.told g.S.Source.name g.S.Source.failed g.S.Source.rewinds old in
    let told = g.S.Source.told c.next_found.new.source in
    let name = g.S.Source.name c.next_found.new.source in
    let failed = g.S.Source.failed c.next_found.new.source in
    let rewinds = g.S.Source.rewinds in
    let room = c.next_found.new.room in
    let p = place_of (fed_in fs) in
    let none = no_reason f es fs c.requires.hungry upto.fed in
    let sound = c.in-Ok.ensures.fails (sound_of (g.S.Source.failed old.source) rewinds (whole_of f.told) p old.given_up none (upto.caused (inr (inl c.requires.hungry.1)))) in
    let item = c.in-Some.item in
    let is : IsItemOf name c.in-Ok.found (Some item) = subst (λ n. IsItemOf n c.in-Ok.found (Some item)) c.name.ensures c.in-Some.ensures in
    let found = c.in-Ok.found in
    let one = found_some name f.told room told found item (size_of item) is c.in-Ok.ensures.found (omega (arith)) in
    let held = told_with told (Some (fed_found name [] found)) in
    let same = with_whole told (Some (fed_found name [] found)) ∙ fills_whole name f.told room told found c.in-Ok.ensures.found in
    let next = found_next f old.backup es fs c.requires.hungry upto (fed_of item) told c.requires.empty one.comes in
    let there = subst (λ whole. IsNextItem whole p (fed_of item)) (sym (with_whole told (Some (fed_found name [] found)))) next in
    let cause : Option Fed → Place → Type 0 = λ h q. HasReason failed rewinds (whole_of (told_with told h)) q old.given_up in
    let Part : Option Fed → Type 0 = λ h. IsFed (standing c.feed.new.self (told_with told h) room f.gave (cause h)) es fs × Justifies failed (whole_of (told_with told h)) p (GivenUp.Refused c.in-Err-feed.error) in
    subst Part (sym (item_held name found item is)) (
      fed_none f c.feed.new.self es fs held room (cause (Some (fed_found name [] found))) same (c.in-Err-feed.ensures.stays fs upto.fed.at) upto.fed,
      (sound, (fed_of item, c.in-Err-feed.ensures.fault c.requires.hungry fs upto.fed.at, there)),
    ))
