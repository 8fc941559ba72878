use Rattle.std.proofs.Common.{arith, ◌≡◌, ◌<◌, length, slice_get, Some, refl, sym, ap, ◌∙◌}
use Rattle.std.proofs.lemmas.Option.{slice_get-get_or, slice_get_within}
use Rattle.repo_reach.proofs.Flagging.{flags_same, flag_followed, flag_itself}
use Rattle.repo_reach.proofs.looks.flag.Goals as goal

pub returns-then-follows : goal.returns-then-follows
returns-then-follows c =
    let all = c.args.all.now in
    let seen = c.index_mut-seen.result.now in
    let ok = all.ok in
    let n = c.len.ensures in
    let within : c.args.at < length all.items = omega (arith, ok, n, c.if-at-len.true) in
    let there : slice_get all.items c.args.at ≡ Some seen = slice_get-get_or all.items c.args.at seen within ∙ ap Some (sym c.index_mut-seen.ensures.value) in
    flag_followed all.items c.args.at c.args.depth c.args.follows seen _ c.if-follows.true there refl refl refl c.set.ensures refl

pub returns-else-follows : goal.returns-else-follows
returns-else-follows c =
    let all = c.args.all.now in
    let seen = c.index_mut-seen.result.now in
    let ok = all.ok in
    let n = c.len.ensures in
    let within : c.args.at < length all.items = omega (arith, ok, n, c.if-at-len.true) in
    let there : slice_get all.items c.args.at ≡ Some seen = slice_get-get_or all.items c.args.at seen within ∙ ap Some (sym c.index_mut-seen.ensures.value) in
    flag_itself all.items c.args.at c.args.depth c.args.follows seen _ c.if-follows.false there refl refl refl c.set-else-follows.ensures refl

pub returns-else-at-len : goal.returns-else-at-len
returns-else-at-len c =
    let all = c.args.all.now in
    let ok = all.ok in
    let n = c.len.ensures in
    flags_same all.items c.args.at c.args.follows c.args.depth (λ s h. (let a = slice_get_within all.items c.args.at s h in omega (arith, a, ok, n, c.if-at-len.false)))
