use Rattle.std.proofs.Common.{arith, ◌≡◌, ◌+◌, ◌++◌, ◌∷◌, [], suc, length, take, set, refl, sym, ap, ◌∙◌}
use Rattle.std.proofs.lemmas.Option.{slice_get_read, slice_get_within, same_Some}
use Rattle.std.proofs.Math.Seq.{take-suc-set}
use Rattle.repo_restore.specs.Walking.{with_begun}
use Rattle.repo_restore.proofs.walks.keep_open.Goals as goal

pub returns-then-depth-len : goal.returns-then-depth-len
returns-then-depth-len c = λ level p.
    let levels = c.args.levels.now.items in
    let x = c.index_mut.result.now in
    let within = slice_get_within levels c.args.depth level p in
    let same = same_Some x level (sym (slice_get_read levels (length levels) c.args.depth x refl within c.index_mut.ensures.value) ∙ p) in
    let s : c.args.depth + 1 ≡ suc c.args.depth = omega arith in
    c.truncate.ensures.items ∙ ap (λ j. take j (set levels c.args.depth (with_begun x c.args.begun))) s ∙ take-suc-set levels c.args.depth (with_begun x c.args.begun) within
    ∙ ap (λ l. take c.args.depth levels ++ with_begun l c.args.begun ∷ []) same

pub returns-else-depth-len : goal.returns-else-depth-len
returns-else-depth-len c = λ level p.
    let within = slice_get_within c.args.levels.now.items c.args.depth level p in
    absurd (omega (arith, within, c.if-depth-len.false, c.len.ensures, c.args.levels.now.ok.0))
