use Rattle.std.proofs.Common.{sym, inl, inr}
use Rattle.repo_name.specs.NameMaps.{found}
use Rattle.repo_check.proofs.Breaking.{false_true, misread_else}
use Rattle.repo_check.proofs.knowing.Known.is_broken.Goals as goal

pub returns-then-is_too_deep : goal.returns-then-is_too_deep
returns-then-is_too_deep c = (λ is. (c.in-Some.kept.now, sym c.in-Some.ensures.value, inl (c.is_too_deep.ensures.0 is)), λ breaks. c.if-is_too_deep.true)

pub returns-else-is_too_deep : goal.returns-else-is_too_deep
returns-else-is_too_deep c = (
  λ is. (c.in-Some.kept.now, sym c.in-Some.ensures.value, inr (c.is_misread.ensures.0 is)),
  λ breaks. c.is_misread.ensures.1 (misread_else (found c.args.self.now.kept) c.args.visit c.in-Some.kept.now (sym c.in-Some.ensures.value) breaks (λ deep. false_true c.is_too_deep.result c.if-is_too_deep.false (c.is_too_deep.ensures.1 deep))),
)
