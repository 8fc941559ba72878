use Rattle.std.proofs.Common.{rules, refl, inl, inr}
use Rattle.std.proofs.lemmas.Result.{err_from_is_err_and}
use Rattle.serde_json.specs.View.{items_view}
use Rattle.repo_index.proofs.reading.pack_of.Goals as goal

pub returns-in_default-hex_name-clause-fault : goal.returns-in_default-hex_name-clause-fault
returns-in_default-hex_name-clause-fault c _ = inr (inl (
  refl,
  c.in-Some-and_then.id.now,
  items_view c.in-Some.blobs.now.items,
  record { blobs_are = search rules; id_is = search rules },
  search rules,
))

pub returns-in_err-facts-clause-fault : goal.returns-in_err-facts-clause-fault
returns-in_err-facts-clause-fault c =
    let p = err_from_is_err_and c.from_residual.result c.from_residual.ensures.1 in
    rw (p.1, p.2) (λ other. inr (inr (
      c.in-Some-and_then.id.now,
      items_view c.as_slice.result.now,
      c.in-Some-hex_name.pack,
      record { blobs_are = search rules; id_is = search rules },
      search rules,
      c.in_err-facts.ensures.fault other,
    )))
