use Rattle.std.proofs.Common.{rules}
use Rattle.repo_index.proofs.reading.fact_of.Goals as goal

pub returns-in_default-hex_name-clause-fault : goal.returns-in_default-hex_name-clause-fault
returns-in_default-hex_name-clause-fault c = (
  c.in-Some.id.now,
  c.in-Some-and_then.length,
  c.in-Some-and_then-2.offset,
  c.in-Some-and_then-3.kind,
  record { id_is = search rules; length_is = search rules; offset_is = search rules; type_is = search rules },
  search rules,
)

pub returns-in_default-place_of-clause-fault : goal.returns-in_default-place_of-clause-fault
returns-in_default-place_of-clause-fault c = (
  c.in-Some.id.now,
  c.in-Some-and_then.length,
  c.in-Some-and_then-2.offset,
  c.in-Some-and_then-3.kind,
  c.in-Some-hex_name.name,
  record { id_is = search rules; length_is = search rules; offset_is = search rules; type_is = search rules },
  search rules,
  search rules,
)
