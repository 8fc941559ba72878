use Rattle.repo_json.proofs.NameLemmas.{not_named}
use Rattle.repo_json.proofs.names.hex_name.Goals as goal

pub returns-in_default-clause-none : goal.returns-in_default-clause-none
returns-in_default-clause-none c = not_named c.in_default.field-0 c.args.text.now c.in_default.ensures.length c.in_default.ensures.digit
