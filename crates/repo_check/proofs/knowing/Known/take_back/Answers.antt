use Rattle.repo_check.proofs.Walking.{dropped_back}
use Rattle.repo_check.proofs.knowing.Known.take_back.Goals as goal

pub returns : goal.returns
returns c = record {
  back = λ old note unread faultless adds i. record {
    facts = adds.facts i;
    kept = dropped_back note.kept unread adds.kept c.remove_named.ensures i;
    faults = dropped_back note.fault faultless adds.faults c.remove_named-2.ensures i;
  };
}
