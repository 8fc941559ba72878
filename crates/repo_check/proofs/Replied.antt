-- What a check tells, whatever the replies.
use Rattle.std.proofs.Common.{List}
use Rattle.repo_wire.specs.declared.messages.Reply.{Reply}
use Rattle.repo_session.specs.Clients.{IsObedientBy}
use Rattle.repo_session.specs.Sessions.{next_in, ended_in, who_in}
use Rattle.repo_session.specs.Talks.{Talk, trace_of, CameIn}
use Rattle.repo_session.specs.declared.outcomes.Outcome.{Outcome}
use Rattle.repo_session.proofs.Taking.{came_in, stands_after}
use Rattle.repo_check.specs.CheckStates.{FitsCheck, IsFreshCheck, KnowsCheck}
use Rattle.repo_check.specs.Checking.{check_rule}
use Rattle.repo_check.specs.Laws.{CheckTook, CleanIsWhatCame, FaultsAreWhatCame}
use Rattle.repo_session.specs.declared.sessions.Session.{Session}
use Rattle.repo_session.specs.Obedience.{session_obeys}
use Rattle.repo_check.specs.declared.checks.Check.{Check}

module _ (old new : Session Check) (replies : List Reply) (talk : Talk) (r : CheckTook old replies talk new) where
  came : CameIn replies (trace_of talk)
  came = came_in (who_in old).instance FitsCheck (λ (s : Session Check). next_in s) old new replies talk r.took

  obeys : IsObedientBy check_rule (who_in new) (next_in new) (ended_in new) (trace_of talk)
  obeys = session_obeys (λ (j : Check). tt {0}) (λ h. check_rule) IsFreshCheck KnowsCheck (λ j fs. ⊥) new (trace_of talk) (stands_after (who_in old).instance FitsCheck (λ (s : Session Check). next_in s) old new replies talk r.begins r.took)

pub clean_is_what_came : CleanIsWhatCame
clean_is_what_came old new replies talk snapshots indexes packs blobs r ended =
    (came old new replies talk r, ((obeys old new replies talk r).concluded (Outcome.Clean snapshots indexes packs blobs) ended).0)

pub faults_are_what_came : FaultsAreWhatCame
faults_are_what_came old new replies talk faults r ended = (came old new replies talk r, ((obeys old new replies talk r).concluded (Outcome.Faults faults) ended).0)
