-- What is known while an upgrade goes on.
use Rattle.std.specs.Prelude.{◌≡◌, ⊤}
use Rattle.repo_name.specs.declared.tokens.Token.{Token}
use Rattle.repo_wire.specs.declared.messages.Ask.{Ask}
use Rattle.repo_session.specs.Jobs.{Rule}
use Rattle.repo_session.specs.Sessions.{FitsSession}
use Rattle.repo_session.specs.declared.sessions.Session.{Session}
use Rattle.repo_session.specs.Traces.{Trace}
use Rattle.repo_prune.specs.declared.upgrades.Upgrade.{Upgrade}
use Rattle.repo_prune.specs.Upgrading.{upgrade_rule}

-- it was handed nothing
abbrev pub nothing_in : Upgrade → ⊤
nothing_in u = tt

-- its rule, whatever it was handed
abbrev pub rule_of_upgrade : ⊤ → Rule
rule_of_upgrade handed = upgrade_rule

-- nothing is to be known before it begins
abbrev pub IsFreshUpgrade : Upgrade → Type 0
IsFreshUpgrade u = ⊤

-- what is known where this is pending: it is its one request
abbrev pub KnowsUpgrade : Upgrade → Ask → Trace → Type 0
KnowsUpgrade u ask es = (token : Token) × (ask ≡ Ask.Upgrade token)

-- the upgrade stands where the trace leaves it
abbrev pub FitsUpgrade : Session Upgrade → Trace → Type 0
FitsUpgrade u es = FitsSession nothing_in rule_of_upgrade IsFreshUpgrade KnowsUpgrade u es
