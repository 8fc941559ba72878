-- What a backup that is fed made so far.
use Rattle.std.proofs.Common.{◌≡◌, ◌++◌, ◌∷◌, [], ℕ, true, None, refl, sym, ◌∙◌, ap, subst, append-nil, Contains}
use Rattle.repo_pack.specs.PackLayout.{Item}
use Rattle.repo_tree.specs.declared.configs.Config.{Config}
use Rattle.repo_wire.specs.declared.messages.Ask.{Ask}
use Rattle.repo_wire.specs.declared.messages.Say.{Say}
use Rattle.repo_chunk.specs.Parameters.{Parameters}
use Rattle.repo_session.specs.Feeds.{Fed}
use Rattle.repo_session.specs.Traces.{Trace, fed_in, feeding}
use Rattle.repo_writing.specs.Filling.{HasConfig}
use Rattle.repo_backup.specs.Folders.{Folder, blobs_below, blobs_of, trees_of, IsFolderOf}
use Rattle.repo_backup.specs.Items.{Feeding, AreTaken, place_of, spelled_by}
use Rattle.repo_backup.specs.PieceRules.{IsMadeSoFar, AreOver}
use Rattle.repo_backup.specs.Rules.{IsMade}
use Rattle.repo_backup.specs.Standings.{Standing, LeadTo, made_at}
use Rattle.repo_backup.proofs.FedOn.{fed_exchanged}
use Rattle.repo_backup.proofs.BackupRuling.{among_blobs}
use Rattle.repo_backup.proofs.Leading.{made_later, over_last}
use Rattle.repo_backup.proofs.PieceRuling.{ended_by}
use Rattle.repo_world.proofs.Sending.{Within, FedSince}

-- ---- what was made is made as more comes

config_on : (es fs : Trace) (config : Config) → Within es fs → HasConfig es config → HasConfig fs config
config_on es fs config within h = record { text = h.text; read = within Ask.Config (Say.Bytes h.text) h.read; reads = h.reads; known = h.known }

pub made_on : (es fs : Trace) → Within es fs → FedSince es fs → AreTaken (fed_in fs) → (item : Item) → IsMadeSoFar es item → IsMadeSoFar fs item
made_on es fs within since taken item (config, st, at, among) =
    let m = made_later config.params at.has.reads.allowed.0 config.version since.0 (fed_in es) st (subst AreTaken since.1 taken) at.lead in (
      config,
      m.0,
      record { has = config_on es fs config within at.has; lead = subst (λ (l : Feeding). LeadTo config.params l m.0) (sym since.1) m.1 },
      among_blobs (made_at config.version st) m.2 (made_at config.version m.0) m.3 item among,
    )

-- where nothing was fed between
pub made_same : (es fs : Trace) → Within es fs → fed_in fs ≡ fed_in es → (item : Item) → IsMadeSoFar es item → IsMadeSoFar fs item
made_same es fs within same item (config, st, at, among) =
    (config, st, record { has = config_on es fs config within at.has; lead = subst (λ (l : Feeding). LeadTo config.params l st) (sym same) at.lead }, among)

-- where one item more was taken
pub made_fed : (fed : Fed) (es : Trace) → AreTaken (fed ∷ fed_in es) → (item : Item) → IsMadeSoFar es item → IsMadeSoFar (feeding fed es) item
made_fed fed [] taken item made = made
made_fed fed (e ∷ es) taken item made = made_on (e ∷ es) (feeding fed (e ∷ es)) (λ ask say h. fed_exchanged fed (e ∷ es) ask say h) (fed ∷ [], refl) taken item made

-- ---- where the items ended

-- nothing was fed since
pub over_same : (older es : Trace) → FedSince older es → AreTaken (fed_in es) → AreOver older → fed_in es ≡ fed_in older
over_same older es since taken over =
    let none : since.0 ≡ [] = over_last since.0 (fed_in older) (subst AreTaken since.1 taken) over in
    since.1 ∙ ap (λ (l : Feeding). l ++ fed_in older) none

-- the root with this in it, at the end
abbrev whole : Folder → Standing
whole folder = record { done = folder; above = []; file = None; over = true }

whole_leads : (params : Parameters) (items : Feeding) (folder : Folder) → AreTaken items → (place_of items).over ≡ true → IsFolderOf params (spelled_by items) folder → LeadTo params items (whole folder)
whole_leads params items folder taken over is =
    let k = ended_by items taken over in
    let ends = (subst AreTaken k.1 taken).2 in
    let path = ap (λ (l : Feeding). (place_of l).path) k.1 ∙ ends.1 in
    let file = ap (λ (l : Feeding). (place_of l).file) k.1 ∙ ends.0 in
    record {
      place = λ i. record { entries = is.holds i; path = sym path i; file = sym file i; over = sym over i };
      cut = record { done = is.cut; above = tt; file = tt };
    }

whole_made : (version : ℕ) (folder : Folder) → made_at version (whole folder) ≡ blobs_of version folder
whole_made version folder = ap (λ l. l ++ trees_of version folder) (append-nil (blobs_below version folder))

-- each blob of what they spell is made
pub all_made : (es : Trace) (folder : Folder) → AreTaken (fed_in es) → AreOver es → (made : IsMade (spelled_by (fed_in es)) es folder) → (item : Item) → Contains (blobs_of made.config.version folder) item → IsMadeSoFar es item
all_made es folder taken over made item among = (
  made.config,
  whole folder,
  record {
    has = record { text = made.text; read = made.read; reads = made.reads; known = made.known };
    lead = whole_leads made.config.params (fed_in es) folder taken over made.cut;
  },
  subst (λ l. Contains l item) (sym (whole_made made.config.version folder)) among,
)
