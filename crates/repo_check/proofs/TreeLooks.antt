-- What a reply tells of one tree.
use Rattle.std.proofs.Common.{◌≡◌, ◌≢◌, ℕ, List, None, refl, inl, inr, ◌⊎◌, sym, subst}
use Rattle.repo_name.specs.Naming as naming
use Rattle.repo_name.specs.declared.names.Name.{Name}
use Rattle.repo_wire.specs.declared.messages.Ask.{Ask}
use Rattle.repo_wire.specs.declared.messages.Code.{Code}
use Rattle.repo_wire.specs.declared.messages.Say.{Say}
use Rattle.repo_index.specs.declared.facts.Fact.{Fact}
use Rattle.repo_tree.specs.declared.nodes.Node.{Node}
use Rattle.repo_session.specs.Blobs.{range_of}
use Rattle.repo_session.specs.Ends.{IsUnwelcome}
use Rattle.repo_session.specs.declared.outcomes.FaultKind.{FaultKind}
use Rattle.repo_check.specs.Answers.{Answer, IsTreeAnswer}
use Rattle.repo_tree.specs.TreeText.{IsTreeText}
use Rattle.repo_check.specs.Measures.{IsFaultyTree, LooksAtTree, LooksAtNone}
use Rattle.repo_check.specs.declared.trees.TreeLook.{TreeLook}
use Rattle.repo_check.proofs.Arriving.{part_untold, with_bytes}

tree_answer : (n : Name) (x : List ℕ) (say : Say) → say ≡ Say.Bytes x → IsTreeAnswer n say (with_bytes n x)
tree_answer n x say h = subst (λ s. IsTreeAnswer n s (with_bytes n x)) (sym h) (refl, refl)

-- an answer that is at fault
abbrev pub TreeFaultOf : Fact → Say → FaultKind → Type 0
TreeFaultOf fact say what = (a : Answer) × IsTreeAnswer fact.name say a × IsFaultyTree fact.place a what

pub tree_misnamed : (fact : Fact) (say : Say) → (x : List ℕ) × (say ≡ Say.Bytes x) × (naming.name x ≢ fact.name) → TreeFaultOf fact say FaultKind.Name
tree_misnamed fact say h = (with_bytes fact.name h.0, tree_answer fact.name h.0 say h.1, (h.0, refl, h.2))

pub tree_unread : (fact : Fact) (x : List ℕ) (say : Say) → say ≡ Say.Bytes x → naming.name x ≡ fact.name → ((nodes : List Node) → ¬ IsTreeText x nodes) → TreeFaultOf fact say FaultKind.Unreadable
tree_unread fact x say h named none = (with_bytes fact.name x, tree_answer fact.name x say h, (x, (refl, named), none))

absent : (n : Name) (say : Say) → (say ≡ Say.Refused Code.Missing) ⊎ (say ≡ Say.Refused Code.Range) → IsTreeAnswer n say (record { name = n; bytes = None })
absent n say (inl h) = subst (λ s. IsTreeAnswer n s (record { name = n; bytes = None })) (sym h) (refl, refl)
absent n say (inr h) = subst (λ s. IsTreeAnswer n s (record { name = n; bytes = None })) (sym h) (refl, refl)

-- a reply that brings no bytes is none that the request for a part wants
pub unwelcome : (pack : Name) (offset len : ℕ) (say : Say) → ((x : List ℕ) → say ≢ Say.Bytes x) → IsUnwelcome (Ask.Range pack offset len) say
unwelcome pack offset len (Say.Token token) h = λ suits. suits
unwelcome pack offset len Say.Done h = λ suits. suits
unwelcome pack offset len (Say.Names more names) h = λ suits. suits
unwelcome pack offset len (Say.Bytes x) h = absurd (h x refl)
unwelcome pack offset len (Say.LockList rows) h = λ suits. suits
unwelcome pack offset len (Say.Refused code) h = tt

pub tree_none : (facts : List Fact) (fact : Fact) (say : Say) (look : TreeLook) → IsUnwelcome (range_of fact) say → LooksAtNone say look → LooksAtTree facts fact say look
tree_none facts fact say (TreeLook.Read kept right) unwelcome h = absurd h
tree_none facts fact say (TreeLook.Fault what) unwelcome h =
    let a : Answer = record { name = fact.name; bytes = None } in
    subst (λ w. TreeFaultOf fact say w) (sym h.0) (a, absent fact.name say h.1, refl)
tree_none facts fact say TreeLook.Unwelcome unwelcome h = (unwelcome, part_untold fact.place.pack fact.place.offset fact.place.length say h.0 h.1)
