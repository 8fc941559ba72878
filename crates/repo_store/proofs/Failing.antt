use Rattle.std.proofs.Common.{arith, Vec, Global, ℕ, List, length, ◌≡◌, ◌≢◌, ◌≤◌, inl, inr, refl, sym, ap, subst, ◌∙◌, Ok, Err, Option, Some, None, Bool, true, false}
use Rattle.std.proofs.lemmas.Option.{none-some}
use Rattle.repo_name.specs.declared.kinds.Kind.{Kind}
use Rattle.repo_name.specs.declared.names.Name.{Name}
use Rattle.repo_name.specs.Naming as naming
use Rattle.repo_name.specs.declared.rows.LockRow.{LockRow}
use Rattle.repo_name.specs.declared.tokens.Token.{Token}
use Rattle.repo_wire.specs.declared.messages.Ask.{Ask}
use Rattle.repo_wire.specs.declared.messages.Say.{Say}
use Rattle.repo_locks.specs.declared.outcomes.Grant.{Grant}
use Rattle.repo_locks.specs.TokenMachine.{Tokens, live_as, is_fresh_or_live, TicketStep, LockStep, RefreshStep, UnlockStep}
use Rattle.repo_store.specs.declared.shelves.ShelfError.{ShelfError}
use Rattle.repo_store.specs.Laws.{Writes}
use Rattle.repo_store.specs.StoreMachine.{object_limit, Answers, Looks, IsQuiet, Step, refusal}
use Rattle.repo_store.specs.Stores.{Store, PutsObject, RemovesObject, SavesTokens, SavesConfig}
use Rattle.repo_store.specs.Upgrades.{IsUpgradeOf, RaiseAnswer, IsDue}
use Rattle.repo_store.specs.declared.upgrades.Due.{Due}
use Rattle.repo_tree.specs.ConfigText.{IsConfigText}
use Rattle.repo_tree.specs.declared.configs.Config.{Config}
use Rattle.repo_tree.proofs.ConfigLemmas.{config_texts_one}

-- a save that failed, where the tokens are those of an answer; mid is the store after the ledger was read
pub save_failed : (old mid new : Store) (tokens : Tokens) (ask : Ask) (other : Say) (e : ShelfError)
    → Looks old ask → mid ≡ old → (SavesTokens tokens old new → Answers old ask other new)
    → Writes {T = Unit {0}} (SavesTokens tokens) mid (Err e) new → Step old ask (refusal e) new
save_failed old mid new tokens ask other ShelfError.Fault looks same made (inl stays) = inr (looks, inl (refl, inl (stays ∙ same)))
save_failed old mid new tokens ask other ShelfError.Fault looks same made (inr saved) =
    let P : Store → Type 0 = λ s. SavesTokens tokens s new in
    inr (looks, inl (refl, inr (other, made (subst P same saved))))
save_failed old mid new tokens ask other ShelfError.Memory looks same made stays = inr (looks, inr (refl, stays ∙ same))

-- the ledger read is the store's, so a step from it is a step from the store's tokens
module _ (old : Store) (read tokens : Tokens) (is : read ≡ old.tokens) where
  pub ticket_made : (token : Token) → TicketStep read (Ok token) tokens → (after : Store) → SavesTokens tokens old after → Answers old Ask.Ticket (Say.Token token) after
  ticket_made token step after saved =
      let P : Tokens → Type 0 = λ l. TicketStep l (Ok token) tokens in
      record { result = Ok token; tokens = tokens; step = subst P is step; says = refl; saves = saved }

  pub lock_made : (row : LockRow) → LockStep read row.token row.exclusive row.time row.host (Ok Grant.New) tokens → (after : Store) → SavesTokens tokens old after → Answers old (Ask.Lock row) Say.Done after
  lock_made row step after saved =
      let P : Tokens → Type 0 = λ l. LockStep l row.token row.exclusive row.time row.host (Ok Grant.New) tokens in
      record { result = Ok Grant.New; tokens = tokens; step = subst P is step; says = refl; saves = saved }

  pub refresh_made : (token : Token) (time : ℕ) → RefreshStep read token time (Ok tt) tokens → (after : Store) → SavesTokens tokens old after → Answers old (Ask.Refresh token time) Say.Done after
  refresh_made token time step after saved =
      let P : Tokens → Type 0 = λ l. RefreshStep l token time (Ok tt) tokens in
      record { result = Ok tt; tokens = tokens; step = subst P is step; says = refl; saves = saved }

  pub unlock_made : (token : Token) → UnlockStep read token true tokens → (after : Store) → SavesTokens tokens old after → Answers old (Ask.Unlock token) Say.Done after
  unlock_made token step after saved =
      let P : Tokens → Type 0 = λ l. UnlockStep l token true tokens in
      record { result = true; tokens = tokens; step = subst P is step; says = refl; saves = saved }

  -- a number that isn't live as it is asked for isn't held already
  pub newly_locked : (row : LockRow) → LockStep read row.token row.exclusive row.time row.host (Ok Grant.New) tokens → ¬ IsQuiet old (Ask.Lock row)
  newly_locked row step quiet =
      let none : live_as old.tokens row.token ≡ None = subst (λ l. live_as l row.token ≡ None) is step.0.0 in
      none-some row.exclusive (sym none ∙ quiet)

  pub newly_unlocked : (token : Token) → UnlockStep read token true tokens → ¬ IsQuiet old (Ask.Unlock token)
  newly_unlocked token step quiet =
      let was : is_fresh_or_live old.tokens token ≡ true = subst (λ l. is_fresh_or_live l token ≡ true) is step.0 in
      let c : true ≡ false = sym was ∙ quiet in absurd (cc)

-- what is read of a token is how it is live in the store
pub put_made : (old : Store) (live : Option Bool) (token : Token) (kind : Kind) (name : Name) (bytes : List ℕ) → live ≡ live_as old.tokens token → length bytes ≤ object_limit kind
    → live ≢ None → naming.name bytes ≡ name → (after : Store) → PutsObject kind name bytes old after → Answers old (Ask.Put token kind name bytes) Say.Done after
put_made old live token kind name bytes is fits there same after puts = inr (inr (inr (fits, (λ none. there (is ∙ none)), same, refl, puts)))

pub removed_made : (old : Store) (live : Option Bool) (token : Token) (kind : Kind) (name : Name) → live ≡ live_as old.tokens token → old.append_only ≡ false
    → live ≡ Some true → (after : Store) → RemovesObject kind name old after → Answers old (Ask.Delete token kind name) Say.Done after
removed_made old live token kind name is deletes alone after removes = inr (deletes, inr (inr (sym is ∙ alone, refl, removes)))

-- the config read is raised
pub raised_made : (old : Store) (live : Option Bool) (token : Token) (text anew : List ℕ) → live ≡ live_as old.tokens token → live ≡ Some true
    → old.config ≡ Some text → IsUpgradeOf text anew → (after : Store) → SavesConfig anew old after → Answers old (Ask.Upgrade token) Say.Done after
raised_made old live token text anew is alone config due after saves =
    inr (inr (sym is ∙ alone, subst (λ found. RaiseAnswer found old Say.Done after) (sym config) (inr (inr (refl, (anew, due, saves))))))

-- it isn't of version 2
pub newly_raised : (old : Store) (token : Token) (text anew : List ℕ) → old.config ≡ Some text → IsUpgradeOf text anew → ¬ IsQuiet old (Ask.Upgrade token)
newly_raised old token text anew config due quiet =
    let other = quiet.2.0 in
    let same : quiet.0 ≡ text = let e : Some quiet.0 ≡ Some text = sym quiet.1 ∙ config in (cc) in
    let one : due.config ≡ other = config_texts_one text due.config other due.reads (subst (λ x. IsConfigText x other) same quiet.2.1) in
    let c : 1 ≡ 2 = sym due.first ∙ ap (λ (c : Config). c.version) one ∙ quiet.2.2 in absurd (omega (arith, c))

-- what is due is due of a text that was read
pub due_of : (found : Option (List ℕ)) (anew : Vec ℕ Global) → IsDue found (Due.Save anew) → (text : List ℕ) × (found ≡ Some text) × IsUpgradeOf text anew.items
due_of None anew h = absurd (cc)
due_of (Some text) anew h = (text, refl, h)

-- a config that wasn't kept
pub raise_failed : (old mid new : Store) (live : Option Bool) (token : Token) (text anew : List ℕ) (e : ShelfError) → mid ≡ old → live ≡ live_as old.tokens token → live ≡ Some true → old.config ≡ Some text
    → IsUpgradeOf text anew → Writes {T = Unit {0}} (SavesConfig anew) mid (Err e) new → Step old (Ask.Upgrade token) (refusal e) new
raise_failed old mid new live token text anew ShelfError.Fault same is alone config due (inl stays) = inr (tt, inl (refl, inl (stays ∙ same)))
raise_failed old mid new live token text anew ShelfError.Fault same is alone config due (inr saved) =
    inr (tt, inl (refl, inr (Say.Done, raised_made old live token text anew is alone config due new (subst (λ s. SavesConfig anew s new) same saved))))
raise_failed old mid new live token text anew ShelfError.Memory same is alone config due stays = inr (tt, inr (refl, stays ∙ same))

pub ticket_failed : (old mid new : Store) (read tokens : Tokens) (token : Token) (e : ShelfError) → mid ≡ old → read ≡ old.tokens
    → TicketStep read (Ok token) tokens → Writes {T = Unit {0}} (SavesTokens tokens) mid (Err e) new → Step old Ask.Ticket (refusal e) new
ticket_failed old mid new read tokens token e same is step w = save_failed old mid new tokens Ask.Ticket (Say.Token token) e tt same (ticket_made old read tokens is token step new) w

pub lock_failed : (old mid new : Store) (read tokens : Tokens) (row : LockRow) (e : ShelfError) → mid ≡ old → read ≡ old.tokens
    → LockStep read row.token row.exclusive row.time row.host (Ok Grant.New) tokens → Writes {T = Unit {0}} (SavesTokens tokens) mid (Err e) new → Step old (Ask.Lock row) (refusal e) new
lock_failed old mid new read tokens row e same is step w = save_failed old mid new tokens (Ask.Lock row) Say.Done e tt same (lock_made old read tokens is row step new) w

pub refresh_failed : (old mid new : Store) (read tokens : Tokens) (token : Token) (time : ℕ) (e : ShelfError) → mid ≡ old → read ≡ old.tokens
    → RefreshStep read token time (Ok tt) tokens → Writes {T = Unit {0}} (SavesTokens tokens) mid (Err e) new → Step old (Ask.Refresh token time) (refusal e) new
refresh_failed old mid new read tokens token time e same is step w = save_failed old mid new tokens (Ask.Refresh token time) Say.Done e tt same (refresh_made old read tokens is token time step new) w
