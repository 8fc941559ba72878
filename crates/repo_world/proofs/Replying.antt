-- What a reply tells of the store at its moment.
use Rattle.std.proofs.Common.{◌≡◌, ◌≢◌, inl, inr, ⊎_elim, ℕ, ◌+◌, Bool, List, refl, sym, ◌∙◌, ap, subst, Option, Some, None, Result, Ok, Err}
use Rattle.std.proofs.lemmas.Option.{none-some}
use Rattle.std.proofs.lemmas.Bool.{cases_lt}
use Rattle.repo_name.specs.declared.rows.LockRow.{LockRow}
use Rattle.repo_locks.specs.declared.outcomes.Grant.{Grant}
use Rattle.repo_locks.specs.declared.outcomes.LockError.{LockError}
use Rattle.repo_locks.specs.Lawful.{IsLedger}
use Rattle.repo_locks.proofs.Ascending.{kind_beyond}
use Rattle.repo_locks.proofs.Numbers.{locked_live}
use Rattle.repo_world.specs.Bag.{WasUsed, IsOfVersion}
use Rattle.repo_tree.specs.ConfigText.{upgraded}
use Rattle.repo_world.proofs.Moving.{bool_false}
use Rattle.repo_name.specs.declared.kinds.Kind.{Kind}
use Rattle.repo_name.specs.declared.names.Name.{Name}
use Rattle.repo_name.specs.declared.tokens.Token.{Token}
use Rattle.repo_wire.specs.declared.messages.Ask.{Ask}
use Rattle.repo_wire.specs.declared.messages.Code.{Code}
use Rattle.repo_wire.specs.declared.messages.Say.{Say}
use Rattle.repo_wire.specs.Messages.{page_limit}
use Rattle.repo_locks.specs.declared.outcomes.TicketError.{TicketError}
use Rattle.repo_locks.specs.TokenMachine.{Tokens, TicketStep, LockStep, live_as, is_fresh}
use Rattle.repo_store.specs.Pages.{IsPage}
use Rattle.repo_store.specs.StoreMachine.{Step, Answers, PutAnswer, DeleteAnswer, UpgradeAnswer, GetSays, TicketSays, LockSays, SliceSays, object_limit}
use Rattle.repo_store.specs.Stores.{Store}
use Rattle.repo_store.specs.Upgrades.{RaiseAnswer}
use Rattle.repo_session.proofs.Growing.{answered, no_done}
use Rattle.repo_name.specs.Limits.{text_limit}

pub put_told : (old : Store) (t : Token) (k : Kind) (n : Name) (x : List ℕ) (new : Store) → Step old (Ask.Put t k n x) Say.Done new → (y : List ℕ) × (new.objects k n ≡ Some y)
put_told old t k n x new s = go (answered old (Ask.Put t k n x) Say.Done new (no_done Say.Done refl) s)
  where
    go : PutAnswer old t k n x Say.Done new → (y : List ℕ) × (new.objects k n ≡ Some y)
    go (inl h) = absurd (no_done Say.Done refl Code.TooLarge h.1)
    go (inr (inl h)) = absurd (no_done Say.Done refl Code.Dead h.2)
    go (inr (inr (inl h))) = absurd (no_done Say.Done refl Code.NameMismatch h.3)
    go (inr (inr (inr h))) = h.4.0.here

pub delete_told : (old : Store) (t : Token) (k : Kind) (n : Name) (new : Store) → Step old (Ask.Delete t k n) Say.Done new → new.objects k n ≡ None
delete_told old t k n new s = go (answered old (Ask.Delete t k n) Say.Done new (no_done Say.Done refl) s)
  where
    go : DeleteAnswer old t k n Say.Done new → new.objects k n ≡ None
    go (inl h) = absurd (no_done Say.Done refl Code.AppendOnly h.1)
    go (inr (only, inl h)) = absurd (no_done Say.Done refl Code.Dead h.1)
    go (inr (only, inr (inl h))) = absurd (no_done Say.Done refl Code.NotExclusive h.1)
    go (inr (only, inr (inr h))) = h.2.0.gone

no_bytes : (x : List ℕ) (code : Code) → Say.Bytes x ≢ Say.Refused code
no_bytes x code h = absurd (cc)

no_names : (more : Bool) (names : List Name) (code : Code) → Say.Names more names ≢ Say.Refused code
no_names more names code h = absurd (cc)

no_token : (t : Token) (code : Code) → Say.Token t ≢ Say.Refused code
no_token t code h = absurd (cc)

got : (limit : ℕ) (o : Option (List ℕ)) (x : List ℕ) → GetSays limit o (Say.Bytes x) → o ≡ Some x
got limit None x h = absurd (no_bytes x Code.Missing h)
got limit (Some y) x (inl h) = let e : Say.Bytes x ≡ Say.Bytes y = h.1 in let g : x ≡ y = cc in ap Some (sym g)
got limit (Some y) x (inr h) = absurd (no_bytes x Code.TooLarge h.1)

pub get_told : (old : Store) (k : Kind) (n : Name) (x : List ℕ) (new : Store) → Step old (Ask.Get k n) (Say.Bytes x) new → (old.objects k n ≡ Some x) × (new ≡ old)
get_told old k n x new s = let a = answered old (Ask.Get k n) (Say.Bytes x) new (no_bytes x) s in (got (object_limit k) (old.objects k n) x a.0, a.1)

pub config_told : (old : Store) (x : List ℕ) (new : Store) → Step old Ask.Config (Say.Bytes x) new → (old.config ≡ Some x) × (new ≡ old)
config_told old x new s = let a = answered old Ask.Config (Say.Bytes x) new (no_bytes x) s in (got text_limit old.config x a.0, a.1)

raise_said : (old : Store) (c : Option (List ℕ)) (new : Store) → old.config ≡ c → RaiseAnswer c old Say.Done new → IsOfVersion new 2
raise_said old None new e h = absurd (no_done Say.Done refl Code.Missing h.0)
raise_said old (Some text) new e (inl h) = absurd (no_done Say.Done refl Code.Malformed h.1)
raise_said old (Some text) new e (inr (inl h)) = record { text = text; config = h.0.0; configured = ap (λ (s : Store). s.config) h.2 ∙ e; reads = h.0.1; of_version = h.0.2 }
raise_said old (Some text) new e (inr (inr h)) = record { text = h.1.0; config = upgraded h.1.1.config; configured = h.1.2.0; reads = h.1.1.again; of_version = refl }

pub upgrade_told : (old : Store) (t : Token) (new : Store) → Step old (Ask.Upgrade t) Say.Done new → IsOfVersion new 2
upgrade_told old t new s = go (answered old (Ask.Upgrade t) Say.Done new (no_done Say.Done refl) s) where
  go : UpgradeAnswer old t Say.Done new → IsOfVersion new 2
  go (inl h) = absurd (no_done Say.Done refl Code.Dead h.1)
  go (inr (inl h)) = absurd (no_done Say.Done refl Code.NotExclusive h.1)
  go (inr (inr h)) = raise_said old old.config new refl h.1

pub list_told : (old : Store) (k : Kind) (a : Option Name) (more : Bool) (names : List Name) (new : Store) → Step old (Ask.List k a) (Say.Names more names) new → IsPage old.objects k a page_limit names more × (new ≡ old)
list_told old k a more names new s =
    let h = answered old (Ask.List k a) (Say.Names more names) new (no_names more names) s in
    let e : Say.Names more names ≡ Say.Names h.1 h.0 = h.3 in
    let m : h.1 ≡ more = cc in
    let ns : h.0 ≡ names = cc in
    (subst (λ b. IsPage old.objects k a page_limit names b) m (subst (λ l. IsPage old.objects k a page_limit l h.1) ns h.2), h.4)

ticket_told : (old : Store) (t : Token) (new : Store) (r : Result Token TicketError) (tokens : Tokens) → TicketStep old.tokens r tokens → TicketSays r (Say.Token t) → new.tokens ≡ tokens → (t.0 ≡ old.tokens.next) × (new.tokens.next ≡ old.tokens.next + 1)
ticket_told old t new (Ok u) tokens step says same = let e : Say.Token t ≡ Say.Token u = says in let g : t ≡ u = cc in (ap (λ (z : Token). z.0) g ∙ step.1, ap (λ (l : Tokens). l.next) (same ∙ step.2))
ticket_told old t new (Err TicketError.Exhausted) tokens step says same = absurd (no_token t Code.Exhausted says)
ticket_told old t new (Err TicketError.Memory) tokens step says same = absurd says

-- a live number is spent
pub live_spent : (l : Tokens) (t : Token) (e : Bool) → IsLedger l → live_as l t ≡ Some e → WasUsed l t
live_spent l t e ok h = record {
  issued = ⊎_elim (λ lt. lt) (λ beyond. absurd (none-some e (sym (kind_beyond 0 l.next l.live t ok.live beyond) ∙ h))) (cases_lt t.0 l.next);
  unfresh = bool_false (is_fresh l t) (λ f. none-some e (sym (ok.apart t f) ∙ h));
}

lock_said : (old tokens : Tokens) (t : Token) (e : Bool) (time : ℕ) (host : List ℕ) (r : Result Grant LockError) → LockStep old t e time host r tokens → LockSays r Say.Done → live_as tokens t ≡ Some e
lock_said old tokens t e time host (Ok grant) step says = locked_live old tokens t e time host grant step
lock_said old tokens t e time host (Err LockError.Dead) step says = absurd (no_done Say.Done refl Code.Dead says)
lock_said old tokens t e time host (Err LockError.OtherKind) step says = absurd (no_done Say.Done refl Code.OtherKind says)
lock_said old tokens t e time host (Err LockError.Busy) step says = absurd (no_done Say.Done refl Code.Busy says)
lock_said old tokens t e time host (Err LockError.Full) step says = absurd (no_done Say.Done refl Code.Full says)
lock_said old tokens t e time host (Err LockError.Memory) step says = absurd says

pub lock_told : (old : Store) (row : LockRow) (new : Store) → IsLedger new.tokens → Step old (Ask.Lock row) Say.Done new → WasUsed new.tokens row.token
lock_told old row new ok s =
    let a = answered old (Ask.Lock row) Say.Done new (no_done Say.Done refl) s in
    let live = lock_said old.tokens a.tokens row.token row.exclusive row.time row.host a.result a.step a.says in
    live_spent new.tokens row.token row.exclusive ok (ap (λ (l : Tokens). live_as l row.token) a.saves.2 ∙ live)

bytes_no_token : (limit : ℕ) (o : Option (List ℕ)) (t : Token) → GetSays limit o (Say.Token t) → ⊥
bytes_no_token limit None t h = absurd (no_token t Code.Missing h)
bytes_no_token limit (Some y) t (inl h) = let e : Say.Token t ≡ Say.Bytes y = h.1 in absurd (cc)
bytes_no_token limit (Some y) t (inr h) = absurd (no_token t Code.TooLarge h.1)

slice_no_token : (slice : Rattle.repo_store.specs.declared.shelves.Slice.Slice) (t : Token) → SliceSays slice (Say.Token t) → ⊥
slice_no_token (Rattle.repo_store.specs.declared.shelves.Slice.Slice.Found bytes) t h = let e : Say.Token t ≡ Say.Bytes bytes = h in absurd (cc)
slice_no_token Rattle.repo_store.specs.declared.shelves.Slice.Slice.Missing t h = absurd (no_token t Code.Missing h)
slice_no_token Rattle.repo_store.specs.declared.shelves.Slice.Slice.Outside t h = absurd (no_token t Code.Range h)

lock_no_token : (r : Result Grant LockError) (t : Token) → LockSays r (Say.Token t) → ⊥
lock_no_token (Ok grant) t h = let e : Say.Token t ≡ Say.Done = h in absurd (cc)
lock_no_token (Err LockError.Dead) t h = absurd (no_token t Code.Dead h)
lock_no_token (Err LockError.OtherKind) t h = absurd (no_token t Code.OtherKind h)
lock_no_token (Err LockError.Busy) t h = absurd (no_token t Code.Busy h)
lock_no_token (Err LockError.Full) t h = absurd (no_token t Code.Full h)
lock_no_token (Err LockError.Memory) t h = absurd h

refresh_no_token : (r : Result (Unit {0}) Rattle.repo_locks.specs.declared.outcomes.RefreshError.RefreshError) (t : Token) → Rattle.repo_store.specs.StoreMachine.RefreshSays r (Say.Token t) → ⊥
refresh_no_token (Ok d) t h = let e : Say.Token t ≡ Say.Done = h in absurd (cc)
refresh_no_token (Err Rattle.repo_locks.specs.declared.outcomes.RefreshError.RefreshError.Dead) t h = absurd (no_token t Code.Dead h)

raise_no_token : (old : Store) (c : Option (List ℕ)) (t : Token) (new : Store) → RaiseAnswer c old (Say.Token t) new → ⊥
raise_no_token old None t new h = no_token t Code.Missing h.0
raise_no_token old (Some text) t new (inl h) = no_token t Code.Malformed h.1
raise_no_token old (Some text) t new (inr (inl h)) = let e : Say.Token t ≡ Say.Done = h.1 in absurd (cc)
raise_no_token old (Some text) t new (inr (inr h)) = let e : Say.Token t ≡ Say.Done = h.0 in absurd (cc)

upgrade_no_token : (old : Store) (u t : Token) (new : Store) → UpgradeAnswer old u (Say.Token t) new → ⊥
upgrade_no_token old u t new (inl h) = no_token t Code.Dead h.1
upgrade_no_token old u t new (inr (inl h)) = no_token t Code.NotExclusive h.1
upgrade_no_token old u t new (inr (inr h)) = raise_no_token old old.config t new h.1

-- a token is given for a ticket alone, and is the next number
token_answer : (old : Store) (ask : Ask) (t : Token) (new : Store) → Answers old ask (Say.Token t) new → (t.0 ≡ old.tokens.next) × (new.tokens.next ≡ old.tokens.next + 1)
token_answer old Ask.Ticket t new a = ticket_told old t new a.result a.tokens a.step a.says a.saves.2
token_answer old (Ask.Lock row) t new a = absurd (lock_no_token a.result t a.says)
token_answer old (Ask.Refresh u time) t new a = absurd (refresh_no_token a.result t a.says)
token_answer old (Ask.Unlock u) t new a = let e : Say.Token t ≡ Say.Done = a.says in absurd (cc)
token_answer old Ask.Locks t new a = let e : Say.Token t ≡ Say.LockList old.tokens.live = a.0 in absurd (cc)
token_answer old (Ask.List k after) t new a = let e : Say.Token t ≡ Say.Names a.1 a.0 = a.3 in absurd (cc)
token_answer old (Ask.Get k n) t new a = absurd (bytes_no_token (object_limit k) (old.objects k n) t a.0)
token_answer old (Ask.Range p o len) t new (inl a) = absurd (no_token t Code.Malformed a.1)
token_answer old (Ask.Range p o len) t new (inr a) = absurd (slice_no_token a.1.0 t a.1.2)
token_answer old (Ask.Put u k n x) t new (inl a) = absurd (no_token t Code.TooLarge a.1)
token_answer old (Ask.Put u k n x) t new (inr (inl a)) = absurd (no_token t Code.Dead a.2)
token_answer old (Ask.Put u k n x) t new (inr (inr (inl a))) = absurd (no_token t Code.NameMismatch a.3)
token_answer old (Ask.Put u k n x) t new (inr (inr (inr a))) = let e : Say.Token t ≡ Say.Done = a.3 in absurd (cc)
token_answer old (Ask.Delete u k n) t new (inl a) = absurd (no_token t Code.AppendOnly a.1)
token_answer old (Ask.Delete u k n) t new (inr (only, inl a)) = absurd (no_token t Code.Dead a.1)
token_answer old (Ask.Delete u k n) t new (inr (only, inr (inl a))) = absurd (no_token t Code.NotExclusive a.1)
token_answer old (Ask.Delete u k n) t new (inr (only, inr (inr a))) = let e : Say.Token t ≡ Say.Done = a.1 in absurd (cc)
token_answer old Ask.Config t new a = absurd (bytes_no_token text_limit old.config t a.0)
token_answer old (Ask.Upgrade u) t new a = absurd (upgrade_no_token old u t new a)

pub token_told : (old : Store) (ask : Ask) (t : Token) (new : Store) → Step old ask (Say.Token t) new → (t.0 ≡ old.tokens.next) × (new.tokens.next ≡ old.tokens.next + 1)
token_told old ask t new s = token_answer old ask t new (answered old ask (Say.Token t) new (no_token t) s)
