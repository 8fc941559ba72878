-- The command that a parse came to.
use Rattle.std.proofs.Common.{◌≡◌, ◌≢◌, ◌⊎◌, [], List, ℕ, Some, None, Option, Result, Ok, Err, IsErrAnd, true, refl, sym, subst, inl, inr, option_map}
use Rattle.std.proofs.lemmas.Option.{same_Some}
use Rattle.clap.specs.Faults.{fault_of, is_simple_and_free}
use Rattle.clap.specs.Kinds.{HasKind}
use Rattle.clap.specs.Matches.{subcommand_name_of}
use Rattle.clap.specs.Values.{kind_of}
use Rattle.clap.specs.declared.error.Error.{Error}
use Rattle.clap.specs.declared.error.kind.ErrorKind.TheVariants.{OutOfMemory}
use Rattle.repo_prog.specs.declared.words.OrderError.{OrderError}
use Rattle.repo_prog.specs.declared.words.WordsError.{WordsError}
use Rattle.repo_prog.specs.Words.{IsRefusalOf, ReadsAs}
use Rattle.repo_prog.specs.declared.words.Order.{Order}
use Rattle.clap.specs.Simple.{is_simple, subcommand_rows_of}
use Rattle.clap.specs.Words.{Row}
use Rattle.clap.specs.declared.parser.matches.ArgMatches.{ArgMatches}
use Rattle.repo_prog.specs.Spelled.{vault_app}

abbrev paired : {A B C : Type 0} → (A → B) → (A → C) → A → B × C
paired f g a = (f a, g a)

abbrev second : {B C : Type 0} → B × C → C
second p = p.1

-- a pair that is there is that of its parts
pairs : {A B C : Type 0} (f : A → B) (g : A → C) (x : Option A) (b : B) (c : C) → option_map f x ≡ Some b → option_map second (option_map (paired f g) x) ≡ Some c → option_map (paired f g) x ≡ Some (b, c)
pairs f g None b c first rest = absurd (let none : None ≡ Some b = first in cc)
pairs f g (Some a) b c first rest = λ i. Some (same_Some (f a) b first i, same_Some (g a) c rest i)

pub entered : (m : ArgMatches) (name : List ℕ) (rows : List Row) → subcommand_name_of m ≡ Some name → option_map (λ p. p.1) (subcommand_rows_of m) ≡ Some rows → subcommand_rows_of m ≡ Some (name, rows)
entered m name rows named has = pairs _ _ _ name rows named has

-- the program's commands are such that `clap` says all of what it reads
pub vault_is_simple : is_simple vault_app ≡ true
vault_is_simple = refl

pub vault_is_free : is_simple_and_free vault_app ≡ true
vault_is_free = refl

-- what `clap` finds at fault is told as that, but for want of memory
pub refused_by : (line : List (List ℕ)) (error : Error) (told : OrderError) → HasKind (fault_of vault_app line) error
    → ((kind_of error ≡ OutOfMemory) × (told ≡ OrderError.Words WordsError.Memory)) ⊎ ((kind_of error ≢ OutOfMemory) × (told ≡ OrderError.Clap error)) → IsRefusalOf line told
refused_by line error told has (inl (memory, is)) = subst (IsRefusalOf line) (sym is) tt
refused_by line error told (inl memory) (inr (other, is)) = absurd (other memory)
refused_by line error told (inr among) (inr (other, is)) = subst (IsRefusalOf line) (sym is) among

-- where `clap` takes the words they may make no order by themselves
pub refused_words : (line : List (List ℕ)) (error : WordsError) → fault_of vault_app line ≡ [] → IsRefusalOf line (OrderError.Words error)
refused_words line WordsError.BadArgument none = none
refused_words line WordsError.NamesAndPolicy none = none
refused_words line WordsError.Memory none = tt

pub read_refused : (line : List (List ℕ)) (error : Error) (result : Result Order OrderError) → HasKind (fault_of vault_app line) error
    → IsErrAnd result (λ told. ((kind_of error ≡ OutOfMemory) × (told ≡ OrderError.Words WordsError.Memory)) ⊎ ((kind_of error ≢ OutOfMemory) × (told ≡ OrderError.Clap error))) → ReadsAs line result
read_refused line error (Ok order) has told = absurd told
read_refused line error (Err refusal) has told = refused_by line error refusal has told
