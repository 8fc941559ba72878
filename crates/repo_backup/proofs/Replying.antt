-- What a reply comes to for a backup.
use Rattle.std.proofs.Common.{◌≡◌, [], Bool, true, false, cond, List, refl}
use Rattle.repo_name.specs.declared.kinds.Kind.{Kind}
use Rattle.repo_session.specs.Readings.{KnowsIndexes}
use Rattle.repo_session.specs.Traces.{Trace, object_put}
use Rattle.repo_session.specs.declared.catalogs.Catalog.{Catalog}
use Rattle.repo_session.specs.declared.emissions.Emission.{Emission}
use Rattle.repo_wire.specs.declared.messages.Ask.{Ask}

-- a backup gives nothing out, told or not
pub none_given : (told : Bool) → (let none : List Emission = [] in cond told none none ≡ none)
none_given true = refl
none_given false = refl

-- while the indexes are read what is asked for puts nothing
pub reading_puts : (c : Catalog) (ask : Ask) (es : Trace) → KnowsIndexes c ask es → (k : Kind) → object_put k ask ≡ []
reading_puts c (Ask.List k after) es h j = refl
reading_puts c (Ask.Get k n) es h j = refl
reading_puts c Ask.Ticket es h j = refl
reading_puts c (Ask.Lock row) es h j = refl
reading_puts c (Ask.Refresh t time) es h j = refl
reading_puts c (Ask.Unlock t) es h j = refl
reading_puts c Ask.Locks es h j = refl
reading_puts c Ask.Config es h j = refl
reading_puts c (Ask.Range pack offset len) es h j = refl
reading_puts c (Ask.Put t k n x) es h j = absurd h
reading_puts c (Ask.Delete t k n) es h j = refl
reading_puts c (Ask.Upgrade t) es h j = refl
