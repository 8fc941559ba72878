-- Which versions are known.
use Rattle.std.specs.Prelude.{ℕ}
use Rattle.repo_session.specs.declared.versions.Versions.{Versions}

-- the greatest of them
abbrev pub upto : Versions → ℕ
upto Versions.One = 1
upto Versions.Both = 2

-- those that are among both
abbrev pub shared : Versions → Versions → Versions
shared Versions.One others = Versions.One
shared Versions.Both others = others
