use Rattle.std.specs.Prelude.{◌+◌, nat_le, ℕ, List, length, take, drop, Option, Some, None, if◌then◌else◌}

-- the bytes at an offset, so many, where the list has them
abbrev pub range : List ℕ → ℕ → ℕ → Option (List ℕ)
range bytes offset len = if nat_le (offset + len) (length bytes) then Some (take len (drop offset bytes)) else None
