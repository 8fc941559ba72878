-- What the two tables of the rolling fingerprint hold.
use Rattle.std.specs.Prelude.{ℕ, ◌*◌, ◌^◌, ◌∷◌, fold, replicate}
use Rattle.repo_chunk.specs.Rabin.{remainder, step, bits_of}

-- a remainder with one byte more
unfoldable pub with_byte : ℕ → ℕ → ℕ
with_byte so_far byte = fold step so_far (bits_of byte)

-- what the eight highest of the 53 bits of a remainder become as a byte of zeros comes
unfoldable pub high_part : ℕ → ℕ
high_part high = with_byte (high * 2 ^ 45) 0

-- what a byte adds to a remainder when 64 more bytes have come
unfoldable pub leaving_part : ℕ → ℕ
leaving_part byte = remainder (byte ∷ replicate 64 0)
