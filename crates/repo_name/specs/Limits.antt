-- The limits that formats and jobs share, in bytes where nothing else is said.
use Rattle.std.specs.Prelude.{◌^◌, ℕ}

-- a blob's greatest length: that of a chunk, and of a tree's text
abbrev pub blob_limit : ℕ
blob_limit = 8388608

-- the greatest length of an index that a store takes
abbrev pub index_limit : ℕ
index_limit = 8388608

-- the greatest length of a snapshot's or a config's text
abbrev pub text_limit : ℕ
text_limit = 65536

-- files are shorter than this
abbrev pub file_end : ℕ
file_end = 2 ^ 48

-- the least length of its blobs at which a store's packs are closed
abbrev pub least_target : ℕ
least_target = 1024

-- the greatest such length
abbrev pub greatest_target : ℕ
greatest_target = 16777216

-- how many blobs a pack has at most
abbrev pub blobs_limit : ℕ
blobs_limit = 4096

-- the greatest length of a pack's blobs, all together
abbrev pub contents_limit : ℕ
contents_limit = 25165823

-- the greatest length of a pack's header
abbrev pub header_limit : ℕ
header_limit = 151552

-- a pack's greatest length
abbrev pub pack_limit : ℕ
pack_limit = 25317379

-- how many facts wait at most until an index is written
abbrev pub facts_limit : ℕ
facts_limit = 20000

-- the greatest length of a message's fields
abbrev pub fields_limit : ℕ
fields_limit = 26214375

-- the greatest length of the bytes of a Put
abbrev pub put_limit : ℕ
put_limit = 26214334
