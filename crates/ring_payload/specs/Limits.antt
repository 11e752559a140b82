-- The numbers of the format: tags, kinds, versions and limits.
-- Formats: Payloads; Frames
use Rattle.std.specs.Prelude.{ℕ}

-- ---- the tags of payloads

-- a call
abbrev pub call_tag : ℕ
call_tag = 1

-- a message of an old ring
abbrev pub wrapped_tag : ℕ
wrapped_tag = 2

-- an End: its sender has wrapped all its messages
abbrev pub end_tag : ℕ
end_tag = 3

-- a head of a whole log
abbrev pub head_tag : ℕ
head_tag = 4

-- a part of a log: calls at consecutive places
abbrev pub part_tag : ℕ
part_tag = 5

-- a pack of calls
abbrev pub pack_tag : ℕ
pack_tag = 6

-- a head of a trimmed log
abbrev pub trimmed_tag : ℕ
trimmed_tag = 7

-- a piece of a snapshot
abbrev pub snap_tag : ℕ
snap_tag = 8

-- ---- the kinds of frames

-- a message: a numbered payload of a ring
abbrev pub message_kind : ℕ
message_kind = 1

-- the token of a running ring
abbrev pub token_kind : ℕ
token_kind = 2

-- a join
abbrev pub join_kind : ℕ
join_kind = 3

-- the commit token of a proposed ring
abbrev pub commit_kind : ℕ
commit_kind = 4

-- ---- the versions of frames

-- the version of every frame that needs no later version
abbrev pub first_version : ℕ
first_version = 1

-- the version of a frame with a pack of calls
abbrev pub pack_version : ℕ
pack_version = 2

-- the version of a frame with a piece of a snapshot or the head of a trimmed log
abbrev pub trim_version : ℕ
trim_version = 3

-- ---- limits

-- the maximum length of an operation, in bytes
abbrev pub max_operation : ℕ
max_operation = 1024

-- the maximum number of calls of a part
abbrev pub max_part_calls : ℕ
max_part_calls = 7

-- the minimum number of calls of a pack
abbrev pub min_pack_calls : ℕ
min_pack_calls = 2

-- the maximum number of calls of a pack
abbrev pub max_pack_calls : ℕ
max_pack_calls = 16

-- the maximum length of a pack as a whole payload, in bytes, including its tag and count
abbrev pub max_pack_bytes : ℕ
max_pack_bytes = 7276

-- the maximum length of a snapshot, in bytes
abbrev pub max_snapshot : ℕ
max_snapshot = 16777216

-- the length of each piece of a snapshot except the last, in bytes
abbrev pub max_piece_bytes : ℕ
max_piece_bytes = 7000

-- the maximum number of requests of a token
abbrev pub max_requests : ℕ
max_requests = 32
