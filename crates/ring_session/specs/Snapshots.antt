-- A session table as bytes, and the table whose snapshot is given bytes.
-- Rules: Sessions 12
-- Formats: Snapshots
use Rattle.std.proofs.Common.{◌≡◌, ℕ, zero, suc, ◌^◌, ◌<◌, ◌≤◌, ◌==◌, if◌then◌else◌, List, [], ◌∷◌, length, Option, Some, None, IsSome, refl, arith}
use Rattle.std.specs.Prelude.{nat_le}
use Rattle.std.specs.List.{flat_map}
use Rattle.std.specs.Option.{option_map}
use Rattle.std.proofs.lemmas.Bool.{leb-true, le-leb}
use Rattle.byteorder.specs.Endian.{big_bytes}
use Rattle.ring_payload.specs.Codecs.{IsFormat, number_at, mapped_at, tested_at, sequence_at, ◌⊕◌, ◌>>=◌, Format, byte_field, u32_field, u64_field, text, ◌&◌, dependent_pair_format}
use Rattle.ring_payload.specs.Codecs.{tested_format, fields_format}
use Rattle.ring_object.specs.Bytes.{AreBytes}
use Rattle.ring_payload.specs.Calls.{CallFits}
use Rattle.ring_payload.specs.declared.call.Call.{Call}
use Rattle.ring_payload.specs.Operations.{op, op_encoding, OpFits}
use Rattle.ring_session.specs.Deduplicated.{max_clients}
use Rattle.ring_session.specs.Table.{LastCall, Table, table_of}

-- ---- a reply: its length in one byte, and its bytes

-- The maximum length of a reply in bytes.
abbrev pub max_reply : ℕ
max_reply = 64

-- The bytes of a reply.
abbrev pub reply_encoding : List ℕ → List ℕ
reply_encoding r = length r ∷ r

-- The reply is short enough.
abbrev pub ReplyFits : List ℕ → Type 0
ReplyFits r = length r ≤ max_reply

-- The fields of a reply: its length and its bytes.
abbrev reply_fields : Format (ℕ × List ℕ)
reply_fields = dependent_pair_format (tested_format (λ n. nat_le n max_reply) byte_field) text

-- The reply at the start of the bytes, and the rest.
unfoldable pub reply_at : List ℕ → Option (List ℕ × List ℕ)
reply_at bytes = mapped_at (λ p. p.1) reply_fields.at bytes

-- The encoding and the decoding of replies are inverse.
pub reply_format : IsFormat reply_encoding ReplyFits reply_at
unfolding reply_at
reply_format = fields_format reply_fields (λ p. p.1) reply_encoding ReplyFits (record {
  encoded = λ p f. rw f.1 refl;
  fits = λ p f. omega (arith, leb-true p.0 max_reply f.0.1, f.1);
  back = λ r f. ((length r, r), ((omega (arith, f), le-leb (length r) max_reply f), refl), refl);
})

-- The format of replies.
abbrev pub reply : Format (List ℕ)
reply = record { encoding = reply_encoding; Fits = ReplyFits; at = reply_at; exact = reply_format }

-- ---- a client: its number in 4 bytes, and its last call: the number in 8 bytes, the operation after its length in 2, and
-- the reply

-- The bytes of a last call.
abbrev pub last_call_encoding : LastCall → List ℕ
last_call_encoding last = big_bytes 8 last.number ⊕ op_encoding last.operation ⊕ reply_encoding last.reply

-- The bytes of a client.
abbrev pub client_encoding : ℕ × LastCall → List ℕ
client_encoding s = big_bytes 4 s.0 ⊕ last_call_encoding s.1

-- The client's numbers, operation and reply are within their limits.
pub record ClientFits (s : ℕ × LastCall) : Type 0 where
  pub client : s.0 < 2 ^ 32
  pub number : 1 ≤ s.1.number
  pub number_fits : s.1.number < 2 ^ 64
  pub operation : OpFits s.1.operation
  pub reply : ReplyFits s.1.reply

-- The fields of a client: its number, the call's number, the operation and the reply.
abbrev client_fields : Format (ℕ × (ℕ × (List ℕ × List ℕ)))
client_fields = u32_field & tested_format (λ n. nat_le 1 n) u64_field & op & reply

-- The client made of its fields.
abbrev client_of : ℕ × (ℕ × (List ℕ × List ℕ)) → ℕ × LastCall
client_of p = (p.0, record { number = p.1.0; operation = p.1.1.0; reply = p.1.1.1 })

-- The client at the start of the bytes, and the rest.
unfoldable pub client_at : List ℕ → Option ((ℕ × LastCall) × List ℕ)
client_at bytes = mapped_at client_of client_fields.at bytes

-- The encoding and the decoding of clients are inverse.
pub client_format : IsFormat client_encoding ClientFits client_at
unfolding client_at
client_format = fields_format client_fields client_of client_encoding ClientFits (record {
  encoded = λ p f. refl;
  fits = λ p f. record {
    client = omega (arith, f.0);
    number = leb-true 1 p.1.0 f.1.0.1;
    number_fits = omega (arith, f.1.0.0);
    operation = f.1.1.0;
    reply = f.1.1.1;
  };
  back = λ s f. (
    (s.0, (s.1.number, (s.1.operation, s.1.reply))),
    (omega (arith, f.client), ((omega (arith, f.number_fits), le-leb 1 s.1.number f.number), (f.operation, f.reply))),
    refl,
  );
})

-- ---- the clients, ascending

-- The clients ascend from `low` on, and each is within the limits.
abbrev pub AreClientsFrom : ℕ → List (ℕ × LastCall) → Type 0
AreClientsFrom low [] = Unit {0}
AreClientsFrom low (s ∷ ss) = ClientFits s × (low ≤ s.0) × AreClientsFrom (suc s.0) ss

-- The client at the start of the bytes, if its number is at least `low`.
abbrev pub next_client_at : ℕ → List ℕ → Option ((ℕ × LastCall) × List ℕ)
next_client_at low bytes = tested_at (λ s. nat_le low s.0) client_at bytes

-- `count` clients at the start of the bytes, ascending from `low` on.
unfoldable pub clients_at : ℕ → ℕ → List ℕ → Option (List (ℕ × LastCall) × List ℕ)
clients_at zero low bytes = Some ([], bytes)
clients_at (suc count) low bytes = do
  first ← next_client_at low bytes
  others ← clients_at count (suc first.0.0) first.1
  Some (first.0 ∷ others.0, others.1)

-- ---- the table: the number of clients in 2 bytes, the clients, and the object's snapshot after its length in 8 bytes

-- The snapshot of a table.
abbrev pub table_snapshot : {O : Type 0} → (O → List ℕ) → Table O → List ℕ
table_snapshot snapshot_of table =
    big_bytes 2 (length table.sessions) ⊕ flat_map client_encoding table.sessions
    ⊕ big_bytes 8 (length (snapshot_of table.content)) ⊕ snapshot_of table.content

-- The number of clients, at most `max_clients`, and the clients.
unfoldable pub sessions_at : List ℕ → Option ((ℕ × List (ℕ × LastCall)) × List ℕ)
sessions_at bytes = sequence_at (tested_at (λ n. nat_le n max_clients) (number_at 2)) (λ n. clients_at n 0) bytes

-- A text preceded by its length in 8 bytes.
unfoldable pub object_at : List ℕ → Option ((ℕ × List ℕ) × List ℕ)
object_at bytes = (dependent_pair_format u64_field text).at bytes

-- The clients and the object's snapshot that the bytes consist of.
unfoldable pub parts_at : List ℕ → Option (List (ℕ × LastCall) × List ℕ)
parts_at bytes = do
  sessions ← sessions_at bytes
  object ← object_at sessions.1
  if length object.1 == 0 then Some (sessions.0.1, object.0.1) else None

-- The table of these clients with the content whose snapshot is given.
abbrev pub table_with : {O : Type 0} → (List ℕ → Option O) → List (ℕ × LastCall) × List ℕ → Option (Table O)
table_with restored parts = option_map (λ content. table_of parts.0 content) (restored parts.1)

-- The table whose snapshot is the bytes, if they are one.
abbrev pub restored_table : {O : Type 0} → (List ℕ → Option O) → List ℕ → Option (Table O)
restored_table restored bytes = parts_at bytes >>= table_with restored

-- Sessions 12: the snapshot restores the table: its clients and its content are within the limits.
pub record HasSnapshot {O : Type 0} (IsContent : O → Type 0) (table : Table O) : Type 0 where
  pub few : length table.sessions ≤ max_clients
  pub clients : AreClientsFrom 0 table.sessions
  pub content : IsContent table.content

-- The call is within the limits, and its operation is bytes.
pub record KeepsLimits {A : Type 0} (c : Call A) : Type 0 where
  pub fits : CallFits c
  pub bytes : AreBytes c.op

-- ---- how the code splits a snapshot: the number of clients, the bytes from the first client on, and the object's snapshot

-- `count` ascending clients, if the bytes begin with them.
abbrev pub clients_in : ℕ → List ℕ → Option (List (ℕ × LastCall))
clients_in count bytes = option_map (λ x. x.0) (clients_at count 0 bytes)

-- The parts of the bytes, with at most 1,024 clients; none exactly if the bytes don't consist of such parts.
abbrev pub AreSplitParts : List ℕ → Option (ℕ × List ℕ × List ℕ) → Type 0
AreSplitParts bytes None = parts_at bytes ≡ None
AreSplitParts bytes (Some p) = (p.0 ≤ max_clients) × IsSome (clients_in p.0 p.1) × (parts_at bytes ≡ option_map (λ ss. (ss, p.2)) (clients_in p.0 p.1))
