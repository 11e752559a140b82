-- A fact that each operation keeps, a list of operations keeps.
use Rattle.std.proofs.Common.{◌≡◌, refl, ℕ, ◌<◌, List, [], ◌∷◌, ◌++◌, length, take, slice_index_or, All}
use Rattle.std.proofs.lemmas.List.Elements.{All-head, All-tail, All-take, All-get_or}
use Rattle.ring_object.specs.Bytes.{AreBytes}
use Rattle.ring_object.specs.Operations.{IsReply, Sequential, content_after, reply_at}

pub content_kept : {O : Type 0} (P : O → Type 0) (object : Sequential O) → ((o : O) (op : List ℕ) → AreBytes op → P o → P (object.next o op)) →
    (o : O) (ops : List (List ℕ)) → All AreBytes ops → P o → P (content_after object o ops)
content_kept P object keeps o [] bytes holds = holds
content_kept P object keeps o (op ∷ ops) bytes holds =
    content_kept P object keeps (object.next o op) ops (All-tail AreBytes op ops bytes) (keeps o op (All-head AreBytes op ops bytes) holds)

-- the reply at each place is a reply, if each reply to a content is one
pub replied : {O : Type 0} (P : O → Type 0) (object : Sequential O) →
    ((o : O) (op : List ℕ) → AreBytes op → P o → P (object.next o op)) → ((o : O) (op : List ℕ) → AreBytes op → P o → IsReply (object.reply o op)) →
    P object.initial → (ops : List (List ℕ)) (p : ℕ) → All AreBytes ops → p < length ops → IsReply (reply_at object ops p)
replied P object keeps replies starts ops p bytes within =
    replies (content_after object object.initial (take p ops)) (slice_index_or ops p []) (All-get_or AreBytes ops p [] within bytes)
    (content_kept P object keeps object.initial (take p ops) (All-take AreBytes p ops bytes) starts)

pub content_after-append : {O : Type 0} (object : Sequential O) (o : O) (ops more : List (List ℕ)) →
    content_after object o (ops ++ more) ≡ content_after object (content_after object o ops) more
content_after-append object o [] more = refl
content_after-append object o (op ∷ ops) more = content_after-append object (object.next o op) ops more
