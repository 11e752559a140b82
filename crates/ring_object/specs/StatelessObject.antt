-- The object without a state: no operation can be read, and its only snapshot has no bytes.
-- Rules: Objects 2 and 3
use Rattle.std.proofs.Common.{◌≡◌, ℕ, ◌<◌, Bool, false, List, [], ◌∷◌, Option, Some, None, refl, arith}
use Rattle.std.proofs.lemmas.List.Elements.{All-nil, All-cons}
use Rattle.ring_object.specs.Bytes.{AreBytes}
use Rattle.ring_object.specs.Operations.{Sequential, IsReply, unreadable_reply}
use Rattle.ring_object.specs.Snapshots.{HasExactSnapshots}

-- the only content
abbrev pub Content : Type 0
Content = Unit {0}

-- every content is valid
abbrev pub is_content : Content → Type 0
is_content content = Unit {0}

-- no operation can be read
abbrev pub is_readable : List ℕ → Bool
is_readable op = false

-- the reply to any operation is the byte `FF`
abbrev pub reply : Content → List ℕ → List ℕ
reply content op = unreadable_reply

-- no operation changes the content
abbrev pub next : Content → List ℕ → Content
next content op = content

-- the snapshot has no bytes
abbrev pub snapshot_of : Content → List ℕ
snapshot_of content = []

-- the empty byte string restores it, and no other does
abbrev pub restored : List ℕ → Option Content
restored [] = Some tt
restored (byte ∷ bytes) = None

-- the object as functions
abbrev pub stateless_object : Sequential Content
stateless_object = record { initial = tt; reply = reply; next = next; snapshot_of = snapshot_of; restored = restored }

-- ---- the laws

-- an operation that can't be read changes nothing
pub ignores : (content : Content) (op : List ℕ) → is_readable op ≡ false → (reply content op ≡ unreadable_reply) × (next content op ≡ content)
ignores content op unread = (refl, refl)

-- each reply has at most 64 bytes
pub replies : (content : Content) (op : List ℕ) → AreBytes op → is_content content → IsReply (reply content op)
replies content op bytes is = (omega arith, All-cons (λ byte. byte < 256) 255 [] (omega arith) (All-nil (λ byte. byte < 256)))

only : (bytes : List ℕ) (content : Content) → AreBytes bytes → restored bytes ≡ Some content → is_content content × (snapshot_of content ≡ bytes)
only [] content bytes is = (tt, refl)
only (byte ∷ more) content bytes is = absurd (cc is)

-- exactly the empty byte string is restored
pub restores : HasExactSnapshots is_content snapshot_of restored
restores = record { same = λ content is fits. refl; only = only }
