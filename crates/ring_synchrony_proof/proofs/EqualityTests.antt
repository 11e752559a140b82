-- The tests of equality are exact.
use Rattle.std.proofs.Common.{◌≡◌, Bool, false, ◌&&◌, ◌==◌, List, Option, Some, None, refl, ap}
use Rattle.std.specs.Bool.{Decides}
use Rattle.std.specs.Cmp.Lexicographic.{bytes_decides, pointwise_decides}
use Rattle.std.specs.Str.{bytes_eq}
use Rattle.std.proofs.lemmas.Bool.{false≢true}
use Rattle.std.proofs.lemmas.Bool.Decides.{Decides-and, Decides-eqb, Decides-like}
use Rattle.ring_base.specs.Rings.{same_ring}
use Rattle.ring_base.specs.declared.ring_id.RingId.{RingId}
use Rattle.ring_payload.specs.declared.call.Call.{Call as OneCall}
use Rattle.ring_payload.specs.declared.calls.Pack.{Pack as OnePack}
use Rattle.ring_payload.specs.declared.calls.Part.{Part as OnePart}
use Rattle.ring_payload.specs.declared.head.Head.{Head as OneHead}
use Rattle.ring_payload.specs.declared.snap.Snap.{Snap as OneSnap}
use Rattle.ring_payload.specs.declared.content.WrappedPayload.{WrappedPayload}
use Rattle.ring_payload.specs.declared.content.WrappedPayload.TheVariants.{Call as CallContent, Head as HeadContent}
use Rattle.ring_payload.specs.declared.content.WrappedPayload.TheVariants.{Part as PartContent, Pack as PackContent}
use Rattle.ring_payload.specs.declared.content.WrappedPayload.TheVariants.{Snap as SnapContent}
use Rattle.ring_payload.specs.declared.content.Payload.{Payload}
use Rattle.ring_payload.specs.declared.content.Payload.TheVariants.{Call, Wrapped, End, Head, Part, Pack, Snap}
use Rattle.ring_payload.specs.declared.content.Wrapped.{Wrapped as WrappedMessage}
use Rattle.ring_payload.specs.SameCalls.{is_same}
use Rattle.ring_wire.specs.declared.message.Message.{Message}
use Rattle.ring_core_spec.specs.Commits.{Configuration}
use Rattle.ring_synchrony_proof.specs.Same.{same_calls, same_last, same_head, same_part, same_snap, same_content, same_wrapped, same_payload, same_message}
use Rattle.ring_synchrony_proof.specs.Same.{same_messages}
use Rattle.ring_synchrony_proof.specs.Changes.{Change}
use Rattle.ring_synchrony_proof.specs.Tests.{same_configuration, same_change}

-- Where the parts are decided, the whole is

both : (p q : Bool) {P Q R : Type 0} → Decides p P → Decides q Q → (P × Q → R) → (R → P × Q) → Decides (p && q) R
both p q a b f g = Decides-like (p && q) f g (Decides-and p q a b)

-- two values of different variants
apart : {R : Type 0} → (R → ⊥) → Decides false R
apart f = (λ h. absurd (false≢true h), λ r. absurd (f r))

through : {X Y : Type 0} (f : X → Y) (b : Bool) (x y : X) → Decides b (x ≡ y) → (f x ≡ f y → x ≡ y) → Decides b (f x ≡ f y)
through f b x y d back = Decides-like b (λ e. ap f e) back d

pub ring_decides : (a b : RingId) → Decides (same_ring a b) (a ≡ b)
ring_decides a b =
    both (a.seq == b.seq) (a.rep == b.rep) (Decides-eqb a.seq b.seq) (Decides-eqb a.rep b.rep)
    (λ p i. record { seq = p.0 i; rep = p.1 i }) (λ e. (ap (λ (r : RingId). r.seq) e, ap (λ (r : RingId). r.rep) e))

pub configuration_decides : (a b : Configuration) → Decides (same_configuration a b) (a ≡ b)
configuration_decides a b =
    both (same_ring a.ring b.ring) (a.members == b.members) (ring_decides a.ring b.ring) (Decides-eqb a.members b.members)
    (λ p i. record { ring = p.0 i; members = p.1 i }) (λ e. (ap (λ (r : Configuration). r.ring) e, ap (λ (r : Configuration). r.members) e))

call_decides : {A : Type 0} → (a b : OneCall A) → Decides (is_same b a) (a ≡ b)
call_decides a b =
    both ((a.client == b.client) && (a.number == b.number)) (bytes_eq a.op b.op)
    (Decides-and (a.client == b.client) (a.number == b.number) (Decides-eqb a.client b.client) (Decides-eqb a.number b.number)) (bytes_decides a.op b.op)
    (λ p i. record { client = p.0.0 i; number = p.0.1 i; op = p.1 i })
    (λ e. ((ap (λ (c : OneCall _). c.client) e, ap (λ (c : OneCall _). c.number) e), ap (λ (c : OneCall _). c.op) e))

calls_decide : {A : Type 0} → (cs ds : List (OneCall A)) → Decides (same_calls cs ds) (cs ≡ ds)
calls_decide cs ds = pointwise_decides call_decides cs ds

last_decides : (a b : Option RingId) → Decides (same_last a b) (a ≡ b)
last_decides None None = (λ h. refl, λ e. refl)
last_decides None (Some s) = apart (λ e. cc)
last_decides (Some r) None = apart (λ e. cc)
last_decides (Some r) (Some s) = through Some (same_ring r s) r s (ring_decides r s) (λ e. cc)

head_decides : (a b : OneHead) → Decides (same_head a b) (a ≡ b)
head_decides a b =
    both (same_last a.last b.last) ((a.length == b.length) && ((a.committed == b.committed) && (a.trimmed == b.trimmed))) (last_decides a.last b.last)
    (Decides-and (a.length == b.length) ((a.committed == b.committed) && (a.trimmed == b.trimmed)) (Decides-eqb a.length b.length)
    (Decides-and (a.committed == b.committed) (a.trimmed == b.trimmed) (Decides-eqb a.committed b.committed) (Decides-eqb a.trimmed b.trimmed)))
    (λ p i. record { last = p.0 i; length = p.1.0 i; committed = p.1.1.0 i; trimmed = p.1.1.1 i })
    (λ e. (ap (λ (h : OneHead). h.last) e, (ap (λ (h : OneHead). h.length) e, (ap (λ (h : OneHead). h.committed) e, ap (λ (h : OneHead). h.trimmed) e))))

part_decides : {A : Type 0} → (a b : OnePart A) → Decides (same_part a b) (a ≡ b)
part_decides a b =
    both (a.first == b.first) (same_calls a.calls b.calls) (Decides-eqb a.first b.first) (calls_decide a.calls b.calls)
    (λ p i. record { first = p.0 i; calls = p.1 i }) (λ e. (ap (λ (h : OnePart _). h.first) e, ap (λ (h : OnePart _). h.calls) e))

pack_decides : {A : Type 0} → (a b : OnePack A) → Decides (same_calls a.calls b.calls) (a ≡ b)
pack_decides a b = Decides-like (same_calls a.calls b.calls) (λ p i. record { calls = p i })
    (λ e. ap (λ (h : OnePack _). h.calls) e) (calls_decide a.calls b.calls)

snap_decides : {A : Type 0} → (a b : OneSnap A) → Decides (same_snap a b) (a ≡ b)
snap_decides a b =
    both (a.at == b.at) ((a.total == b.total) && ((a.offset == b.offset) && bytes_eq a.bytes b.bytes)) (Decides-eqb a.at b.at)
    (Decides-and (a.total == b.total) ((a.offset == b.offset) && bytes_eq a.bytes b.bytes) (Decides-eqb a.total b.total)
    (Decides-and (a.offset == b.offset) (bytes_eq a.bytes b.bytes) (Decides-eqb a.offset b.offset) (bytes_decides a.bytes b.bytes)))
    (λ p i. record { at = p.0 i; total = p.1.0 i; offset = p.1.1.0 i; bytes = p.1.1.1 i })
    (λ e. (ap (λ (h : OneSnap _). h.at) e, (ap (λ (h : OneSnap _). h.total) e, (ap (λ (h : OneSnap _). h.offset) e, ap (λ (h : OneSnap _). h.bytes) e))))

content_decides : {A : Type 0} → (a b : WrappedPayload A) → Decides (same_content a b) (a ≡ b)
content_decides (CallContent a) (CallContent b) = through CallContent (is_same b a) a b (call_decides a b) (λ e. cc)
content_decides (HeadContent a) (HeadContent b) = through HeadContent (same_head a b) a b (head_decides a b) (λ e. cc)
content_decides (PartContent a) (PartContent b) = through PartContent (same_part a b) a b (part_decides a b) (λ e. cc)
content_decides (PackContent a) (PackContent b) = through PackContent (same_calls a.calls b.calls) a b (pack_decides a b) (λ e. cc)
content_decides (SnapContent a) (SnapContent b) = through SnapContent (same_snap a b) a b (snap_decides a b) (λ e. cc)
content_decides _ _ = apart (λ e. cc)

wrapped_decides : {A : Type 0} → (a b : WrappedMessage A) → Decides (same_wrapped a b) (a ≡ b)
wrapped_decides a b =
    both (same_ring a.ring b.ring) ((a.number == b.number) && ((a.sender == b.sender) && same_content a.payload b.payload)) (ring_decides a.ring b.ring)
    (Decides-and (a.number == b.number) ((a.sender == b.sender) && same_content a.payload b.payload) (Decides-eqb a.number b.number)
    (Decides-and (a.sender == b.sender) (same_content a.payload b.payload) (Decides-eqb a.sender b.sender) (content_decides a.payload b.payload)))
    (λ p i. record { ring = p.0 i; number = p.1.0 i; sender = p.1.1.0 i; payload = p.1.1.1 i })
    (λ e. (
      ap (λ (h : WrappedMessage _). h.ring) e,
      (
        ap (λ (h : WrappedMessage _). h.number) e,
        (ap (λ (h : WrappedMessage _). h.sender) e, ap (λ (h : WrappedMessage _). h.payload) e),
      ),
    ))

payload_decides : {A : Type 0} → (a b : Payload A) → Decides (same_payload a b) (a ≡ b)
payload_decides (Call a) (Call b) = through Call (is_same b a) a b (call_decides a b) (λ e. cc)
payload_decides (Wrapped a) (Wrapped b) = through Wrapped (same_wrapped a b) a b (wrapped_decides a b) (λ e. cc)
payload_decides End End = (λ h. refl, λ e. refl)
payload_decides (Head a) (Head b) = through Head (same_head a b) a b (head_decides a b) (λ e. cc)
payload_decides (Part a) (Part b) = through Part (same_part a b) a b (part_decides a b) (λ e. cc)
payload_decides (Pack a) (Pack b) = through Pack (same_calls a.calls b.calls) a b (pack_decides a b) (λ e. cc)
payload_decides (Snap a) (Snap b) = through Snap (same_snap a b) a b (snap_decides a b) (λ e. cc)
payload_decides _ _ = apart (λ e. cc)

pub message_decides : {A : Type 0} → (a b : Message A) → Decides (same_message a b) (a ≡ b)
message_decides a b =
    both (same_ring a.ring b.ring) ((a.number == b.number) && ((a.sender == b.sender) && same_payload a.payload b.payload)) (ring_decides a.ring b.ring)
    (Decides-and (a.number == b.number) ((a.sender == b.sender) && same_payload a.payload b.payload) (Decides-eqb a.number b.number)
    (Decides-and (a.sender == b.sender) (same_payload a.payload b.payload) (Decides-eqb a.sender b.sender) (payload_decides a.payload b.payload)))
    (λ p i. record { ring = p.0 i; number = p.1.0 i; sender = p.1.1.0 i; payload = p.1.1.1 i })
    (λ e. (ap (λ (h : Message _). h.ring) e, (ap (λ (h : Message _). h.number) e, (ap (λ (h : Message _). h.sender) e, ap (λ (h : Message _). h.payload) e))))

pub messages_decide : {A : Type 0} → (xs ys : List (Message A)) → Decides (same_messages xs ys) (xs ≡ ys)
messages_decide xs ys = pointwise_decides message_decides xs ys

pub change_decides : {A : Type 0} → (a b : Change A) → Decides (same_change a b) (a ≡ b)
change_decides a b =
    both (same_configuration a.old b.old)
    (same_messages a.regular b.regular && ((a.transitional_members == b.transitional_members)
    && (same_messages a.rest b.rest && same_configuration a.new b.new))) (configuration_decides a.old b.old)
    (Decides-and (same_messages a.regular b.regular)
    ((a.transitional_members == b.transitional_members) && (same_messages a.rest b.rest && same_configuration a.new b.new))
    (messages_decide a.regular b.regular)
    (Decides-and (a.transitional_members == b.transitional_members) (same_messages a.rest b.rest && same_configuration a.new b.new) (Decides-eqb a.transitional_members b.transitional_members)
    (Decides-and (same_messages a.rest b.rest) (same_configuration a.new b.new) (messages_decide a.rest b.rest) (configuration_decides a.new b.new))))
    (λ p i. record { old = p.0 i; regular = p.1.0 i; transitional_members = p.1.1.0 i; rest = p.1.1.1.0 i; new = p.1.1.1.1 i })
    (λ e. (
      ap (λ (h : Change _). h.old) e,
      (
        ap (λ (h : Change _). h.regular) e,
        (ap (λ (h : Change _). h.transitional_members) e, (ap (λ (h : Change _). h.rest) e, ap (λ (h : Change _). h.new) e)),
      ),
    ))
