-- The messages that a core sends, repeats and takes keep the limits: each carries a queued payload, or wraps a held
-- message of an older ring.
use Rattle.std.proofs.Common.{◌≡◌, ℕ, suc, ◌+◌, ◌<◌, ◌≤◌, ◌⊎◌, inl, inr, true, ◌&&◌, List, [], ◌∷◌, length, ap, sym, subst, arith}
use Rattle.std.specs.List.{AllByRecursion as Each}
use Rattle.std.proofs.lemmas.Bool.{cond_both, false≢true}
use Rattle.ring_base.specs.Numbers.{max_number}
use Rattle.ring_base.specs.Processors.{IsProc}
use Rattle.ring_base.specs.Rings.{same_ring}
use Rattle.ring_base.specs.declared.ring_id.RingId.{RingId}
use Rattle.ring_base.specs.declared.state.State.{State}
use Rattle.ring_base.specs.declared.state.State.TheVariants.{Gather, Commit, Recovery, Operational, Stopped}
use Rattle.ring_base.proofs.Each.{each-weaker, each-append}
use Rattle.ring_wire.specs.Rings.{RingFits}
use Rattle.ring_payload.specs.Contents.{ContentFits, WrappedFits}
use Rattle.ring_payload.specs.PayloadKinds.{is_user, payload_of}
use Rattle.ring_payload.specs.Payloads.{PayloadFits}
use Rattle.ring_payload.specs.declared.content.WrappedPayload.{WrappedPayload}
use Rattle.ring_payload.specs.declared.content.WrappedPayload.TheVariants.{Call as CallContent, Head as HeadContent}
use Rattle.ring_payload.specs.declared.content.WrappedPayload.TheVariants.{Part as PartContent, Pack as PackContent}
use Rattle.ring_payload.specs.declared.content.WrappedPayload.TheVariants.{Snap as SnapContent}
use Rattle.ring_payload.specs.declared.content.Payload.{Payload}
use Rattle.ring_payload.specs.declared.content.Payload.TheVariants.{Call, Wrapped, End, Head, Part, Pack, Snap}
use Rattle.ring_payload.specs.declared.content.Wrapped.{Wrapped as WrappedMessage}
use Rattle.ring_wire.specs.declared.message.Message.{Message}
use Rattle.ring_wire.specs.Messages.{IsOlder, MessageFits}
use Rattle.ring_core_spec.specs.Windows.{is_new}
use Rattle.ring_core_spec.specs.Tokens.{numbered}
use Rattle.ring_core_spec.specs.Recoveries.{inner_messages, inner_message}
use Rattle.ring_core_spec.specs.State.{Core}
use Rattle.ring_core_spec.specs.Views.{mark}
use Rattle.ring_core_spec.specs.Transitions.{old_ring_messages}
use Rattle.ring_core_proof.specs.Moves.{AllAreUsers, IsWrapping, MayEnd, AreWraps}
use Rattle.ring_core_proof.proofs.InLists.{in-each}
use Rattle.ring_core_proof.proofs.WrapsAndEnd.{found_in}

-- a payload keeps the limits, and is of an older ring where it wraps a message
pub record MayCarry {A : Type 0} (ring : RingId) (p : Payload A) : Type 0 where
  pub fits : PayloadFits p
  pub older : IsOlder p ring

-- Contents

user_older : {A : Type 0} → (p : Payload A) (ring : RingId) → is_user p ≡ true → IsOlder p ring
user_older (Call call) ring u = tt
user_older (Head head) ring u = tt
user_older (Part part) ring u = tt
user_older (Pack pack) ring u = tt
user_older (Snap snap) ring u = tt
user_older (Wrapped w) ring u = absurd (false≢true u)
user_older End ring u = tt

payload_fits : {A : Type 0} → (content : WrappedPayload A) → ContentFits content → PayloadFits (payload_of content)
payload_fits (CallContent call) f = f
payload_fits (HeadContent head) f = f
payload_fits (PartContent part) f = f
payload_fits (PackContent pack) f = f
payload_fits (SnapContent snap) f = f

content_fits : {A : Type 0} → (content : WrappedPayload A) → PayloadFits (payload_of content) → ContentFits content
content_fits (CallContent call) f = f
content_fits (HeadContent head) f = f
content_fits (PartContent part) f = f
content_fits (PackContent pack) f = f
content_fits (SnapContent snap) f = f

content_older : {A : Type 0} → (content : WrappedPayload A) (ring : RingId) → IsOlder (payload_of content) ring
content_older (CallContent call) ring = tt
content_older (HeadContent head) ring = tt
content_older (PartContent part) ring = tt
content_older (PackContent pack) ring = tt
content_older (SnapContent snap) ring = tt

-- New messages

pub numbered_fit : {A : Type 0} → (ring : RingId) (me seq : ℕ) (ps : List (Payload A)) → RingFits ring → 1 ≤ ring.seq → IsProc me →
    seq + length ps ≤ max_number → Each (MayCarry ring) ps → Each MessageFits (numbered ring me seq ps)
numbered_fit ring me seq [] r c p l h = tt
numbered_fit ring me seq (q ∷ ps) r c p l h = (
  record { ring = r; ring_counted = c; number_counted = omega arith; number = omega arith; sender = p; payload = h.0.fits; older = h.0.older },
  numbered_fit ring me (suc seq) ps r c p (omega arith) h.1,
)

-- in Operational user payloads
pub users_carry : {A : Type 0} → (ring : RingId) (ps : List (Payload A)) → Each PayloadFits ps → AllAreUsers ps → Each (MayCarry ring) ps
users_carry ring [] f u = tt
users_carry ring (p ∷ ps) f u = (record { fits = f.0; older = user_older p ring u.0 }, users_carry ring ps f.1 u.1)

-- in Recovery Wrapped of messages held of the installed ring, and an End
wrap_carries : {A : Type 0} → (c : Core A) (ring : RingId) (p : Payload A) → Each MessageFits c.held → c.installed.ring.seq < ring.seq → IsWrapping c p →
    MayCarry ring p
wrap_carries {A} c ring p held l (w, e, h) =
    let x : Message A = inner_message w in
    let f : MessageFits x = in-each MessageFits x c.held held (found_in c.held w.ring w.number x h.held).0 in
    let old : w.ring.seq ≡ c.installed.ring.seq = ap (λ (r : RingId). r.seq) h.ring in
    let content = content_fits w.payload f.payload in
    let fits : WrappedFits w =
    record { ring = f.ring; ring_counted = f.ring_counted; number_counted = f.number_counted; number = f.number; sender = f.sender; payload = content } in
    subst (MayCarry ring) (sym e) (record { fits = fits; older = omega arith })

ends_carry : {A : Type 0} → (c : Core A) (ring : RingId) (wraps ends : List (Payload A)) → (ends ≡ []) ⊎ MayEnd c wraps ends → Each (MayCarry ring) ends
ends_carry c ring wraps ends (inl e) = subst (Each (MayCarry ring)) (sym e) tt
ends_carry c ring wraps ends (inr e) = subst (Each (MayCarry ring)) (sym e.one) (record { fits = tt; older = tt }, tt)

pub wraps_carry : {A : Type 0} → (c : Core A) (ring : RingId) (ps : List (Payload A)) → Each MessageFits c.held → c.installed.ring.seq < ring.seq →
    AreWraps c ps → Each (MayCarry ring) ps
wraps_carry c ring ps held l ws =
    subst (Each (MayCarry ring)) (sym ws.parts)
    (each-append (MayCarry ring) ws.wraps ws.ends
    (each-weaker (IsWrapping c) (MayCarry ring) (λ p w. wrap_carries c ring p held l w) ws.wraps ws.handed) (ends_carry c ring ws.wraps ws.ends ws.ended))

-- Inner messages

inner_fits : {A : Type 0} → (w : WrappedMessage A) → WrappedFits w → MessageFits (inner_message w)
inner_fits w f =
    record {
      ring = f.ring;
      ring_counted = f.ring_counted;
      number_counted = f.number_counted;
      number = f.number;
      sender = f.sender;
      payload = payload_fits w.payload f.payload;
      older = content_older w.payload w.ring;
    }

unwrapped_fit : {A : Type 0} → (old : RingId) (m : ℕ) (held : List (Message A)) (p : Payload A) → PayloadFits p → Each MessageFits (inner_messages old m held p)
unwrapped_fit old m held (Wrapped w) f =
    cond_both (same_ring w.ring old && is_new held m old w.number) (inner_message w ∷ []) [] (Each MessageFits)
    (λ t. (inner_fits w f, tt)) (λ t. tt)
unwrapped_fit old m held (Call call) f = tt
unwrapped_fit old m held End f = tt
unwrapped_fit old m held (Head head) f = tt
unwrapped_fit old m held (Part part) f = tt
unwrapped_fit old m held (Pack pack) f = tt
unwrapped_fit old m held (Snap snap) f = tt

pub gives_fit : {A : Type 0} → (s : State) (c : Core A) (x : Message A) → PayloadFits x.payload → Each MessageFits (old_ring_messages s c x)
gives_fit Recovery c x f = unwrapped_fit c.installed.ring (mark c c.installed.ring) c.held x.payload f
gives_fit Gather c x f = tt
gives_fit Commit c x f = tt
gives_fit Operational c x f = tt
gives_fit Stopped c x f = tt
