-- A property of an answer that was found holds of what the port returns of it.
use Rattle.std.proofs.Common.{◌≡◌, ◌&&◌, Bool, true, false, Option, Some, None, IfSome, nat_le, if◌then◌else◌, subst, sym}
use Rattle.ring_session.specs.declared.answer.Answer.{Answer}
use Rattle.ring_session.specs.declared.answer.Answer.TheVariants.{Done, Kept, Refused}
use Rattle.ring_host_port.specs.VisibleAnswer.{if_visible_to_client}

holds_if : (P : Answer → Type 0) (is_told : Bool) (answer : Answer) → P answer → IfSome (if is_told then Some answer else None) P
holds_if P true answer h = h
holds_if P false answer h = _

holds_of : (P : Answer → Type 0) (found : Option Answer) → IfSome found P → IfSome (if_visible_to_client found) P
holds_of P None h = _
holds_of P (Some (Done reply)) h = h
holds_of P (Some (Kept reply)) h = h
holds_of P (Some (Refused number)) h = holds_if P (nat_le 4 number && nat_le number 7) (Refused number) h

pub holds_of_told : (P : Answer → Type 0) (found told : Option Answer) → told ≡ if_visible_to_client found → IfSome found P → IfSome told P
holds_of_told P found told e h = subst (λ answer. IfSome answer P) (sym e) (holds_of P found h)
