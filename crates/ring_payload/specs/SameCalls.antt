-- Equality of calls, as a test.
use Rattle.std.proofs.Common.{◌≡◌, ℕ, ◌==◌, ◌&&◌, Bool, true, List, refl, ap, ◌∙◌}
use Rattle.std.specs.Str.{bytes_eq}
use Rattle.std.proofs.lemmas.Bool.{eqb-true, eq-eqb, and_parts, and_from}
use Rattle.std.proofs.lemmas.Slice.Eq.{bytes_eq-Decides}
use Rattle.ring_payload.specs.declared.call.Call.{Call}

-- whether the two calls are equal: in client, number and operation
abbrev pub is_same : {A : Type 0} → Call A → Call A → Bool
is_same c d = (d.client == c.client) && (d.number == c.number) && bytes_eq d.op c.op

-- calls for which the test is true are equal
pub is_same-true : {A : Type 0} (c d : Call A) → is_same c d ≡ true → d ≡ c
is_same-true {A} c d same =
    let parts = and_parts ((d.client == c.client) && (d.number == c.number)) (bytes_eq d.op c.op) same in
    let named = and_parts (d.client == c.client) (d.number == c.number) parts.0 in
    let client : d.client ≡ c.client = eqb-true d.client c.client named.0 in
    let number : d.number ≡ c.number = eqb-true d.number c.number named.1 in
    let op : d.op ≡ c.op = (bytes_eq-Decides d.op c.op).0 parts.1 in
    let of_client : ℕ → Call A = λ k. record { client = k; number = d.number; op = d.op } in
    let of_number : ℕ → Call A = λ k. record { client = c.client; number = k; op = d.op } in
    let of_op : List ℕ → Call A = λ o. record { client = c.client; number = c.number; op = o } in
    ap of_client client ∙ ap of_number number ∙ ap of_op op

-- the test is true of a call and itself
pub is_same-self : {A : Type 0} (c : Call A) → is_same c c ≡ true
is_same-self c =
    and_from ((c.client == c.client) && (c.number == c.number)) (bytes_eq c.op c.op)
    (and_from (c.client == c.client) (c.number == c.number) (eq-eqb c.client c.client refl) (eq-eqb c.number c.number refl))
    ((bytes_eq-Decides c.op c.op).1 refl)
