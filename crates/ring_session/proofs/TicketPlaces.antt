-- The places of tickets as one more call is done.
use Rattle.std.proofs.Common.{◌≡◌, ℕ, suc, ◌+◌, ◌&&◌, nat_le, ◌<◌, ◌≤◌, Bool, true, false, List, []}
use Rattle.std.proofs.Common.{◌∷◌, ◌++◌, length, Option, Some, None, refl, ap, ◌∙◌}
use Rattle.std.proofs.Common.{arith, if◌then◌else◌}
use Rattle.std.specs.Option.{option_or}
use Rattle.std.proofs.lemmas.Bool.{le-leb}
use Rattle.ring_payload.specs.declared.call.Call.{Call}
use Rattle.ring_session.specs.SessionAnswer.{is_same}
use Rattle.ring_session.specs.Tickets.{TicketCall, first_place, answering_place}

-- ---- places

below-step : {A : Type 0} (c : Call A) (since at : ℕ) (ds : List (Call A)) (p : ℕ) (b : Bool)
    → ((q : ℕ) → first_place c since (at + 1) ds ≡ Some q → q < at + 1 + length ds)
    → (if b then Some at else first_place c since (at + 1) ds) ≡ Some p → p < at + suc (length ds)
below-step c since at ds p true later e = let here : at ≡ p = cc e in omega (arith, here)
below-step c since at ds p false later e = omega (arith, later p e)

-- A place is within the calls.
pub first_place-below : {A : Type 0} (c : Call A) (since at : ℕ) (ds : List (Call A)) (p : ℕ) → first_place c since at ds ≡ Some p → p < at + length ds
first_place-below c since at [] p e = absurd (cc e)
first_place-below c since at (d ∷ ds) p e = below-step c since at ds p (nat_le since at && is_same c d) (λ q h. first_place-below c since (at + 1) ds q h) e

-- The place of a call that had none, after one more call is done.
abbrev pub last_place : {A : Type 0} → Call A → ℕ → ℕ → Call A → Option ℕ
last_place c since at d = if nat_le since at && is_same c d then Some at else None

push-step : {A : Type 0} (c : Call A) (since at : ℕ) (xs : List (Call A)) (d : Call A) (b : Bool) (last : Option ℕ)
    → first_place c since (at + 1) (xs ++ d ∷ []) ≡ option_or (first_place c since (at + 1) xs) last
    → (if b then Some at else first_place c since (at + 1) (xs ++ d ∷ [])) ≡ option_or (if b then Some at else first_place c since (at + 1) xs) last
push-step c since at xs d true last e = refl
push-step c since at xs d false last e = e

pub first_place-push : {A : Type 0} (c : Call A) (since at : ℕ) (xs : List (Call A)) (d : Call A)
    → first_place c since at (xs ++ d ∷ []) ≡ option_or (first_place c since at xs) (last_place c since (at + length xs) d)
first_place-push c since at [] d = let e : at ≡ at + 0 = omega arith in ap (λ k. last_place c since k d) e
first_place-push c since at (x ∷ xs) d =
    push-step c since at xs d (nat_le since at && is_same c x) (last_place c since (at + suc (length xs)) d)
    (let e : at + 1 + length xs ≡ at + suc (length xs) = omega arith in first_place-push c since (at + 1) xs d
    ∙ ap (λ k. option_or (first_place c since (at + 1) xs) (last_place c since k d)) e)

-- One more call answers a pending ticket exactly if it is the ticket's call.
abbrev pub place_now : {A : Type 0} → List (Call A) → TicketCall A → Call A → Option ℕ
place_now committed t c = if is_same t.call c then Some (length committed) else None

pub place-push : {A : Type 0} (committed : List (Call A)) (t : TicketCall A) (c : Call A) → t.since ≤ length committed
    → answering_place (committed ++ c ∷ []) t ≡ option_or (answering_place committed t) (place_now committed t c)
place-push committed t c early =
    let all : 0 + length committed ≡ length committed = omega arith in
    first_place-push t.call t.since 0 committed c
    ∙ ap (λ k. option_or (answering_place committed t) (last_place t.call t.since k c)) all
    ∙ ap (λ b. option_or (answering_place committed t) (if b && is_same t.call c then Some (length committed) else None)) (le-leb t.since (length committed) early)
