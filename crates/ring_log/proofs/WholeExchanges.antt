-- A complete exchange doesn't change any more, so a member's exchange hands out the base at one message: the one that completes
-- it.
use Rattle.std.proofs.Common.{◌≡◌, ℕ, ◌+◌, ◌-◌, ◌≤◌, nat_le, ◌==◌, ◌&&◌, Bool, true, false, List, [], ◌∷◌, ◌++◌, length}
use Rattle.std.specs.Prelude.{◌||◌, nat_lt, take}
use Rattle.std.proofs.Common.{Option, Some, None, refl, ap, sym, ◌∙◌, subst, arith, add-zero, if◌then◌else◌}
use Rattle.std.proofs.lemmas.Bool.{and_parts, cond_both, cond-true, cond-false, eqb-true, leb-true, ltb-true, ne_eqb}
use Rattle.std.proofs.lemmas.List.{append-nil}
use Rattle.std.proofs.lemmas.Nat.Bits.{bit_at-zero}
use Rattle.ring_base.specs.Processors.{IsMember, has, nobody}
use Rattle.ring_base.specs.Members.{nobody_member}
use Rattle.ring_base.specs.Group.{Group, is_primary}
use Rattle.ring_wire.specs.Payloads.{Call as OneCall, Part as OnePart, Head as OneHead, Snap as OneSnap, Payload}
use Rattle.ring_wire.specs.PayloadVariants.{Call, Wrapped, End, Head, Part, Pack, Snap}
use Rattle.ring_wire.specs.declared.message.Message.{Message}
use Rattle.ring_log.specs.declared.base.Base.{Base}
use Rattle.ring_log.specs.declared.wanted.Wanted.{Wanted}
use Rattle.ring_log.specs.Exchanges.{Exchange, exchange_opening, wanted_from_heads, wanted, hear_head, has_wanted_snapshot, is_piece_of, is_next_piece, hear_snap, is_next}
use Rattle.ring_log.specs.Exchanges.{is_wanted, hear_part, heard, has_all_wanted, is_exchange_complete, snapshot_by, base_from, handed_out, base_at, exchange_drained}
use Rattle.ring_log.specs.EpochHistories.{CompleteExchange, exchange_after_message, complete_exchange_from, exchange_after_messages, drained_exchange_after, complete_exchange, base_ending, places_below, base_on, own_base}
use Rattle.ring_log.proofs.Calls.{never}

-- ---- a complete exchange

received_head-by : (b : Bool) (o : Option Wanted) (received_bytes total places : ℕ) → has_all_wanted (if b then o else None) received_bytes total places ≡ true → b ≡ true
received_head-by true o received_bytes total places whole = refl
received_head-by false o received_bytes total places whole = absurd (cc whole)

-- every member's Head was received
pub received_head : {A : Type 0} (e : Exchange A) → is_exchange_complete e ≡ true → e.missing_heads ≡ nobody
received_head e whole = eqb-true e.missing_heads nobody (received_head-by (e.missing_heads == nobody) (wanted_from_heads e.heads) e.received_bytes e.total e.places whole)

-- while a member's Head is missing nothing is wanted
pub wants_nothing : {A : Type 0} (e : Exchange A) (p : ℕ) → IsMember e.missing_heads p → wanted e ≡ None
wants_nothing e p m = cond_both (e.missing_heads == nobody) (wanted_from_heads e.heads) None (λ (o : Option Wanted). o ≡ None)
    (λ t. absurd (nobody_member p (subst (λ u. IsMember u p) (eqb-true e.missing_heads nobody t) m)))
    (λ f. refl)

pub has-nobody : (i : ℕ) → has nobody i ≡ false
has-nobody i = ap (λ k. k == 1) (bit_at-zero (i - 1))

whole-head : {A : Type 0} (e : Exchange A) (sender : ℕ) (head : OneHead) → is_exchange_complete e ≡ true → hear_head e sender head ≡ e
whole-head e sender head whole =
    cond-false (has e.missing_heads sender) _ e (ap (λ set. has set sender) (received_head e whole) ∙ has-nobody sender)

-- after the last piece no other piece is next

told-total : (b c : Bool) → b || c ≡ true → b ≡ false → c ≡ true
told-total true c some not = absurd (cc not)
told-total false c some not = some

last-piece : {A : Type 0} (o : Option ℕ) (received_bytes total : ℕ) (snap : OneSnap A) → has_wanted_snapshot o received_bytes total ≡ true → is_piece_of o received_bytes total snap ≡ true → ⊥
last-piece None received_bytes total snap all next = cc next
last-piece (Some at) received_bytes total snap all next =
    let whole = and_parts (nat_le 1 total) (received_bytes == total) all in
    let some : 1 ≤ total = leb-true 1 total whole.0 in
    let end : received_bytes ≡ total = eqb-true received_bytes total whole.1 in
    let parts = and_parts ((snap.at == at) && (snap.offset == received_bytes) && ((total == 0) || (snap.total == total))) (nat_lt received_bytes snap.total) next in
    let told = (and_parts ((snap.at == at) && (snap.offset == received_bytes)) ((total == 0) || (snap.total == total)) parts.0).1 in
    let same : snap.total ≡ total = eqb-true snap.total total
    (told-total (total == 0) (snap.total == total) told (ne_eqb total 0 (λ none. omega (arith, some, none)))) in
    omega (arith, end, same, ltb-true received_bytes snap.total parts.1)

no-piece : {A : Type 0} (o : Option Wanted) (received_bytes total places sender : ℕ) (snap : OneSnap A) → has_all_wanted o received_bytes total places ≡ true
    → is_next_piece o received_bytes total sender snap ≡ false
no-piece None received_bytes total places sender snap whole = refl
no-piece (Some w) received_bytes total places sender snap whole =
    never (is_next_piece (Some w) received_bytes total sender snap) (λ next.
    last-piece w.snapshot received_bytes total snap (and_parts (has_wanted_snapshot w.snapshot received_bytes total) (nat_le w.to (w.from + places)) whole).0
    (and_parts (sender == w.owner) (is_piece_of w.snapshot received_bytes total snap) next).1)

whole-snap : {A : Type 0} (e : Exchange A) (sender : ℕ) (snap : OneSnap A) → is_exchange_complete e ≡ true → hear_snap e sender snap ≡ e
whole-snap e sender snap whole =
    cond-false (is_next_piece (wanted e) e.received_bytes e.total sender snap) _ e (no-piece (wanted e) e.received_bytes e.total e.places sender snap whole)

empty : {X : Type 0} (xs : List X) → length xs ≡ 0 → xs ≡ []
empty [] e = refl
empty (x ∷ xs) e = absurd (omega arith)

-- a Part that is still wanted has no places
part-empty : {A : Type 0} (o : Option Wanted) (received_bytes total places sender : ℕ) (part : OnePart A) → has_all_wanted o received_bytes total places ≡ true
    → is_wanted o received_bytes total places sender part ≡ true → length part.calls ≡ 0
part-empty None received_bytes total places sender part whole next = absurd (cc next)
part-empty (Some w) received_bytes total places sender part whole next =
    let parts = and_parts ((sender == w.owner) && (part.first == w.from + places)) (nat_le (part.first + length part.calls) w.to)
    (and_parts (has_wanted_snapshot w.snapshot received_bytes total) (is_next w places sender part) next).1 in
    let first : part.first ≡ w.from + places = eqb-true part.first (w.from + places) (and_parts (sender == w.owner) (part.first == w.from + places) parts.0).1
    in
    let within : part.first + length part.calls ≤ w.to = leb-true (part.first + length part.calls) w.to parts.1 in
    let end : w.to ≤ w.from + places = leb-true w.to (w.from + places)
    (and_parts (has_wanted_snapshot w.snapshot received_bytes total) (nat_le w.to (w.from + places)) whole).1 in
    omega arith

part-nothing : {A : Type 0} (b : Bool) (e : Exchange A) (calls : List (OneCall A)) → (b ≡ true → calls ≡ [])
    → (if b then record e { places = e.places + length calls; received_calls = e.received_calls ++ calls } else e) ≡ e
part-nothing {A} true e calls nothing =
    let brings : List (OneCall A) → Exchange A = λ cs. record e { places = e.places + length cs; received_calls = e.received_calls ++ cs } in
    let counts : ℕ → Exchange A = λ n. record e { places = n; received_calls = e.received_calls ++ [] } in
    let joins : List (OneCall A) → Exchange A = λ cs. record e { received_calls = cs } in
    ap brings (nothing refl) ∙ ap counts (add-zero e.places) ∙ ap joins (append-nil e.received_calls)
part-nothing false e calls nothing = refl

whole-part : {A : Type 0} (e : Exchange A) (sender : ℕ) (part : OnePart A) → is_exchange_complete e ≡ true → hear_part e sender part ≡ e
whole-part e sender part whole =
    part-nothing (is_wanted (wanted e) e.received_bytes e.total e.places sender part) e part.calls
    (λ next. empty part.calls (part-empty (wanted e) e.received_bytes e.total e.places sender part whole next))

-- no further payload changes it
pub whole-heard : {A : Type 0} (e : Exchange A) (sender : ℕ) (payload : Payload A) → is_exchange_complete e ≡ true → heard e sender payload ≡ e
whole-heard e sender (Head head) whole = whole-head e sender head whole
whole-heard e sender (Part part) whole = whole-part e sender part whole
whole-heard e sender (Call call) whole = refl
whole-heard e sender (Wrapped old) whole = refl
whole-heard e sender End whole = refl
whole-heard e sender (Pack pack) whole = refl
whole-heard e sender (Snap snap) whole = whole-snap e sender snap whole

whole-after : {A : Type 0} (e : Exchange A) (xs : List (Message A)) → is_exchange_complete e ≡ true → exchange_after_messages e xs ≡ e
whole-after e [] whole = refl
whole-after e (x ∷ xs) whole = ap (λ r. exchange_after_messages r xs) (whole-heard e x.sender x.payload whole) ∙ whole-after e xs whole

-- ---- the exchange as a member keeps it

abbrev emptied : {A : Type 0} → Exchange A → Exchange A
emptied e = record e { bytes = []; received_calls = [] }

whole-by : {A : Type 0} (b : Bool) (e : Exchange A) → is_exchange_complete (if b then emptied e else e) ≡ is_exchange_complete e
whole-by true e = refl
whole-by false e = refl

whole-exchange_drained : {A : Type 0} (e : Exchange A) → is_exchange_complete (exchange_drained e) ≡ is_exchange_complete e
whole-exchange_drained e = whole-by (is_exchange_complete e) e

exchange_drained-whole : {A : Type 0} (e : Exchange A) → is_exchange_complete e ≡ true → exchange_drained e ≡ emptied e
exchange_drained-whole e whole = cond-true (is_exchange_complete e) (emptied e) e whole

pub exchange_drained-open : {A : Type 0} (e : Exchange A) → is_exchange_complete e ≡ false → exchange_drained e ≡ e
exchange_drained-open e whole = cond-false (is_exchange_complete e) (emptied e) e whole

exchange_drained-by : {A : Type 0} (b : Bool) (e : Exchange A) (x : Message A) → is_exchange_complete e ≡ b
    → exchange_drained (exchange_after_message (if b then emptied e else e) x) ≡ exchange_drained (exchange_after_message e x)
exchange_drained-by true e x whole =
    ap exchange_drained (whole-heard (emptied e) x.sender x.payload whole) ∙ exchange_drained-whole (emptied e) whole
    ∙ sym (exchange_drained-whole e whole) ∙ ap exchange_drained (sym (whole-heard e x.sender x.payload whole))
exchange_drained-by false e x whole = refl

drained_exchange_after-exchange_drained : {A : Type 0} (e : Exchange A) (xs : List (Message A)) → drained_exchange_after (exchange_drained e) xs ≡ exchange_drained (exchange_after_messages e xs)
drained_exchange_after-exchange_drained e [] = refl
drained_exchange_after-exchange_drained e (x ∷ xs) = ap (λ r. drained_exchange_after r xs) (exchange_drained-by (is_exchange_complete e) e x refl) ∙ drained_exchange_after-exchange_drained (exchange_after_message e x) xs

exchange_drained-nothing : {A : Type 0} (b : Bool) (members : ℕ) → (if b then emptied (exchange_opening {A = A} members) else exchange_opening members) ≡ exchange_opening members
exchange_drained-nothing true members = refl
exchange_drained-nothing false members = refl

-- the exchange after all messages, without the bytes and calls that it handed out
pub drained_exchange_after-after : {A : Type 0} (members : ℕ) (xs : List (Message A)) → drained_exchange_after (exchange_opening members) xs ≡ exchange_drained (exchange_after_messages (exchange_opening members) xs)
drained_exchange_after-after {A} members xs =
    ap (λ r. drained_exchange_after r xs) (sym (exchange_drained-nothing (is_exchange_complete (exchange_opening {A = A} members)) members)) ∙ drained_exchange_after-exchange_drained (exchange_opening members) xs

exchange_opening-by : (b : Bool) → has_all_wanted (if b then None else None) 0 0 0 ≡ false
exchange_opening-by true = refl
exchange_opening-by false = refl

pub exchange_opening-open : (A : Type 0) (members : ℕ) → is_exchange_complete (exchange_opening {A = A} members) ≡ false
exchange_opening-open A members = exchange_opening-by (members == nobody)

-- ---- one more message

none-step : {A : Type 0} (b : Bool) (first second : CompleteExchange A) (rest more goal : Option (CompleteExchange A)) → (if b then Some first else rest) ≡ None
    → (rest ≡ None → more ≡ goal)
    → (if b then Some second else more) ≡ goal
none-step true first second rest more goal none later = absurd (cc none)
none-step false first second rest more goal none later = later none

pub push-none : {A : Type 0} (e : Exchange A) (xs : List (Message A)) (x : Message A) → complete_exchange_from e xs ≡ None
    → complete_exchange_from e (xs ++ x ∷ []) ≡ complete_exchange_from (exchange_after_messages e xs) (x ∷ [])
push-none e [] x none = refl
push-none e (y ∷ ys) x none =
    none-step (is_exchange_complete (exchange_after_message e y)) (record { exchange = exchange_after_message e y; end = y.number; rest = ys })
    (record { exchange = exchange_after_message e y; end = y.number; rest = ys ++ x ∷ [] })
    (complete_exchange_from (exchange_after_message e y) ys) (complete_exchange_from (exchange_after_message e y) (ys ++ x ∷ [])) (complete_exchange_from (exchange_after_messages (exchange_after_message e y) ys) (x ∷ [])) none
    (push-none (exchange_after_message e y) ys x)

some-step : {A : Type 0} (b : Bool) (e : Exchange A) (n : ℕ) (ys : List (Message A)) (x : Message A) (rest more : Option (CompleteExchange A)) (w : CompleteExchange A)
    → (if b then Some (record { exchange = e; end = n; rest = ys }) else rest) ≡ Some w → (rest ≡ Some w → more ≡ Some (record w { rest = w.rest ++ x ∷ [] }))
    → (if b then Some (record { exchange = e; end = n; rest = ys ++ x ∷ [] }) else more) ≡ Some (record w { rest = w.rest ++ x ∷ [] })
some-step {A} true e n ys x rest more w some later =
    let first : CompleteExchange A = record { exchange = e; end = n; rest = ys } in
    let same : first ≡ w = cc some in
    ap (λ (v : CompleteExchange A). Some (record v { rest = v.rest ++ x ∷ [] })) same
some-step false e n ys x rest more w some later = later some

pub push-some : {A : Type 0} (e : Exchange A) (xs : List (Message A)) (x : Message A) (w : CompleteExchange A) → complete_exchange_from e xs ≡ Some w
    → complete_exchange_from e (xs ++ x ∷ []) ≡ Some (record w { rest = w.rest ++ x ∷ [] })
push-some e [] x w some = absurd (cc some)
push-some e (y ∷ ys) x w some =
    some-step (is_exchange_complete (exchange_after_message e y)) (exchange_after_message e y) y.number ys x (complete_exchange_from (exchange_after_message e y) ys) (complete_exchange_from (exchange_after_message e y) (ys ++ x ∷ [])) w some
    (push-some (exchange_after_message e y) ys x w)

open-step : {A : Type 0} (b : Bool) (first : CompleteExchange A) (rest : Option (CompleteExchange A)) (G : Type 0) → (if b then Some first else rest) ≡ None
    → (b ≡ false → rest ≡ None → G) → G
open-step true first rest G none later = absurd (cc none)
open-step false first rest G none later = later refl none

-- an exchange that has no end yet isn't complete
pub none-open : {A : Type 0} (e : Exchange A) (xs : List (Message A)) → is_exchange_complete e ≡ false → complete_exchange_from e xs ≡ None → is_exchange_complete (exchange_after_messages e xs) ≡ false
none-open e [] open_yet none = open_yet
none-open e (x ∷ xs) open_yet none =
    open-step (is_exchange_complete (exchange_after_message e x)) (record { exchange = exchange_after_message e x; end = x.number; rest = xs }) (complete_exchange_from (exchange_after_message e x) xs)
    (is_exchange_complete (exchange_after_messages (exchange_after_message e x) xs) ≡ false) none
    (none-open (exchange_after_message e x) xs)

whole-step : {A : Type 0} (b : Bool) (first w : CompleteExchange A) (rest : Option (CompleteExchange A)) (G : Type 0) → (if b then Some first else rest) ≡ Some w → (b ≡ true → G)
    → (rest ≡ Some w → G) → G
whole-step true first w rest G some now later = now refl
whole-step false first w rest G some now later = later some

pub some-whole : {A : Type 0} (e : Exchange A) (xs : List (Message A)) (w : CompleteExchange A) → complete_exchange_from e xs ≡ Some w → is_exchange_complete (exchange_after_messages e xs) ≡ true
some-whole e [] w some = absurd (cc some)
some-whole e (x ∷ xs) w some =
    whole-step (is_exchange_complete (exchange_after_message e x)) (record { exchange = exchange_after_message e x; end = x.number; rest = xs }) w (complete_exchange_from (exchange_after_message e x) xs)
    (is_exchange_complete (exchange_after_messages (exchange_after_message e x) xs) ≡ true) some
    (λ whole. ap is_exchange_complete (whole-after (exchange_after_message e x) xs whole) ∙ whole) (some-whole (exchange_after_message e x) xs w)

-- ---- the base that is handed out

handed-last : {A : Type 0} (b : Bool) (e : Exchange A) (n : ℕ) → is_exchange_complete e ≡ b
    → handed_out e ≡ base_ending None (if b then Some (record { exchange = e; end = n; rest = [] }) else None)
handed-last true e n whole = refl
handed-last false e n whole = cond-false (is_exchange_complete e) (base_from (wanted e) e.bytes e.received_calls) None whole

handed-at : {A : Type 0} (members : ℕ) (xs : List (Message A)) (x : Message A) (o : Option (CompleteExchange A)) → complete_exchange_from (exchange_opening members) xs ≡ o
    → base_at (exchange_drained (exchange_after_messages (exchange_opening members) xs)) x.sender x.payload ≡ base_ending o (complete_exchange_from (exchange_opening members) (xs ++ x ∷ []))
handed-at {A} members xs x None none =
    let e = exchange_after_messages (exchange_opening members) xs in
    let not_yet : is_exchange_complete e ≡ false = none-open (exchange_opening members) xs (exchange_opening-open A members) none in
    ap (λ (r : Exchange A). base_at r x.sender x.payload) (exchange_drained-open e not_yet)
    ∙ cond-false (is_exchange_complete e) None (handed_out (exchange_after_message e x)) not_yet
    ∙ handed-last (is_exchange_complete (exchange_after_message e x)) (exchange_after_message e x) x.number refl
    ∙ ap (base_ending None) (sym (push-none (exchange_opening members) xs x none))
handed-at members xs x (Some w) some =
    let e = exchange_after_messages (exchange_opening members) xs in
    cond-true (is_exchange_complete (exchange_drained e)) None (handed_out (exchange_after_message (exchange_drained e) x)) (whole-exchange_drained e ∙ some-whole (exchange_opening members) xs w some)

pub handed : {A : Type 0} (group : Group) (members : ℕ) (text : List (Message A)) (x : Message A) → is_primary group members ≡ true
    → base_at (drained_exchange_after (exchange_opening members) text) x.sender x.payload ≡ base_ending (complete_exchange group members text) (complete_exchange group members (text ++ x ∷ []))
handed {A} group members text x primary =
    let before : complete_exchange group members text ≡ complete_exchange_from (exchange_opening members) text = cond-true (is_primary group members) (complete_exchange_from (exchange_opening members) text)
    None primary in
    let after : complete_exchange group members (text ++ x ∷ []) ≡ complete_exchange_from (exchange_opening members) (text ++ x ∷ []) = cond-true (is_primary group members)
    (complete_exchange_from (exchange_opening members) (text ++ x ∷ [])) None primary in
    ap (λ (r : Exchange A). base_at r x.sender x.payload) (drained_exchange_after-after members text)
    ∙ handed-at members text x (complete_exchange group members text) (sym before)
    ∙ ap (base_ending (complete_exchange group members text)) (sym after)

-- ---- the end, and the messages after it

one-end : {A : Type 0} (b : Bool) (e : Exchange A) (n : ℕ) (w : CompleteExchange A) → (if b then Some (record { exchange = e; end = n; rest = [] }) else None) ≡ Some w
    → (w.end ≡ n) × (w.rest ≡ [])
one-end {A} true e n w some =
    let first : CompleteExchange A = record { exchange = e; end = n; rest = [] } in
    let same : first ≡ w = cc some in
    (sym (ap (λ (v : CompleteExchange A). v.end) same), sym (ap (λ (v : CompleteExchange A). v.rest) same))
one-end false e n w some = absurd (cc some)

ends-by : {A : Type 0} (b : Bool) (members : ℕ) (text : List (Message A)) (x : Message A) (w : CompleteExchange A)
    → (if b then complete_exchange_from (exchange_opening members) text else None) ≡ None
    → (if b then complete_exchange_from (exchange_opening members) (text ++ x ∷ []) else None) ≡ Some w → (w.end ≡ x.number) × (w.rest ≡ [])
ends-by true members text x w none some =
    let e = exchange_after_messages (exchange_opening members) text in
    one-end (is_exchange_complete (exchange_after_message e x)) (exchange_after_message e x) x.number w (sym (push-none (exchange_opening members) text x none) ∙ some)
ends-by false members text x w none some = absurd (cc some)

pub ends : {A : Type 0} (group : Group) (members : ℕ) (text : List (Message A)) (x : Message A) (w : CompleteExchange A)
    → complete_exchange group members text ≡ None → complete_exchange group members (text ++ x ∷ []) ≡ Some w → (w.end ≡ x.number) × (w.rest ≡ [])
ends group members text x w none some = ends-by (is_primary group members) members text x w none some

later-by : {A : Type 0} (b : Bool) (members : ℕ) (text : List (Message A)) (x : Message A) (w : CompleteExchange A)
    → (if b then complete_exchange_from (exchange_opening members) text else None) ≡ Some w
    → (if b then complete_exchange_from (exchange_opening members) (text ++ x ∷ []) else None) ≡ Some (record w { rest = w.rest ++ x ∷ [] })
later-by true members text x w some = push-some (exchange_opening members) text x w some
later-by false members text x w some = absurd (cc some)

pub later : {A : Type 0} (group : Group) (members : ℕ) (text : List (Message A)) (x : Message A) (w : CompleteExchange A)
    → complete_exchange group members text ≡ Some w → complete_exchange group members (text ++ x ∷ []) ≡ Some (record w { rest = w.rest ++ x ∷ [] })
later group members text x w some = later-by (is_primary group members) members text x w some

-- ---- the log that a base results in

unsnapped : (o : Option ℕ) (bytes : List ℕ) → snapshot_by o bytes ≡ None → o ≡ None
unsnapped None bytes none = refl
unsnapped (Some at) bytes none = absurd (cc none)

snapped : (o : Option ℕ) (bytes told : List ℕ) → snapshot_by o bytes ≡ Some told → (at : ℕ) × (o ≡ Some at) × (told ≡ bytes)
snapped None bytes told some = absurd (cc some)
snapped (Some at) bytes told some = (at, refl, cc some)

based-by : {A : Type 0} (b : Bool) (o : Option Wanted) (bytes : List ℕ) (calls : List (OneCall A)) (base : Base A) (own front : List (OneCall A))
    → (if b then base_from o bytes calls else None) ≡ Some base → base.snapshot ≡ None
    → take base.from own ++ base.calls ≡ base_on own front o calls
based-by true None bytes calls base own front some none = absurd (cc some)
based-by {A} true (Some w) bytes calls base own front some none =
    let first : Base A = record { from = w.from; snapshot = snapshot_by w.snapshot bytes; calls = calls } in
    let same : first ≡ base = cc some in
    let plain : w.snapshot ≡ None = unsnapped w.snapshot bytes (ap (λ (b : Base A). b.snapshot) same ∙ none) in
    ap (λ (b : Base A). take b.from own ++ b.calls) (sym same) ∙ ap (λ o. places_below own front w.from o ++ calls) (sym plain)
based-by false o bytes calls base own front some none = absurd (cc some)

pub handed-based : {A : Type 0} (e : Exchange A) (base : Base A) (own front : List (OneCall A)) → handed_out e ≡ Some base → base.snapshot ≡ None
    → take base.from own ++ base.calls ≡ own_base own front e
handed-based e base own front some none = based-by (is_exchange_complete e) (wanted e) e.bytes e.received_calls base own front some none

snapped-by : {A : Type 0} (b : Bool) (o : Option Wanted) (bytes told : List ℕ) (calls : List (OneCall A)) (base : Base A) (own front : List (OneCall A))
    → (if b then base_from o bytes calls else None) ≡ Some base → base.snapshot ≡ Some told
    → (told ≡ bytes) × (base_on own front o calls ≡ front ++ base.calls)
snapped-by true None bytes told calls base own front some is = absurd (cc some)
snapped-by {A} true (Some w) bytes told calls base own front some is =
    let first : Base A = record { from = w.from; snapshot = snapshot_by w.snapshot bytes; calls = calls } in
    let same : first ≡ base = cc some in
    let parts = snapped w.snapshot bytes told (ap (λ (b : Base A). b.snapshot) same ∙ is) in (
      parts.2,
      ap (λ o. places_below own front w.from o ++ calls) parts.1 ∙ ap (λ (b : Base A). front ++ b.calls) same,
    )
snapped-by false o bytes told calls base own front some is = absurd (cc some)

pub handed-snapshot : {A : Type 0} (e : Exchange A) (base : Base A) (bytes : List ℕ) (own front : List (OneCall A)) → handed_out e ≡ Some base
    → base.snapshot ≡ Some bytes → (bytes ≡ e.bytes) × (own_base own front e ≡ front ++ base.calls)
handed-snapshot e base bytes own front some is = snapped-by (is_exchange_complete e) (wanted e) e.bytes bytes e.received_calls base own front some is
