-- Two members that come from one old ring make the same plan, and then deliver the same messages.
use Rattle.std.proofs.Common.{◌≡◌, ℕ, true, ◌&&◌, List, [], ◌∷◌, ◌++◌, filter, filter_map, length, Option, Some}
use Rattle.std.proofs.Common.{None, slice_get, refl, sym, ap, subst, ◌∙◌, leb}
use Rattle.std.specs.List.{list_all, AllByRecursion}
use Rattle.std.proofs.lemmas.Bool.{cond_both, and_parts}
use Rattle.std.specs.Prelude.{nat_lt}
use Rattle.ring_base.proofs.Each.{each-append, each-filter}
use Rattle.ring_base.specs.Processors.{has, size, position_of}
use Rattle.ring_base.specs.declared.ring_id.RingId.{RingId}
use Rattle.ring_commit.specs.Tokens.{CommitToken}
use Rattle.ring_commit.specs.Tokens.{CommitEntry}
use Rattle.ring_window.specs.Messages.{Message}
use Rattle.ring_window.specs.Held.{found, holds, front_of}
use Rattle.ring_commit.specs.Reports.{is_sound}
use Rattle.ring_window.specs.Payloads.{is_user}
use Rattle.ring_window.proofs.Finding.{holds-found}
use Rattle.ring_recover.specs.Plans.{Plan, plan_of, plan_if_sound, plan_from, safe, gap, known_above_safe}
use Rattle.ring_recover.specs.Deliveries.{is_complete, is_from_transitional_member, transitional_part, past_gap_part, finish, rest_messages, SameText}

-- One plan

-- a plan is for the member's own old ring
plan_is : (k : CommitToken) (o : Option CommitEntry) (p : Plan) → plan_if_sound k o ≡ Some p → p ≡ plan_of p.old k.members k.entries
plan_is k None p e = absurd (let q : ⊥ = cc in q)
plan_is k (Some own) p e =
    cond_both (is_sound own.old k.entries) (Some (plan_of own.old k.members k.entries)) None
    (λ (o : Option Plan). o ≡ Some p → p ≡ plan_of p.old k.members k.entries)
    (λ h f. (let q : plan_of own.old k.members k.entries ≡ p = cc in subst (λ (r : Plan). r ≡ plan_of r.old k.members k.entries) q refl))
    (λ h f. absurd (let q : ⊥ = cc in q))
    e

plan_from_is : (k : CommitToken) (i : ℕ) (p : Plan) → plan_from i k ≡ Some p → p ≡ plan_of p.old k.members k.entries
plan_from_is k i p e =
    cond_both (has k.members i && leb (size k.members) (length k.entries))
    (plan_if_sound k (slice_get k.entries (position_of k.members i))) None (λ (o : Option Plan). o ≡ Some p
    → p ≡ plan_of p.old k.members k.entries)
    (λ h f. plan_is k (slice_get k.entries (position_of k.members i)) p f)
    (λ h f. absurd (let q : ⊥ = cc in q))
    e

pub plan_of_old : (k : CommitToken) (i j : ℕ) (p q : Plan) → plan_from i k ≡ Some p → plan_from j k ≡ Some q → p.old ≡ q.old → p ≡ q
plan_of_old k i j p q e f same = plan_from_is k i p e ∙ ap (λ (r : RingId). plan_of r k.members k.entries) same ∙ sym (plan_from_is k j q f)

-- One delivery

-- numbers that both hold
abbrev Both : {A : Type 0} → RingId → List (Message A) → List (Message A) → ℕ → Type 0
Both ring a b n = found a ring n ≡ found b ring n

-- where both hold a number and have the same text, they find the same message
found_same : {A : Type 0} → (ring : RingId) (a b : List (Message A)) → SameText ring a b → (n : ℕ)
    → holds a ring n ≡ true → holds b ring n ≡ true → found a ring n ≡ found b ring n
found_same {A} ring a b same n h k =
    let x = holds-found a ring n h in
    let y = holds-found b ring n k in
    x.1 ∙ ap (λ (z : Message A). Some z) (same n x.0 y.0 x.1 y.1) ∙ sym y.1

each_found : {A : Type 0} → (ring : RingId) (a b : List (Message A)) → SameText ring a b → (ns : List ℕ)
    → list_all (holds a ring) ns ≡ true → list_all (holds b ring) ns ≡ true → AllByRecursion (Both ring a b) ns
each_found ring a b same [] h k = tt
each_found ring a b same (n ∷ ns) h k =
    let p = and_parts (holds a ring n) (list_all (holds a ring) ns) h in
    let q = and_parts (holds b ring n) (list_all (holds b ring) ns) k in
    (found_same ring a b same n p.0 q.0, each_found ring a b same ns p.1 q.1)

-- so the same senders come from the old ring, and both find the same messages
transitional_members_same : {A : Type 0} → (p : Plan) (a b : List (Message A)) (ns : List ℕ) → AllByRecursion (Both p.old a b) ns
    → filter (is_from_transitional_member p a) ns ≡ filter (is_from_transitional_member p b) ns
transitional_members_same p a b [] h = refl
transitional_members_same p a b (n ∷ ns) h = rw (h.0, transitional_members_same p a b ns h.1) refl

messages_same : {A : Type 0} → (ring : RingId) (a b : List (Message A)) (ns : List ℕ)
    → AllByRecursion (Both ring a b) ns → filter_map (found a ring) ns ≡ filter_map (found b ring) ns
messages_same ring a b [] h = refl
messages_same ring a b (n ∷ ns) h = rw (h.0, messages_same ring a b ns h.1) refl

both_known : {A : Type 0} → (p : Plan) (a b : List (Message A)) → SameText p.old a b → is_complete p a ≡ true
    → is_complete p b ≡ true → AllByRecursion (Both p.old a b) (known_above_safe p)
both_known p a b same h k =
    each_found p.old a b same (known_above_safe p)
    (and_parts (leb (safe p) (front_of a p.old)) (list_all (holds a p.old) (known_above_safe p)) h).1
    (and_parts (leb (safe p) (front_of b p.old)) (list_all (holds b p.old) (known_above_safe p)) k).1

past_gap_same : {A : Type 0} → (p : Plan) (a b : List (Message A)) → SameText p.old a b → is_complete p a ≡ true
    → is_complete p b ≡ true → past_gap_part p a ≡ past_gap_part p b
past_gap_same p a b same h k = transitional_members_same p a b _ (each-filter (Both p.old a b) (nat_lt (gap p)) (known_above_safe p) (both_known p a b same h k))

pub same_parts : {A : Type 0} → (p : Plan) (a b : List (Message A)) → SameText p.old a b → is_complete p a ≡ true
    → is_complete p b ≡ true → finish p a ≡ finish p b
same_parts p a b same h k = rw (h, k, past_gap_same p a b same h k) refl

pub same_rests : {A : Type 0} → (p : Plan) (a b : List (Message A)) → SameText p.old a b → is_complete p a ≡ true
    → is_complete p b ≡ true → rest_messages p a ≡ rest_messages p b
same_rests {A} p a b same h k =
    let ks = both_known p a b same h k in
    let later = each-filter (Both p.old a b) (is_from_transitional_member p a) _ (each-filter (Both p.old a b) (nat_lt (gap p)) (known_above_safe p) ks) in
    let all = each-append (Both p.old a b) (transitional_part p) (past_gap_part p a)
    (each-filter (Both p.old a b) (λ n. nat_lt n (gap p)) (known_above_safe p) ks) later in
    ap (λ (xs : List (Message A)). filter (λ (x : Message A). is_user x.payload) xs)
    (messages_same p.old a b _ all ∙ ap (λ (ns : List ℕ). filter_map (found b p.old) (transitional_part p ++ ns)) (past_gap_same p a b same h k))
