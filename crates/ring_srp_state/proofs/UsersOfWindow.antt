-- The user messages of a window, number by number.
use Rattle.std.proofs.Common.{◌≡◌, ℕ, ◌+◌, ◌-◌, ◌≤◌, max, Bool, true, false, [], ◌∷◌, ◌++◌, map, filter}
use Rattle.std.proofs.Common.{filter_map, Option, Some, None, refl, ap, ◌∙◌, arith, sym}
use Rattle.std.specs.Prelude.{if◌then◌else◌}
use Rattle.std.specs.List.{cons_option}
use Rattle.std.proofs.lemmas.List.{append-nil, map-append}
use Rattle.std.proofs.lemmas.List.Elements.{filter-append, filter_map-append}
use Rattle.ring_base.specs.Numbers.{numbers_from}
use Rattle.ring_base.specs.declared.ring_id.RingId.{RingId}
use Rattle.ring_base.proofs.ListPlaces.{numbers-append}
use Rattle.ring_payload.specs.PayloadKinds.{is_user}
use Rattle.ring_wire.specs.declared.message.Message.{Message}
use Rattle.ring_window.specs.Held.{found}
use Rattle.ring_window.specs.Windows.{WindowHistory}
use Rattle.ring_core_spec.specs.declared.out.Out.TheVariants.{Agreed}
use Rattle.ring_srp_state.specs.Users.{users_in, agreed_in, agreed_of, user_of, user_if_there}

users_there : {A : Type 0} (o : Option (Message A)) → filter (λ (x : Message A). is_user x.payload) (cons_option o []) ≡ user_if_there o
users_there None = refl
users_there (Some x) = refl

-- One number more

pub users_more : {A : Type 0} (w : WindowHistory A) (below k : ℕ) → below ≤ k → users_in w below (k + 1) ≡ users_in w below k ++ user_if_there
    (found w.held w.ring (k + 1))
users_more {A} w below k l =
    let n : k + 1 - below ≡ (k - below) + 1 = omega arith in
    let f : below + 1 + (k - below) ≡ k + 1 = omega arith in
    let p = λ (x : Message A). is_user x.payload in
    let h = found w.held w.ring in
    ap (λ j. filter p (filter_map h (numbers_from (below + 1) j))) n
    ∙ ap (λ ns. filter p (filter_map h ns)) (sym (numbers-append (below + 1) (k - below) 1))
    ∙ ap (filter p) (filter_map-append h (numbers_from (below + 1) (k - below)) (numbers_from (below + 1 + (k - below)) 1))
    ∙ filter-append p (filter_map h (numbers_from (below + 1) (k - below))) (filter_map h (numbers_from (below + 1 + (k - below)) 1))
    ∙ ap (λ j. users_in w below k ++ filter p (filter_map h (numbers_from j 1))) f
    ∙ ap (λ ys. users_in w below k ++ ys) (users_there (h (k + 1)))

pub users_some : {A : Type 0} (w : WindowHistory A) (below k : ℕ) (x : Message A) → below ≤ k → found w.held w.ring (k + 1) ≡ Some x →
    users_in w below (k + 1) ≡ users_in w below k ++ user_of x
users_some {A} w below k x l e = users_more w below k l ∙ ap (λ (o : Option (Message A)). users_in w below k ++ user_if_there o) e

pub users_none : {A : Type 0} (w : WindowHistory A) (below k : ℕ) → below ≤ k → found w.held w.ring (k + 1) ≡ None →
    users_in w below (k + 1) ≡ users_in w below k
users_none {A} w below k l e = users_more w below k l ∙ ap (λ (o : Option (Message A)). users_in w below k ++ user_if_there o) e
    ∙ append-nil (users_in w below k)

agreed_there : {A : Type 0} (ring : RingId) (x : Message A) (b : Bool) →
    map (λ (y : Message A). Agreed ring y.number y) (if b then x ∷ [] else []) ≡ (if b then Agreed ring x.number x ∷ [] else [])
agreed_there ring x true = refl
agreed_there ring x false = refl

pub agreed_some : {A : Type 0} (w : WindowHistory A) (below k : ℕ) (x : Message A) → below ≤ k → found w.held w.ring (k + 1) ≡ Some x →
    agreed_in w below (k + 1) ≡ agreed_in w below k ++ agreed_of w.ring x
agreed_some {A} w below k x l e =
    let f = λ (y : Message A). Agreed w.ring y.number y in
    ap (map f) (users_some w below k x l e) ∙ map-append f (users_in w below k) (user_of x)
    ∙ ap (λ ys. agreed_in w below k ++ ys) (agreed_there w.ring x (is_user x.payload))

pub agreed_none : {A : Type 0} (w : WindowHistory A) (below k : ℕ) → below ≤ k → found w.held w.ring (k + 1) ≡ None →
    agreed_in w below (k + 1) ≡ agreed_in w below k
agreed_none {A} w below k l e = ap (map (λ (y : Message A). Agreed w.ring y.number y)) (users_none w below k l e)

-- no more numbers
pub agreed_first : {A : Type 0} (w : WindowHistory A) (below : ℕ) → agreed_in w below below ≡ []
agreed_first {A} w below =
    let n : below - below ≡ 0 = omega arith in
    ap (λ j. map (λ (y : Message A). Agreed w.ring y.number y)
    (filter (λ (x : Message A). is_user x.payload) (filter_map (found w.held w.ring) (numbers_from (below + 1) j)))) n

pub agreed_last : {A : Type 0} (w : WindowHistory A) (below k top : ℕ) → below ≤ k → top ≤ k → k ≤ max below top → agreed_in w below k ≡ agreed_in w below top
agreed_last {A} w below k top l m h =
    let n : k - below ≡ top - below = omega arith in
    ap (λ j. map (λ (y : Message A). Agreed w.ring y.number y)
    (filter (λ (x : Message A). is_user x.payload) (filter_map (found w.held w.ring) (numbers_from (below + 1) j)))) n
