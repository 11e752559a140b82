-- Clients that are read and inserted one after the other, as in a loop.
use Rattle.std.proofs.Common.{◌≡◌, ℕ, zero, suc, ◌+◌, ◌-◌, ◌<◌, ◌≤◌, List, [], ◌∷◌, ◌++◌, length, take, drop, Option, Some, None, IsSome, refl, sym}
use Rattle.std.proofs.Common.{ap, subst, ◌∙◌, arith, append_assoc, append-nil}
use Rattle.std.specs.BTreeMap.{insert_entry}
use Rattle.std.specs.Cmp.{nat_cmp_is}
use Rattle.std.specs.Int.{bytes_high_first}
use Rattle.std.specs.List.{AllByRecursion}
use Rattle.std.specs.Option.{option_map}
use Rattle.std.specs.Ordering.{nat_cmp}
use Rattle.std.specs.declared.cmp.Ordering.TheVariants.{Greater}
use Rattle.std.specs.Prelude.{nat_le, if◌then◌else◌}
use Rattle.std.proofs.lemmas.Bool.{leb-true}
use Rattle.std.proofs.lemmas.List.{take_rest}
use Rattle.byteorder.specs.Endian.{big_bytes}
use Rattle.byteorder.specs.Numbers.{length-bytes_high_first}
use Rattle.ring_payload.specs.Codecs.{◌>>=◌, bind_some, passed_some}
use Rattle.ring_session.specs.Table.{LastCall}
use Rattle.ring_session.specs.Snapshots.{client_at, next_client_at, clients_at, clients_in}

-- ---- the last bytes of a number

bytes_behind : (k width number : ℕ) → drop k (bytes_high_first (k + width) number) ≡ bytes_high_first width number
bytes_behind zero width number = let same : 0 + width ≡ width = omega arith in ap (λ n. bytes_high_first n number) same
bytes_behind (suc k) width number =
    let more : suc k + width ≡ suc (k + width) = omega arith in
    ap (λ n. drop (suc k) (bytes_high_first n number)) more ∙ bytes_behind k width number

pub last_bytes : (width number : ℕ) → width ≤ 8 → drop (8 - width) (big_bytes 8 number) ≡ big_bytes width number
last_bytes width number le =
    let whole : 8 ≡ (8 - width) + width = omega (arith, le) in
    ap (λ n. drop (8 - width) (bytes_high_first n number)) whole ∙ bytes_behind (8 - width) width number

-- The last bytes of a written word.
pub last_written : (width number : ℕ) (word : List ℕ) → width ≤ 8 → word ≡ big_bytes 8 number ++ []
    → take (8 - (8 - width)) (drop (8 - width) word) ≡ big_bytes width number
last_written width number word le is =
    let whole : word ≡ big_bytes 8 number = is ∙ append-nil (big_bytes 8 number) in
    let long : length word ≡ 8 = ap length whole ∙ length-bytes_high_first 8 number in
    ap (λ (n : ℕ). take (n - (8 - width)) (drop (8 - width) word)) (sym long) ∙ take_rest word (8 - width)
    ∙ ap (drop (8 - width)) whole ∙ last_bytes width number le

-- ---- one client read

-- A client that was read is not below the required number.
pub next_above : (low : ℕ) (bytes : List ℕ) (x : (ℕ × LastCall) × List ℕ) → next_client_at low bytes ≡ Some x → low ≤ x.0.0
next_above low bytes x is =
    let a = bind_some (client_at bytes) (λ y. if nat_le low y.0.0 then Some y else None) x is in
    let g = passed_some (nat_le low a.0.0.0) a.0 x a.2 in
    let P : (ℕ × LastCall) × List ℕ → Type 0 = λ y. low ≤ y.0.0 in
    subst P g.1 (leb-true low a.0.0.0 g.0)

abbrev pub with_first : ℕ × LastCall → Option (List (ℕ × LastCall) × List ℕ) → Option (List (ℕ × LastCall) × List ℕ)
with_first s read = read >>= λ others. Some (s ∷ others.0, others.1)

-- A client and the others.
pub clients-next : (count i low : ℕ) (bytes : List ℕ) (s : ℕ × LastCall) (behind : List ℕ) → i < count → next_client_at low bytes ≡ Some (s, behind)
    → clients_at (count - i) low bytes ≡ with_first s (clients_at (count - (i + 1)) (suc s.0) behind)
unfolding clients_at
clients-next count i low bytes s behind less is =
    let more : count - i ≡ suc (count - (i + 1)) = omega (arith, less) in
    rw (more, is) refl

pub clients-none : (count i low : ℕ) (bytes : List ℕ) → i < count → next_client_at low bytes ≡ None → clients_at (count - i) low bytes ≡ None
unfolding clients_at
clients-none count i low bytes less is =
    let more : count - i ≡ suc (count - (i + 1)) = omega (arith, less) in
    rw (more, is) refl

-- Nothing is left to read.
pub clients-end : (count i low : ℕ) (bytes : List ℕ) → count ≤ i → clients_at (count - i) low bytes ≡ Some ([], bytes)
unfolding clients_at
clients-end count i low bytes all =
    let none : count - i ≡ 0 = omega (arith, all) in
    rw none refl

-- The bytes after the others are the bytes after all.
pub behind-first : (s : ℕ × LastCall) (read : Option (List (ℕ × LastCall) × List ℕ))
    → option_map (λ x. x.1) (with_first s read) ≡ option_map (λ x. x.1) read
behind-first s (Some x) = refl
behind-first s None = refl

-- Clients before and after one more.
pub front-first : (front : List (ℕ × LastCall)) (s : ℕ × LastCall) (read : Option (List (ℕ × LastCall) × List ℕ))
    → option_map (λ x. front ++ x.0) (with_first s read) ≡ option_map (λ x. (front ++ s ∷ []) ++ x.0) read
front-first front s (Some x) = ap Some (sym (append_assoc front (s ∷ []) x.0))
front-first front s None = refl

pub some-first : (s : ℕ × LastCall) (read : Option (List (ℕ × LastCall) × List ℕ)) → IsSome (with_first s read) → IsSome read
some-first s (Some x) there = refl
some-first s None there = absurd cc

bind_there : {A B : Type 0} (read : Option A) (f : A → Option B) → IsSome (read >>= f) → IsSome read
bind_there (Some x) f there = refl
bind_there None f there = absurd cc

-- If there are clients at the start of the bytes, there is a first one.
pub next_there : (count i low : ℕ) (bytes : List ℕ) → i < count → IsSome (clients_at (count - i) low bytes) → IsSome (next_client_at low bytes)
unfolding clients_at
next_there count i low bytes less there =
    let more : count - i ≡ suc (count - (i + 1)) = omega (arith, less) in
    bind_there (next_client_at low bytes) (λ first. with_first first.0 (clients_at (count - (i + 1)) (suc first.0.0) first.1)) (rw more at there)

-- ---- one client inserted after the others

-- All are below this number.
abbrev pub AreBelow : ℕ → List (ℕ × LastCall) → Type 0
AreBelow low ss = AllByRecursion (λ s. s.0 < low) ss

pub insert-last : (ss : List (ℕ × LastCall)) (client : ℕ) (last : LastCall) → AreBelow client ss
    → insert_entry nat_cmp ss client last ≡ ss ++ (client, last) ∷ []
insert-last [] client last below = refl
insert-last (s ∷ ss) client last below =
    let above : nat_cmp client s.0 ≡ Greater = sym (nat_cmp_is client s.0 Greater below.0) in
    rw above (ap (λ w. s ∷ w) (insert-last ss client last below.1))

pub AreBelow-weaker : (low high : ℕ) (ss : List (ℕ × LastCall)) → low ≤ high → AreBelow low ss → AreBelow high ss
AreBelow-weaker low high [] le below = tt
AreBelow-weaker low high (s ∷ ss) le below = (omega (arith, le, below.0), AreBelow-weaker low high ss le below.1)

pub AreBelow-push : (ss : List (ℕ × LastCall)) (client : ℕ) (last : LastCall) → AreBelow client ss → AreBelow (suc client) (ss ++ (client, last) ∷ [])
AreBelow-push [] client last below = (omega arith, tt)
AreBelow-push (s ∷ ss) client last below = (omega (arith, below.0), AreBelow-push ss client last below.1)

-- ---- the loops

abbrev Clients : Type 0
Clients = List (ℕ × LastCall)

-- The bytes after all, after one more client.
pub behind-more : (all : Option (List ℕ)) (count i low low' : ℕ) (rest rest' : List ℕ) (s : ℕ × LastCall)
    → all ≡ option_map (λ x. x.1) (clients_at (count - i) low rest) → i < count → next_client_at low rest ≡ Some (s, rest') → low' ≡ suc s.0
    → all ≡ option_map (λ x. x.1) (clients_at (count - (i + 1)) low' rest')
behind-more all count i low low' rest rest' s is less next next_low =
    let step = clients-next count i low rest s rest' less next in
    let above : option_map (λ (x : Clients × List ℕ). x.1) (clients_at (count - i) low rest)
    ≡ option_map (λ (x : Clients × List ℕ). x.1) (clients_at (count - (i + 1)) (suc s.0) rest') =
    ap (option_map (λ (x : Clients × List ℕ). x.1)) step ∙ behind-first s (clients_at (count - (i + 1)) (suc s.0) rest') in
    is ∙ above ∙ ap (λ (n : ℕ). option_map (λ (x : Clients × List ℕ). x.1) (clients_at (count - (i + 1)) n rest')) (sym next_low)

-- The clients read so far, and the rest, which makes the others.
pub record AreRead (all : Option (List (ℕ × LastCall))) (count i low : ℕ) (rest : List ℕ) (front : List (ℕ × LastCall)) : Type 0 where
  pub read : all ≡ option_map (λ x. front ++ x.0) (clients_at (count - i) low rest)
  pub more : IsSome (clients_at (count - i) low rest)
  pub below : AreBelow low front

first_there : (read : Option (Clients × List ℕ)) → IsSome (option_map (λ x. x.0) read) → IsSome read
first_there (Some x) there = refl
first_there None there = absurd cc

none_in_front : (read : Option (Clients × List ℕ)) → option_map (λ x. x.0) read ≡ option_map (λ x. [] ++ x.0) read
none_in_front (Some x) = refl
none_in_front None = refl

pub AreRead-start : (count : ℕ) (bytes : List ℕ) → IsSome (clients_in count bytes) → AreRead (clients_in count bytes) count 0 0 bytes []
AreRead-start count bytes there =
    let whole : count ≡ count - 0 = omega arith in
    let all : IsSome (clients_at count 0 bytes) = first_there (clients_at count 0 bytes) there in
    record {
      read = subst (λ (n : ℕ). clients_in count bytes ≡ option_map (λ x. [] ++ x.0) (clients_at n 0 bytes)) whole
          (none_in_front (clients_at count 0 bytes));
      more = subst (λ (n : ℕ). IsSome (clients_at n 0 bytes)) whole all;
      below = tt;
    }

pub AreRead-more : (all : Option (List (ℕ × LastCall))) (count i low low' : ℕ) (rest rest' : List ℕ) (front front' : List (ℕ × LastCall))
    (s : ℕ × LastCall) → AreRead all count i low rest front → i < count → next_client_at low rest ≡ Some (s, rest') → low' ≡ suc s.0
    → front' ≡ insert_entry nat_cmp front s.0 s.1 → AreRead all count (i + 1) low' rest' front'
AreRead-more all count i low low' rest rest' front front' s are less next next_low put =
    let step = clients-next count i low rest s rest' less next in
    let left : Option (Clients × List ℕ) = clients_at (count - (i + 1)) (suc s.0) rest' in
    let below : AreBelow s.0 front = AreBelow-weaker low s.0 front (next_above low rest (s, rest') next) are.below in
    let is_front : front' ≡ front ++ s ∷ [] = put ∙ insert-last front s.0 s.1 below in
    let read : all ≡ option_map (λ (x : Clients × List ℕ). (front ++ s ∷ []) ++ x.0) left =
    are.read ∙ ap (option_map (λ (x : Clients × List ℕ). front ++ x.0)) step ∙ front-first front s left in
    let there : IsSome left = some-first s left (subst (λ (r : Option (Clients × List ℕ)). IsSome r) step are.more) in
    rw (next_low, is_front) (record { read = read; more = there; below = AreBelow-push front s.0 s.1 below })

last_first : (front : Clients) (bytes : List ℕ) → option_map (λ (x : Clients × List ℕ). front ++ x.0) (Some ([], bytes)) ≡ Some front
last_first front bytes = ap Some (append-nil front)

pub AreRead-end : (all : Option (List (ℕ × LastCall))) (count i low : ℕ) (rest : List ℕ) (front : List (ℕ × LastCall))
    → AreRead all count i low rest front → count ≤ i → all ≡ Some front
AreRead-end all count i low rest front are done =
    are.read ∙ ap (option_map (λ (x : Clients × List ℕ). front ++ x.0)) (clients-end count i low rest done) ∙ last_first front rest
