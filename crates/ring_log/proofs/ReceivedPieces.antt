-- The pieces of a wanted snapshot, received in order, bring its bytes.
use Rattle.std.proofs.Common.{◌≡◌, ℕ, zero, suc, ◌+◌, ◌*◌, ◌/◌, ◌<◌, ◌≤◌, ◌==◌, ◌&&◌, Bool, true, false, List, [], ◌∷◌, ◌++◌, length, take, drop, map}
use Rattle.std.proofs.Common.{Some, ◌⊎◌, inl, inr, refl, ap, sym, ◌∙◌, arith, length-take, length-drop}
use Rattle.std.specs.Prelude.{◌||◌, nat_lt}
use Rattle.std.proofs.lemmas.Bool.{and_from, cond-true, eq-eqb, lt-ltb}
use Rattle.std.proofs.lemmas.List.{take_all}
use Rattle.ring_base.specs.Numbers.{numbers_from}
use Rattle.ring_base.proofs.ListFronts.{take-nil}
use Rattle.ring_wire.specs.Payloads.{Snap as OneSnap}
use Rattle.ring_log.specs.declared.wanted.Wanted.{Wanted}
use Rattle.ring_log.specs.Exchanges.{Exchange, wanted, is_piece_of, is_next_piece, hear_snap, heard_pieces}
use Rattle.ring_log.specs.Parts.{nth_piece, pieces_of}

-- ---- bytes up to a place

taken-more : (m p : ℕ) (xs : List ℕ) → take m xs ++ take p (drop m xs) ≡ take (m + p) xs
taken-more zero p xs = let e : 0 + p ≡ p = omega arith in rw e refl
taken-more (suc m) p [] = take-nil p ∙ sym (take-nil (suc m + p))
taken-more (suc m) p (x ∷ xs) = let e : suc m + p ≡ suc (m + p) = omega arith in rw e (ap (λ l. x ∷ l) (taken-more m p xs))

some-or : (b c : Bool) → (b ≡ true) ⊎ (c ≡ true) → b || c ≡ true
some-or true c h = refl
some-or false c (inl h) = absurd (cc h)
some-or false c (inr h) = h

module _ {A : Type 0} (e : Exchange A) (w : Wanted) (at : ℕ) (bytes : List ℕ) (wants : wanted e ≡ Some w) (snapshot : w.snapshot ≡ Some at) where
  -- these bytes of the snapshot were received
  abbrev Came : ℕ → ℕ → List ℕ → Exchange A
  Came received_bytes total received = record e { received_bytes = received_bytes; total = total; bytes = received }

  abbrev Piece : ℕ → List ℕ → OneSnap A
  Piece offset piece = record { at = at; total = length bytes; offset = offset; bytes = piece }

  -- the next piece counts
  counts : (received_bytes total : ℕ) (received piece : List ℕ) → (total ≡ 0) ⊎ (length bytes ≡ total) → received_bytes < length bytes
      → hear_snap (Came received_bytes total received) w.owner (Piece received_bytes piece) ≡ Came (received_bytes + length piece) (length bytes) (received ++ piece)
  counts received_bytes total received piece told more =
      let snap = Piece received_bytes piece in
      let n = length bytes in
      let same_total : (total == 0) || (n == total) ≡ true =
      some-or (total == 0) (n == total) (elim told as (λ _. ((total == 0) ≡ true) ⊎ ((n == total) ≡ true)) [
        | inl none ↦ inl (eq-eqb total 0 none)
        | inr same ↦ inr (eq-eqb n total same)
      ]) in
      let is_one : is_piece_of (Some at) received_bytes total snap ≡ true =
      and_from ((at == at) && (received_bytes == received_bytes) && ((total == 0) || (n == total))) (nat_lt received_bytes n)
      (and_from ((at == at) && (received_bytes == received_bytes)) ((total == 0) || (n == total))
      (and_from (at == at) (received_bytes == received_bytes) (eq-eqb at at refl) (eq-eqb received_bytes received_bytes refl)) same_total)
      (lt-ltb received_bytes n more) in
      let next : is_next_piece (wanted e) received_bytes total w.owner snap ≡ true =
      ap (λ o. is_next_piece o received_bytes total w.owner snap) wants
      ∙ and_from (w.owner == w.owner) (is_piece_of w.snapshot received_bytes total snap) (eq-eqb w.owner w.owner refl)
      (ap (λ o. is_piece_of o received_bytes total snap) snapshot ∙ is_one) in
      cond-true (is_next_piece (wanted e) received_bytes total w.owner snap) (Came (received_bytes + length piece) n (received ++ piece)) (Came received_bytes total received) next

  -- so piece k counts once those before it were received
  step : (k total : ℕ) → (total ≡ 0) ⊎ (length bytes ≡ total) → 7000 * k < length bytes → (later : List (OneSnap A))
      → heard_pieces (Came (7000 * k) total (take (7000 * k) bytes)) w.owner (nth_piece at bytes k ∷ later)
      ≡ heard_pieces (Came (7000 * k + length (take 7000 (drop (7000 * k) bytes))) (length bytes) (take (7000 * k + 7000) bytes)) w.owner later
  step k total told more later =
      let start = 7000 * k in
      let piece = take 7000 (drop start bytes) in
      ap (λ x. heard_pieces x w.owner later) (counts start total (take start bytes) piece told more
      ∙ ap (λ l. Came (start + length piece) (length bytes) l) (taken-more start 7000 bytes))

  -- so do all pieces from one on up to the last
  from-piece : (count k total : ℕ) → (total ≡ 0) ⊎ (length bytes ≡ total) → 7000 * (k + count) < length bytes → length bytes ≤ 7000 * (k + count) + 7000
      → heard_pieces (Came (7000 * k) total (take (7000 * k) bytes)) w.owner (map (nth_piece at bytes) (numbers_from k (suc count)))
      ≡ Came (length bytes) (length bytes) bytes
  from-piece zero k total told more most =
      let start = 7000 * k in
      let left = length-drop start bytes in
      let few = length-take 7000 (drop start bytes) in
      let received_bytes : start + length (take 7000 (drop start bytes)) ≡ length bytes = omega (arith, left, few, more, most) in
      step k total told (omega (arith, more)) []
      ∙ ap (λ g. Came g (length bytes) (take (start + 7000) bytes)) received_bytes
      ∙ ap (λ l. Came (length bytes) (length bytes) l) (take_all (start + 7000) bytes (omega (arith, most)))
  from-piece (suc count) k total told more most =
      let start = 7000 * k in
      let later = map (nth_piece at bytes) (numbers_from (suc k) (suc count)) in
      let left = length-drop start bytes in
      let few = length-take 7000 (drop start bytes) in
      let received_bytes : start + length (take 7000 (drop start bytes)) ≡ 7000 * suc k = omega (arith, left, few, more) in
      let up : start + 7000 ≡ 7000 * suc k = omega arith in
      step k total told (omega (arith, more)) later
      ∙ ap (λ g. heard_pieces (Came g (length bytes) (take (start + 7000) bytes)) w.owner later) received_bytes
      ∙ ap (λ m. heard_pieces (Came (7000 * suc k) (length bytes) (take m bytes)) w.owner later) up
      ∙ from-piece count (suc k) (length bytes) (inr refl) (omega (arith, more)) (omega (arith, most))

  -- so do all pieces if none was received before
  all-pieces : (count : ℕ) → count ≡ (length bytes + 6999) / 7000 → 1 ≤ length bytes
      → heard_pieces (Came 0 0 []) w.owner (map (nth_piece at bytes) (numbers_from 0 count)) ≡ Came (length bytes) (length bytes) bytes
  all-pieces zero is some = absurd (omega (arith, is, some))
  all-pieces (suc count) is some = from-piece count 0 0 (inl refl) (omega (arith, is, some)) (omega (arith, is, some))

pub pieces-heard : {A : Type 0} (e : Exchange A) (w : Wanted) (at : ℕ) (bytes : List ℕ) → wanted e ≡ Some w → w.snapshot ≡ Some at
    → e.received_bytes ≡ 0 → e.total ≡ 0 → e.bytes ≡ [] → 1 ≤ length bytes
    → heard_pieces e w.owner (pieces_of at bytes) ≡ record e { received_bytes = length bytes; total = length bytes; bytes = bytes }
pieces-heard {A} e w at bytes wants snapshot received_bytes total none some =
    let pieces : List (OneSnap A) = pieces_of at bytes in
    let received : ℕ → ℕ → List ℕ → Exchange A = λ g t l. record e { received_bytes = g; total = t; bytes = l } in
    ap (λ g. heard_pieces (received g e.total e.bytes) w.owner pieces) received_bytes
    ∙ ap (λ t. heard_pieces (received 0 t e.bytes) w.owner pieces) total
    ∙ ap (λ l. heard_pieces (received 0 0 l) w.owner pieces) none
    ∙ all-pieces e w at bytes wants snapshot ((length bytes + 6999) / 7000) refl some
