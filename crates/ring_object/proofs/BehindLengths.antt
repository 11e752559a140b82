-- A text appended after zeros, over which its length is then written, is a length-prefixed text.
use Rattle.std.proofs.Common.{◌≡◌, ℕ, ◌+◌, ◌-◌, List, [], ◌++◌, length, take, drop, refl, sym, ap, ◌∙◌, arith}
use Rattle.std.proofs.lemmas.List.{take_rest, take_at, drop_at, drop_all, take_all, length-append, length-drop, append_assoc, append-nil}
use borrow.Rule.Slice.PartMut.{post_of}
use Rattle.byteorder.specs.Endian.{big_bytes}
use Rattle.byteorder.specs.Numbers.{length-bytes_high_first}
use Rattle.ring_object.specs.Sized.{sized}

-- a text appended after zeros, over which its length was written
pub patched : (width number start n : ℕ) (old zeros text xs items buf : List ℕ) → xs ≡ (old ++ zeros) ++ text
    → items ≡ xs → start ≡ length old → length zeros ≡ width → number ≡ length text → n ≡ length items →
    buf ≡ big_bytes width number ++ drop width (take (length xs - start) (drop start xs)) →
    take n ((take start xs ++ (buf ++ post_of start (length xs - start) xs)) ++ drop
    (length (take start xs ++ (buf ++ post_of start (length xs - start) xs))) items) ≡ old ++ sized width text
unfolding sized
patched width number start n old zeros text xs items buf is_xs is_items is_start is_zeros is_number is_n is_buf =
    let parts : xs ≡ old ++ (zeros ++ text) = is_xs ∙ append_assoc old zeros text in
    let front : take start xs ≡ old = rw parts (take_at old (zeros ++ text) start (sym is_start)) in
    let behind : drop start xs ≡ zeros ++ text = rw parts (drop_at old (zeros ++ text) start (sym is_start)) in
    let rest : drop width (take (length xs - start) (drop start xs)) ≡ text = ap (drop width)
    (take_rest xs start ∙ behind) ∙ drop_at zeros text width is_zeros in
    let new : buf ≡ big_bytes width number ++ text = is_buf ∙ ap (λ x. big_bytes width number ++ x) rest in
    let long : length xs ≡ length old + (length zeros + length text) = ap length parts
    ∙ length-append old (zeros ++ text) ∙ ap (λ k. length old + k) (length-append zeros text) in
    let post : post_of start (length xs - start) xs ≡ [] = drop_all (length xs - start) (drop start xs) (omega (arith, length-drop start xs)) in
    let whole : take start xs ++ (buf ++ post_of start (length xs - start) xs) ≡ old ++ (big_bytes width (length text) ++ text) =
    rw (front, post, append-nil, new, is_number) refl in
    let size : length (old ++ (big_bytes width (length text) ++ text)) ≡ length xs =
    omega (
      arith,
      length-append old (big_bytes width (length text) ++ text),
      length-append (big_bytes width (length text)) text,
      length-bytes_high_first width (length text),
    ) in
    let none : drop (length (old ++ (big_bytes width (length text) ++ text))) items ≡ [] =
    drop_all (length (old ++ (big_bytes width (length text) ++ text))) items (rw (is_items, size) (omega arith)) in
    rw (whole, none, append-nil) (take_all n (old ++ (big_bytes width (length text) ++ text)) (rw (size, is_n, is_items) (omega arith)))

-- the length of the text after the zeros
pub length_behind : (old zeros text : List ℕ) (start len : ℕ) (items : List ℕ) → items ≡ (old ++ zeros) ++ text
    → start ≡ length old → len ≡ length items → len - start - length zeros ≡ length text
length_behind old zeros text start len items is is_start is_len =
    let long : length items ≡ (length old + length zeros) + length text = ap length is
    ∙ length-append (old ++ zeros) text ∙ ap (λ n. n + length text) (length-append old zeros) in
    omega arith
