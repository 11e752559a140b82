-- Numbers read into a list are those that the bytes hold.
use Rattle.std.proofs.Common.{◌≡◌, ℕ, zero, suc, ◌+◌, ◌*◌, ◌<◌, List, ◌++◌, length, get_or, take, drop, sym, ap, ◌∙◌, arith}
use Rattle.std.proofs.lemmas.List.{same_lists, get_or_default, drop-drop, take_at}
use Rattle.byteorder.specs.Endian.{IsRead, big_number}
use Rattle.ring_things.specs.Numbers.{numbers_from_bytes, length-numbers_from_bytes}

-- The number at a position.
get_or-numbers_from_bytes : (width count : ℕ) (bytes : List ℕ) (k d : ℕ) → k < count → get_or (numbers_from_bytes width count bytes)
    k d ≡ big_number width (drop (width * k) bytes)
unfolding numbers_from_bytes
get_or-numbers_from_bytes width zero bytes k d within = absurd (omega arith)
get_or-numbers_from_bytes width (suc count) bytes zero d within = ap (λ n. big_number width (drop n bytes)) (let e : 0 ≡ width * 0 = omega arith in e)
get_or-numbers_from_bytes width (suc count) bytes (suc k) d within =
    get_or-numbers_from_bytes width count (drop width bytes) k d (omega arith) ∙ ap (big_number width) (drop-drop (width * k) width bytes)
    ∙ ap (λ n. big_number width (drop n bytes)) (let e : width + width * k ≡ width * suc k = omega arith in e)

pub numbers_from_bytes-read : (width count : ℕ) (bytes numbers : List ℕ) → length numbers ≡ count
    → IsRead (λ n xs. big_number n xs) width bytes numbers → numbers ≡ numbers_from_bytes width count bytes
numbers_from_bytes-read width count bytes numbers len read =
    same_lists numbers (numbers_from_bytes width count bytes) (len ∙ sym (length-numbers_from_bytes width count bytes)) (λ k d within.
    get_or_default numbers k d 0 within ∙ read k within ∙ sym (get_or-numbers_from_bytes width count bytes k d (omega arith)))

-- The same if the list that they are read into is overwritten.
pub numbers_from_bytes-overwritten : (width count : ℕ) (bytes numbers old : List ℕ) (len : ℕ) → len ≡ count → len ≡ length old → length numbers ≡ len →
    IsRead (λ n xs. big_number n xs) width bytes numbers → take len (numbers ++ drop (length numbers) old) ≡ numbers_from_bytes width count bytes
numbers_from_bytes-overwritten width count bytes numbers old len is_count is_old is_new read =
    let whole : take len (numbers ++ drop (length numbers) old) ≡ numbers = take_at numbers (drop (length numbers) old) len is_new in
    whole ∙ numbers_from_bytes-read width count bytes numbers (is_new ∙ is_count) read
