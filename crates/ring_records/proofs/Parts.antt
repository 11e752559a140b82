-- Reading a record part by part, and each part byte by byte.
use Rattle.std.proofs.Common.{◌≡◌, ℕ, zero, suc, ◌+◌, ◌-◌, ◌^◌, ◌<◌, ◌≤◌, inl, inr, List, [], ◌∷◌, ◌++◌, length, take, drop, Option, Some, None, refl, sym, ap, subst, ◌∙◌, arith, length-take-le, take-add, take_at, drop_at}
use Rattle.std.specs.Io.KnownBytes.{Keeps, Consumes}
use Rattle.std.proofs.KnownBytes.{Consumes-nil, Consumes-trans, Consumes-kept}
use Rattle.std.proofs.lemmas.List.{take-append-le}
use Rattle.byteorder.specs.Endian.{big_bytes}
use borrow.Rule.Slice.PartMut.{put_mid, post_of}
use Rattle.ring_records.specs.Records.{TakesFewer, TakesUnfinished}

-- Taking no byte keeps all.
kept_by_none : (old new : Option (List ℕ)) → Consumes old new [] → Keeps old new
kept_by_none None new taken = tt
kept_by_none (Some x) None taken = absurd taken
kept_by_none (Some x) (Some y) taken = sym taken

pub kept_by_zero : (old new : Option (List ℕ)) (count : ℕ) (part : List ℕ) → count ≡ 0 → Consumes old new (take count part) → Keeps old new
kept_by_zero old new count part none taken = kept_by_none old new (subst (λ (n : ℕ). Consumes old new (take n part)) none taken)

-- Bytes are taken into the beginning of a buffer, then more into the rest of it.
pub filled_upto : (old mid new : Option (List ℕ)) (from count : ℕ) (room part : List ℕ) → from ≤ length room → count ≤ length part
    → Consumes old mid (take from room) → Consumes mid new (take count part)
    → Consumes old new (take (from + count) (put_mid from (length room - from) room part))
filled_upto old mid new from count room part within fits first then =
    let front = take from room in
    let behind = post_of from (length room - from) room in
    let rest = part ++ behind in
    let long : length front ≡ from = length-take-le from room within in
    let joined : take (from + count) (front ++ rest) ≡ front ++ take count part
    = take-add from count (front ++ rest) ∙ ap (λ (l : List ℕ). l ++ take count (drop from (front ++ rest))) (take_at front rest from long)
    ∙ ap (λ (l : List ℕ). front ++ take count l) (drop_at front rest from long) ∙ ap (λ (l : List ℕ). front ++ l) (take-append-le count part behind fits) in
    subst (λ (l : List ℕ). Consumes old new l) (sym joined) (Consumes-trans old mid new front (take count part) first then)

-- Fewer bytes than a limit are taken, then none.
pub fewer_kept : (most : ℕ) (old mid new : Option (List ℕ)) (front : List ℕ) → Consumes old mid front → length front < most → Keeps mid new
    → TakesFewer most old new
fewer_kept most old mid new front taken less kept = (front, Consumes-kept old mid new front taken kept, less)

-- Nothing is taken.
pub none_kept : (most : ℕ) (old new : Option (List ℕ)) → 0 < most → Keeps old new → TakesFewer most old new
none_kept most old new some kept = fewer_kept most old old new [] (Consumes-nil old) some kept

-- Nothing of a record is taken.
pub unfinished_none : (old new : Option (List ℕ)) → Keeps old new → TakesUnfinished old new
unfinished_none old new kept = ([], Consumes-kept old old new [] (Consumes-nil old) kept, inl (omega arith))

-- The kind is taken, and less than a length.
pub unfinished_head : (old mid new : Option (List ℕ)) (kind : ℕ) → Consumes old mid (kind ∷ []) → TakesFewer 2 mid new → TakesUnfinished old new
unfinished_head old mid new kind first then =
    let less : length (kind ∷ then.0) < 3 = omega (arith, then.2) in
    (kind ∷ [] ++ then.0, Consumes-trans old mid new (kind ∷ []) then.0 first then.1, inl less)

-- The kind and the length are taken, and fewer bytes than the length.
pub unfinished_bytes : (old mid later new : Option (List ℕ)) (kind count : ℕ) → count < 2 ^ 16 → Consumes old mid (kind ∷ [])
    → Consumes mid later (big_bytes 2 count) → TakesFewer count later new → TakesUnfinished old new
unfinished_bytes old mid later new kind count short first second then =
    let head = kind ∷ [] ++ big_bytes 2 count in
    let read = Consumes-trans old mid later (kind ∷ []) (big_bytes 2 count) first second in
    (head ++ then.0, Consumes-trans old later new head then.0 read then.1, inr (kind, count, then.0, short, then.2, refl))

-- A count above the room is positive.
pub some_without_room : (count room : ℕ) → ¬ (count ≤ room) → 0 < count
some_without_room zero room without = absurd (without (omega arith))
some_without_room (suc count) room without = omega arith
