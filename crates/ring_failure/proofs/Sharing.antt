-- The first items of shares of many items, and the results of the shares.
use Rattle.std.proofs.Common.{◌≡◌, ℕ, ◌+◌, ◌-◌, ◌<◌, ◌≤◌, ◌⊎◌, inl, inr, min, max}
use Rattle.std.proofs.Common.{List, [], ◌∷◌, ◌++◌, length, length-append, Result, Ok, Err, IfOk, sym, ap, subst, ◌∙◌, arith}
use Rattle.std.specs.Prelude.{◌^◌}
use Rattle.ring_failure.specs.Shares.{share_begin, round_end}

pub one_longer : {X : Type 0} (xs : List X) (x : X) → length xs + 1 ≡ length (xs ++ x ∷ [])
one_longer xs x = sym (length-append xs (x ∷ []))

pub under_or_past : (n m : ℕ) → (n < m) ⊎ (m ≤ n)
under_or_past n m = grind arith

-- The result of a share is the result of its part.
pub found_of : {T E : Type 0} (part read : Result T E) (found : T) (P : T → Type 0) → part ≡ read → part ≡ Ok found → IfOk read P → P found
found_of part (Ok x) found P same is h = let e : x ≡ found = cc in subst P e h
found_of part (Err e) found P same is h = absurd cc

-- A share begins where the one before it ends, or later.
pub share_grows : (many shares share : ℕ) → share_begin many shares share ≤ share_begin many shares (share + 1)
share_grows many shares share = grind arith

-- The last share ends with the last item.
pub shares_end : (many shares share : ℕ) → max shares 1 ≤ share → share_begin many shares share ≡ many
shares_end many shares share all = grind arith

-- A share whose number is too great begins after the last item.
begin_past : (many shares share : ℕ) → many ≤ share → share_begin many shares share ≡ many
begin_past many shares share past = grind arith

next_is : (many shares share next : ℕ) → many < 2 ^ 64 → next ≡ min (share + 1) (2 ^ 64 - 1) → (share + 1 < 2 ^ 64) ⊎ (2 ^ 64 ≤ share + 1)
    → share_begin many shares next ≡ share_begin many shares (share + 1)
next_is many shares share next small is (inl less) = ap (share_begin many shares) (omega (arith, is, less))
next_is many shares share next small is (inr more) =
    begin_past many shares next (omega (arith, is, more, small)) ∙ sym (begin_past many shares (share + 1) (omega (arith, more, small)))

-- The number of the next share, up to the greatest u64.
pub next_begin : (many shares share next : ℕ) → many < 2 ^ 64 → next ≡ min (share + 1) (2 ^ 64 - 1)
    → share_begin many shares next ≡ share_begin many shares (share + 1)
next_begin many shares share next small is = next_is many shares share next small is (under_or_past (share + 1) (2 ^ 64))

-- A round has at least one item, and ends with the last.
pub round_grows : (begin size many : ℕ) → begin < many → begin < round_end begin size many
round_grows begin size many less = grind (arith, less)

pub round_within : (begin size many : ℕ) → round_end begin size many ≤ many
round_within begin size many = grind arith
