-- The bounds of shares and rounds of work.
use Rattle.std.specs.Prelude.{ℕ, ◌+◌, ◌*◌, ◌/◌, min, max}

-- The index at which a share of `many` items begins, if there are `shares` shares.
abbrev pub share_begin : ℕ → ℕ → ℕ → ℕ
share_begin many shares share = min ((many / max shares 1 + 1) * share) many

-- The index after the last item of a round that begins at `begin` and has `size` items, at least one, of `many` in all.
abbrev pub round_end : ℕ → ℕ → ℕ → ℕ
round_end begin size many = min (begin + max size 1) many
