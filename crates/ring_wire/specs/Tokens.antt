-- How tokens and their requests are encoded.
-- Rules: Token and window 5
-- Formats: Frames
use Rattle.std.proofs.Common.{◌≡◌, ℕ, ◌+◌, ◌*◌, ◌^◌, ◌≤◌, Bool, true, false, List, [], ◌∷◌, length, Option, Some, None, refl, arith, inl, inr, ap, eq-eqb}
use Rattle.std.specs.Prelude.{nat_le, ◌&&◌, ◌==◌, is_none, is_some, ◌↔◌, if◌then◌else◌}
use Rattle.std.specs.List.{flat_map, AllByRecursion}
use Rattle.std.specs.List.Sorted.{IsStrictlyIncreasing}
use Rattle.std.proofs.lemmas.List.Concat.{flat_map-cons}
use Rattle.std.proofs.lemmas.Bool.{leb-true, le-leb, eqb-true, cases_Bool, and_parts}
use Rattle.byteorder.specs.Endian.{big_bytes}
use Rattle.ring_payload.specs.Base.{max_number, RingId}
use Rattle.ring_payload.specs.Codecs.{IsFormat, IsWord, tested_at, mapped_at, ◌⊕◌, Format, byte_field, u64_field, ◌&◌, dependent_pair_format, repeated_format, tested_format, fields_format}
use Rattle.ring_payload.specs.Codecs.{tested_fields_format, some_proc, some_proc_encoding, SomeProcFits, ring, ring_encoding, RingFits}
use Rattle.ring_payload.specs.Limits.{max_requests}
use Rattle.ring_wire.specs.declared.token.Token.{Token}
use Rattle.ring_wire.specs.Ascending.{is_ascending_within, is_ascending_within-each, is_ascending_within-increasing, increasing-is_ascending_within, IsStrictlyIncreasing-from_zero, each_below, each_le}

-- ---- requests: their count in one byte, and the numbers in 8 each

-- the encoding of requests
abbrev pub requests_encoding : List ℕ → List ℕ
requests_encoding ns = length ns ∷ flat_map (λ n. big_bytes 8 n) ns

-- the limits of requests: at most 32; that they ascend strictly, each 1 to `seq`, is a limit of the token
pub record RequestsFit (ns : List ℕ) : Type 0 where
  pub few : length ns ≤ max_requests
  pub each : AllByRecursion (IsWord 8) ns

-- the count and the numbers
abbrev requests_fields : Format (ℕ × List ℕ)
requests_fields = dependent_pair_format (tested_format (λ n. nat_le n max_requests) byte_field) (λ n. repeated_format n u64_field)

-- reads requests from the front
unfoldable pub requests_at : List ℕ → Option (List ℕ × List ℕ)
requests_at bytes = mapped_at (λ p. p.1) requests_fields.at bytes

-- requests are read exactly
pub requests_format : IsFormat requests_encoding RequestsFit requests_at
unfolding requests_at
requests_format = fields_format requests_fields (λ p. p.1) requests_encoding RequestsFit (record {
  encoded = λ p f. rw f.1.0 refl;
  fits = λ p f. record { few = omega (arith, leb-true p.0 max_requests f.0.1, f.1.0); each = f.1.1 };
  back = λ ns f. ((length ns, ns), ((omega (arith, f.few), le-leb (length ns) max_requests f.few), (refl, f.each)), refl);
})

-- the format of requests
abbrev pub requests : Format (List ℕ)
requests = record { encoding = requests_encoding; Fits = RequestsFit; at = requests_at; exact = requests_format }

-- requests take one byte, and 8 bytes for each number
pub length-requests : (ns : List ℕ) → length (requests_encoding ns) ≡ 1 + 8 * length ns
length-requests [] = refl
length-requests (n ∷ ns) =
    let e = ap length (flat_map-cons (λ (k : ℕ). big_bytes 8 k) n ns) in
    omega (arith, e, length-requests ns)

-- ---- the token: its ring in 9 bytes, its number, `seq` and `aru` in 8 each, `aru_id` in one, and the requests

-- the encoding of a token
abbrev pub token_encoding : Token → List ℕ
token_encoding t = ring_encoding t.ring ⊕ big_bytes 8 t.number ⊕ big_bytes 8 t.seq ⊕ big_bytes 8 t.aru ⊕
    some_proc_encoding t.aru_id ⊕ requests_encoding t.requests

-- the limits of a token: `aru_id` is none exactly if `aru` equals `seq`, and the requests ascend strictly, each 1 to
-- `seq`, at most 32
pub record TokenFits (t : Token) : Type 0 where
  pub ring : RingFits t.ring
  pub ring_counted : 1 ≤ t.ring.seq
  pub number_counted : 1 ≤ t.number
  pub number : t.number ≤ max_number
  pub aru : t.aru ≤ t.seq
  pub seq : t.seq ≤ max_number
  pub aru_id : SomeProcFits t.aru_id
  pub aru_id_none : (t.aru_id ≡ None) ↔ (t.aru ≡ t.seq)
  pub few : length t.requests ≤ max_requests
  pub ascending : IsStrictlyIncreasing t.requests
  pub each : AllByRecursion (λ n. (1 ≤ n) × (n ≤ t.seq)) t.requests

-- whether `aru_id` is none exactly if `aru` equals `seq`, as a test
abbrev pub aru_id_test : Token → Bool
aru_id_test t = if t.aru == t.seq then is_none t.aru_id else is_some t.aru_id

-- whether the fields are within their limits, as a test
abbrev pub token_test : Token → Bool
token_test t = nat_le 1 t.ring.seq &&
    (nat_le 1 t.number && (nat_le t.number max_number
    && (nat_le t.aru t.seq && (nat_le t.seq max_number && (aru_id_test t && is_ascending_within 0 t.seq t.requests)))))

none_tested : (o : Option ℕ) (a b : ℕ) → (if a == b then is_none o else is_some o) ≡ true → (o ≡ None) ↔ (a ≡ b)
none_tested None a b h = (λ n. elim (cases_Bool (a == b)) [ inl e ↦ eqb-true a b e | inr e ↦ absurd (let f : false ≡ true = rw e at h in cc) ], λ e. refl)
none_tested (Some p) a b h = (λ n. absurd cc, λ e. absurd (let f : (a == b) ≡ true = eq-eqb a b e in let g : false ≡ true = rw f at h in cc))

tested_none : (o : Option ℕ) (a b : ℕ) → (o ≡ None) ↔ (a ≡ b) → (if a == b then is_none o else is_some o) ≡ true
tested_none None a b h = let f : (a == b) ≡ true = eq-eqb a b (h.0 refl) in rw f refl
tested_none (Some p) a b h = elim (cases_Bool (a == b)) [ inl e ↦ absurd (let n : Some p ≡ None = h.1 (eqb-true a b e) in cc) | inr e ↦ rw e refl ]

-- the fields of a token, in order
abbrev Raw : Type 0
Raw = RingId × (ℕ × (ℕ × (ℕ × (Option ℕ × List ℕ))))

-- the format of these fields
abbrev token_fields : Format Raw
token_fields = ring & u64_field & u64_field & u64_field & some_proc & requests

-- the token with these fields
abbrev from_fields : Raw → Token
from_fields p = record { ring = p.0; number = p.1.0; seq = p.1.1.0; aru = p.1.1.1.0; aru_id = p.1.1.1.1.0; requests = p.1.1.1.1.1 }

-- reads a token from the front
unfoldable pub token_at : List ℕ → Option (Token × List ℕ)
token_at bytes = tested_at token_test (mapped_at from_fields token_fields.at) bytes

fits : (p : Raw) → token_fields.Fits p → token_test (from_fields p) ≡ true → TokenFits (from_fields p)
fits p f passed =
    let a = and_parts _ _ passed in
    let b = and_parts _ _ a.1 in
    let c = and_parts _ _ b.1 in
    let d = and_parts _ _ c.1 in
    let e = and_parts _ _ d.1 in
    let g = and_parts _ _ e.1 in
    record {
      ring = f.0;
      ring_counted = leb-true _ _ a.0;
      number_counted = leb-true _ _ b.0;
      number = leb-true _ _ c.0;
      aru = leb-true _ _ d.0;
      seq = leb-true _ _ e.0;
      aru_id = f.1.1.1.1.0;
      aru_id_none = none_tested p.1.1.1.1.0 p.1.1.1.0 p.1.1.0 g.0;
      few = f.1.1.1.1.1.few;
      ascending = is_ascending_within-increasing 0 p.1.1.0 p.1.1.1.1.1 g.1;
      each = is_ascending_within-each 0 p.1.1.0 p.1.1.1.1.1 g.1;
    }

-- the requests of a token are within the limits of requests
pub token_requests : (t : Token) → TokenFits t → RequestsFit t.requests
token_requests t f = record { few = f.few; each = each_below 0 t.seq (256 ^ 8) t.requests f.each (omega (arith, f.seq)) }

-- a token is read exactly
pub token_format : IsFormat token_encoding TokenFits token_at
unfolding token_at
token_format = tested_fields_format token_fields from_fields token_test token_encoding TokenFits (record {
  encoded = λ p. refl;
  fits = fits;
  back = λ t f. (
    (t.ring, (t.number, (t.seq, (t.aru, (t.aru_id, t.requests))))),
    (
      f.ring,
      (
        omega (arith, f.number),
        (
          omega (arith, f.seq),
          (omega (arith, f.seq, f.aru), (f.aru_id, token_requests t f)),
        ),
      ),
    ),
    refl,
  );
  passes = λ t f.
      let up = increasing-is_ascending_within 0 t.seq t.requests (IsStrictlyIncreasing-from_zero t.seq t.requests f.ascending f.each) (each_le 0 t.seq t.requests f.each) in
      rw (
        le-leb _ _ f.ring_counted,
        le-leb _ _ f.number_counted,
        le-leb _ _ f.number,
        le-leb _ _ f.aru,
        le-leb _ _ f.seq,
        tested_none t.aru_id t.aru t.seq f.aru_id_none,
        up,
      ) refl;
})

-- the format of tokens
abbrev pub token : Format Token
token = record { encoding = token_encoding; Fits = TokenFits; at = token_at; exact = token_format }
