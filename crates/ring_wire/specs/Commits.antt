-- How commit tokens are encoded: the ring, its members, the hop, and the entries of the members that the token has
-- visited.
-- Rules: The commit token 1
-- Formats: Frames; The commit entry
use Rattle.std.proofs.Common.{◌≡◌, ◌≢◌, ℕ, ◌*◌, ◌^◌, ◌<◌, ◌≤◌, Bool, true, false, min, List, [], ◌∷◌, length, Option, refl, arith, inl, inr, eq-eqb, ap}
use Rattle.std.specs.Prelude.{nat_le, nat_lt, ◌&&◌, ◌||◌, not, ◌==◌}
use Rattle.std.specs.List.{flat_map, AllByRecursion}
use Rattle.std.proofs.lemmas.Bool.{cases_Bool, leb-true, le-leb, ltb-true, lt-ltb, eqb-true, eqb-false, ne_eqb, and_parts, not-true}
use Rattle.std.proofs.lemmas.List.{length-append}
use Rattle.std.proofs.lemmas.List.Concat.{flat_map-cons}
use Rattle.byteorder.specs.Endian.{big_bytes}
use Rattle.ring_payload.specs.Base.{elements, size, smallest, nobody, size_le, RingId}
use Rattle.ring_payload.specs.Codecs.{IsFormat, tested_at, mapped_at, ◌⊕◌, Format, byte_field, u16_field, ◌&◌, dependent_pair_format, repeated_format, tested_fields_format, ring}
use Rattle.ring_payload.specs.Codecs.{ring_encoding, RingFits}
use Rattle.ring_wire.specs.declared.entries.CommitEntry.{CommitEntry}
use Rattle.ring_wire.specs.declared.commit.CommitToken.{CommitToken}
use Rattle.ring_wire.specs.Entries.{entry, entry_encoding, EntryFits}

-- ---- the entries, for the members in ascending order

-- the entry's old ring has a lower number than the ring and, if that number is 0, is the opening ring of the member
pub record IsReport (r : RingId) (member : ℕ) (e : CommitEntry) : Type 0 where
  pub older : e.old.seq < r.seq
  pub self : e.old.seq ≡ 0 → e.old.rep ≡ member

-- the entries may be those of the first members
abbrev pub AreReports : RingId → List ℕ → List CommitEntry → Type 0
AreReports r members [] = Unit {0}
AreReports r [] (e ∷ es) = ⊥
AreReports r (m ∷ members) (e ∷ es) = IsReport r m e × AreReports r members es

-- `IsReport` as a test
abbrev pub is_report_of_member : RingId → ℕ → CommitEntry → Bool
is_report_of_member r member e = nat_lt e.old.seq r.seq && (not (e.old.seq == 0) || (e.old.rep == member))

-- `AreReports` as a test
abbrev pub are_reports_of_members : RingId → List ℕ → List CommitEntry → Bool
are_reports_of_members r members [] = true
are_reports_of_members r [] (e ∷ es) = false
are_reports_of_members r (m ∷ members) (e ∷ es) = is_report_of_member r m e && are_reports_of_members r members es

is_report_of_member-true : (r : RingId) (m : ℕ) (e : CommitEntry) → is_report_of_member r m e ≡ true → IsReport r m e
is_report_of_member-true r m e h =
    let both = and_parts _ _ h in
    record {
      older = ltb-true _ _ both.0;
      self = λ z.
          let new : (e.old.seq == 0) ≡ true = eq-eqb _ _ z in
          eqb-true _ _ (rw new at both.1);
    }

true-is_report_of_member : (r : RingId) (m : ℕ) (e : CommitEntry) → IsReport r m e → is_report_of_member r m e ≡ true
true-is_report_of_member r m e f = elim (cases_Bool (e.old.seq == 0)) [
  | inl new ↦ rw (lt-ltb _ _ f.older, new, eq-eqb _ _ (f.self (eqb-true _ _ new))) refl
  | inr old ↦ rw (lt-ltb _ _ f.older, old) refl
]

are_reports_of_members-true : (r : RingId) (members : List ℕ) (es : List CommitEntry) → are_reports_of_members r members es ≡ true → AreReports r members es
are_reports_of_members-true r members [] h = tt
are_reports_of_members-true r [] (e ∷ es) h = absurd cc
are_reports_of_members-true r (m ∷ members) (e ∷ es) h =
    let both = and_parts _ _ h in
    (is_report_of_member-true r m e both.0, are_reports_of_members-true r members es both.1)

true-are_reports_of_members : (r : RingId) (members : List ℕ) (es : List CommitEntry) → AreReports r members es → are_reports_of_members r members es ≡ true
true-are_reports_of_members r members [] f = refl
true-are_reports_of_members r [] (e ∷ es) f = absurd f
true-are_reports_of_members r (m ∷ members) (e ∷ es) f = rw (true-is_report_of_member r m e f.0, true-are_reports_of_members r members es f.1) refl

-- ---- the token

-- the number of entries at a hop: one more with each hop of the first round, then the number of members
abbrev pub entries_at : ℕ → ℕ → ℕ
entries_at hop members = min hop members

-- the encoding of a commit token: its ring in 9 bytes, its members in 2, the hop in one, and the entries in 57 bytes
-- each
abbrev pub commit_encoding : CommitToken → List ℕ
commit_encoding t = ring_encoding t.ring ⊕ big_bytes 2 t.members ⊕ t.hop ∷ [] ⊕ flat_map entry_encoding t.entries

-- the limits of a commit token: its smallest member is the representative, it makes at most two rounds, and its entries
-- are those of the members that it has visited
pub record CommitFits (t : CommitToken) : Type 0 where
  pub ring : RingFits t.ring
  pub ring_counted : 1 ≤ t.ring.seq
  pub members : t.members < 2 ^ 16
  pub some : t.members ≢ nobody
  pub representative : t.ring.rep ≡ smallest t.members
  pub first_hop : 1 ≤ t.hop
  pub last_hop : t.hop ≤ 2 * size t.members
  pub count : length t.entries ≡ entries_at t.hop (size t.members)
  pub each : AllByRecursion EntryFits t.entries
  pub reports : AreReports t.ring (elements t.members) t.entries

-- whether the fields are within their limits, as a test
abbrev pub commit_test : CommitToken → Bool
commit_test t =
    nat_le 1 t.ring.seq && ((not (t.members == nobody) && (t.ring.rep == smallest t.members))
    && (nat_le 1 t.hop && (nat_le t.hop (2 * size t.members) && are_reports_of_members t.ring (elements t.members) t.entries)))

-- the fields of a commit token, in order
abbrev CommitFields : Type 0
CommitFields = RingId × (ℕ × (ℕ × List CommitEntry))

-- the format of these fields
abbrev commit_fields : Format CommitFields
commit_fields = ring & dependent_pair_format u16_field (λ members. dependent_pair_format byte_field (λ hop. repeated_format (entries_at hop (size members)) entry))

-- the commit token with these fields
abbrev from_fields : CommitFields → CommitToken
from_fields p = record { ring = p.0; members = p.1.0; hop = p.1.1.0; entries = p.1.1.1 }

-- reads a commit token from the front
unfoldable pub commit_at : List ℕ → Option (CommitToken × List ℕ)
commit_at bytes = tested_at commit_test (mapped_at from_fields commit_fields.at) bytes

fits : (p : CommitFields) → commit_fields.Fits p → commit_test (from_fields p) ≡ true → CommitFits (from_fields p)
fits p f passed =
    let a = and_parts _ _ passed in
    let b = and_parts _ _ a.1 in
    let c = and_parts _ _ b.0 in
    let d = and_parts _ _ b.1 in
    let e = and_parts _ _ d.1 in
    record {
      ring = f.0;
      ring_counted = leb-true _ _ a.0;
      members = f.1.0;
      some = eqb-false _ _ (not-true _ c.0);
      representative = eqb-true _ _ c.1;
      first_hop = leb-true _ _ d.0;
      last_hop = leb-true _ _ e.0;
      count = f.1.1.1.0;
      each = f.1.1.1.1;
      reports = are_reports_of_members-true p.0 (elements p.1.0) p.1.1.1 e.1;
    }

-- a hop of at most twice 16 fits in a byte
hop_fits : (hop members : ℕ) → hop ≤ 2 * members → members ≤ 16 → hop < 256
hop_fits hop members le few = omega arith

-- a hop fits in a byte
pub commit_hop : (t : CommitToken) → CommitFits t → t.hop < 256
commit_hop t f = hop_fits t.hop (size t.members) f.last_hop (size_le t.members)

-- a commit token is read exactly
pub commit_format : IsFormat commit_encoding CommitFits commit_at
unfolding commit_at
commit_format = tested_fields_format commit_fields from_fields commit_test commit_encoding CommitFits (record {
  encoded = λ p. refl;
  fits = fits;
  back = λ t f. ((t.ring, (t.members, (t.hop, t.entries))), (f.ring, (f.members, (commit_hop t f, (f.count, f.each)))), refl);
  passes = λ t f. rw (
    le-leb _ _ f.ring_counted,
    ne_eqb _ _ f.some,
    eq-eqb _ _ f.representative,
    le-leb _ _ f.first_hop,
    le-leb _ _ f.last_hop,
    true-are_reports_of_members t.ring (elements t.members) t.entries f.reports,
  )
      refl;
})

-- the format of commit tokens
abbrev pub commit : Format CommitToken
commit = record { encoding = commit_encoding; Fits = CommitFits; at = commit_at; exact = commit_format }

-- entries have 57 bytes each
pub length-entries : (es : List CommitEntry) → AllByRecursion EntryFits es → length (flat_map entry_encoding es) ≡ 57 * length es
length-entries [] f = refl
length-entries (e ∷ es) f =
    let whole = ap length (flat_map-cons entry_encoding e es) in
    let parts = length-append (entry_encoding e) (flat_map entry_encoding es) in
    omega (arith, whole, parts, length-entries es f.1, f.0.bits)

few : (hop members count : ℕ) → count ≡ min hop members → members ≤ 16 → count ≤ 16
few hop members count e le = omega arith

-- a commit token has at most 16 entries
pub few_entries : (t : CommitToken) → CommitFits t → length t.entries ≤ 16
few_entries t f = few t.hop (size t.members) (length t.entries) f.count (size_le t.members)
