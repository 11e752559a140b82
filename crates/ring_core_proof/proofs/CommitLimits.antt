-- The commit tokens that a core sends keep the limits: a proposal, a token with its own entry added, and a full
-- token.
use Rattle.std.proofs.Common.{◌≡◌, ℕ, ◌+◌, ◌*◌, ◌%◌, ◌^◌, ◌<◌, ◌≤◌, min, List, [], ◌∷◌, ◌++◌, length, Some, slice_get, ap, sym, ◌∙◌, subst, arith, append-nil}
use Rattle.std.specs.List.{AllByRecursion as Each}
use Rattle.std.proofs.lemmas.List.{length-append}
use Rattle.std.proofs.lemmas.Option.{slice_get-get_or}
use Rattle.std.proofs.Math.Nat.{mod-eq_of_lt}
use Rattle.ring_base.specs.Numbers.{max_number}
use Rattle.ring_base.specs.Processors.{IsProc, only, elements, size, at, smallest, less}
use Rattle.ring_base.specs.Elements.{elements-first, elements-nobody}
use Rattle.ring_base.specs.declared.ring_id.RingId.{RingId}
use Rattle.ring_base.proofs.Each.{each-push}
use Rattle.ring_wire.specs.declared.commit.CommitToken.{CommitToken}
use Rattle.ring_wire.specs.declared.entries.CommitEntry.{CommitEntry}
use Rattle.ring_wire.specs.Entries.{EntryFits}
use Rattle.ring_wire.specs.Commits.{IsReport, AreReports, CommitFits}
use Rattle.ring_core_spec.specs.Commits.{receiver, hop_with_entries, proposal}

-- Reports

reports-push : (r : RingId) (members : List ℕ) (es : List CommitEntry) (m : ℕ) (e : CommitEntry) → AreReports r members es →
    slice_get members (length es) ≡ Some m → IsReport r m e → AreReports r members (es ++ e ∷ [])
reports-push r [] [] m e h g is = absurd (let n : ⊥ = cc in n)
reports-push r (n ∷ members) [] m e h g is = (let same : n ≡ m = cc in (subst (λ k. IsReport r k e) (sym same) is, tt))
reports-push r [] (x ∷ es) m e h g is = absurd h
reports-push r (n ∷ members) (x ∷ es) m e h g is = (h.0, reports-push r members es m e h.1 g is)

at_place : (members k : ℕ) → k < size members → slice_get (elements members) k ≡ Some (at members k)
at_place members k l = slice_get-get_or (elements members) k 0 l

-- Hops

pub filled_fits : (k : CommitToken) (me : ℕ) (own : CommitEntry) → CommitFits k → k.hop < size k.members → receiver k ≡ me →
    EntryFits own → IsReport k.ring me own → CommitFits (hop_with_entries k (own ∷ []))
filled_fits k me own f l here fits is =
    let count : length k.entries ≡ min k.hop (size k.members) = f.count in
    let hop : length k.entries ≡ k.hop = omega arith in
    let place : k.hop % size k.members ≡ k.hop = mod-eq_of_lt l in
    let mine : at k.members k.hop ≡ me = ap (at k.members) (sym place) ∙ here in
    let there : slice_get (elements k.members) (length k.entries) ≡ Some me =
    ap (slice_get (elements k.members)) hop ∙ at_place k.members k.hop l ∙ ap Some mine in
    let more : length (k.entries ++ own ∷ []) ≡ length k.entries + 1 = length-append k.entries (own ∷ []) in
    record {
      ring = f.ring;
      ring_counted = f.ring_counted;
      members = f.members;
      some = f.some;
      representative = f.representative;
      first_hop = omega arith;
      last_hop = omega arith;
      count = omega arith;
      each = each-push EntryFits k.entries own f.each fits;
      reports = reports-push k.ring (elements k.members) k.entries me own f.reports there is;
    }

pub learned_fits : (k : CommitToken) → CommitFits k → size k.members ≤ k.hop → k.hop < 2 * size k.members → CommitFits (hop_with_entries k [])
learned_fits k f l h =
    let count : length k.entries ≡ min k.hop (size k.members) = f.count in
    let same : k.entries ≡ k.entries ++ [] = sym (append-nil k.entries) in
    let kept : length k.entries ≡ length (k.entries ++ []) = ap length same in
    record {
      ring = f.ring;
      ring_counted = f.ring_counted;
      members = f.members;
      some = f.some;
      representative = f.representative;
      first_hop = omega arith;
      last_hop = omega arith;
      count = omega arith;
      each = subst (Each EntryFits) same f.each;
      reports = subst (AreReports k.ring (elements k.members)) same f.reports;
    }

-- A proposal

pub proposal_fits : (me number members : ℕ) (own : CommitEntry) → IsProc me → 1 ≤ number → number ≤ max_number → members < 2 ^ 16 → smallest members ≡ me →
    0 < size members → EntryFits own → IsReport (record { seq = number; rep = me }) me own → CommitFits (proposal me number members own)
proposal_fits me number members own p low high small least some fits is =
    let r : RingId = record { seq = number; rep = me } in
    let rest = elements (less members (only (smallest members))) in
    let first : elements members ≡ me ∷ rest = elements-first members some ∙ ap (λ m. m ∷ rest) least in
    record {
      ring = record { seq = high; rep = p };
      ring_counted = low;
      members = small;
      some = λ e. (let none : size members ≡ 0 = ap size e ∙ ap length elements-nobody in omega arith);
      representative = sym least;
      first_hop = omega arith;
      last_hop = omega arith;
      count = omega arith;
      each = (fits, tt);
      reports = subst (λ ms. AreReports r ms (own ∷ [])) (sym first) (is, tt);
    }
