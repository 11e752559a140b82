-- A core's rings, its installed rings, and its state.
use Rattle.std.proofs.Common.{◌≡◌, ℕ, ◌<◌, ◌≤◌, ◌⊎◌, inl, inr, List, [], ◌∷◌, refl, ap, sym, ◌∙◌, subst, arith, mod-lt}
use Rattle.ring_base.specs.Processors.{IsProc, IsMember, size}
use Rattle.ring_base.specs.Members.{only_members}
use Rattle.ring_base.specs.Elements.{at_member}
use Rattle.ring_base.specs.declared.state.State.{State}
use Rattle.ring_base.specs.declared.state.State.TheVariants.{Gather, Commit, Recovery, Operational, Stopped}
use Rattle.ring_base.proofs.Each.{each-weaker}
use Rattle.ring_wire.specs.declared.commit.CommitToken.{CommitToken}
use Rattle.ring_wire.specs.declared.frame.Frame.{Frame}
use Rattle.ring_core_spec.specs.Commits.{Configuration, position_of_hop}
use Rattle.ring_core_spec.specs.State.{Core, floor, opening}
use Rattle.ring_core_proof.specs.FactWords.{IsIn}
use Rattle.ring_core_proof.specs.LawConditions.{IsFalling}
use Rattle.ring_core_proof.specs.Moves.{Move, Idles, Enters, Learns, Visits, Takes, Installs, core_after_move, MayEnter, MayMove}
use Rattle.ring_core_proof.specs.CoreInvariants.{IsNewest, RingsFit}

-- States

-- an idle move keeps the state, or enters Gather or Stopped
abbrev pub IsIdling : State → State → Type 0
IsIdling old new = (new ≡ old) ⊎ ((new ≡ Gather) ⊎ (new ≡ Stopped))

pub idles_in : (old new s : State) → IsIdling old new → new ≡ s → (Gather ≡ s → ⊥) → (Stopped ≡ s → ⊥) → old ≡ s
idles_in old new s (inl same) e g t = sym same ∙ e
idles_in old new s (inr (inl a)) e g t = absurd (g (sym a ∙ e))
idles_in old new s (inr (inr a)) e g t = absurd (t (sym a ∙ e))

-- Rings

-- a newer ring before rings whose numbers fall
falls_more : (rings : List Configuration) (x y : Configuration) → IsNewest y rings → y.ring.seq < x.ring.seq → IsFalling rings → IsFalling (x ∷ rings)
falls_more rings x y (older, e) l f =
    let P : List Configuration → Type 0 = λ rs. IsFalling (x ∷ rs) in
    subst P (sym e) (l, subst (λ rs. IsFalling rs) e f)

pub newest_in : {X : Type 0} (x : X) (xs : List X) → IsNewest x xs → IsIn x xs
newest_in {X} x xs (older, e) = let P : List X → Type 0 = λ ys. IsIn x ys in subst P (sym e) (inl refl)

entered_member : {A : Type 0} → (received : Frame A → Type 0) (c : Core A) (k : CommitToken) → MayEnter received c k → IsProc c.me → IsMember k.members c.me
entered_member received c k h proc =
    let inside : k.hop < size k.members = h.first proc.0 in
    subst (IsMember k.members) h.here (at_member k.members (position_of_hop k) (mod-lt k.hop (omega (arith, inside)))).1

pub moved_rings : {A : Type 0} → (received : Frame A → Type 0) (c : Core A) (m : Move A) → MayMove received c m → RingsFit c → RingsFit (core_after_move c m)
moved_rings received c (Idles state gathering last_sent queue sends) h f =
    record {
      runs = f.runs;
      rise = f.rise;
      last = f.last;
      installs_rise = f.installs_rise;
      taken_part = f.taken_part;
      member = f.member;
      in_order = f.in_order;
      operating = λ s. f.operating (idles_in c.state state Operational h.leaves s (λ q. cc) (λ q. cc));
      changing = λ s. elim s [
        | inl a ↦ f.changing (inl (idles_in c.state state Commit h.leaves a (λ q. cc) (λ q. cc)))
        | inr b ↦ f.changing (inr (idles_in c.state state Recovery h.leaves b (λ q. cc) (λ q. cc)))
      ];
    }
moved_rings received c (Enters k) h f =
    let new : Configuration = record { ring = k.ring; members = k.members } in
    let above : floor c < k.ring.seq = h.above in
    let older : c.installed.ring.seq < k.ring.seq = elim (f.in_order) [
      | inl e ↦ (let s : floor c ≡ c.installed.ring.seq = ap (λ (p : Configuration). p.ring.seq) e in omega arith)
      | inr l ↦ omega (arith, l, above)
    ] in
    record {
      runs = (c.rings, refl);
      rise = falls_more c.rings new c.running f.runs above f.rise;
      last = f.last;
      installs_rise = f.installs_rise;
      taken_part = each-weaker (λ p. IsIn p c.rings) (λ p. IsIn p (new ∷ c.rings)) (λ p i. inr i) c.installs f.taken_part;
      member = λ proc. (entered_member received c k h proc, f.member proc);
      in_order = inr older;
      operating = λ s. absurd (let q : Commit ≡ Operational = s in let n : ⊥ = cc in n);
      changing = λ s. older;
    }
moved_rings received c (Learns k) h f =
    record {
      runs = f.runs;
      rise = f.rise;
      last = f.last;
      installs_rise = f.installs_rise;
      taken_part = f.taken_part;
      member = f.member;
      in_order = f.in_order;
      operating = λ s. absurd (let q : Recovery ≡ Operational = s in let n : ⊥ = cc in n);
      changing = λ s. f.changing (inl h.state);
    }
moved_rings received c (Visits t fresh requests again queue) h f =
    record {
      runs = f.runs;
      rise = f.rise;
      last = f.last;
      installs_rise = f.installs_rise;
      taken_part = f.taken_part;
      member = f.member;
      in_order = f.in_order;
      operating = f.operating;
      changing = f.changing;
    }
moved_rings received c (Takes x) h f =
    record {
      runs = f.runs;
      rise = f.rise;
      last = f.last;
      installs_rise = f.installs_rise;
      taken_part = f.taken_part;
      member = f.member;
      in_order = f.in_order;
      operating = f.operating;
      changing = f.changing;
    }
moved_rings received c Installs h f =
    record {
      runs = f.runs;
      rise = f.rise;
      last = (c.installs, refl);
      installs_rise = falls_more c.installs c.running c.installed f.last (f.changing (inr h.state)) f.installs_rise;
      taken_part = (newest_in c.running c.rings f.runs, f.taken_part);
      member = f.member;
      in_order = inl refl;
      operating = λ s. refl;
      changing = λ s. absurd (elim s [
        | inl a ↦ (let q : Operational ≡ Commit = a in let n : ⊥ = cc in n)
        | inr b ↦ (let q : Operational ≡ Recovery = b in let n : ⊥ = cc in n)
      ]);
    }

pub opening_rings : {A : Type 0} → (n me : ℕ) → RingsFit {A = A} (opening n me)
opening_rings n me =
    record {
      runs = ([], refl);
      rise = tt;
      last = ([], refl);
      installs_rise = tt;
      taken_part = (inl refl, tt);
      member = λ proc. ((only_members me me proc.0).1 refl, tt);
      in_order = inl refl;
      operating = λ s. refl;
      changing = λ s. absurd (elim s [
        | inl a ↦ (let q : Gather ≡ Commit = a in let n : ⊥ = cc in n)
        | inr b ↦ (let q : Gather ≡ Recovery = b in let n : ⊥ = cc in n)
      ]);
    }

-- No ring is above the running one, and no installed ring above the last

pub below_first : (x : Configuration) (rest : List Configuration) → IsFalling (x ∷ rest) → (y : Configuration) → IsIn y (x ∷ rest) → y.ring.seq ≤ x.ring.seq
below_first x rest f y (inl e) = (let s : y.ring.seq ≡ x.ring.seq = ap (λ (p : Configuration). p.ring.seq) e in omega arith)
below_first x [] f y (inr i) = absurd i
below_first x (z ∷ rest) f y (inr i) = (let l : y.ring.seq ≤ z.ring.seq = below_first z rest f.1 y i in omega (arith, f.0, l))

below_newest : (x : Configuration) (rings : List Configuration) → IsNewest x rings → IsFalling rings → (y : Configuration) → IsIn y rings →
    y.ring.seq ≤ x.ring.seq
below_newest x rings (older, e) f y i =
    let P : List Configuration → Type 0 = λ rs. IsIn y rs in
    below_first x older (subst (λ rs. IsFalling rs) e f) y (subst P e i)

pub under_floor : {A : Type 0} → (c : Core A) → RingsFit c → (p : Configuration) → IsIn p c.rings → p.ring.seq ≤ floor c
under_floor c f p i = below_newest c.running c.rings f.runs f.rise p i
