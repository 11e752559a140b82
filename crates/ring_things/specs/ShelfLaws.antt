-- A shelf satisfies the laws of objects if its four objects do.
-- Rules: Objects 1 to 3
use Rattle.std.proofs.Common.{◌≡◌, ℕ, ◌+◌, ◌^◌, ◌<◌, ◌≤◌, Bool, false, true, ◌==◌, nat_le, ◌&&◌, if◌then◌else◌, List}
use Rattle.std.proofs.Common.{[], ◌∷◌, ◌++◌, length, take, drop, Option, Some, None, refl, sym, ap, ◌∙◌, subst, arith}
use Rattle.std.proofs.Common.{eqb-true, append_assoc}
use Rattle.std.proofs.lemmas.Bool.{cond_both, cond-true, leb-true, le-leb, and_parts, and_from}
use Rattle.std.proofs.lemmas.List.{length-append, length-take, take-append-drop, take_at, drop_at, nil_from_length, append-nil}
use Rattle.std.proofs.lemmas.Option.{same_Some}
use Rattle.byteorder.specs.Endian.{big_bytes, big_number}
use Rattle.byteorder.specs.Numbers.{big_number-reads_back, length-bytes_high_first}
use Rattle.ring_object.specs.Bytes.{AreBytes}
use Rattle.ring_object.specs.Operations.{IsReply, unreadable_reply}
use Rattle.ring_object.specs.Sized.{sized}
use Rattle.ring_object.specs.Snapshots.{HasExactSnapshots}
use Rattle.ring_base.proofs.Cases.{guarded_some, and_then_some}
use Rattle.ring_things.specs.Numbers.{IsExact, exact_8, big_bytes-big_number}
use Rattle.ring_things.specs.ReplyBytes.{code_fits, AreBytes-rest, AreBytes-drop, AreBytes-take}
use Rattle.ring_things.specs.Shelf.{shelf_readable, shelf_reply, shelf_next, first_text, texts_of}
use Rattle.ring_things.specs.Shelf.{shelf_snapshot, both_of, four_of, objects_of, shelf_of}

-- Each of the four objects has a valid content of its type.
abbrev pub AreContents : {P Q R S : Type 0} → (P → Type 0) → (Q → Type 0) → (R → Type 0) → (S → Type 0) → P × Q × R × S → Type 0
AreContents p q r s objects = p objects.0 × q objects.1 × r objects.2 × s objects.3

-- Every operation leads from a valid content of the object to a valid content.
abbrev Keeps : {O : Type 0} → (O → Type 0) → (O → List ℕ → O) → Type 0
Keeps {O} IsContent next = (o : O) (op : List ℕ) → AreBytes op → IsContent o → IsContent (next o op)

-- Each reply of an object has at most 64 bytes.
abbrev Replies : {O : Type 0} → (O → Type 0) → (O → List ℕ → List ℕ) → Type 0
Replies {O} IsContent reply = (o : O) (op : List ℕ) → AreBytes op → IsContent o → IsReply (reply o op)

-- Bytes that are no operation get the reply `FF` and change nothing.
abbrev Ignores : {O : Type 0} → (List ℕ → Bool) → (O → List ℕ → List ℕ) → (O → List ℕ → O) → Type 0
Ignores {O} is_readable reply next = (o : O) (op : List ℕ) → is_readable op ≡ false → (reply o op ≡ unreadable_reply) × (next o op ≡ o)

module _ {P Q R S : Type 0} (IsP : P → Type 0) (IsQ : Q → Type 0) (IsR : R → Type 0) (IsS : S → Type 0) where
  -- Every operation leads from a valid content of the shelf to a valid content, if that holds of each object.
  pub shelf_kept : (p : P → List ℕ → P) (q : Q → List ℕ → Q) (r : R → List ℕ → R) (s : S → List ℕ → S) → Keeps IsP p → Keeps IsQ q → Keeps IsR r → Keeps IsS s →
      (objects : P × Q × R × S) (op : List ℕ) → AreBytes op → AreContents IsP IsQ IsR IsS objects → AreContents IsP IsQ IsR IsS (shelf_next p q r s objects op)
  shelf_kept p q r s kp kq kr ks objects [] are is = is
  shelf_kept p q r s kp kq kr ks objects (which ∷ op) are is =
      let bytes = AreBytes-rest which op are in
      let Holds : P × Q × R × S → Type 0 = λ o. AreContents IsP IsQ IsR IsS o in
      cond_both (which == 0) _ _ Holds (λ _. (kp objects.0 op bytes is.0, is.1, is.2, is.3))
      (λ _. cond_both (which == 1) _ _ Holds (λ _. (is.0, kq objects.1 op bytes is.1, is.2, is.3))
      (λ _. cond_both (which == 2) _ _ Holds (λ _. (is.0, is.1, kr objects.2 op bytes is.2, is.3))
      (λ _. cond_both (which == 3) _ _ Holds (λ _. (is.0, is.1, is.2, ks objects.3 op bytes is.3)) (λ _. is))))

  -- Each reply of the shelf has at most 64 bytes, if that holds of each object.
  pub shelf_replies : (p : P → List ℕ → List ℕ) (q : Q → List ℕ → List ℕ) (r : R → List ℕ → List ℕ)
      (s : S → List ℕ → List ℕ) → Replies IsP p → Replies IsQ q → Replies IsR r → Replies IsS s →
      (objects : P × Q × R × S) (op : List ℕ) → AreBytes op → AreContents IsP IsQ IsR IsS objects → IsReply (shelf_reply p q r s objects op)
  shelf_replies p q r s rp rq rr rs objects [] are is = code_fits 255 (omega arith)
  shelf_replies p q r s rp rq rr rs objects (which ∷ op) are is =
      let bytes = AreBytes-rest which op are in
      cond_both (which == 0) _ _ IsReply (λ _. rp objects.0 op bytes is.0)
      (λ _. cond_both (which == 1) _ _ IsReply (λ _. rq objects.1 op bytes is.1)
      (λ _. cond_both (which == 2) _ _ IsReply (λ _. rr objects.2 op bytes is.2)
      (λ _. cond_both (which == 3) _ _ IsReply (λ _. rs objects.3 op bytes is.3) (λ _. code_fits 255 (omega arith)))))

-- A choice among four objects ignores what it can't read, if each object does.
ignored_by : {O : Type 0} (a b c d p q r s : Bool) (reply_p reply_q reply_r reply_s : List ℕ) (next_p next_q next_r next_s o : O) →
    (p ≡ false → (reply_p ≡ unreadable_reply) × (next_p ≡ o)) → (q ≡ false → (reply_q ≡ unreadable_reply) × (next_q ≡ o)) →
    (r ≡ false → (reply_r ≡ unreadable_reply) × (next_r ≡ o)) → (s ≡ false → (reply_s ≡ unreadable_reply) × (next_s ≡ o)) →
    (if a then p else if b then q else if c then r else if d then s else false) ≡ false →
    ((if a then reply_p else if b then reply_q else if c then reply_r else if d then reply_s else unreadable_reply) ≡ unreadable_reply)
    × ((if a then next_p else if b then next_q else if c then next_r else if d then next_s else o) ≡ o)
ignored_by true b c d p q r s reply_p reply_q reply_r reply_s next_p next_q next_r next_s o ip iq ir is none = ip none
ignored_by false true c d p q r s reply_p reply_q reply_r reply_s next_p next_q next_r next_s o ip iq ir is none = iq none
ignored_by false false true d p q r s reply_p reply_q reply_r reply_s next_p next_q next_r next_s o ip iq ir is none = ir none
ignored_by false false false true p q r s reply_p reply_q reply_r reply_s next_p next_q next_r next_s o ip iq ir is none = is none
ignored_by false false false false p q r s reply_p reply_q reply_r reply_s next_p next_q next_r next_s o ip iq ir is none = (refl, refl)

module _ {P Q R S : Type 0} (rp : P → List ℕ → List ℕ) (rq : Q → List ℕ → List ℕ) (rr : R → List ℕ → List ℕ)
    (rs : S → List ℕ → List ℕ) (np : P → List ℕ → P) (nq : Q → List ℕ → Q) (nr : R → List ℕ → R)
    (ns : S → List ℕ → S) where
  -- The shelf ignores bytes that are no operation, if each object does.
  pub shelf_ignores : (p q r s : List ℕ → Bool) → Ignores p rp np → Ignores q rq nq → Ignores r rr nr → Ignores s rs ns →
      (objects : P × Q × R × S) (op : List ℕ) → shelf_readable p q r s op ≡ false
      → (shelf_reply rp rq rr rs objects op ≡ unreadable_reply) × (shelf_next np nq nr ns objects op ≡ objects)
  shelf_ignores p q r s ip iq ir is objects [] none = (refl, refl)
  shelf_ignores p q r s ip iq ir is objects (which ∷ op) none =
      ignored_by (which == 0) (which == 1) (which == 2) (which == 3) (p op) (q op) (r op) (s op) (rp objects.0 op)
      (rq objects.1 op) (rr objects.2 op) (rs objects.3 op)
      (np objects.0 op, objects.1, objects.2, objects.3) (objects.0, nq objects.1 op, objects.2, objects.3)
      (objects.0, objects.1, nr objects.2 op, objects.3) (objects.0, objects.1, objects.2, ns objects.3 op) objects
      (λ e. let i = ip objects.0 op e in (i.0, ap (λ (x : P). (x, objects.1, objects.2, objects.3)) i.1))
      (λ e. let i = iq objects.1 op e in (i.0, ap (λ (x : Q). (objects.0, x, objects.2, objects.3)) i.1))
      (λ e. let i = ir objects.2 op e in (i.0, ap (λ (x : R). (objects.0, objects.1, x, objects.3)) i.1))
      (λ e. let i = is objects.3 op e in (i.0, ap (λ (x : S). (objects.0, objects.1, objects.2, x)) i.1))
      none

-- A text preceded by its length is read from the start of the bytes.
first_text-sized : (width : ℕ) (text rest : List ℕ) → length text < 256 ^ width → first_text width (sized width text ++ rest) ≡ Some (text, rest)
unfolding first_text sized
first_text-sized width text rest fits =
    let bytes = (big_bytes width (length text) ++ text) ++ rest in
    let parts : bytes ≡ big_bytes width (length text) ++ (text ++ rest) = append_assoc (big_bytes width (length text)) text rest in
    let len : length (big_bytes width (length text)) ≡ width = length-bytes_high_first width (length text) in
    let number : big_number width bytes ≡ length text = rw parts (big_number-reads_back width (length text) (text ++ rest) fits) in
    let behind : drop width bytes ≡ text ++ rest = rw parts (drop_at (big_bytes width (length text)) (text ++ rest) width len) in
    let long : width ≤ length bytes = omega (arith, ap length parts, length-append (big_bytes width (length text)) (text ++ rest)) in
    let fit : big_number width bytes ≤ length (drop width bytes) = rw (number, behind) (omega (arith, length-append text rest)) in
    cond-true _ _ _ (and_from _ _ (le-leb _ _ long) (le-leb _ _ fit))
    ∙ rw (number, behind, take_at text rest (length text) refl, drop_at text rest (length text) refl) refl

-- What is read from the start of the bytes is a text preceded by its length.
record IsFirst (width : ℕ) (bytes : List ℕ) (parts : List ℕ × List ℕ) : Type 0 where
  whole : sized width parts.0 ++ parts.1 ≡ bytes
  text : AreBytes parts.0
  rest : AreBytes parts.1

first_text-exact : (width : ℕ) → IsExact width → (bytes : List ℕ) (parts : List ℕ × List ℕ) → AreBytes bytes
    → first_text width bytes ≡ Some parts → IsFirst width bytes parts
unfolding first_text sized
first_text-exact width exact bytes parts are is =
    let number = big_number width bytes in
    let behind = drop width bytes in
    let read : List ℕ × List ℕ = (take number behind, drop number behind) in
    let g = guarded_some (nat_le width (length bytes) && nat_le number (length behind)) (Some read) parts is in
    let tests = and_parts (nat_le width (length bytes)) _ g.0 in
    let size : length (take number behind) ≡ number = omega (arith, length-take number behind, leb-true _ _ tests.1) in
    let behind_bytes = AreBytes-drop width bytes are in
    let Holds : List ℕ × List ℕ → Type 0 = λ x. IsFirst width bytes x in
    subst Holds (same_Some _ _ g.1) (record {
      whole = append_assoc (big_bytes width (length (take number behind))) (take number behind) (drop number behind)
          ∙ rw (size, take-append-drop number behind) (big_bytes-big_number width exact bytes (leb-true _ _ tests.0) are);
      text = AreBytes-take number behind behind_bytes;
      rest = AreBytes-drop number behind behind_bytes;
    })

-- Four texts, each preceded by its length.
abbrev all_sized : List ℕ → List ℕ → List ℕ → List ℕ → List ℕ
all_sized a b c d = sized 8 a ++ (sized 8 b ++ (sized 8 c ++ sized 8 d))

length-sized : (width : ℕ) (text : List ℕ) → length (sized width text) ≡ width + length text
unfolding sized
length-sized width text = omega (arith, length-append (big_bytes width (length text)) text, length-bytes_high_first width (length text))

texts_of-sized : (a b c d : List ℕ) → length (all_sized a b c d) < 2 ^ 64 → texts_of (all_sized a b c d) ≡ Some (a, b, c, d)
texts_of-sized a b c d short =
    let ld = length-sized 8 d in
    let lc = length-sized 8 c in
    let lb = length-sized 8 b in
    let la = length-sized 8 a in
    let cd = length-append (sized 8 c) (sized 8 d) in
    let bcd = length-append (sized 8 b) (sized 8 c ++ sized 8 d) in
    let abcd = length-append (sized 8 a) (sized 8 b ++ (sized 8 c ++ sized 8 d)) in
    let first : first_text 8 (all_sized a b c d) ≡ Some (a, sized 8 b ++ (sized 8 c ++ sized 8 d)) =
    first_text-sized 8 a (sized 8 b ++ (sized 8 c ++ sized 8 d)) (omega arith) in
    let second : first_text 8 (sized 8 b ++ (sized 8 c ++ sized 8 d)) ≡ Some (b, sized 8 c ++ sized 8 d) =
    first_text-sized 8 b (sized 8 c ++ sized 8 d) (omega arith) in
    let third : first_text 8 (sized 8 c ++ sized 8 d) ≡ Some (c, sized 8 d) = first_text-sized 8 c (sized 8 d) (omega arith) in
    let Holds : List ℕ → Type 0 = λ x. first_text 8 x ≡ Some (d, []) in
    let fourth : first_text 8 (sized 8 d) ≡ Some (d, []) = subst Holds (append-nil (sized 8 d)) (first_text-sized 8 d [] (omega arith)) in
    rw (first, second, third, fourth) refl

-- The bytes are exactly these texts, each preceded by its length.
record AreTexts (bytes : List ℕ) (texts : List ℕ × List ℕ × List ℕ × List ℕ) : Type 0 where
  whole : all_sized texts.0 texts.1 texts.2 texts.3 ≡ bytes
  first : AreBytes texts.0
  second : AreBytes texts.1
  third : AreBytes texts.2
  fourth : AreBytes texts.3

texts_of-exact : (bytes : List ℕ) (texts : List ℕ × List ℕ × List ℕ × List ℕ) → AreBytes bytes → texts_of bytes ≡ Some texts → AreTexts bytes texts
texts_of-exact bytes texts are is =
    let p = and_then_some _ (first_text 8 bytes) texts is in
    let a = first_text-exact 8 exact_8 bytes p.0 are p.1 in
    let q = and_then_some _ (first_text 8 p.0.1) texts p.2 in
    let b = first_text-exact 8 exact_8 p.0.1 q.0 a.rest q.1 in
    let r = and_then_some _ (first_text 8 q.0.1) texts q.2 in
    let c = first_text-exact 8 exact_8 q.0.1 r.0 b.rest r.1 in
    let s = and_then_some _ (first_text 8 r.0.1) texts r.2 in
    let d = first_text-exact 8 exact_8 r.0.1 s.0 c.rest s.1 in
    let read : List ℕ × List ℕ × List ℕ × List ℕ = (p.0.0, q.0.0, r.0.0, s.0.0) in
    let g = guarded_some (length s.0.1 == 0) (Some read) texts s.2 in
    let none : s.0.1 ≡ [] = nil_from_length s.0.1 (eqb-true _ _ g.0) in
    let last : sized 8 s.0.0 ≡ r.0.1 = sym (append-nil (sized 8 s.0.0)) ∙ ap (λ x. sized 8 s.0.0 ++ x) (sym none) ∙ d.whole in
    let Holds : List ℕ × List ℕ × List ℕ × List ℕ → Type 0 = λ x. AreTexts bytes x in
    subst Holds (same_Some _ _ g.1) (record {
      whole = rw (last, c.whole, b.whole) a.whole;
      first = a.text;
      second = b.text;
      third = c.text;
      fourth = d.text;
    })

both_some : {A B : Type 0} (a : Option A) (b : Option B) (x : A × B) → both_of a b ≡ Some x → (a ≡ Some x.0) × (b ≡ Some x.1)
both_some {A} {B} (Some a) (Some b) x is = (ap Some (ap (λ (y : A × B). y.0) (same_Some _ _ is)), ap Some (ap (λ (y : A × B). y.1) (same_Some _ _ is)))
both_some (Some a) None x is = absurd cc
both_some None b x is = absurd cc

module _ {P Q R S : Type 0} (IsP : P → Type 0) (IsQ : Q → Type 0) (IsR : R → Type 0) (IsS : S → Type 0)
    (sp : P → List ℕ) (sq : Q → List ℕ) (sr : R → List ℕ) (ss : S → List ℕ)
    (rp : List ℕ → Option P) (rq : List ℕ → Option Q) (rr : List ℕ → Option R) (rs : List ℕ → Option S)
    (lp : HasExactSnapshots IsP sp rp) (lq : HasExactSnapshots IsQ sq rq) (lr : HasExactSnapshots IsR sr rr) (ls : HasExactSnapshots IsS ss rs) where
  four_some : (pairs : Option ((P × Q) × (R × S))) (objects : P × Q × R × S) → four_of pairs ≡ Some objects
      → pairs ≡ Some ((objects.0, objects.1), (objects.2, objects.3))
  four_some (Some x) objects is = ap Some (ap (λ (y : P × Q × R × S). ((y.0, y.1), (y.2, y.3))) (same_Some _ _ is))
  four_some None objects is = absurd cc

  same : (objects : P × Q × R × S) → AreContents IsP IsQ IsR IsS objects → length (shelf_snapshot sp sq sr ss objects)
      < 2 ^ 64 → shelf_of rp rq rr rs (shelf_snapshot sp sq sr ss objects) ≡ Some objects
  same objects is short =
      let a = sp objects.0 in
      let b = sq objects.1 in
      let c = sr objects.2 in
      let d = ss objects.3 in
      let ld = length-sized 8 d in
      let lc = length-sized 8 c in
      let lb = length-sized 8 b in
      let la = length-sized 8 a in
      let cd = length-append (sized 8 c) (sized 8 d) in
      let bcd = length-append (sized 8 b) (sized 8 c ++ sized 8 d) in
      let abcd = length-append (sized 8 a) (sized 8 b ++ (sized 8 c ++ sized 8 d)) in
      rw (
        texts_of-sized a b c d short,
        lp.same objects.0 is.0 (omega arith),
        lq.same objects.1 is.1 (omega arith),
        lr.same objects.2 is.2 (omega arith),
        ls.same objects.3 is.3 (omega arith),
      ) refl

  only : (bytes : List ℕ) (objects : P × Q × R × S) → AreBytes bytes → shelf_of rp rq rr rs bytes ≡ Some objects
      → AreContents IsP IsQ IsR IsS objects × (shelf_snapshot sp sq sr ss objects ≡ bytes)
  only bytes objects are is =
      let found = and_then_some (objects_of rp rq rr rs) (texts_of bytes) objects is in
      let texts = found.0 in
      let read = texts_of-exact bytes texts are found.1 in
      let pairs = four_some (both_of (both_of (rp texts.0) (rq texts.1)) (both_of (rr texts.2) (rs texts.3))) objects found.2 in
      let halves = both_some (both_of (rp texts.0) (rq texts.1)) (both_of (rr texts.2) (rs texts.3)) _ pairs in
      let front = both_some (rp texts.0) (rq texts.1) _ halves.0 in
      let back = both_some (rr texts.2) (rs texts.3) _ halves.1 in
      let p = lp.only texts.0 objects.0 read.first front.0 in
      let q = lq.only texts.1 objects.1 read.second front.1 in
      let r = lr.only texts.2 objects.2 read.third back.0 in
      let s = ls.only texts.3 objects.3 read.fourth back.1 in
      ((p.0, q.0, r.0, s.0), rw (p.1, q.1, r.1, s.1) read.whole)

  -- Exactly the snapshots of four contents are restored, if each object restores exactly its own.
  pub shelves_restore : HasExactSnapshots (AreContents IsP IsQ IsR IsS) (shelf_snapshot sp sq sr ss) (shelf_of rp rq rr rs)
  shelves_restore = record { same = same; only = only }
