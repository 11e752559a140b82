-- The rest of an operation on a set of names, after its code, is a name.
use Rattle.std.proofs.Common.{◌≡◌, ℕ, ◌-◌, ◌≤◌, ◌==◌, false, if◌then◌else◌, List, [], ◌∷◌, length, get_or, take, drop, None, refl}
use Rattle.std.proofs.Common.{sym, ◌∙◌, subst, arith}
use Rattle.std.proofs.lemmas.Bool.{cond-true, eqb-false, le-leb, and_from}
use Rattle.std.proofs.lemmas.List.{take_rest}
use Rattle.ring_object.specs.Bytes.{AreBytes}
use Rattle.ring_things.specs.ReplyBytes.{AreBytes-drop}
use Rattle.ring_things.specs.Names.{IsName, is_name, name_operation, decoding}

-- The bytes after the code.
abbrev behind : List ℕ → List ℕ
behind op = take (length op - 1) (drop 1 op)

-- A code, and after it no more bytes than a name may have.
pub record IsNamed (op : List ℕ) : Type 0 where
  pub code : 1 ≤ length op
  pub some : false ≡ (length (behind op) == 0)
  pub short : length (behind op) ≤ 64
  pub bytes : AreBytes op

pub named : {op name : List ℕ} → IsNamed op → name ≡ behind op → IsName name
named {op} op_is is =
    let none = eqb-false (length (behind op)) 0 (sym op_is.some) in
    subst IsName (sym is) (record { some = omega (arith, none); short = op_is.short; bytes = rw take_rest (AreBytes-drop 1 op op_is.bytes) })

parts : (op : List ℕ) → 1 ≤ length op → decoding op ≡ (if is_name (drop 1 op) then name_operation (get_or op 0 0) (drop 1 op) else None)
parts [] code = absurd (omega arith)
parts (code ∷ name) some = refl

pub asked : {op name : List ℕ} → IsNamed op → name ≡ behind op → decoding op ≡ name_operation (get_or op 0 0) name
asked {op} {name} op_is is =
    let fits = named op_is is in
    subst (λ xs. decoding op ≡ (if is_name xs then name_operation (get_or op 0 0) xs else None)) (sym (is ∙ take_rest op 1)) (parts op op_is.code)
    ∙ cond-true (is_name name) _ _ (and_from _ _ (le-leb _ _ fits.some) (le-leb _ _ fits.short))
