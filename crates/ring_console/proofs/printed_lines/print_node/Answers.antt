use Rattle.std.proofs.Common.{rules, ◌≡◌, OnOk, ℕ, List, [], ◌∷◌, ◌++◌, sym, subst, ◌∙◌, append_assoc}
use Rattle.std.specs.Prelude.{codes}
use Rattle.std.specs.Fmt.{decimal}
use Rattle.std.specs.Io.KnownBytes.{Appends}
use Rattle.ring_base.specs.Rings.{ring_text}
use Rattle.ring_failure.specs.Texts.{line_of}
use Rattle.ring_failure.specs.Texts.{state_name_text}
use Rattle.ring_console.specs.OutputLines.{node_text, trimmed_text}
use Rattle.ring_console.proofs.printed_lines.print_node.Goals as goal

-- Eleven pieces and the end of a line, as `writeln!` joins them.
joined : (a b c d e f g h i j k : List ℕ)
    → a ++ (b ++ (c ++ (d ++ (e ++ (f ++ (g ++ (h ++ (i ++ (j ++ (k ++ 10 ∷ [])))))))))) ≡ line_of (a ++ b ++ c ++ d ++ e ++ f ++ g ++ h ++ i ++ j ++ k)
joined a b c d e f g h i j k =
    sym (append_assoc _ k _ ∙ append_assoc _ j _ ∙ append_assoc _ i _ ∙ append_assoc _ h _ ∙ append_assoc _ g _ ∙ append_assoc _ f _ ∙ append_assoc _ e _
    ∙ append_assoc _ d _ ∙ append_assoc _ c _ ∙ append_assoc a b _)

pub returns-clause-line : goal.returns-clause-line
returns-clause-line g c =
    let a = c.args in
    let Told : List ℕ → Type 0 = λ text. OnOk c.writeln.result (Appends (g.W.Write.contents a.out.now) (g.W.Write.contents c.writeln.new.self) text) in
    let named = c.number-node.ensures.value in
    let written : Told _ = rw named at c.writeln.ensures.bytes in
    let word = c.state_name-state.ensures in
    let told : Told (line_of (node_text a.node a.state a.ring a.committed a.log a.trimmed)) =
    subst Told (joined (codes "node ") (decimal a.node) (codes " ") (state_name_text a.state) (codes " ")
    (ring_text a.ring) (codes " committed ") (decimal a.committed) (codes " log ") (decimal a.log) (trimmed_text a.trimmed))
    (rw word at written) in
    search (rules, told)
