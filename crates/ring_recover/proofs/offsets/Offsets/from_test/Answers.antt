-- The bit of a number that passes is set, and that of any other stays clear.
use Rattle.std.proofs.Common.{◌≡◌, ℕ, ◌<◌, Bool, refl, sym, ◌∙◌, arith}
use Rattle.ring_recover.proofs.NumbersPassing.{such_more}
use Rattle.ring_recover.proofs.offsets.Offsets.from_test.Goals.{then-test, else-test}
use Rattle.ring_recover.proofs.offsets.Offsets.from_test.Given as given
use Rattle.ring_recover.proofs.offsets.Offsets.from_test.Goals as goal

pub loop-j-preserved : goal.loop-j-preserved
loop-j-preserved g c =
    let P : (ℕ → Bool) → Type 0 = λ t. (j : ℕ) (r : Bool) → j < 256 → given.F-post
    (given.the-over g.row.F g.F.laws g.F.Fn g.F.Fn-dict g.F.FnMut-dict g.F.FnOnce-dict g.F.Destruct-dict g.world
    g.met.F.Fn g.met.F.FnMut g.met.F.FnOnce g.met.F.Destruct) c.args.test j r → r ≡ t j in
    elim c.if-test.branch [
      | then-test w ↦ rw w.offsets-is (
        λ t h i l. such_more P c.loop-j.offsets.words w.insert.new.self.words c.loop-j.j (λ u k. w.insert.ensures.this ∙ sym w.if-test.true
            ∙ k c.loop-j.j c.test.result (omega arith) c.test.ensures) w.insert.ensures.others c.loop-j.invariant.0 t h i l,
        λ i l. w.insert.ensures.others i (λ e. omega arith) ∙ c.loop-j.invariant.1 i (omega arith),
      )
      | else-test w ↦ rw w.offsets-is (
        λ t h i l. such_more P c.loop-j.offsets.words c.loop-j.offsets.words c.loop-j.j (λ u k. c.loop-j.invariant.1 c.loop-j.j (omega arith)
            ∙ sym w.if-test.false ∙ k c.loop-j.j c.test.result (omega arith) c.test.ensures) (λ i ne. refl) c.loop-j.invariant.0 t h i l,
        λ i l. c.loop-j.invariant.1 i (omega arith),
      )
    ]

pub returns : goal.returns
returns g c = λ t h i l. c.loop-j.invariant.0 t h i (omega arith)
