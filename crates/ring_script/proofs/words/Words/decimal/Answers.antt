use Rattle.std.proofs.Common.{sym, ap, ◌∙◌}
use Rattle.ring_script.specs.Numbers.{decimal_at}
use Rattle.ring_script.specs.Words.{pieces_left}
use Rattle.ring_script.proofs.Digits.{decimal-none, decimal-broken, decimal-read}
use Rattle.ring_base.proofs.ListFronts.{rest_whole}
use Rattle.ring_script.proofs.words.Words.decimal.Goals as goal

pub returns-then-not-have_no_leading_zero : goal.returns-then-not-have_no_leading_zero
returns-then-not-have_no_leading_zero c =
    let separator = c.self.inside.separator in
    let seen = sym c.self.view_is ∙ ap (pieces_left separator) c.in-Some.is in
    ap decimal_at seen ∙ decimal-none separator c.in-Some.text.now c.leading_digits-digits.result.count c.leading_digits-digits.result.value
    c.self.invariant c.leading_digits-digits.ensures (sym c.if-not-have_no_leading_zero.ensures)

pub returns-in-Err : goal.returns-in-Err
returns-in-Err c =
    let separator = c.self.inside.separator in
    let text = c.in-Some.text.now in
    let n = c.leading_digits-digits.result.count in
    let seen = sym c.self.view_is ∙ ap (pieces_left separator) c.in-Some.is in
    let failed = rw (rest_whole n text) at c.in-Err.ensures.failed in
    rw failed.0
    (ap decimal_at seen ∙ decimal-broken separator text n c.leading_digits-digits.result.value c.self.invariant c.leading_digits-digits.ensures failed.1 failed.2)

pub returns-in-Ok : goal.returns-in-Ok
returns-in-Ok c =
    let separator = c.self.inside.separator in
    let text = c.in-Some.text.now in
    let n = c.leading_digits-digits.result.count in
    let seen = sym c.self.view_is ∙ ap (pieces_left separator) c.in-Some.is in
    let parted = rw (rest_whole n text) at c.in-Ok.ensures.left in
    ap decimal_at seen ∙ decimal-read separator text n c.leading_digits-digits.result.value c.in-Ok.rest
    c.self.invariant c.leading_digits-digits.ensures (sym c.if-not-have_no_leading_zero.ensures) parted
