use Rattle.std.proofs.Common.{◌≡◌, ◌+◌, get_or, None, Err, sym, ap, ◌∙◌, arith}
use Rattle.std.proofs.lemmas.Result.{err_from_is_err_and}
use Rattle.sheet.proofs.Numbers.{one_more, first_other, all_digits, digit_small, room}
use Rattle.sheet.proofs.hex.number.Goals as goal

pub returns-in_err-digit-clause-value : goal.returns-in_err-digit-clause-value
returns-in_err-digit-clause-value c =
    let none : c.digit_value.result ≡ None = grind arith in
    let other : c.in_err-digit.field-0.0 ≡ record { place = c.args.place + c.loop-i.i } = grind arith in
    let p = err_from_is_err_and c.from_residual.result c.from_residual.ensures.1 in
    p.1 ∙ ap Err (p.2 ∙ other) ∙ sym (first_other c.args.field.now c.loop-i.i c.loop-i.value c.loop-i.invariant c.loop-i-test.true c.args.place (sym c.digit_value.ensures ∙ none))

pub overflow_mul-value : goal.overflow_mul-value
overflow_mul-value c = omega (arith, room c.args.field.now c.loop-i.i c.loop-i.value c.loop-i.invariant (omega (arith, c.loop-i-test.true, c.requires.few)))

pub overflow_add-value : goal.overflow_add-value
overflow_add-value c =
    omega (
      arith,
      room c.args.field.now c.loop-i.i c.loop-i.value c.loop-i.invariant (omega (arith, c.loop-i-test.true, c.requires.few)),
      digit_small (get_or c.args.field.now c.loop-i.i 0) c.in_ok-digit.digit (sym c.digit_value.ensures ∙ (grind arith)),
    )

pub loop-i-preserved : goal.loop-i-preserved
loop-i-preserved c = one_more c.args.field.now c.loop-i.i c.loop-i.value c.loop-i.invariant c.loop-i-test.true c.in_ok-digit.digit (sym c.digit_value.ensures ∙ (grind arith))

pub returns-clause-value : goal.returns-clause-value
returns-clause-value c = sym (all_digits c.args.field.now c.loop-i.i c.loop-i.value c.loop-i.invariant c.args.place (omega (arith, c.loop-i-test.false)))
