use Rattle.std.proofs.Common.{◌≡◌, ◌<◌, get_or, arith, refl, ap}
use Rattle.std.specs.Prelude.{Some}
use Rattle.std.proofs.lemmas.Int.{ints}
use Rattle.om_lines.proofs.Digits.{signed_minus, signed_minus_none}
use Rattle.om_lines.specs.Words.{negative}
use Rattle.om_lines.proofs.words.signed_number.Goals as goal

pub returns-in-Some-clause-value : goal.returns-in-Some-clause-value
returns-in-Some-clause-value c =
    let minus : get_or c.args.word.now 0 0 ≡ 45 = omega arith in
    let some : 0 < c.in-Some.number = omega arith in
    let within = c.in-Some.ensures.within in
    signed_minus c.args.limit c.in-Some.number c.args.word.now _ c.in-45.len_at_least minus c.in-Some.ensures.value some
    (omega (arith, ints))

pub returns-in-Some-eq0-clause-value : goal.returns-in-Some-eq0-clause-value
returns-in-Some-eq0-clause-value c =
    let minus : get_or c.args.word.now 0 0 ≡ 45 = omega arith in
    let zero : c.in-Some-eq0.field-0 ≡ 0 = omega arith in
    signed_minus_none c.args.limit c.args.word.now _ c.in-45.len_at_least minus c.in-Some-eq0.ensures.value
    (ap (λ n. negative (Some n)) zero)

pub returns-in-None-clause-value : goal.returns-in-None-clause-value
returns-in-None-clause-value c =
    let minus : get_or c.args.word.now 0 0 ≡ 45 = omega arith in
    signed_minus_none c.args.limit c.args.word.now _ c.in-45.len_at_least minus c.in-None.ensures.value refl
