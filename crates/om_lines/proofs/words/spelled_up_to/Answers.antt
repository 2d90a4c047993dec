use Rattle.std.proofs.Common.{◌≡◌, sym, ap, ◌∙◌, drop, ◌+◌, get_or, ◌*◌, ◌-◌, arith}
use Rattle.std.proofs.lemmas.List.{at_drop_all}
use Rattle.om_lines.specs.Words.{number_from, up_to}
use Rattle.om_lines.proofs.Digits.{number_step, past_limit, not_past}
use Rattle.om_lines.proofs.words.spelled_up_to.Goals as goal

pub returns-then-limit-number : goal.returns-then-limit-number
returns-then-limit-number c =
    sym (ap (up_to c.args.limit)
    (sym c.loop-b.invariant.same ∙ number_step c.args.word.now c.loop-b.b-index c.loop-b.number c.loop-b-test.true)
    ∙ past_limit c.args.limit (10 * c.loop-b.number + (get_or c.args.word.now c.loop-b.b-index 0 - 48))
    (drop (c.loop-b.b-index + 1) c.args.word.now) (omega arith))

pub loop-b-preserved : goal.loop-b-preserved
loop-b-preserved c = record {
  small = c.if-limit-number.false;
  same = ap (λ d. number_from (10 * c.loop-b.number + d) (drop (c.loop-b.b-index + 1) c.args.word.now)) c.from.ensures
      ∙ sym (number_step c.args.word.now c.loop-b.b-index c.loop-b.number c.loop-b-test.true)
      ∙ c.loop-b.invariant.same;
}

pub returns : goal.returns
returns c =
    let all : number_from c.loop-b.number (drop c.loop-b.b-index c.args.word.now) ≡ c.loop-b.number =
    at_drop_all (number_from c.loop-b.number) c.args.word.now c.loop-b.b-index c.loop-b-test.false in
    sym (ap (up_to c.args.limit) (sym c.loop-b.invariant.same ∙ all)
    ∙ not_past c.args.limit c.loop-b.number c.loop-b.invariant.small)
