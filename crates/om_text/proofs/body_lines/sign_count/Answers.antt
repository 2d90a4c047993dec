use Rattle.std.proofs.Common.{ap, sym, ◌∙◌}
use Rattle.std.proofs.lemmas.List.{drop_all}
use Rattle.om_text.proofs.Joined.{counted, counted-runs, counted_stops}
use Rattle.om_text.proofs.body_lines.sign_count.Goals as goal

pub returns-then-not-is_blank_byte : goal.returns-then-not-is_blank_byte
returns-then-not-is_blank_byte c =
    sym (counted_stops c.args.line.now c.loop-b.b-index c.loop-b.count c.loop-b-test.true
    (sym c.is_sign_byte.ensures ∙ c.if-is_sign_byte.false) (sym c.is_blank_byte.ensures ∙ c.if-not-is_blank_byte.true))
    ∙ c.loop-b.invariant.same ∙ counted-runs c.args.line.now

pub returns : goal.returns
returns c =
    sym (ap (counted c.loop-b.count) (drop_all c.loop-b.b-index c.args.line.now c.loop-b-test.false))
    ∙ c.loop-b.invariant.same ∙ counted-runs c.args.line.now
