use Rattle.std.proofs.Common.{◌++◌, ap, sym, ◌∙◌, arith}
use Rattle.std.proofs.lemmas.List.{take_all}
use Rattle.om_text.proofs.Joined.{signs_of_bytes, signs-runs}
use Rattle.om_text.proofs.body_lines.push_signs.Goals as goal

pub returns : goal.returns
returns c =
    c.loop-b.invariant
    ∙ ap (λ r. c.args.signs.now ++ r) (ap signs_of_bytes (take_all c.loop-b.b-index c.args.line.now (omega arith))
    ∙ sym (signs-runs c.args.line.now))
