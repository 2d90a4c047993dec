use Rattle.std.proofs.Common.{refl}
use Rattle.om_signs.specs.declared.sign.Sign.TheVariants.{Minus}
use Rattle.om_lines.specs.Words.{byte_of}
use Rattle.om_document.proofs.Pushes.{mapped_more, mapped_all}
use Rattle.om_document.proofs.printer.push_row.Goals as goal

pub loop-sign-preserved : goal.loop-sign-preserved
loop-sign-preserved c =
    mapped_more byte_of c.args.signs.now c.loop-sign.sign-index Minus _ c.loop-sign.out.items c.args.out.now.items
    c.push.new.self.items c.byte_of_sign.result c.loop-sign-test.true c.loop-sign.invariant refl
    c.byte_of_sign.ensures c.in_ok-push.ensures.items

pub returns : goal.returns
returns c =
    mapped_all byte_of c.args.signs.now c.loop-sign.sign-index c.loop-sign.out.items c.args.out.now.items
    c.push-2.new.self.items 10 c.loop-sign-test.false c.loop-sign.invariant c.in_ok-push-2.ensures.items
