use Rattle.std.proofs.Common.{arith}
use Rattle.std.proofs.lemmas.Grind.{common_steps}
use Rattle.om_reply.proofs.SignatureLaws.{signatures_more}
use Rattle.om_reply.proofs.extension_text.push_signatures.Goals as goal

pub loop-signature-preserved : goal.loop-signature-preserved
loop-signature-preserved c =
    signatures_more c.args.text.now.items _ _ c.args.signatures.now c.loop-signature.signature-index
    c.signature-item.result c.loop-signature-test.true c.signature-item.is c.loop-signature.invariant
    c.in_ok-push_signature_line.ensures

pub returns : goal.returns
returns c = grind (arith, common_steps)
