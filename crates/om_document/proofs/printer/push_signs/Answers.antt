use Rattle.std.proofs.Common.{arith, ap, ◌∙◌, take, map}
use Rattle.std.proofs.Transfers.{starts_with_of_append}
use Rattle.om_signs.specs.declared.sign.Sign.TheVariants.{Zero}
use Rattle.om_signs.specs.SignVec.{at}
use Rattle.om_lines.specs.Words.{byte_of}
use Rattle.om_document.proofs.Pushes.{mapped_more, taken_all}
use Rattle.om_document.proofs.printer.push_signs.Goals as goal

pub loop-place-preserved : goal.loop-place-preserved
loop-place-preserved c =
    mapped_more byte_of c.args.vector c.loop-place.place Zero c.get.result c.loop-place.out.items c.args.out.now.items
    c.push.new.self.items c.byte_of_sign.result (omega arith) c.loop-place.invariant
    (c.get.ensures ∙ ap (at c.args.vector) (omega arith)) c.byte_of_sign.ensures c.in_ok-push.ensures.items

pub returns-clause-ok : goal.returns-clause-ok
returns-clause-ok c =
    taken_all (map byte_of) c.args.vector c.loop-place.place c.loop-place.out.items c.args.out.now.items
    (omega arith) c.loop-place.invariant

pub returns-clause-kept : goal.returns-clause-kept
returns-clause-kept c =
    starts_with_of_append c.loop-place.out.items c.args.out.now.items
    (map byte_of (take c.loop-place.place c.args.vector)) c.loop-place.invariant

pub returns-in_err-push-clause-kept : goal.returns-in_err-push-clause-kept
returns-in_err-push-clause-kept c =
    starts_with_of_append c.push.new.self.items c.args.out.now.items
    (map byte_of (take c.loop-place.place c.args.vector)) (c.in_err-push.ensures.items ∙ c.loop-place.invariant)
