use Rattle.std.specs.Prelude.{filter}
use Rattle.om_document.specs.Print.{text_of, member_lines}
use Rattle.om_document.specs.PrintTwo.{begins_with_plus}
use Rattle.om_document.proofs.PrintingTwo.{begun_more}
use Rattle.om_document.proofs.Pushes.{taken_all}
use Rattle.om_document.proofs.printer_two.push_begun.Goals as goal

pub loop-member-preserved : goal.loop-member-preserved
loop-member-preserved c = begun_more c.args.out.now.items _ _ c.args.members.now c.loop-member.member-index
    c.member-item.result c.loop-member-test.true c.member-item.is c.loop-member.invariant c.in_ok-push_if_begun.ensures

pub returns : goal.returns
returns c =
    taken_all (λ ms. text_of (member_lines (filter begins_with_plus ms))) c.args.members.now c.loop-member.member-index
    c.loop-member.out.items c.args.out.now.items c.loop-member-test.false c.loop-member.invariant
