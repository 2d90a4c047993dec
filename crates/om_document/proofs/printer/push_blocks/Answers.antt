use Rattle.om_document.proofs.Printing.{blocks_more}
use Rattle.om_document.specs.Print.{text_of, block_lines}
use Rattle.om_document.proofs.Pushes.{taken_all}
use Rattle.om_document.proofs.printer.push_blocks.Goals as goal

pub loop-block-preserved : goal.loop-block-preserved
loop-block-preserved c = blocks_more c.args.out.now.items _ _ c.args.blocks.now c.loop-block.block-index _
    c.loop-block-test.true c.loop-block.invariant c.in_ok-push_block.ensures

pub returns : goal.returns
returns c =
    taken_all (λ bs. text_of (block_lines bs)) c.args.blocks.now c.loop-block.block-index c.loop-block.out.items
    c.args.out.now.items c.loop-block-test.false c.loop-block.invariant
