use Rattle.std.proofs.Common.{refl, arith}
use Rattle.std.proofs.lemmas.Grind.{common_steps}
use Rattle.om_reply.specs.VerdictText.{entry_words}
use Rattle.om_reply.proofs.BlockTexts.{lines_more}
use Rattle.om_reply.proofs.verdict_lines.push_entries.Goals as goal

pub loop-entry-preserved : goal.loop-entry-preserved
loop-entry-preserved c = lines_more entry_words c.args.text.now.items _ _ c.args.entries.now c.loop-entry.entry-index _
    _ c.loop-entry-test.true refl c.loop-entry.invariant c.in_ok-push_entry.ensures

pub returns : goal.returns
returns c = grind (arith, common_steps)
