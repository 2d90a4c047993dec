use Rattle.std.proofs.Common.{◌++◌, ap, ◌∙◌}
use Rattle.om_reply.specs.VerdictText.{lines_text, block_lines}
use Rattle.om_reply.proofs.claim_text.print_claim.Goals as goal

pub returns : goal.returns
returns c = c.in_ok-push_block.ensures
    ∙ ap (λ bytes. bytes ++ lines_text (block_lines c.args.claim.now.verdict)) c.in_ok-text.ensures.bytes
