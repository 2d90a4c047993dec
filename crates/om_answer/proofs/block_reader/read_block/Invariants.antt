use Rattle.std.proofs.Common.{◌≡◌, ◌≤◌, ◌+◌, length}
use Rattle.om_lines.specs.Lines.{lines}
use Rattle.om_answer.specs.declared.block.Block.TheVariants.{Empty}
use Rattle.om_answer.specs.BlockReading.{block_outcome}
use Rattle.om_answer.proofs.block_reader.read_block.Given as goal

abbrev pub invariant-loop-rest : goal.invariant-loop-rest
invariant-loop-rest l =
    record {
      same : block_outcome l.block l.count (lines l.rest) ≡ block_outcome Empty l.fn.line (lines l.fn.bytes);
      small : l.count + length l.rest ≤ l.fn.line + length l.fn.bytes;
    }

abbrev pub decreases-loop-rest : goal.decreases-loop-rest
decreases-loop-rest l = length l.rest
