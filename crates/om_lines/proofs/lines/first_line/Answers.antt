use Rattle.om_lines.proofs.Scan.{line_split, line_whole, feed_split, whole_split}
use Rattle.om_lines.proofs.lines.first_line.Goals as goal

pub returns-then-end-bytes-clause-lines : goal.returns-then-end-bytes-clause-lines
returns-then-end-bytes-clause-lines c =
    line_split c.args.bytes.now c.len_before-end.result c.requires c.len_before-end.ensures.value

pub returns-else-end-bytes-clause-lines : goal.returns-else-end-bytes-clause-lines
returns-else-end-bytes-clause-lines c =
    line_whole c.args.bytes.now c.len_before-end.result c.requires c.len_before-end.ensures.value c.if-end-bytes.false

pub returns-then-end-bytes-clause-split : goal.returns-then-end-bytes-clause-split
returns-then-end-bytes-clause-split c =
    feed_split c.args.bytes.now c.len_before-end.result c.len_before-end.ensures.value c.if-end-bytes.true

pub returns-else-end-bytes-clause-split : goal.returns-else-end-bytes-clause-split
returns-else-end-bytes-clause-split c = whole_split c.args.bytes.now c.len_before-end.result c.if-end-bytes.false
