use Rattle.std.proofs.Common.{◌≡◌, length, sym, ◌∙◌, arith}
use Rattle.om_text.proofs.Joined.{part_room, part_length, part_same, part_more, part_end}
use Rattle.om_text.proofs.body_lines.sign_vector.Goals as goal
use Rattle.om_text.proofs.body_lines.sign_vector.Goals.{then-not-is_blank_byte, else-not-is_blank_byte}

pub overflow_add-e : goal.overflow_add-e
overflow_add-e c =
    let r = part_room c.args.elements c.args.line.now c.loop-b.b-index c.loop-b.e c.loop-b.vector c.loop-b.invariant
    c.loop-b-test.true (sym c.is_blank_byte.ensures ∙ c.if-not-is_blank_byte.true) c.requires.len in
    omega arith

pub set-vector-requires-clause-high : goal.set-vector-requires-clause-high
set-vector-requires-clause-high c =
    let r = part_room c.args.elements c.args.line.now c.loop-b.b-index c.loop-b.e c.loop-b.vector c.loop-b.invariant
    c.loop-b-test.true (sym c.is_blank_byte.ensures ∙ c.if-not-is_blank_byte.true) c.requires.len in
    let l : length c.loop-b.vector ≡ c.args.elements =
    part_length c.args.elements c.args.line.now c.loop-b.b-index c.loop-b.e c.loop-b.vector c.loop-b.invariant
    (omega arith) in
    omega arith

pub loop-b-preserved : goal.loop-b-preserved
loop-b-preserved c =
    elim c.if-not-is_blank_byte.branch [
      | then-not-is_blank_byte w ↦
          rw (w.e-is, w.vector-is, w.set-vector.ensures, w.sign_of_byte.ensures)
          (part_more c.args.elements c.args.line.now c.loop-b.b-index c.loop-b.e c.loop-b.vector c.loop-b.invariant
          c.loop-b-test.true (sym c.is_blank_byte.ensures ∙ w.if-not-is_blank_byte.true) c.requires.len)
      | else-not-is_blank_byte w ↦
          rw (w.e-is, w.vector-is)
          (part_same c.args.elements c.args.line.now c.loop-b.b-index c.loop-b.e c.loop-b.vector c.loop-b.invariant
          c.loop-b-test.true (sym c.is_blank_byte.ensures ∙ w.if-not-is_blank_byte.false))
    ]

pub returns : goal.returns
returns c = part_end c.args.elements c.args.line.now c.loop-b.b-index c.loop-b.e c.loop-b.vector c.loop-b.invariant
    c.loop-b-test.false c.requires.len
