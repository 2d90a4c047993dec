use Rattle.std.proofs.Common.{arith, ap, ◌∙◌, take, ◌++◌, ◌+◌, ◌-◌, length}
use Rattle.std.proofs.lemmas.Slice.{take-put_mid}
use Rattle.om_reply.proofs.usage_line.put.Goals as goal

pub returns-clause-front : goal.returns-clause-front
returns-clause-front c =
    let same = c.copy_from_slice.ensures.after in
    take-put_mid c.args.at (c.args.at + length c.args.bytes.now - c.args.at) c.args.text.now c.copy_from_slice.new.self
    (c.args.at + length c.args.bytes.now)
    (let len = ap length same in omega (arith, len)) (let room = c.requires in omega (arith, room))
    ∙ ap (λ bytes. take c.args.at c.args.text.now ++ bytes) same
