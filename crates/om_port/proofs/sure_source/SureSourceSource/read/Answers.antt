use Rattle.std.proofs.Common.{ap, ◌∙◌, take, drop, length, ◌-◌, arith, Ok}
use Rattle.std.proofs.lemmas.List.{take_rest}
use Rattle.om_port.proofs.Known.{read_step}
use Rattle.om_port.proofs.PlannedReads.{given_bound, given_whole}
use Rattle.om_port.proofs.sure_source.SureSourceSource.read.Goals as goal

pub returns-clause-bytes : goal.returns-clause-bytes
returns-clause-bytes c =
    let m = c.min-count.ensures in
    read_step c.self.inside.bytes.items _ c.args.buf.now c.copy_from_slice.new.self c.args.self.now c.self.inside.at
    c.min-count.result
    c.self.view_is
    (ap (λ xs. take (length xs - c.self.inside.at) (drop c.self.inside.at xs)) c.as_slice.ensures.value
    ∙ take_rest c.self.inside.bytes.items c.self.inside.at)
    (omega arith) (omega arith) (λ z some. omega arith)
    c.copy_from_slice.ensures.after

pub returns-clause-bound : goal.returns-clause-bound
returns-clause-bound c =
    let m = c.min-count.ensures in
    given_bound c.copy_from_slice.new.self c.args.buf.now c.min-count.result (omega arith) c.copy_from_slice.ensures.len

pub returns-clause-sure : goal.returns-clause-sure
returns-clause-sure c = ap Ok (given_whole c.copy_from_slice.new.self c.args.buf.now _ _ c.min-count.result
    (ap (λ xs. take (length xs - c.self.inside.at) (drop c.self.inside.at xs)) c.as_slice.ensures.value
    ∙ take_rest c.self.inside.bytes.items c.self.inside.at ∙ c.self.view_is)
    c.min-count.ensures c.copy_from_slice.ensures.len)
