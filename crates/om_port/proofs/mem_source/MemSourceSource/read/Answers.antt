use Rattle.std.proofs.Common.{◌≡◌, ap, ◌∙◌, take, drop, length, ◌-◌, arith, rules}
use Rattle.std.proofs.lemmas.List.{take_rest}
use Rattle.om_port.specs.Causes.{raised}
use Rattle.om_port.proofs.Known.{read_step}
use Rattle.om_port.proofs.PlannedReads.{told_of, given_bound, given_count}
use Rattle.om_port.proofs.mem_source.MemSourceSource.read.Goals as goal

pub returns-then-begin-clause-cause : goal.returns-then-begin-clause-cause
returns-then-begin-clause-cause c =
    let view : c.self.inside.plan.faults ≡ c.args.self.now.faults = ap (λ f. f.faults) c.self.view_is in
    let begun : c.begin.new.self.faults ≡ c.self.inside.plan.faults = ap (λ p. p.faults) c.begin.ensures.plan in
    let counted : c.fail.new.self.faults ≡ raised c.begin.new.self.faults = ap (λ p. p.faults) c.fail.ensures.plan in
    let below = c.fail.ensures.later in
    record { later = omega arith; failed = omega arith }

pub returns-clause-bytes : goal.returns-clause-bytes
returns-clause-bytes c =
    let m = c.min.ensures in
    let m2 = c.min-count.ensures in
    let piece = c.self.invariant.0 in
    read_step c.self.inside.bytes.items _ c.args.buf.now c.copy_from_slice.new.self c.args.self.now.bytes
    c.self.inside.at c.min-count.result
    (ap (λ f. f.bytes) c.self.view_is)
    (ap (λ xs. take (length xs - c.self.inside.at) (drop c.self.inside.at xs)) c.as_slice.ensures.value
    ∙ take_rest c.self.inside.bytes.items c.self.inside.at)
    (omega arith) (omega arith) (λ z some. omega arith)
    c.copy_from_slice.ensures.after

pub returns-clause-calls : goal.returns-clause-calls
returns-clause-calls c = ap (λ p. p.calls) c.begin.ensures.plan ∙ ap (λ f. raised f.calls) c.self.view_is

pub returns-clause-faults : goal.returns-clause-faults
returns-clause-faults c = ap (λ p. p.faults) c.begin.ensures.plan ∙ ap (λ f. f.faults) c.self.view_is

pub returns-clause-failing : goal.returns-clause-failing
returns-clause-failing c = ap (λ p. p.failing) c.begin.ensures.plan ∙ ap (λ f. f.failing) c.self.view_is

pub returns-clause-piece : goal.returns-clause-piece
returns-clause-piece c = ap (λ f. f.piece) c.self.view_is

pub returns-then-begin-clause-bytes : goal.returns-then-begin-clause-bytes
returns-then-begin-clause-bytes c = ap (λ f. f.bytes) c.self.view_is

pub returns-then-begin-clause-told : goal.returns-then-begin-clause-told
returns-then-begin-clause-told c =
    told_of _ _ _ _ _ _ c.begin.ensures.told c.if-begin.true (ap (λ f. f.failing) c.self.view_is)
    (ap (λ f. f.calls) c.self.view_is)

pub returns-clause-told : goal.returns-clause-told
returns-clause-told c =
    told_of _ _ _ _ _ _ c.begin.ensures.told c.if-begin.false (ap (λ f. f.failing) c.self.view_is)
    (ap (λ f. f.calls) c.self.view_is)

pub returns-clause-bound : goal.returns-clause-bound
returns-clause-bound c =
    let m = c.min.ensures in
    let m2 = c.min-count.ensures in
    given_bound c.copy_from_slice.new.self c.args.buf.now c.min-count.result (omega arith) c.copy_from_slice.ensures.len

pub returns-clause-count : goal.returns-clause-count
returns-clause-count c =
    given_count c.copy_from_slice.new.self c.args.buf.now _ _ c.min-count.result c.min.result _ _
    (ap (λ xs. take (length xs - c.self.inside.at) (drop c.self.inside.at xs)) c.as_slice.ensures.value
    ∙ take_rest c.self.inside.bytes.items c.self.inside.at ∙ ap (λ f. f.bytes) c.self.view_is)
    c.min.ensures c.min-count.ensures (ap (λ f. f.piece) c.self.view_is) c.copy_from_slice.ensures.len

pub returns-clause-cause : goal.returns-clause-cause
returns-clause-cause c = record { later = omega (arith, returns-clause-faults c); failed = search rules }
