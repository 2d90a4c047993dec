use Rattle.std.proofs.Common.{◌≡◌, ◌-◌, length, ap, ◌∙◌, arith, rules}
use Rattle.std.specs.Prelude.{min}
use Rattle.om_port.specs.Causes.{raised}
use Rattle.om_port.proofs.mem_sink.MemSinkSink.write.Goals as goal

pub returns-then-told-clause-cause : goal.returns-then-told-clause-cause
returns-then-told-clause-cause c =
    let view : c.self.inside.plan.faults ≡ c.args.self.now.faults = ap (λ h. h.faults) c.self.view_is in
    let begun : c.begin-told.new.self.faults ≡ c.self.inside.plan.faults =
    ap (λ p. p.faults) c.begin-told.ensures.plan in
    let counted : c.fail.new.self.faults ≡ raised c.begin-told.new.self.faults =
    ap (λ p. p.faults) c.fail.ensures.plan in
    let below = c.fail.ensures.later in
    record { later = omega arith; failed = omega arith }

pub returns-clause-calls : goal.returns-clause-calls
returns-clause-calls c = ap (λ p. p.calls) c.begin-told.ensures.plan ∙ ap (λ f. raised f.calls) c.self.view_is

pub returns-clause-faults : goal.returns-clause-faults
returns-clause-faults c = ap (λ p. p.faults) c.begin-told.ensures.plan ∙ ap (λ f. f.faults) c.self.view_is

pub returns-clause-failing : goal.returns-clause-failing
returns-clause-failing c = ap (λ p. p.failing) c.begin-told.ensures.plan ∙ ap (λ f. f.failing) c.self.view_is

pub returns-clause-piece : goal.returns-clause-piece
returns-clause-piece c = ap (λ f. f.piece) c.self.view_is

pub returns-clause-room : goal.returns-clause-room
returns-clause-room c = ap (λ f. f.room) c.self.view_is

pub returns-clause-cause : goal.returns-clause-cause
returns-clause-cause c = record { later = omega (arith, returns-clause-faults c); failed = search rules }

pub returns-clause-count : goal.returns-clause-count
returns-clause-count c =
    let free : c.self.inside.room - c.len.result ≡ c.self.inside.room - length c.self.inside.bytes.items =
    omega (arith, c.len.ensures, c.self.inside.bytes.ok) in
    c.min-count.ensures
    ∙ ap (λ k. min k c.self.inside.piece) (c.min.ensures ∙ ap (min (length c.args.bytes.now)) free)
    ∙ ap (λ h. min (min (length c.args.bytes.now) (h.room - length h.bytes)) h.piece) c.self.view_is

pub returns-then-told-clause-bytes : goal.returns-then-told-clause-bytes
returns-then-told-clause-bytes c = ap (λ h. h.bytes) c.self.view_is
