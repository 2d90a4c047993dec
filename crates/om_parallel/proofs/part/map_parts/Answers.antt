use Rattle.std.proofs.Common.{◌≡◌, ◌+◌, ◌/◌, ℕ, length, subst, arith}
use Rattle.std.specs.Result.{IfOk}
use Rattle.om_parallel.specs.Parts.{AreGivenFrom}
use Rattle.om_parallel.proofs.PartLaws.{given_both}
use Rattle.om_parallel.proofs.part.map_parts.Goals as goal

-- for the first range
from_zero : (n m : ℕ) → n ≡ m → 0 + n ≡ m
from_zero n m e = omega arith

pub returns-clause-each : goal.returns-clause-each
returns-clause-each g c =
    let gives = g.P.Part.gives c.args.parts.now in
    let middle = c.args.count / 2 in
    let first : (length c.in_ok-answers.answers.items ≡ middle) × AreGivenFrom gives 0 c.in_ok-answers.answers.items =
    subst (λ r. IfOk r (λ v. length v.items ≡ middle) × IfOk r (λ v. AreGivenFrom gives 0 v.items))
    c.in_ok-answers.was c.join-first.ensures.first in
    let second : AreGivenFrom gives middle c.in_ok-rest.rest.items =
    subst (λ r. IfOk r (λ v. AreGivenFrom gives middle v.items)) c.in_ok-rest.was c.join-first.ensures.second.1 in
    given_both gives 0 middle c.in_ok-answers.answers.items c.in_ok-rest.rest.items c.append.new.self.items
    c.in_ok-append.ensures.items (from_zero _ _ first.0) first.1 second
