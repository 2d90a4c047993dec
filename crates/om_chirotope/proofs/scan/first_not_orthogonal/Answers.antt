use Rattle.std.proofs.Common.{refl, arith, sym, ◌∙◌, subst, inl, inr, []}
use Rattle.std.proofs.Math.ListN.{get_or}
use Rattle.std.proofs.lemmas.Bool.{cases_eq, false≢true}
use Rattle.std.proofs.lemmas.List.{get_or_default}
use Rattle.om_signs.specs.SignVec.{IsOrthogonal}
use Rattle.om_chirotope.proofs.scan.first_not_orthogonal.Goals as goal

pub loop-k-preserved : goal.loop-k-preserved
loop-k-preserved c = λ j g l. elim (cases_eq j c.loop-k.k) [
  | inl q ↦
      let test = c.loop-k-test.true in
      let within = c.requires.within in
      subst (λ i. IsOrthogonal c.args.vector (get_or c.args.table.now i [])) (sym q)
      (subst (IsOrthogonal c.args.vector)
      (c.index-table-k.is
      ∙ get_or_default c.args.table.now c.loop-k.k c.index-table-k.result [] (omega (arith, test, within)))
      (c.if-not-orthogonal.ensures.0 refl))
  | inr n ↦ c.loop-k.invariant j g (omega (arith, l, n))
]

pub returns-clause-none : goal.returns-clause-none
returns-clause-none c = λ j g l. c.loop-k.invariant j g (let over = c.loop-k-test.false in omega (arith, over, l))

pub loop-k-init : goal.loop-k-init
loop-k-init c = λ j g l. absurd (omega (arith, g, l))

pub returns-then-not-orthogonal-clause-before : goal.returns-then-not-orthogonal-clause-before
returns-then-not-orthogonal-clause-before c = c.loop-k.invariant

pub returns-then-not-orthogonal-clause-here : goal.returns-then-not-orthogonal-clause-here
returns-then-not-orthogonal-clause-here c = λ o.
    let test = c.loop-k-test.true in
    let within = c.requires.within in
    false≢true
    (c.if-not-orthogonal.ensures.1
    (subst (IsOrthogonal c.args.vector)
    (sym
    (c.index-table-k.is
    ∙ get_or_default c.args.table.now c.loop-k.k c.index-table-k.result [] (omega (arith, test, within))))
    o))
