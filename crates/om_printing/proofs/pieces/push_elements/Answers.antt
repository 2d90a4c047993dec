use Rattle.std.proofs.Common.{arith, sym, ◌∙◌}
use Rattle.std.proofs.lemmas.Bool.{false≢true}
use Rattle.om_printing.proofs.Elements.{joined_none, joined_element, joined_other, joined_all, joined_kept, kept_on}
use Rattle.om_printing.proofs.pieces.push_elements.Goals as goal
use Rattle.om_printing.proofs.pieces.push_elements.Goals.{then-has+in_ok-push_element, else-has}

pub loop-e-init : goal.loop-e-init
loop-e-init c = joined_none _ _ _ c.n-e-end.ensures.lawful

pub loop-e-preserved : goal.loop-e-preserved
loop-e-preserved c = elim c.if-has.branch [
  | then-has+in_ok-push_element w ↦
      rw (w.text-is, w.before-is)
      (joined_element _ _ _ _ _ _ _ c.n-e-end.ensures.lawful (c.has.ensures.0 w.if-has.true)
      w.in_ok-push_element.ensures.ok c.loop-e.invariant)
  | else-has w ↦
      rw (w.text-is, w.before-is)
      (joined_other _ _ _ _ _ (λ member. false≢true (sym w.if-has.false ∙ c.has.ensures.1 member))
      c.loop-e.invariant)
]

pub returns-clause-ok : goal.returns-clause-ok
returns-clause-ok c = joined_all _ _ _ _ _ _ c.n-e-end.ensures.lawful
    (let n = c.n-e-end.ensures.value in let past = c.loop-e-test.false in omega (arith, n, past)) c.loop-e.invariant

pub returns-clause-kept : goal.returns-clause-kept
returns-clause-kept c = joined_kept _ _ _ _ _ c.loop-e.invariant

pub returns-in_err-push_element-clause-kept : goal.returns-in_err-push_element-clause-kept
returns-in_err-push_element-clause-kept c =
    kept_on _ _ _ (joined_kept _ _ _ _ _ c.loop-e.invariant) c.in_err-push_element.ensures.kept
