use Rattle.std.proofs.Common.{◌≡◌, refl, sym, subst, arith}
use Rattle.std.proofs.lemmas.Bool.{false≢true}
use Rattle.om_grassmann.specs.Order.{IsNumber}
use Rattle.om_grassmann.proofs.Counting.{number_next, number_last, number_exceeds}
use Rattle.om_grassmann.proofs.numbering.nth_statement.Goals as goal

pub returns-in_err-st-clause-none : goal.returns-in_err-st-clause-none
returns-in_err-st-clause-none c = (
  λ q. let a = c.in_err-st.ensures.none in
      let few = a.count in
      record { all = a.all; are_all = a.are_all; count = omega (arith, few) },
  λ a. rw c.from_residual.ensures refl,
)

pub returns-in_err-st-clause-number : goal.returns-in_err-st-clause-number
returns-in_err-st-clause-number c = rw c.from_residual.ensures tt

pub returns-in_err-st-2-clause-number : goal.returns-in_err-st-2-clause-number
returns-in_err-st-2-clause-number c = rw c.from_residual-in_err-st-2.ensures tt

pub returns-in_err-st-2-clause-none : goal.returns-in_err-st-2-clause-none
returns-in_err-st-2-clause-none c = (
  λ q. number_last c.args.chi.now c.loop-turn._turn c.args.k c.loop-turn.st c.loop-turn.invariant
      (c.in_err-st-2.ensures.none.0 refl) c.loop-turn-test.true,
  λ a. rw c.from_residual-in_err-st-2.ensures refl,
)

pub loop-turn-preserved : goal.loop-turn-preserved
loop-turn-preserved c = number_next c.args.chi.now c.loop-turn._turn c.loop-turn.st c.in_ok-st-2.st
    c.loop-turn.invariant c.in_ok-st-2.ensures.next

pub returns-clause-none : goal.returns-clause-none
returns-clause-none c =
    let end : c.loop-turn._turn ≡ c.args.k = omega arith in (
      λ q. absurd (false≢true (sym q)),
      λ a. absurd
          (number_exceeds c.args.chi.now c.args.k c.loop-turn.st
          (subst (λ k. IsNumber c.args.chi.now k c.loop-turn.st) end c.loop-turn.invariant) a),
    )

pub returns-clause-number : goal.returns-clause-number
returns-clause-number c =
    let end : c.loop-turn._turn ≡ c.args.k = omega arith in
    subst (λ k. IsNumber c.args.chi.now k c.loop-turn.st) end c.loop-turn.invariant
