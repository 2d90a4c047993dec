use Rattle.std.proofs.Common.{arith, sym, ◌∙◌, inl, inr, subst}
use Rattle.std.proofs.lemmas.Bool.{false≢true, cases_eq}
use Rattle.om_subsets.specs.Subsets.{IsMember}
use Rattle.om_commands.proofs.AboveLaws.{first_found, none_found}
use Rattle.om_commands.proofs.operation.first_of_mask.Goals as goal

pub loop-e-init : goal.loop-e-init
loop-e-init c = λ k above below member. omega (arith, above, below)

pub loop-e-preserved : goal.loop-e-preserved
loop-e-preserved c = λ k above below member. elim (cases_eq k c.loop-e.e) [
  | inl same ↦
      false≢true
      (sym c.if-has.false ∙ c.has.ensures.1 (subst (λ e. IsMember e c.from_mask-chosen.result.elements) same member))
  | inr other ↦ c.loop-e.invariant k above (omega (arith, below, other)) member
]

pub returns-then-has : goal.returns-then-has
returns-then-has c = first_found c.args.n c.loop-e.e c.args.mask c.from_mask-chosen.result.elements
    c.from_mask-chosen.ensures.elements c.from_mask-chosen.ensures.lawful (c.has.ensures.0 c.if-has.true)
    (let low = c.loop-e.auto.e in omega (arith, low)) c.loop-e.invariant

pub returns : goal.returns
returns c = none_found c.args.n c.loop-e.e c.args.mask c.from_mask-chosen.result.elements
    c.from_mask-chosen.ensures.elements c.from_mask-chosen.ensures.lawful
    (let past = c.loop-e-test.false in omega (arith, past)) c.loop-e.invariant
