use Rattle.std.proofs.Common.{◌≡◌, ◌∷◌, [], ◌∙◌, sym, subst, inl, inr, arith}
use Rattle.std.proofs.lemmas.Bool.{cases_lt, false≢true}
use Rattle.om_matroid.specs.Bases.{IsIndependent}
use Rattle.om_chain.proofs.fitting.first_dependent.Goals as goal

pub loop-e-init : goal.loop-e-init
loop-e-init c = λ g h low lt high less. absurd (omega arith)

pub loop-f-init : goal.loop-f-init
loop-f-init c = λ h low less. absurd (omega arith)

pub returns-then-not-are_independent-clause-some : goal.returns-then-not-are_independent-clause-some
returns-then-not-are_independent-clause-some c =
    let n = c.elements-n.ensures.value in
    let test = c.loop-f-test.true in
    record {
      low = omega arith;
      apart = omega arith;
      high = omega arith;
      dependent = λ i. false≢true (sym c.if-not-are_independent.true ∙ c.are_independent.ensures.1 i);
      first = λ g h p. elim p.earlier [
        | inl lt ↦ c.loop-e.invariant g h p.low p.apart p.high lt
        | inr both ↦
            let q = both.0 in
            let apart = p.apart in
            subst (λ k. IsIndependent c.args.chi.now (k ∷ h ∷ [])) (sym q)
            (c.loop-f.invariant h (omega arith) both.1)
      ];
    }

pub loop-f-preserved : goal.loop-f-preserved
loop-f-preserved c = λ h low less. elim (cases_lt h c.loop-f.f) [
  | inl earlier ↦ c.loop-f.invariant h low earlier
  | inr ge ↦
      let q : h ≡ c.loop-f.f = omega arith in
      subst (λ k. IsIndependent c.args.chi.now (c.loop-e.e ∷ k ∷ [])) (sym q)
      (c.are_independent.ensures.0 c.if-not-are_independent.false)
]

pub loop-e-preserved : goal.loop-e-preserved
loop-e-preserved c = λ g h low lt high less. elim (cases_lt g c.loop-e.e) [
  | inl earlier ↦ c.loop-e.invariant g h low lt high earlier
  | inr ge ↦
      let n = c.elements-n.ensures.value in
      let test = c.loop-f-test.false in
      let q : g ≡ c.loop-e.e = omega arith in
      subst (λ k. IsIndependent c.args.chi.now (k ∷ h ∷ [])) (sym q)
      (c.loop-f.invariant h (omega arith) (omega arith))
]

pub returns-clause-none : goal.returns-clause-none
returns-clause-none c = λ none e f low lt high.
    let n = c.elements-n.ensures.value in
    let test = c.loop-e-test.false in
    c.loop-e.invariant e f low lt high (omega arith)
