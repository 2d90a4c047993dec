use Rattle.std.proofs.Common.{refl, sym, subst, arith, inl, inr, rules}
use Rattle.std.proofs.lemmas.Bool.{false≢true, cases_eq}
use Rattle.om_subsets.specs.Subsets.{subset_at, AreApart}
use Rattle.om_chirotope.specs.ThreeTerm.{IsBasis}
use Rattle.om_threeterm.proofs.exchanges.Bases.first_basis_apart.Goals as goal
use Rattle.om_threeterm.proofs.exchanges.Bases.first_basis_apart.Goals.{else-is_basis_at-via-then-is_basis_at+else-is_apart_from}
use Rattle.om_threeterm.proofs.exchanges.Bases.first_basis_apart.Goals.{else-is_basis_at-via-else-is_basis_at}

pub returns-then-is_apart_from-clause-apart : goal.returns-then-is_apart_from-clause-apart
returns-then-is_apart_from-clause-apart c =
    subst (λ xs. AreApart xs c.args.set.elements) c.set_at.ensures.elements (c.if-is_apart_from.ensures.0 refl)

pub loop-k-preserved : goal.loop-k-preserved
loop-k-preserved c = λ j l basis apart. elim (cases_eq j c.loop-k.k) [
  | inl q ↦
      let m = c.args.self.now.map.now in
      let basis_here : IsBasis m (subset_at m.elements m.rank c.loop-k.k) =
      subst (λ i. IsBasis m (subset_at m.elements m.rank i)) q basis in
      let apart_here : AreApart (subset_at m.elements m.rank c.loop-k.k) c.args.set.elements =
      subst (λ i. AreApart (subset_at m.elements m.rank i) c.args.set.elements) q apart in
      elim c.else-is_basis_at.branch [
        | else-is_basis_at-via-then-is_basis_at+else-is_apart_from w ↦
            false≢true
            (w.if-is_apart_from.ensures.1
            (subst (λ xs. AreApart xs c.args.set.elements) (sym w.set_at.ensures.elements) apart_here))
        | else-is_basis_at-via-else-is_basis_at w ↦ false≢true (w.if-is_basis_at.ensures.1 basis_here)
      ]
  | inr n ↦ c.loop-k.invariant j (omega arith) basis apart
]

pub returns-then-is_apart_from-clause-earlier : goal.returns-then-is_apart_from-clause-earlier
returns-then-is_apart_from-clause-earlier c = search rules
