use Rattle.std.proofs.Common.{refl, ap, sym, subst, ◌∙◌, ◌≡◌, ◌<◌, length, arith, inl, inr}
use Rattle.std.proofs.lemmas.Bool.{false≢true, cases_eq}
use Rattle.std.proofs.lemmas.List.{get_or_default}
use Rattle.om_subsets.specs.Subsets.{choose, subset_at}
use Rattle.om_subsets.proofs.Order.{listed}
use Rattle.om_threeterm.specs.Violations.{IsUnbalancedList}
use Rattle.om_threeterm.proofs.SetLaws.{length-all, nothing, of_table}
use Rattle.om_threeterm.proofs.RelationLaws.{none_of_p, first_of_p}
use Rattle.om_threeterm.proofs.relations.Frames.first_unbalanced_of.Goals as goal

pub is_unbalanced-requires-clause-q_n : goal.is_unbalanced-requires-clause-q_n
is_unbalanced-requires-clause-q_n c =
    let n = c.args.self.now.map.now.elements in
    let size : length c.args.self.now.fours.now ≡ choose n 4 = ap length c.args.self.now.filled ∙ length-all n 4 in
    let lt = c.loop-q-test.true in
    (of_table n 4 c.loop-q.q-index c.args.self.now.fours.now c.q-item.result c.args.self.now.filled (omega arith)
    (c.q-item.is ∙ get_or_default c.args.self.now.fours.now c.loop-q.q-index _ nothing lt)).n_is

pub is_unbalanced-requires-clause-q_size : goal.is_unbalanced-requires-clause-q_size
is_unbalanced-requires-clause-q_size c =
    let n = c.args.self.now.map.now.elements in
    let size : length c.args.self.now.fours.now ≡ choose n 4 = ap length c.args.self.now.filled ∙ length-all n 4 in
    let lt = c.loop-q-test.true in
    let few : c.loop-q.q-index < choose n 4 = omega arith in
    ap length
    (of_table n 4 c.loop-q.q-index c.args.self.now.fours.now c.q-item.result c.args.self.now.filled few
    (c.q-item.is ∙ get_or_default c.args.self.now.fours.now c.loop-q.q-index _ nothing lt)).elements_are
    ∙ (listed 1 n 4 c.loop-q.q-index few).size

pub returns-then-is_unbalanced-clause-first : goal.returns-then-is_unbalanced-clause-first
returns-then-is_unbalanced-clause-first c =
    let m = c.args.self.now.map.now in
    let n = c.args.self.now.map.now.elements in
    let size : length c.args.self.now.fours.now ≡ choose n 4 = ap length c.args.self.now.filled ∙ length-all n 4 in
    let lt = c.loop-q-test.true in
    let few : c.loop-q.q-index < choose n 4 = omega arith in
    let here = of_table n 4 c.loop-q.q-index c.args.self.now.fours.now c.q-item.result c.args.self.now.filled few
    (c.q-item.is ∙ get_or_default c.args.self.now.fours.now c.loop-q.q-index _ nothing lt) in
    let named = of_table n 4 c.loop-q.q-index c.args.self.now.fours.now c.q-item.result c.args.self.now.filled few
    (c.q-item.is ∙ get_or_default c.args.self.now.fours.now c.loop-q.q-index _ nothing lt) in
    first_of_p m c.args.p.elements c.q-item.result c.loop-q.q-index few named.n_is named.elements_are
    (subst (IsUnbalancedList m c.args.p.elements) (here.elements_are ∙ sym named.elements_are)
    (c.if-is_unbalanced.ensures.0 refl))
    c.loop-q.invariant

pub loop-q-preserved : goal.loop-q-preserved
loop-q-preserved c = λ j l u. elim (cases_eq j c.loop-q.q-index) [
  | inl q ↦
      let m = c.args.self.now.map.now in
      let n = c.args.self.now.map.now.elements in
      let size : length c.args.self.now.fours.now ≡ choose n 4 = ap length c.args.self.now.filled ∙ length-all n 4 in
      let lt = c.loop-q-test.true in
      let few : c.loop-q.q-index < choose n 4 = omega arith in
      let here = of_table n 4 c.loop-q.q-index c.args.self.now.fours.now c.q-item.result c.args.self.now.filled few
      (c.q-item.is ∙ get_or_default c.args.self.now.fours.now c.loop-q.q-index _ nothing lt) in
      false≢true
      (c.if-is_unbalanced.ensures.1
      (subst (IsUnbalancedList m c.args.p.elements) (ap (subset_at n 4) q ∙ sym here.elements_are) u))
  | inr ne ↦ c.loop-q.invariant j (omega arith) u
]

pub returns-clause-none : goal.returns-clause-none
returns-clause-none c =
    let n = c.args.self.now.map.now.elements in
    let size : length c.args.self.now.fours.now ≡ choose n 4 = ap length c.args.self.now.filled ∙ length-all n 4 in
    let over = c.loop-q-test.false in
    none_of_p c.args.self.now.map.now c.args.p.elements c.loop-q.q-index (omega arith) c.loop-q.invariant
