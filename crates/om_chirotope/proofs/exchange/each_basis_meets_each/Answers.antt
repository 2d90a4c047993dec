use Rattle.std.proofs.Common.{arith, refl, sym, ap, subst, ◌∙◌, ◌≡◌, ◌-◌, ◌<◌, inl, inr, get_or, length, []}
use Rattle.std.proofs.lemmas.Bool.{cases_eq, false≢true}
use Rattle.std.proofs.lemmas.List.{get_or_default}
use Rattle.om_subsets.specs.Subsets.{choose, subset_at}
use Rattle.om_subsets.proofs.Order.{listed}
use Rattle.om_chirotope.specs.Map.{cocircuit_vector}
use Rattle.om_chirotope.specs.Pictures.{IsMet}
use Rattle.om_chirotope.proofs.SupportMarks.{exchange_of_met, met_of_exchange, table_length}
use Rattle.om_chirotope.proofs.Tables.{length-table, table_at}
use Rattle.om_chirotope.proofs.exchange.each_basis_meets_each.Goals as goal

pub is_met-requires-clause-length : goal.is_met-requires-clause-length
is_met-requires-clause-length c =
    let e : c.u-item.result ≡ get_or c.args.cocircuits.now c.loop-u.u-index [] = c.u-item.is
    ∙ get_or_default c.args.cocircuits.now c.loop-u.u-index _ [] c.loop-u-test.true in
    ap length e ∙ table_length c.args.map.now c.args.cocircuits.now c.loop-u.u-index c.requires.filled
    c.loop-u-test.true

pub loop-u-preserved : goal.loop-u-preserved
loop-u-preserved c = λ k l. elim (cases_eq k c.loop-u.u-index) [
  | inl q ↦
      let m = c.args.map.now in
      let e : c.u-item.result ≡ get_or c.args.cocircuits.now c.loop-u.u-index [] = c.u-item.is
      ∙ get_or_default c.args.cocircuits.now c.loop-u.u-index _ [] c.loop-u-test.true in
      subst (λ j. IsMet m (get_or c.args.cocircuits.now j [])) (sym q)
      (subst (IsMet m) e (c.if-not-is_met.ensures.0 refl))
  | inr n ↦ c.loop-u.invariant k (omega arith)
]

pub returns-then-not-is_met : goal.returns-then-not-is_met
returns-then-not-is_met c = (
  λ t. absurd (false≢true t),
  λ ex.
      let m = c.args.map.now in
      let k = c.loop-u.u-index in
      let size = ap length c.requires.filled ∙ length-table m in
      let test = c.loop-u-test.true in
      let few : k < choose m.elements (m.rank - 1) = omega (arith, size, test) in
      let e : c.u-item.result ≡ cocircuit_vector m (subset_at m.elements (m.rank - 1) k) = c.u-item.is
      ∙ get_or_default c.args.cocircuits.now k _ [] c.loop-u-test.true ∙ ap (λ t. get_or t k []) c.requires.filled
      ∙ table_at m k few in
      let a = listed 1 m.elements (m.rank - 1) k few in
      let low = c.requires.rank_low in
      let z = a.size in
      absurd (false≢true
      (c.if-not-is_met.ensures.1
      (subst (IsMet m) (sym e)
      (met_of_exchange m (subset_at m.elements (m.rank - 1) k) a.lawful (omega (arith, z, low)) ex)))),
)

pub returns : goal.returns
returns c = (
  λ t. exchange_of_met c.args.map.now c.args.cocircuits.now c.loop-u.u-index c.requires.filled
      c.loop-u-test.false c.loop-u.invariant,
  λ ex. refl,
)
