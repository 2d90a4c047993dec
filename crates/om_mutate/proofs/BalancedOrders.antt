-- Three signs that are balanced, in other orders.
--
-- Main results: the relation of four elements from the relation of the same four in another order.
use Rattle.std.specs.Prelude.{◌≡◌}
use Rattle.std.proofs.Common.{refl, ap, ◌∙◌, arith, sym}
use Rattle.om_signs.specs.declared.sign.Sign.{Sign}
use Rattle.om_signs.specs.Sign.{opposite, product}
use Rattle.om_signs.proofs.SignLaws.{product_comm, product_turned_both, product_turned_left, product_turned_right}
use Rattle.om_signs.proofs.SignLaws.{opposite_swap, product_turned_comm}
use Rattle.om_laws.specs.ThreeTerm.{AreBalanced}
use Rattle.om_laws.proofs.BalancedSigns.{balanced_same, balanced_first_exchanged, balanced_rotated}

both_turned_twice : (s t s' t' : Sign) → s' ≡ opposite s → t' ≡ opposite t
    → product s t ≡ opposite (opposite (product s' t'))
both_turned_twice s t s' t' e f = grind arith

twice : (s t : Sign) → product s t ≡ opposite (opposite (product s t))
twice s t = grind arith

-- the values of six pairs of four elements, each in one order, and some in the other order
module _ (ab cd ac bd ad bc : Sign) where
  abbrev pub Relation : Type 0
  Relation = AreBalanced (product ab cd) (opposite (product ac bd)) (product ad bc)

  pub from_last_two : (ca db cb da : Sign) → ca ≡ opposite ac → db ≡ opposite bd → cb ≡ opposite bc → da ≡ opposite ad
      → AreBalanced (product cd ab) (opposite (product ca db)) (product cb da) → Relation
  from_last_two ca db cb da eca edb ecb eda h =
      balanced_same _ _ _ _ _ _ (product_comm ab cd) (ap opposite (sym (product_turned_both ac ca bd db eca edb)))
      (product_comm ad bc ∙ sym (product_turned_both bc cb ad da ecb eda)) h

  pub from_first_third : (cb : Sign) → cb ≡ opposite bc
      → AreBalanced (product ac bd) (opposite (product ab cd)) (product ad cb) → Relation
  from_first_third cb ecb h =
      balanced_same _ _ _ _ _ _ (twice ab cd) refl (opposite_swap _ _ (product_turned_right ad bc cb ecb))
      (balanced_first_exchanged (product ac bd) (opposite (product ab cd)) (product ad cb) h)

  pub from_second_last : (ba dc da : Sign) → ba ≡ opposite ab → dc ≡ opposite cd → da ≡ opposite ad
      → AreBalanced (product bd ac) (opposite (product ba dc)) (product bc da) → Relation
  from_second_last ba dc da eba edc eda h =
      balanced_same _ _ _ _ _ _ (both_turned_twice ab cd ba dc eba edc) (ap opposite (product_comm ac bd))
      (opposite_swap _ _ (product_turned_comm bc ad da eda))
      (balanced_first_exchanged (product bd ac) (opposite (product ba dc)) (product bc da) h)

  pub from_first_last : (dc db : Sign) → dc ≡ opposite cd → db ≡ opposite bd
      → AreBalanced (product ad bc) (opposite (product ab dc)) (product ac db) → Relation
  from_first_last dc db edc edb h =
      balanced_same _ _ _ _ _ _ (opposite_swap _ _ (product_turned_right ab cd dc edc))
      (sym (product_turned_right ac bd db edb)) refl
      (balanced_rotated (product ad bc) (opposite (product ab dc)) (product ac db) h)

  pub from_middle_two : (ba ca : Sign) → ba ≡ opposite ab → ca ≡ opposite ac
      → AreBalanced (product bc ad) (opposite (product ba cd)) (product bd ca) → Relation
  from_middle_two ba ca eba eca h =
      balanced_same _ _ _ _ _ _ (opposite_swap _ _ (product_turned_left ab ba cd eba))
      (sym (product_turned_comm bd ac ca eca)) (product_comm ad bc)
      (balanced_rotated (product bc ad) (opposite (product ba cd)) (product bd ca) h)
