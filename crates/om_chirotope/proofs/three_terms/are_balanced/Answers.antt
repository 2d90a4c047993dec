use Rattle.std.proofs.Common.{ℕ, arith, sym, subst, length, map, List, ◌≡◌, ◌<◌}
use Rattle.std.proofs.lemmas.Bool.{eq-eqb, eqb-true}
use Rattle.std.proofs.lemmas.List.{length-map, get_or-map}
use Rattle.om_signs.specs.declared.sign.Sign.{Sign}
use Rattle.om_signs.specs.declared.sign.Sign.TheVariants.{Zero}
use Rattle.om_signs.specs.Sign.{opposite, product}
use Rattle.om_signs.specs.SignVec.{at, at_element, IsMaskOf}
use Rattle.om_laws.proofs.BalancedSigns.{balanced_same}
use Rattle.om_chirotope.proofs.ThreeRows.{balanced_of_masks, masks_of_balanced}
use Rattle.om_chirotope.proofs.three_terms.are_balanced.Goals as goal

-- a mask of as many bits as it has signs
as_long : (s : Sign) (xs : List Sign) (P : ℕ → Type 0) (mask : ℕ) → IsMaskOf (length xs) P mask
    → IsMaskOf (length (map (product s) xs)) P mask
as_long s xs P mask = subst (λ n. IsMaskOf n P mask) (sym (length-map xs (product s)))

at-times : (s : Sign) (xs : List Sign) (i : ℕ) → i < length xs → at (map (product s) xs) i ≡ product s (at xs i)
at-times s xs i l = get_or-map (product s) xs i Zero Zero l

pub returns : goal.returns
returns c =
    let us = map (product c.get.result) c.args.third in
    let vs = map (product c.neg.result) c.args.second in
    let ws = map (product c.get-3.result) c.args.first in
    let u = c.scaled-u in
    let v = c.scaled-v in
    let w = c.scaled-w in
    let ul = length-map c.args.third (product c.get.result) in
    let vl = length-map c.args.second (product c.neg.result) in
    let wl = length-map c.args.first (product c.get-3.result) in
    let s2 = c.requires.second in
    let s3 = c.requires.third in
    let up = as_long c.get.result c.args.third _ _ u.ensures.plus in
    let um = as_long c.get.result c.args.third _ _ u.ensures.minus in
    let vp = as_long c.neg.result c.args.second _ _ v.ensures.plus in
    let vm = as_long c.neg.result c.args.second _ _ v.ensures.minus in
    let wp = as_long c.get-3.result c.args.first _ _ w.ensures.plus in
    let wm = as_long c.get-3.result c.args.first _ _ w.ensures.minus in
    let first : (i : ℕ) → i < length c.args.third
    → product (at_element c.args.first c.args.y) (at c.args.third i) ≡ at us i =
    λ i l. first_term (at_element c.args.first c.args.y) c.get.result (at c.args.third i) (at us i) c.get.ensures
    (at-times c.get.result c.args.third i l) in
    let second : (i : ℕ) → i < length c.args.second
    → opposite (product (at_element c.args.first c.args.z) (at c.args.second i)) ≡ at vs i =
    λ i l. second_term (at_element c.args.first c.args.z) c.get-2.result c.neg.result (at c.args.second i) (at vs i)
    c.get-2.ensures c.neg.ensures (at-times c.neg.result c.args.second i l) in
    let third : (i : ℕ) → i < length c.args.first → product (at c.args.first i) (at_element c.args.second c.args.z)
    ≡ at ws i = λ i l. third_term (at_element c.args.second c.args.z) c.get-3.result (at c.args.first i) (at ws i)
    c.get-3.ensures (at-times c.get-3.result c.args.first i l) in (
      λ t i l.
          let il3 : i < length c.args.third = omega (arith, l, s3) in
          let il2 : i < length c.args.second = omega (arith, l, s2) in
          balanced_same _ _ _ _ _ _ (first i il3) (second i il2) (third i l)
          (balanced_of_masks us vs ws _ _ _ _ _ _ i up vp wp um vm wm
          (omega (arith, il3, ul)) (omega (arith, il2, vl)) (omega (arith, l, wl)) (eqb-true _ _ t)),
      λ all. eq-eqb _ _
          (masks_of_balanced us vs ws _ _ _ _ _ _ up vp wp um vm wm
          (omega (arith, vl, ul, s2, s3)) (omega (arith, wl, ul, s3))
          (λ i l.
          let l1 : i < length c.args.first = omega (arith, l, ul, s3) in
          balanced_same _ _ _ _ _ _ (sym (first i (omega (arith, l, ul)))) (sym (second i (omega (arith, l1, s2))))
          (sym (third i l1)) (all i l1))),
    )
  where
    first_term : (s s' t u : Sign) → s' ≡ s → u ≡ product s' t → product s t ≡ u
    first_term s s' t u e q = grind arith

    second_term : (s s' n t u : Sign) → s' ≡ s → n ≡ opposite s' → u ≡ product n t → opposite (product s t) ≡ u
    second_term s s' n t u e k q = grind arith

    third_term : (s s' t u : Sign) → s' ≡ s → u ≡ product s' t → product t s ≡ u
    third_term s s' t u e q = grind arith
