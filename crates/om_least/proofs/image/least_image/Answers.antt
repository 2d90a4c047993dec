use Rattle.std.proofs.Common.{◌<◌, ◌∙◌, length, sym, subst, ap}
use Rattle.om_chirotope.specs.Map.{SignMap}
use Rattle.om_symmetry.specs.Permutations.{acted, identity}
use Rattle.om_symmetry.proofs.Groups.{isomorphic_on}
use Rattle.om_symmetry.proofs.Products.{identity_permutation}
use Rattle.om_symmetry.proofs.Places.{permutation_length}
use Rattle.om_least.specs.Least.{signs_in_reverse}
use Rattle.om_least.proofs.Numbers.{place_of_signs, image_falls}
use Rattle.om_least.proofs.image.least_image.Goals as goal

pub act-requires : goal.act-requires
act-requires c =
    let n = c.elements.result in
    ap length c.identity.ensures ∙ permutation_length n (identity n) (identity_permutation n)
    ∙ c.elements.ensures.value

pub loop-permutation-init : goal.loop-permutation-init
loop-permutation-init c =
    let m = c.args.chi.now in
    let same = c.identity.ensures ∙ ap identity c.elements.ensures.value in
    (identity m.elements, identity_permutation m.elements, ap (λ w. acted w m) (sym same) ∙ sym c.in_ok-image.ensures)

pub loop-permutation-smaller : goal.loop-permutation-smaller
loop-permutation-smaller c =
    let old = c.loop-permutation.image in
    subst (λ (m : SignMap). place_of_signs (signs_in_reverse m) < place_of_signs (signs_in_reverse old))
    (sym c.in_ok-image-2.ensures) (image_falls old c.in-Some.permutation c.in-Some.ensures.before)

pub loop-permutation-preserved : goal.loop-permutation-preserved
loop-permutation-preserved c =
    isomorphic_on c.args.chi.now c.loop-permutation.image c.in_ok-image-2.image c.loop-permutation.invariant
    (c.in-Some.permutation, c.in-Some.ensures.permutation, sym c.in_ok-image-2.ensures)

pub returns-clause-rank : goal.returns-clause-rank
returns-clause-rank c = ap (λ (m : SignMap). m.rank) (sym c.loop-permutation.invariant.2)

pub returns-clause-elements : goal.returns-clause-elements
returns-clause-elements c = ap (λ (m : SignMap). m.elements) (sym c.loop-permutation.invariant.2)
