use Rattle.std.proofs.Common.{◌-◌, ◌∙◌, ap, length, arith, false, sym, subst}
use Rattle.om_symmetry.specs.Permutations.{IsSignedPermutation}
use Rattle.om_symmetry.proofs.Places.{length_made}
use Rattle.om_symmetry.proofs.Products.{lawful_identity}
use Rattle.om_symmetry.proofs.Steps.{stays_more}
use Rattle.om_symmetry.proofs.signed_permutation.SignedPermutation.identity.Goals as goal

pub push-requires : goal.push-requires
push-requires c =
    let l = ap length c.loop-element.invariant
    ∙ length_made (c.loop-element.element - 1) (λ i. record { element = i; negated = false }) in
    let low = c.loop-element.auto.element in
    let test = c.loop-element-test.true in
    let few = c.requires in
    omega arith

pub loop-element-preserved : goal.loop-element-preserved
loop-element-preserved c =
    stays_more c.loop-element.entries c.push.new.self c.loop-element.element c.loop-element.auto.element
    c.loop-element.invariant c.push.ensures

pub invariant_of-result : goal.invariant_of-result
invariant_of-result c = subst (λ w. IsSignedPermutation (length w) w) (sym c.loop-element.invariant)
    (lawful_identity (c.loop-element.element - 1))
