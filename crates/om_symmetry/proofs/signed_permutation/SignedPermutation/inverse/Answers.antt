use Rattle.std.proofs.Common.{ℕ, ◌≡◌, ◌≤◌, ◌-◌, ◌+◌, ◌∙◌, List, ap, length, arith, false, sym, subst, set}
use Rattle.om_symmetry.specs.declared.signed_element.SignedElement.{SignedElement}
use Rattle.om_symmetry.specs.Permutations.{IsSignedPermutation}
use Rattle.om_symmetry.proofs.Places.{length_made}
use Rattle.om_symmetry.proofs.Products.{IsInverse, inverse_by}
use Rattle.om_symmetry.proofs.Steps.{IsBackTo, back_begun, back_more, back_all}
use Rattle.om_symmetry.proofs.signed_permutation.SignedPermutation.inverse.Goals as goal

pub loop-i-init : goal.loop-i-init
loop-i-init c = back_begun (length c.args.self.now) c.args.self.now c.entries.inside.entries
    (ap length (c.entries.view_is ∙ c.identity.ensures)
    ∙ length_made c.elements-n.result (λ i. record { element = i; negated = false }) ∙ c.elements-n.ensures.value)

pub loop-i-preserved : goal.loop-i-preserved
loop-i-preserved c =
    let w = c.args.self.now in
    let i = c.loop-i.i in
    let n = c.elements-n.ensures.value in
    let test = c.loop-i-test.true in
    let low = c.loop-i.auto.i in
    let e = c.at-a.result.element in
    back_more (length w) w c.elements-n.ensures.lawful i c.loop-i.entries c.set.new.self e (low, omega arith)
    (ap (λ (a : SignedElement). a.element) c.at-a.ensures.value)
    (c.set.ensures
    ∙ ap (λ (a : SignedElement). set c.loop-i.entries (e - 1) (record { element = i; negated = a.negated }))
    c.at-a.ensures.value) c.loop-i.invariant

-- the list that is made is the inverse
made : (w back : List SignedElement) (i n : ℕ) → IsSignedPermutation (length w) w → n ≡ length w → n + 1 ≤ i
    → IsBackTo (length w) w i back → IsInverse (length w) w back
made w back i n p q past b = inverse_by (length w) w back p (back_all (length w) w i back (omega arith) b)

pub invariant_of-result : goal.invariant_of-result
invariant_of-result c =
    subst (λ k. IsSignedPermutation k c.loop-i.entries) (sym c.loop-i.invariant.whole)
    (made c.args.self.now c.loop-i.entries c.loop-i.i c.elements-n.result c.elements-n.ensures.lawful
    c.elements-n.ensures.value c.loop-i-test.false c.loop-i.invariant).permutation

pub returns-clause-inverse : goal.returns-clause-inverse
returns-clause-inverse c =
    (made c.args.self.now c.loop-i.entries c.loop-i.i c.elements-n.result c.elements-n.ensures.lawful
    c.elements-n.ensures.value c.loop-i-test.false c.loop-i.invariant).inverse
