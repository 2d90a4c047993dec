use Rattle.std.proofs.Common.{◌≡◌, ◌+◌, ◌∷◌, ◌++◌, [], ◌∙◌, length, get_or, ap, subst, sym, arith, false}
use Rattle.std.proofs.lemmas.List.{take_all, take_more, length-take-le}
use Rattle.om_symmetry.specs.Permutations.{IsSignedPermutation, no_element, lifted}
use Rattle.om_symmetry.proofs.Lifts.{lawful_lift}
use Rattle.om_symmetry.proofs.signed_permutation.SignedPermutation.lift.Goals as goal
use Rattle.om_symmetry.proofs.signed_permutation.SignedPermutation.lift.Goals.{After-push-2}

made : (c : After-push-2) → c.push-2.new.self ≡ lifted c.args.self.now
made c =
    let w = c.args.self.now in
    c.push-2.ensures
    ∙ ap (λ l. l ++ (record { element = c.elements-n.result + 1; negated = false }) ∷ [])
    (c.loop-a.invariant ∙ take_all c.loop-a.a-index c.as_slice-a-items.result.now c.loop-a-test.false
    ∙ c.as_slice-a-items.ensures.value ∙ c.self.view_is)
    ∙ ap (λ k. w ++ (record { element = k + 1; negated = false }) ∷ []) c.elements-n.ensures.value

pub invariant_of-result : goal.invariant_of-result
invariant_of-result c =
    subst (λ l. IsSignedPermutation (length l) l) (sym (made c))
    (lawful_lift c.args.self.now c.elements-n.ensures.lawful)

pub returns : goal.returns
returns c = made c

pub loop-a-preserved : goal.loop-a-preserved
loop-a-preserved c =
    let xs = c.as_slice-a-items.result.now in
    let k = c.loop-a.a-index in
    c.push.ensures ∙ ap (λ l. l ++ get_or xs k no_element ∷ []) c.loop-a.invariant
    ∙ sym (take_more xs k no_element c.loop-a-test.true)

pub push-requires : goal.push-requires
push-requires c =
    let made = ap length c.loop-a.invariant
    ∙ length-take-le c.loop-a.a-index c.as_slice-a-items.result.now c.loop-a.auto.a-index-end in
    let more = c.loop-a-test.true in
    let few = c.as_slice-a-items.ensures.few in
    omega arith
