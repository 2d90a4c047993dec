use Rattle.std.proofs.Common.{ℕ, List, [], ◌∷◌, ◌++◌, ◌≡◌, ◌∙◌, ◌+◌, ◌<◌, ◌≤◌, length, get_or, take}
use Rattle.std.proofs.Common.{ap, subst, sym, refl, arith}
use Rattle.std.proofs.lemmas.List.{take_all, map_more, length-map, length-take-le}
use Rattle.om_symmetry.specs.declared.signed_element.SignedElement.{SignedElement}
use Rattle.om_symmetry.specs.Permutations.{IsSignedPermutation, no_element, signed_at, negated_if, followed_by}
use Rattle.om_symmetry.proofs.Products.{lawful_product}
use Rattle.om_symmetry.proofs.Reading.{within_all}
use Rattle.om_symmetry.proofs.signed_permutation.SignedPermutation.then.Goals as goal

lawful : {w v : List SignedElement} → w ≡ v → IsSignedPermutation (length w) w → IsSignedPermutation (length v) v
lawful e p = subst (λ l. IsSignedPermutation (length l) l) e p

product_more : (w xs made : List SignedElement) (k : ℕ) → k < length xs → made ≡ followed_by w (take k xs)
    → made ++ negated_if (get_or xs k no_element).negated (signed_at w (get_or xs k no_element).element) ∷ []
    ≡ followed_by w (take (k + 1) xs)
product_more w xs made k lt q =
    let rule = λ (b : SignedElement). negated_if b.negated (signed_at w b.element) in
    ap (λ l. l ++ rule (get_or xs k no_element) ∷ []) q ∙ sym (map_more rule xs k no_element lt)

all_listed : (w v xs made : List SignedElement) (k : ℕ) → length xs ≤ k → xs ≡ v
    → made ≡ followed_by w (take k xs) → made ≡ followed_by w v
all_listed w v xs made k le e q = q ∙ ap (followed_by w) (take_all k xs le ∙ e)

pub at-requires : goal.at-requires
at-requires c =
    let xs = c.as_slice-a-items.result.now in
    let same = c.as_slice-a-items.ensures.value in
    let e = within_all (length xs) xs c.loop-a.a-index _ c.loop-a-test.true refl (lawful (sym same) c.next.invariant) in
    let high = e.1 in
    let as_many = ap length (same ∙ c.next.view_is) ∙ c.requires ∙ sym (ap length c.self.view_is) in
    record { low = e.0; high = omega arith }

pub push-requires : goal.push-requires
push-requires c =
    let made = ap length c.loop-a.invariant ∙ length-map _ _
    ∙ length-take-le c.loop-a.a-index c.as_slice-a-items.result.now c.loop-a.auto.a-index-end in
    let more = c.loop-a-test.true in
    let few = c.as_slice-a-items.ensures.few in
    omega arith

pub invariant_of-result : goal.invariant_of-result
invariant_of-result c =
    let w = c.args.self.now in
    let all = all_listed w c.args.next.now c.as_slice-a-items.result.now c.loop-a.entries c.loop-a.a-index
    c.loop-a-test.false (c.as_slice-a-items.ensures.value ∙ c.next.view_is) c.loop-a.invariant in
    lawful (sym all)
    (lawful_product w c.args.next.now (lawful c.self.view_is c.self.invariant)
    (lawful c.next.view_is c.next.invariant) c.requires)

pub returns : goal.returns
returns c =
    all_listed c.args.self.now c.args.next.now c.as_slice-a-items.result.now c.loop-a.entries c.loop-a.a-index
    c.loop-a-test.false (c.as_slice-a-items.ensures.value ∙ c.next.view_is) c.loop-a.invariant

pub loop-a-preserved : goal.loop-a-preserved
loop-a-preserved c =
    let xs = c.as_slice-a-items.result.now in
    let k = c.loop-a.a-index in
    let made = c.at.ensures ∙ ap (λ w. signed_at w (get_or xs k no_element).element) c.self.view_is in
    c.push.ensures
    ∙ ap (λ a. c.loop-a.entries ++ a ∷ [])
    (c.negated_if.ensures ∙ ap (negated_if (get_or xs k no_element).negated) made)
    ∙ product_more c.args.self.now xs c.loop-a.entries k c.loop-a-test.true c.loop-a.invariant
