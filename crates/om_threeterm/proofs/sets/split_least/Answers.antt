use Rattle.std.proofs.Common.{sym, ap, subst, ◌∙◌, ◌∷◌, ◌+◌, ◌-◌, ◌≤◌, arith, bit_and, w32}
use Rattle.om_signs.specs.declared.limits.TheConstants.{MAX_PLACES}
use Rattle.std.specs.Int.{trailing_zeros}
use Rattle.om_subsets.specs.Members.{members}
use Rattle.om_threeterm.proofs.SetLaws.{split}
use Rattle.om_threeterm.proofs.sets.split_least.Goals as goal

pub overflow_sub-mask : goal.overflow_sub-mask
overflow_sub-mask c =
    let some =
    (split c.args.s c.mask-mask.result c.requires c.mask-mask.ensures.lawful
    (subst (λ k. k ≤ MAX_PLACES) c.n-n.ensures.value c.n-n.ensures.small)
    c.mask-mask.ensures.value).some in
    omega arith

pub returns-clause-elements : goal.returns-clause-elements
returns-clause-elements c =
    let mask = c.mask-mask.result in
    let here = split c.args.s mask c.requires c.mask-mask.ensures.lawful
    (subst (λ k. k ≤ MAX_PLACES) c.n-n.ensures.value c.n-n.ensures.small)
    c.mask-mask.ensures.value in
    here.elements_are
    ∙ ap (λ xs. (trailing_zeros w32 mask + 1) ∷ xs)
    (sym (c.from_mask.ensures.elements ∙ ap (members (bit_and mask (mask - 1)) 1) c.n-n.ensures.value))
