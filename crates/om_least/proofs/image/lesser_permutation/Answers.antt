use Rattle.std.proofs.Common.{◌≡◌, List, Option, Some, None, IfSome, length, take, sym, subst}
use Rattle.om_chirotope.specs.Map.{SignMap}
use Rattle.om_symmetry.specs.declared.signed_element.SignedElement.{SignedElement}
use Rattle.om_symmetry.specs.Permutations.{IsSignedPermutation, acted}
use Rattle.om_least.specs.Least.{IsBefore}
use Rattle.om_least.specs.Beginnings.{BeginsBefore}
use Rattle.om_least.proofs.Entries.{image_before}
use Rattle.om_least.proofs.image.lesser_permutation.Goals as goal

before_by : (m : SignMap) (first u : List SignedElement) (o : Option (List SignedElement)) → BeginsBefore m first
    → IsSignedPermutation m.elements u → take (length first) u ≡ first → IfSome o (λ w. w ≡ u)
    → IfSome o (λ w. IsBefore (acted w m) m)
before_by m first u None b p q e = tt
before_by m first u (Some w) b p q e = subst (λ v. IsBefore (acted v m) m) (sym e) (image_before m first b u p q)

pub returns-in-Some-clause-before : goal.returns-in-Some-clause-before
returns-in-Some-clause-before c =
    let m = c.args.chi.now in
    let same = c.as_slice.ensures in
    before_by m c.in-Some.first c.as_slice.result.now c.from_entries.result c.in-Some.ensures.before
    (subst (IsSignedPermutation m.elements) (sym same)
    (subst (λ n. IsSignedPermutation n c.completed.result) c.elements.ensures.value c.completed.ensures.permutation))
    (subst (λ v. take (length c.in-Some.first) v ≡ c.in-Some.first) (sym same) c.completed.ensures.begins)
    c.from_entries.ensures.value
