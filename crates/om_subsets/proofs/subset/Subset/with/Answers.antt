use Rattle.std.proofs.Common.{◌≡◌, ◌+◌, ◌-◌, ◌<◌, ◌∙◌, ap, arith}
use Rattle.om_subsets.specs.Subsets.{with_element}
use Rattle.om_subsets.specs.Members.{members-subset}
use Rattle.om_subsets.proofs.Places.{bits_fit}
use Rattle.om_subsets.proofs.Edits.{with_members, set_edit, set_fits}
use Rattle.om_subsets.proofs.subset.Subset.with.Goals as goal

pub invariant_of-result : goal.invariant_of-result
invariant_of-result c =
    let low = c.requires.low in
    let high = c.requires.high in
    let n_is : c.self.inside.n ≡ c.args.self.n = ap (λ v. v.n) c.self.view_is in
    let l : c.args.e - 1 < c.self.inside.n = omega arith in
    let e_is : 1 + (c.args.e - 1) ≡ c.args.e = omega arith in
    record {
      within = set_fits _ _ _ c.self.invariant.within l (bits_fit _ c.self.invariant.few);
      few =
          c.self.invariant.few;
    }

pub returns-clause-elements : goal.returns-clause-elements
returns-clause-elements c =
    let low = c.requires.low in
    let high = c.requires.high in
    let n_is : c.self.inside.n ≡ c.args.self.n = ap (λ v. v.n) c.self.view_is in
    let l : c.args.e - 1 < c.self.inside.n = omega arith in
    let e_is : 1 + (c.args.e - 1) ≡ c.args.e = omega arith in
    with_members _ _ 1 (c.args.e - 1) _ l (set_edit _ _ _ l (bits_fit _ c.self.invariant.few))
    ∙ rw e_is (ap (λ v. with_element c.args.e v.elements) c.self.view_is)

pub returns-clause-lawful : goal.returns-clause-lawful
returns-clause-lawful c = members-subset _ 1 c.self.inside.n
