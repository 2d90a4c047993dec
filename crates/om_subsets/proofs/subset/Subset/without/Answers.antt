use Rattle.std.proofs.Common.{◌≡◌, ◌+◌, ◌-◌, ◌*◌, ◌%◌, ◌^◌, ◌<◌, ◌∙◌, ap, arith}
use Rattle.std.proofs.lemmas.Nat.{and_le_l}
use Rattle.om_subsets.specs.Subsets.{without_element}
use Rattle.om_subsets.specs.Members.{members-subset}
use Rattle.om_subsets.proofs.Places.{bits_fit}
use Rattle.om_subsets.proofs.Edits.{without_members, clear_edit}
use Rattle.om_subsets.proofs.subset.Subset.without.Goals as goal

pub returns-clause-elements : goal.returns-clause-elements
returns-clause-elements c =
    let low = c.requires.low in
    let high = c.requires.high in
    let n_is : c.self.inside.n ≡ c.args.self.n = ap (λ v. v.n) c.self.view_is in
    let l : c.args.e - 1 < c.self.inside.n = omega arith in
    let e_is : 1 + (c.args.e - 1) ≡ c.args.e = omega arith in
    without_members _ _ 1 (c.args.e - 1) _ l
    (clear_edit _ _ _ c.self.invariant.within l (bits_fit _ c.self.invariant.few))
    ∙ rw e_is (ap (λ v. without_element c.args.e v.elements) c.self.view_is)

pub returns-clause-lawful : goal.returns-clause-lawful
returns-clause-lawful c = members-subset _ 1 c.self.inside.n

pub invariant_of-result : goal.invariant_of-result
invariant_of-result c =
    let within = c.self.invariant.within in
    let le = and_le_l c.self.inside.mask (4294967295 - 1 * 2 ^ (c.args.e - 1) % 4294967296) in
    record { within = omega (arith, le, within); few = c.self.invariant.few }
