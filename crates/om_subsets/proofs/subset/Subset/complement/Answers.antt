use Rattle.std.proofs.Common.{◌≡◌, ◌∙◌, ap, ◌*◌, ◌%◌, ◌^◌, subst, sym, ◌↔◌, ◌≤◌}
use Rattle.om_signs.proofs.Bits.{one_shl_32}
use Rattle.om_subsets.specs.Members.{members, mask_of}
use Rattle.om_subsets.specs.Subsets.{IsMember}
use Rattle.om_subsets.proofs.Places.{bits_fit}
use Rattle.om_subsets.proofs.Complements.{others, complement_member, complement_size}
use Rattle.om_subsets.proofs.subset.Subset.complement.Goals as goal

pub returns-clause-members : goal.returns-clause-members
returns-clause-members c =
    let shifted : 1 * 2 ^ c.n.result % 4294967296 ≡ 2 ^ c.args.self.n =
    one_shl_32 c.n.result (bits_fit c.n.result c.n.ensures.small) ∙ ap (λ k. 2 ^ k) c.n.ensures.value in
    let made : c.from_mask.result.elements
    ≡ members (others (mask_of 1 c.args.self.elements c.args.self.n) c.args.self.n) 1 c.args.self.n =
    rw (shifted, c.mask.ensures.value, c.n-2.ensures.value) at c.from_mask.ensures.elements in
    λ e. subst (λ ys. IsMember e ys ↔ ((1 ≤ e) × (e ≤ c.args.self.n) × (IsMember e c.args.self.elements → ⊥)))
    (sym made) (complement_member c.args.self.n c.args.self.elements c.mask.ensures.lawful e)

pub returns-clause-size : goal.returns-clause-size
returns-clause-size c =
    let shifted : 1 * 2 ^ c.n.result % 4294967296 ≡ 2 ^ c.args.self.n =
    one_shl_32 c.n.result (bits_fit c.n.result c.n.ensures.small) ∙ ap (λ k. 2 ^ k) c.n.ensures.value in
    let made : c.from_mask.result.elements
    ≡ members (others (mask_of 1 c.args.self.elements c.args.self.n) c.args.self.n) 1 c.args.self.n =
    rw (shifted, c.mask.ensures.value, c.n-2.ensures.value) at c.from_mask.ensures.elements in
    rw made (complement_size c.args.self.n c.args.self.elements c.mask.ensures.lawful)
