use Rattle.std.proofs.Common.{◌∙◌, ap, subst, sym, ◌+◌, ◌-◌, ◌<◌, ◌^◌, length}
use Rattle.std.proofs.lemmas.List.{length-map}
use Rattle.om_subsets.specs.Members.{members, mask_of}
use Rattle.om_subsets.proofs.Masks.{mask_of-lt}
use Rattle.om_subsets.proofs.Skips.{skip, spread_code, spread_small, skipped_members}
use Rattle.om_subsets.proofs.subset.Subset.skipping.Goals as goal

pub from_mask-requires-clause-within : goal.from_mask-requires-clause-within
from_mask-requires-clause-within c =
    let xs = c.args.self.elements in
    rw (c.mask-2.ensures.value, c.mask.ensures.value, c.n.ensures.value)
    (subst (λ t. t < 2 ^ (c.args.self.n + 1))
    (sym (spread_code (mask_of 1 xs c.args.self.n) c.args.self.n c.args.e c.requires.low c.requires.high
    c.requires.room (mask_of-lt 1 c.args.self.n xs)))
    (spread_small (mask_of 1 xs c.args.self.n) (c.args.e - 1) c.args.self.n (mask_of-lt 1 c.args.self.n xs)))

pub returns-clause-elements : goal.returns-clause-elements
returns-clause-elements c =
    let xs = c.args.self.elements in
    c.from_mask.ensures.elements
    ∙ rw (c.mask-2.ensures.value, c.mask.ensures.value, c.n.ensures.value)
    (ap (λ t. members t 1 (c.args.self.n + 1))
    (spread_code (mask_of 1 xs c.args.self.n) c.args.self.n c.args.e c.requires.low c.requires.high c.requires.room
    (mask_of-lt 1 c.args.self.n xs))
    ∙ skipped_members c.args.self.n c.args.e xs c.requires.low c.requires.high c.mask.ensures.lawful)

pub returns-clause-size : goal.returns-clause-size
returns-clause-size c = ap length (returns-clause-elements c) ∙ length-map c.args.self.elements (skip c.args.e)
