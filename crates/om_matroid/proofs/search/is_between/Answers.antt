use Rattle.std.proofs.Common.{◌≡◌, true}
use Rattle.om_matroid.proofs.search.is_between.Goals as goal
use Rattle.om_matroid.proofs.search.is_between.Goals.{then-is_part_of, else-is_part_of}

pub returns-then-is_apart_from : goal.returns-then-is_apart_from
returns-then-is_apart_from c = elim c.if-is_part_of.branch [
  | then-is_part_of w ↦ (
    λ b. record {
      basis = c.is_basis.ensures.0 b;
      contains = c.is_part_of.ensures.0 w.if-is_part_of.true;
      avoids =
          let t : w.is_apart_from.result ≡ true = cc in w.is_apart_from.ensures.0 t;
    },
    λ h. c.is_basis.ensures.1 h.basis,
  )
  | else-is_part_of w ↦ absurd (cc)
]
