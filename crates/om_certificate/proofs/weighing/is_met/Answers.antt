use Rattle.std.proofs.Common.{◌∙◌, sym, subst, length, ◌≤◌}
use Rattle.std.proofs.lemmas.Int.{to_z-of_z}
use mir.Syntax.{w128}
use Rattle.om_subsets.specs.Subsets.{choose}
use Rattle.om_certificate.proofs.Walking.{sum_of_side, side_sums}
use Rattle.om_certificate.proofs.weighing.is_met.Goals as goal

pub sides-small_first-requires-clause-distinct : goal.sides-small_first-requires-clause-distinct
sides-small_first-requires-clause-distinct c = c.requires.distinct

pub sides-small_first-requires-clause-small : goal.sides-small_first-requires-clause-small
sides-small_first-requires-clause-small c = c.requires.two.first

pub sides-small_first-requires-clause-big : goal.sides-small_first-requires-clause-big
sides-small_first-requires-clause-big c = c.requires.two.second

pub sum_of-requires-clause-first : goal.sum_of-requires-clause-first
sum_of-requires-clause-first c = c.sides-small_first.ensures.small_first.size

pub sum_of-requires-clause-second : goal.sum_of-requires-clause-second
sum_of-requires-clause-second c = c.sides-small_first.ensures.small_second.size

pub sum_of-requires-clause-same : goal.sum_of-requires-clause-same
sum_of-requires-clause-same c =
    c.sides-small_first.ensures.small_second.n ∙ sym c.sides-small_first.ensures.small_first.n

pub sum_of-requires-clause-room : goal.sum_of-requires-clause-room
sum_of-requires-clause-room c =
    subst (λ n. choose n 3 ≤ length c.args.table.now) (sym c.sides-small_first.ensures.small_first.n) c.requires.room

pub sum_of-requires-clause-small : goal.sum_of-requires-clause-small
sum_of-requires-clause-small c = c.requires.small

pub sum_of-requires-2-clause-first : goal.sum_of-requires-2-clause-first
sum_of-requires-2-clause-first c = c.sides-small_first.ensures.big_first.size

pub sum_of-requires-2-clause-second : goal.sum_of-requires-2-clause-second
sum_of-requires-2-clause-second c = c.sides-small_first.ensures.big_second.size

pub sum_of-requires-2-clause-same : goal.sum_of-requires-2-clause-same
sum_of-requires-2-clause-same c =
    c.sides-small_first.ensures.big_second.n ∙ sym c.sides-small_first.ensures.big_first.n

pub sum_of-requires-2-clause-room : goal.sum_of-requires-2-clause-room
sum_of-requires-2-clause-room c =
    subst (λ n. choose n 3 ≤ length c.args.table.now) (sym c.sides-small_first.ensures.big_first.n) c.requires.room

pub sum_of-requires-2-clause-small : goal.sum_of-requires-2-clause-small
sum_of-requires-2-clause-small c = c.requires.small

pub returns : goal.returns
returns c =
    side_sums c.args.st.strict c.compares.result _ _ _ _
    (to_z-of_z w128 c.sum_of.result (record { sfits = c.sum_of.type_inv })
    ∙ sum_of_side c.args.n c.args.table.now c.args.st c.args.st.small _ _ c.sum_of.result
    c.sides-small_first.ensures.small_first c.sides-small_first.ensures.small_second c.sum_of.ensures)
    (to_z-of_z w128 c.sum_of-2.result (record { sfits = c.sum_of-2.type_inv })
    ∙ sum_of_side c.args.n c.args.table.now c.args.st c.args.st.big _ _ c.sum_of-2.result
    c.sides-small_first.ensures.big_first c.sides-small_first.ensures.big_second c.sum_of-2.ensures) c.compares.ensures
