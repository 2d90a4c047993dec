use Rattle.std.proofs.Common.{subst, sym, rules}
use Rattle.std.specs.Prelude.{pos, ◌≤ℤ◌}
use Rattle.om_vectors.specs.WholeVectors.{WholeVector}
use Rattle.om_points.specs.Slabs.{IsInRows, row_end}
use Rattle.om_points.specs.Forms.{Refuses}
use Rattle.om_points.specs.Passes.{IsPassed}
use Rattle.om_points.proofs.Passes.{passed_none, passed_where}
use Rattle.om_points.proofs.Forms.{refuses_above, passed_above}
use Rattle.om_points.proofs.Slabs.{row_end_in_rows}
use Rattle.om_points.proofs.passing.run.Goals as goal

pub returns-then-refuses_rows-clause-refused : goal.returns-then-refuses_rows-clause-refused
returns-then-refuses_rows-clause-refused c =
    subst (Refuses c.args.form) (sym c.row_end.ensures)
    (c.refuses_rows.ensures c.if-refuses_rows.true (row_end c.args.vector c.rows_to_try-rows.result)
    (row_end_in_rows c.args.vector c.rows_to_try-rows.result c.rows_to_try-rows.ensures))

pub returns-then-refuses_rows-clause-passed : goal.returns-then-refuses_rows-clause-passed
returns-then-refuses_rows-clause-passed c = λ box k.
    let f : (t : WholeVector) → IsInRows c.args.vector c.rows_to_try-rows.result t → Refuses c.args.form t =
    c.refuses_rows.ensures c.if-refuses_rows.true in
    subst (λ u. IsPassed box (Refuses c.args.form) c.args.vector c.steps_to_row_end.result u) (sym c.row_end.ensures)
    (passed_where box (IsInRows c.args.vector c.rows_to_try-rows.result) (Refuses c.args.form) f c.args.vector
    (row_end c.args.vector c.rows_to_try-rows.result) c.steps_to_row_end.result (c.steps_to_row_end.ensures box k))

pub returns-then-refuses_upwards-clause-refused : goal.returns-then-refuses_upwards-clause-refused
returns-then-refuses_upwards-clause-refused c =
    let l : c.args.form.z ≤ℤ pos 0 = search rules in
    subst (Refuses c.args.form) (sym c.above.ensures)
    (refuses_above c.args.form c.args.vector c.room_above-steps.result l c.requires)

pub returns-then-refuses_upwards-clause-passed : goal.returns-then-refuses_upwards-clause-passed
returns-then-refuses_upwards-clause-passed c = λ box k.
    let l : c.args.form.z ≤ℤ pos 0 = search rules in
    subst (λ u. IsPassed box (Refuses c.args.form) c.args.vector c.room_above-steps.result u) (sym c.above.ensures)
    (passed_above box c.args.form c.args.vector c.room_above-steps.result l c.requires
    (λ i m. c.room_above-steps.ensures.next box i k m))

pub returns-clause-passed : goal.returns-clause-passed
returns-clause-passed c = λ box k. passed_none box (Refuses c.args.form) c.args.vector
