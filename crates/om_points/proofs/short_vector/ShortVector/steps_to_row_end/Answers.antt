use Rattle.std.proofs.Common.{ap, sym, subst, ◌≡◌, ◌∙◌, ◌+◌, ◌-◌, ◌*◌}
use Rattle.std.specs.Prelude.{unsigned_abs}
use Rattle.om_points.specs.Candidates.{greatest}
use Rattle.om_points.specs.Passes.{IsPassed}
use Rattle.om_points.specs.Slabs.{IsInRows, row_end}
use Rattle.om_points.proofs.Successors.{some}
use Rattle.om_points.proofs.Slabs.{rows_in_face, rows_in_ring, rows_to_end, rows_from_first, rows_of_ring}
use Rattle.om_points.proofs.Slabs.{below_greatest, is_first_row, is_later_row, is_last_row, is_earlier_row}
use Rattle.om_points.proofs.short_vector.ShortVector.steps_to_row_end.Goals as goal

pub returns-then-is_in_face : goal.returns-then-is_in_face
returns-then-is_in_face c = λ box k.
    let v = c.args.self in
    subst (λ r. IsPassed box (IsInRows v c.args.rows) v (c.args.rows * (2 * r + 1) + 2 * r) (row_end v c.args.rows))
    (sym c.radius-length.ensures.value)
    (rows_in_face box c.args.rows v k (some box v.x v.y v.z k) c.requires.lowest c.requires.rows
    (c.is_in_face.ensures.0 c.if-is_in_face.true))

pub returns-then-rows-rest : goal.returns-then-rows-rest
returns-then-rows-rest c = λ box k.
    let v = c.args.self in
    let n : unsigned_abs v.x ≡ greatest v → ⊥ = λ e. let t = c.is_in_face.ensures.1 e in let u =
    c.if-is_in_face.false in cc in
    subst (λ r. IsPassed box (IsInRows v c.args.rows) v (4 * (2 * r) - 1) (row_end v c.args.rows))
    (sym c.radius-length.ensures.value)
    (rows_of_ring box c.args.rows v k (some box v.x v.y v.z k) c.requires.lowest (below_greatest v n)
    (c.if-rows-rest.true ∙ c.if-rest-length.true ∙ ap (λ r. 2 * r) c.radius-length.ensures.value)
    (is_last_row v c.rows_after-rest.result c.args.rows c.rows_after-rest.ensures.value c.if-rows-rest.true))

pub returns-then-rest-length : goal.returns-then-rest-length
returns-then-rest-length c = λ box k.
    let v = c.args.self in
    let n : unsigned_abs v.x ≡ greatest v → ⊥ = λ e. let t = c.is_in_face.ensures.1 e in let u =
    c.if-is_in_face.false in cc in
    subst (λ r. IsPassed box (IsInRows v c.args.rows) v (2 * c.args.rows + 2 * r) (row_end v c.args.rows))
    (sym c.radius-length.ensures.value)
    (rows_from_first box c.args.rows v k (some box v.x v.y v.z k) c.requires.lowest (below_greatest v n)
    (is_first_row v c.rows_after-rest.result c.radius-length.result c.rows_after-rest.ensures.value
    c.radius-length.ensures.value c.if-rest-length.true)
    (is_earlier_row v c.rows_after-rest.result c.args.rows c.rows_after-rest.ensures.value c.requires.rows
    c.if-rows-rest.false))

pub returns-then-rows-rest-2 : goal.returns-then-rows-rest-2
returns-then-rows-rest-2 c = λ box k.
    let v = c.args.self in
    let n : unsigned_abs v.x ≡ greatest v → ⊥ = λ e. let t = c.is_in_face.ensures.1 e in let u =
    c.if-is_in_face.false in cc in
    subst (λ r. IsPassed box (IsInRows v c.args.rows) v (2 * c.args.rows + 2 * r) (row_end v c.args.rows))
    (sym c.radius-length.ensures.value)
    (rows_to_end box c.args.rows v k (some box v.x v.y v.z k) c.requires.lowest (below_greatest v n)
    (is_later_row v c.rows_after-rest.result c.radius-length.result c.rows_after-rest.ensures.value
    c.radius-length.ensures.value c.if-rest-length.false)
    (is_last_row v c.rows_after-rest.result c.args.rows c.rows_after-rest.ensures.value c.if-rows-rest-2.true))

pub returns : goal.returns
returns c = λ box k.
    let v = c.args.self in
    let n : unsigned_abs v.x ≡ greatest v → ⊥ = λ e. let t = c.is_in_face.ensures.1 e in let u =
    c.if-is_in_face.false in cc in
    rows_in_ring box c.args.rows v k (some box v.x v.y v.z k) c.requires.lowest (below_greatest v n)
    (is_later_row v c.rows_after-rest.result c.radius-length.result c.rows_after-rest.ensures.value
    c.radius-length.ensures.value c.if-rest-length.false)
    (is_earlier_row v c.rows_after-rest.result c.args.rows c.rows_after-rest.ensures.value c.requires.rows
    c.if-rows-rest-2.false)
