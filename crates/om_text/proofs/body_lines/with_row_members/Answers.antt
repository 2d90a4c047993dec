use Rattle.std.proofs.Common.{◌∷◌, [], map}
use Rattle.om_signs.specs.Sign.{opposite}
use Rattle.om_text.specs.Reading.{with_member, with_each}
use Rattle.om_text.proofs.Distinct.{with_each_grows}
use Rattle.om_text.proofs.PartSteps.{still_refused}
use Rattle.om_text.proofs.body_lines.with_row_members.Goals as goal

pub returns-in_err-with_row-in-Half : goal.returns-in_err-with_row-in-Half
returns-in_err-with_row-in-Half c =
    let ms = with_member c.args.members c.args.member in
    rw c.in-Half.is
    (still_refused ms (with_each ms (map opposite c.args.member ∷ [])) c.in_err-with_row-in-Half.field-0.0
    c.from_residual.result (with_each_grows ms (map opposite c.args.member ∷ [])) c.from_residual.ensures.1
    c.in_err-with_row-in-Half.ensures)
