-- The forms that a search tries first. No public clause uses these.
use Rattle.std.specs.Prelude.{List}
use Rattle.std.specs.List.{All}
use Rattle.om_signs.specs.declared.sign.Sign.{Sign}
use Rattle.om_vectors.specs.WholeVectors.{WholeVector}
use Rattle.om_points.specs.Passes.{RefusesRightly, IsUseful}
use Rattle.om_points.specs.declared.slopes.Slopes.{Slopes}
use Rattle.om_points.specs.declared.refusers.Refusers.{Refusers}

-- each of the forms refuses only vectors without the required signs in place of the last one
pub record AreSound (vs : List WholeVector) (signs : List Sign) (r : Refusers) : Type 0 where
  pub right : RefusesRightly vs signs r.right
  pub left : RefusesRightly vs signs r.left
  pub against : RefusesRightly vs signs r.against
  pub held : RefusesRightly vs signs r.held

-- the same holds of all forms, and their coefficients are minors
pub record AreUseful (vs : List WholeVector) (signs : List Sign) (s : Slopes) : Type 0 where
  pub rising : All (IsUseful vs signs) s.rising
  pub level : All (IsUseful vs signs) s.level
  pub falling : All (IsUseful vs signs) s.falling
