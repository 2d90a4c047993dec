use Rattle.std.specs.Prelude.{ℤ, ◌≡◌, List, length, refl}
use Rattle.std.proofs.Common.{subst}
use Rattle.om_document.specs.declared.body.Body.TheVariants.{Points}
use Rattle.om_vectors.specs.Realizations.{IsRankLow}
use Rattle.om_representation.specs.Axioms.{IsRefusal}
use Rattle.om_representation.specs.Points.{vectors_of}
use Rattle.om_representation.specs.declared.unrepresented.Unrepresented.{Unrepresented}
use Rattle.om_commands.proofs.KeepingLaws.{not_flat, points_unkept}
use Rattle.om_commands.proofs.keeping.keep_points.Goals as goal

pub returns-in-Ok : goal.returns-in-Ok
returns-in-Ok c =
    let P : List (List ℤ) → Type 0 = λ points. IsRankLow (vectors_of points) → ⊥ in
    (refl, subst P c.as_slice.ensures c.in-Ok.ensures.axioms)

refused : (points given : List (List ℤ)) (why : Unrepresented) → given ≡ points
    → IsRefusal (length given) (Points given) why → IsRefusal (length points) (Points points) why
refused points given why same is = subst (λ ps. IsRefusal (length ps) (Points ps) why) same is

pub of-requires : goal.of-requires
of-requires c =
    not_flat (length c.args.points) (Points c.args.points) _ (λ flat. flat)
    (refused _ _ _ c.as_slice.ensures c.in-Err.ensures.refused)

pub returns-in-Err : goal.returns-in-Err
returns-in-Err c =
    rw c.of.ensures
    (points_unkept c.args.elements (length c.args.points) c.args.points c.args.names _
    (refused _ _ _ c.as_slice.ensures c.in-Err.ensures.refused))
