-- What holds of all members of a list.
--
-- Main results: covector_of_circuits
use Rattle.std.specs.Prelude.{◌≡◌, ◌↔◌, List, All, length, Bool, IsTrue}
use Rattle.std.proofs.Common.{sym, subst}
use Rattle.std.proofs.lemmas.List.Elements.{All-contains_itself}
use Rattle.om_signs.specs.declared.sign.Sign.{Sign}
use Rattle.om_signs.specs.SignVec.{IsOrthogonal}
use Rattle.om_members.specs.Listings.{Listing}
use Rattle.om_denotation.specs.Covectors.{IsCovectorOfCircuits}

pub covector_of_circuits : (c : Listing) (members : List (List Sign)) (X : List Sign) (r : Bool) → members ≡ c.members
    → length X ≡ c.elements → (IsTrue r ↔ All (IsOrthogonal X) members) → IsTrue r ↔ IsCovectorOfCircuits c X
covector_of_circuits c members X r e l f = (
  λ t. record {
    size = l;
    orthogonal = λ Y in_members. subst (IsOrthogonal X) in_members.2
        (subst (All (IsOrthogonal X)) e (f.0 t) in_members.0 Y in_members.1);
  },
  λ h. f.1 (subst (All (IsOrthogonal X)) (sym e) (λ k d lt. h.orthogonal _ (All-contains_itself c.members k d lt))),
)
