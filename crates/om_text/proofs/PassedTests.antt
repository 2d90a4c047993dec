-- Tests that a line has to pass in turn.
--
-- Main results: if_passed_map
use Rattle.std.proofs.Common.{◌≡◌, List, [], ◌∷◌, Bool, true, false, refl}
use Rattle.std.specs.Result.{result_map_both}
use Rattle.om_document.specs.declared.code.Code.{Code}
use Rattle.om_text.specs.Steps.{if_passed}

-- what is made of the value doesn't change which test fails first
pub if_passed_map : {A B : Type 0} (f : A → B) (tests : List (Bool × Code)) (x : A)
    → if_passed tests (f x) ≡ result_map_both f (λ c. c) (if_passed tests x)
if_passed_map f [] x = refl
if_passed_map f ((true, c) ∷ tests) x = if_passed_map f tests x
if_passed_map f ((false, c) ∷ tests) x = refl
