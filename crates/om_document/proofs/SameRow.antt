-- Whether two sign vectors are equal.
--
-- Main results: equal_signs-Decides, same_row-Decides
use Rattle.std.proofs.Common.{◌≡◌, List, refl}
use Rattle.std.specs.Prelude.{Decides}
use Rattle.std.proofs.lemmas.Slice.Eq.{slice_eq-Decides}
use Rattle.om_signs.specs.declared.sign.Sign.{Sign}
use Rattle.om_signs.specs.declared.sign.Sign.TheVariants.{Minus, Zero, Plus}
use Rattle.om_signs.specs.Sign.{equal_signs}
use Rattle.om_document.specs.Rows.{same_row}

pub equal_signs-Decides : (s t : Sign) → Decides (equal_signs s t) (s ≡ t)
equal_signs-Decides Minus Minus = (λ _. refl, λ _. refl)
equal_signs-Decides Minus Zero = (λ h. cc, λ h. cc)
equal_signs-Decides Minus Plus = (λ h. cc, λ h. cc)
equal_signs-Decides Zero Minus = (λ h. cc, λ h. cc)
equal_signs-Decides Zero Zero = (λ _. refl, λ _. refl)
equal_signs-Decides Zero Plus = (λ h. cc, λ h. cc)
equal_signs-Decides Plus Minus = (λ h. cc, λ h. cc)
equal_signs-Decides Plus Zero = (λ h. cc, λ h. cc)
equal_signs-Decides Plus Plus = (λ _. refl, λ _. refl)

-- sign vectors that the test takes for the same are equal
pub same_row-Decides : (x y : List Sign) → Decides (same_row x y) (x ≡ y)
same_row-Decides x y = slice_eq-Decides equal_signs-Decides x y (same_row x y) refl
