-- Acyclic oriented matroids, and their extreme elements. Elements count from 1.
--
-- Reference: Björner, Las Vergnas, Sturmfels, White and Ziegler, Oriented Matroids, chapter 3.
use Rattle.std.specs.Prelude.{ℕ, ◌≡◌, ◌≢◌, ◌+◌, ◌≤◌, List, [], ◌∷◌, cond, nat_eq, replicate}
use Rattle.om_signs.specs.declared.sign.Sign.{Sign}
use Rattle.om_signs.specs.declared.sign.Sign.TheVariants.{Minus, Plus}
use Rattle.om_signs.specs.SignVec.{at_element}
use Rattle.om_laws.specs.Colours.{red, green, Colour}
use Rattle.om_chirotope.specs.Map.{SignMap}
use Rattle.om_denotation.specs.Circuits.{IsCircuitOfChirotope}
use Rattle.om_oriented.specs.declared.painted.Painted.{Painted}
use Rattle.om_oriented.specs.declared.painted.Painted.TheVariants.{Circuit, Cocircuit}
use Rattle.om_paint.specs.declared.hull_error.HullError.{HullError}
use Rattle.om_paint.specs.declared.hull_error.HullError.TheVariants.{Cyclic, Memory}
use Rattle.om_paint.specs.Paintings.{HasNoMinus}

-- the vector of n pluses
abbrev pub all_plus : ℕ → List Sign
all_plus n = replicate n Plus

-- a circuit without a minus
abbrev pub IsPositiveCircuit : SignMap → List Sign → Type 0
IsPositiveCircuit m X = IsCircuitOfChirotope m X × HasNoMinus X

-- e is the only element at which the vector is minus
abbrev pub IsOnlyMinus : ℕ → ℕ → List Sign → Type 0
IsOnlyMinus n e X = (at_element X e ≡ Minus) × ((f : ℕ) → 1 ≤ f → f ≤ n → f ≢ e → at_element X f ≢ Minus)

-- no circuit has e as its only minus place
abbrev pub IsExtreme : SignMap → ℕ → Type 0
IsExtreme m e = (X : List Sign) → IsCircuitOfChirotope m X → IsOnlyMinus m.elements e X → ⊥

-- e is green and all others are red
abbrev pub green_alone : ℕ → ℕ → Colour
green_alone e f = cond (nat_eq f e) green red

-- the item is a cocircuit
abbrev pub IsCocircuitItem : Painted → Type 0
IsCocircuitItem (Circuit X) = ⊥
IsCocircuitItem (Cocircuit Y) = Unit {0}

-- each item has the property; the items are those of the elements from e on
abbrev pub EachItem : (ℕ → Painted → Type 0) → ℕ → List Painted → Type 0
EachItem P e [] = Unit {0}
EachItem P e (x ∷ xs) = P e x × EachItem P (e + 1) xs

-- the error names a circuit without a minus
abbrev pub IsCyclic : HullError → Type 0
IsCyclic (Cyclic X) = Unit {0}
IsCyclic Memory = ⊥

-- the vector that the error names, if it names one, has the property
abbrev pub IfCyclic : (List Sign → Type 0) → HullError → Type 0
IfCyclic P (Cyclic X) = P X
IfCyclic P Memory = Unit {0}
