-- Colours of the signs of one vector and of two, for the painting of a dual pair.
--
-- Main definitions: colour_of, colour_of_two
-- Main results: what a colour lets a circuit (circuit_plus, circuit_not_minus, circuit_plus_left, circuit_plus_right)
-- and a cocircuit have (cocircuit_equal, cocircuit_either, cocircuit_first_nonzero, cocircuit_zero)
-- Reference: Björner, Las Vergnas, Sturmfels, White and Ziegler, Oriented Matroids, section 3.4.
use Rattle.std.specs.Prelude.{◌≡◌, ◌≢◌, refl, ◌⊎◌}
use Rattle.std.proofs.Common.{arith, inl, inr}
use Rattle.om_signs.specs.declared.sign.Sign.{Sign}
use Rattle.om_signs.specs.declared.sign.Sign.TheVariants.{Minus, Zero, Plus}
use Rattle.om_signs.specs.Sign.{opposite, product, first_nonzero}
use Rattle.om_laws.specs.Colours.{Colour, red, green, black, white, CircuitMay, CocircuitMay, IsColoured}
use Rattle.om_laws.specs.Signs.{IsNonzero}

-- the colour of one sign, and of two
abbrev pub colour_of : Sign → Colour
colour_of Minus = green
colour_of Zero = black
colour_of Plus = red

abbrev pub colour_of_two : Sign → Sign → Colour
colour_of_two Minus Plus = white
colour_of_two Plus Minus = white
colour_of_two Zero Zero = black
colour_of_two Minus Zero = green
colour_of_two Minus Minus = green
colour_of_two Zero Minus = green
colour_of_two Plus Zero = red
colour_of_two Plus Plus = red
colour_of_two Zero Plus = red

pub colour_of_coloured : (s : Sign) → IsNonzero s → IsColoured (colour_of s)
colour_of_coloured s n = grind arith

pub nonzero_from_colour : (s : Sign) → IsColoured (colour_of s) → IsNonzero s
nonzero_from_colour s n = grind arith

pub circuit_not_minus : (s v : Sign) → CircuitMay (colour_of s) v → product s v ≢ Minus
circuit_not_minus s v a e = grind arith

pub circuit_plus : (s v : Sign) → IsNonzero s → IsNonzero v → CircuitMay (colour_of s) v → product s v ≡ Plus
circuit_plus s v m n a = grind arith

pub cocircuit_equal : (s v : Sign) → CocircuitMay (colour_of s) v → IsNonzero v → v ≡ s
cocircuit_equal s v a n = grind arith

pub circuit_not_minus_left : (s t v : Sign) → CircuitMay (colour_of_two s t) v → product s v ≢ Minus
circuit_not_minus_left s t v a e = grind arith

pub circuit_not_minus_right : (s t v : Sign) → CircuitMay (colour_of_two s t) v → product t v ≢ Minus
circuit_not_minus_right s t v a e = grind arith

pub colour_of_two_coloured : (s t : Sign) → IsNonzero (first_nonzero s t) → (s ≡ opposite t → ⊥)
    → IsColoured (colour_of_two s t)
colour_of_two_coloured Minus Plus n o = absurd (o refl)
colour_of_two_coloured Plus Minus n o = absurd (o refl)
colour_of_two_coloured Zero Zero n o = absurd (n refl)
colour_of_two_coloured Minus Zero n o = tt
colour_of_two_coloured Minus Minus n o = tt
colour_of_two_coloured Zero Minus n o = tt
colour_of_two_coloured Plus Zero n o = tt
colour_of_two_coloured Plus Plus n o = tt
colour_of_two_coloured Zero Plus n o = tt

pub nonzero_from_colour_of_two : (s t : Sign) → IsColoured (colour_of_two s t) → IsNonzero (first_nonzero s t)
nonzero_from_colour_of_two s t n = grind arith

pub cocircuit_either : (s t v : Sign) → CocircuitMay (colour_of_two s t) v → IsNonzero v → (v ≡ s) ⊎ (v ≡ t)
cocircuit_either Minus Plus Minus a n = inl refl
cocircuit_either Minus Plus Zero a n = absurd (n refl)
cocircuit_either Minus Plus Plus a n = inr refl
cocircuit_either Plus Minus Minus a n = inr refl
cocircuit_either Plus Minus Zero a n = absurd (n refl)
cocircuit_either Plus Minus Plus a n = inl refl
cocircuit_either Zero Zero v a n = absurd (grind arith)
cocircuit_either Minus Zero v a n = inl (grind arith)
cocircuit_either Minus Minus v a n = inl (grind arith)
cocircuit_either Zero Minus v a n = inr (grind arith)
cocircuit_either Plus Zero v a n = inl (grind arith)
cocircuit_either Plus Plus v a n = inl (grind arith)
cocircuit_either Zero Plus v a n = inr (grind arith)

pub cocircuit_first_nonzero : (s t v : Sign) → IsColoured (colour_of_two s t) → CocircuitMay (colour_of_two s t) v
    → IsNonzero v → v ≡ first_nonzero s t
cocircuit_first_nonzero s t v r a n = grind arith

pub circuit_plus_left : (s t v : Sign) → IsColoured (colour_of_two s t) → CircuitMay (colour_of_two s t) v → IsNonzero v
    → IsNonzero s → product s v ≡ Plus
circuit_plus_left s t v r a n m = grind arith

pub circuit_plus_right : (s t v : Sign) → IsColoured (colour_of_two s t) → CircuitMay (colour_of_two s t) v
    → IsNonzero v → IsNonzero t → product t v ≡ Plus
circuit_plus_right s t v r a n m = grind arith

pub turned_left : (s t v : Sign) → s ≡ opposite t → product s v ≡ Minus → product t v ≡ Plus
turned_left s t v e h = grind arith

pub turned_right : (s t v : Sign) → s ≡ opposite t → product t v ≡ Minus → product s v ≡ Plus
turned_right s t v e h = grind arith

pub cocircuit_zero : (v : Sign) → CocircuitMay black v → v ≡ Zero
cocircuit_zero v a = grind arith
