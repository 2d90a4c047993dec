-- A map, a colouring and an element have one painting at most, and it depends on the colours of the elements 1 to n
-- alone.
--
-- Main results: one_first, a family has one first member at most; one_painting; same_painting, paintings by colours
-- that agree.
-- Reference: Björner, Las Vergnas, Sturmfels, White and Ziegler, Oriented Matroids, chapter 3.
use Rattle.std.specs.Prelude.{ℕ, ◌≡◌, ◌≤◌, List, Some, refl}
use Rattle.std.specs.Ordering.{ordering_reverse}
use Rattle.std.specs.declared.cmp.Ordering.{Ordering}
use Rattle.std.specs.declared.cmp.Ordering.TheVariants.{Less, Equal, Greater}
use Rattle.std.proofs.Common.{sym, ◌∙◌, ap, subst}
use Rattle.om_signs.specs.declared.sign.Sign.{Sign}
use Rattle.om_signs.specs.SignVec.{at_element}
use Rattle.om_signs.specs.Order.{lexicographic}
use Rattle.om_signs.specs.OrderLaws.{lexicographic-total, same_from_order}
use Rattle.om_laws.specs.Colours.{Colour, CircuitMay, CocircuitMay}
use Rattle.om_chirotope.specs.Map.{SignMap}
use Rattle.om_denotation.specs.Painting.{IsFittingCircuit, IsFittingCocircuit}
use Rattle.om_oriented.specs.declared.painted.Painted.{Painted}
use Rattle.om_oriented.specs.declared.painted.Painted.TheVariants.{Circuit, Cocircuit}
use Rattle.om_paint.specs.Paintings.{IsFirst, IsPaintingOf}
use Rattle.om_paint.proofs.FirstVectors.{first_same}

-- ---- first members

-- a family has one first member at most
pub one_first : (P : List Sign → Type 0) (X Y : List Sign) → IsFirst P X → IsFirst P Y → X ≡ Y
one_first P X Y h k = by_order (lexicographic X Y) refl
  where
    by_order : (o : Ordering) → lexicographic X Y ≡ o → X ≡ Y
    by_order Less e = absurd (k.first X h.member e)
    by_order Equal e = same_from_order X Y e
    by_order Greater e = absurd (h.first Y k.member (lexicographic-total.antisymm Y X ∙ ap ordering_reverse e))

module _ (m : SignMap) (colour : ℕ → Colour) (e : ℕ) where
  -- a map, a colouring and an element have one painting at most
  pub one_painting : (x y : Painted) → IsPaintingOf m colour e x → IsPaintingOf m colour e y → x ≡ y
  one_painting (Circuit X) (Circuit Y) h k = ap Circuit (one_first _ X Y h k)
  one_painting (Circuit X) (Cocircuit Y) h k = absurd (k.0 X h.member)
  one_painting (Cocircuit X) (Circuit Y) h k = absurd (h.0 Y k.member)
  one_painting (Cocircuit X) (Cocircuit Y) h k = ap Cocircuit (one_first _ X Y h.1 k.1)

-- ---- colours that agree

module _ (m : SignMap) (c d : ℕ → Colour) (agree : (f : ℕ) → 1 ≤ f → f ≤ m.elements → c f ≡ d f) (e : ℕ) where
  same_circuit : (X : List Sign) → IsFittingCircuit m c e X → IsFittingCircuit m d e X
  same_circuit X h =
      record {
        circuit = h.circuit;
        through = h.through;
        fits =
            λ f low high. subst (λ k. CircuitMay k (at_element X f)) (agree f low high) (h.fits f low high);
      }

  circuit_back : (X : List Sign) → IsFittingCircuit m d e X → IsFittingCircuit m c e X
  circuit_back X h =
      record {
        circuit = h.circuit;
        through = h.through;
        fits =
            λ f low high. subst (λ k. CircuitMay k (at_element X f)) (sym (agree f low high)) (h.fits f low high);
      }

  same_cocircuit : (Y : List Sign) → IsFittingCocircuit m c e Y → IsFittingCocircuit m d e Y
  same_cocircuit Y h =
      record {
        cocircuit = h.cocircuit;
        through = h.through;
        fits =
            λ f low high. subst (λ k. CocircuitMay k (at_element Y f)) (agree f low high) (h.fits f low high);
      }

  cocircuit_back : (Y : List Sign) → IsFittingCocircuit m d e Y → IsFittingCocircuit m c e Y
  cocircuit_back Y h =
      record {
        cocircuit = h.cocircuit;
        through = h.through;
        fits =
            λ f low high. subst (λ k. CocircuitMay k (at_element Y f)) (sym (agree f low high)) (h.fits f low high);
      }

  pub same_painting : (x : Painted) → IsPaintingOf m c e x → IsPaintingOf m d e x
  same_painting (Circuit X) h =
      first_same (IsFittingCircuit m c e) (IsFittingCircuit m d e) same_circuit circuit_back (Some X) h
  same_painting (Cocircuit Y) h = (
    λ X k. h.0 X (circuit_back X k),
    first_same (IsFittingCocircuit m c e) (IsFittingCocircuit m d e) same_cocircuit cocircuit_back (Some Y) h.1,
  )
