-- A circuit or a cocircuit fits each colouring, and a hull is told.
--
-- Main results: painting_possible, hull_possible.
-- Reference: Björner, Las Vergnas, Sturmfels, White and Ziegler, Oriented Matroids, chapter 3.
use Rattle.std.specs.Prelude.{ℕ, ◌≡◌, ◌+◌, ◌≤◌, ◌↔◌, List, [], ◌∷◌, ◌++◌, length, refl}
use Rattle.std.proofs.Common.{zero, suc, sym, ◌∙◌, subst, inl, inr, arith}
use Rattle.std.proofs.lemmas.Bool.{cases_eq, cases_lt, eq-eqb}
use Rattle.std.proofs.lemmas.List.{length-append}
use Rattle.om_signs.specs.declared.sign.Sign.{Sign}
use Rattle.om_laws.specs.Colours.{Colour, IsColoured}
use Rattle.om_chirotope.specs.Chirotope.{IsChirotope, IsChirotopeWithinLimits}
use Rattle.om_chirotope.specs.Map.{SignMap}
use Rattle.om_denotation.specs.Covectors.{IsCovectorOfChirotope}
use Rattle.om_denotation.specs.Painting.{IsFittingCircuit, IsFittingCocircuit}
use Rattle.om_denotation.proofs.ChirotopeBridge.{circuit_length, cocircuit_length}
use Rattle.om_denotation.proofs.FamilyPaintings.{painting_one}
use Rattle.om_oriented.proofs.PlaceLaws.{before_lt}
use Rattle.om_oriented.specs.Places.{base_three}
use Rattle.om_oriented.specs.declared.painted.Painted.{Painted}
use Rattle.om_oriented.specs.declared.painted.Painted.TheVariants as item
use Rattle.om_paint.specs.Hulls.{all_plus, IsPositiveCircuit, IsExtreme, green_alone, IsCocircuitItem, EachItem}
use Rattle.om_paint.specs.Paintings.{colouring, IsFirst, IsPaintingOf}
use Rattle.om_paint.proofs.Hulls.{acyclic_both, extreme_item, item_more}
use Rattle.om_document.specs.declared.document.Document.{Document}
use Rattle.om_printing.specs.declared.line.Line.TheVariants as line
use Rattle.om_words.specs.declared.colouring.Colouring.{Colouring}
use Rattle.om_words.specs.Tasks.{HasElement}
use Rattle.om_reply.specs.declared.answer.Answer.{Answer}
use Rattle.om_reply.specs.Answers.{says, tells}
use Rattle.om_commands.specs.Hulls as hulls
use Rattle.om_commands.specs.Paintings as paintings
use Rattle.om_existence.specs.Possible.{IsPossible}
use Rattle.om_existence.proofs.Possible.{held, then, mapped, either_way, least}
use Rattle.om_existence.proofs.Worked.{IsWorked, for_kept_chirotope_possible}

-- where some sign vector of n signs is of a family, a first one is possible
first_vector : (n : ℕ) (P : List Sign → Type 0) → ((X : List Sign) → P X → length X ≡ n) → (X : List Sign) → P X
    → IsPossible ((Y : List Sign) × IsFirst P Y)
first_vector n P long X p =
    mapped (λ l. (
      l.0,
      record {
        member = l.1.has;
        first =
            λ Y q before. l.1.below Y (before_lt Y l.0 (long Y q ∙ sym (long l.0 l.1.has)) before) q;
      },
    ))
    (least base_three P X p)

-- ---- paintings

module _ (m : SignMap) (chirotope : IsChirotope m) (colour : ℕ → Colour) (e : ℕ) (low : 1 ≤ e) (high : e ≤ m.elements)
    (coloured : IsColoured (colour e)) where
  first_circuit : (X : List Sign) → IsFittingCircuit m colour e X
      → IsPossible ((x : Painted) × IsPaintingOf m colour e x)
  first_circuit X fits =
      mapped (λ h. (item.Circuit h.0, h.1))
      (first_vector m.elements (IsFittingCircuit m colour e) (λ Y f. circuit_length m Y f.circuit) X fits)

  first_cocircuit : ((X : List Sign) → IsFittingCircuit m colour e X → ⊥) → (Y : List Sign)
      → IsFittingCocircuit m colour e Y → IsPossible ((x : Painted) × IsPaintingOf m colour e x)
  first_cocircuit none Y fits =
      mapped (λ h. (item.Cocircuit h.0, (none, h.1)))
      (first_vector m.elements (IsFittingCocircuit m colour e) (λ X f. cocircuit_length m X f.cocircuit) Y fits)

  painted_possible : IsPossible ((x : Painted) × IsPaintingOf m colour e x)
  painted_possible = then (either_way ((X : List Sign) × IsFittingCircuit m colour e X)) (λ d. elim d [
    | inl h ↦ first_circuit h.0 h.1
    | inr none ↦ elim (painting_one m chirotope colour e (low, high) coloured) [
      | inl h ↦ absurd (none h)
      | inr h ↦ first_cocircuit (λ X f. none (X, f)) h.0 h.1
    ]
  ])

painted_map : (c : Colouring) → HasElement c → (n : ℕ) → c.e ≤ n
    → IsColoured (colouring (paintings.given_colours c) c.e) → (m : SignMap) → IsChirotopeWithinLimits m
    → m.elements ≡ n
    → IsPossible ((a : Answer) × paintings.IsPaintingOfMap c m a)
painted_map c some n within coloured m s e =
    mapped (λ h. (says (paintings.painted_line h.0), paintings.painted h.0 h.1))
    (painted_possible m s.axioms (colouring (paintings.given_colours c)) c.e some (omega (arith, within, e)) coloured)

pub painting_possible : (c : Colouring) → HasElement c → (d : Document) → IsWorked d
    → IsPossible ((a : Answer) × paintings.IsPainting c d a)
painting_possible c some d w = elim (cases_eq c.count d.elements) [
  | inr other ↦ held (says (line.RefusedLength c.count), paintings.other_length other)
  | inl same ↦ elim (cases_lt d.elements c.e) [
    | inl above ↦ held (says (line.RefusedPlace c.e), paintings.outside same above)
    | inr within ↦ then (either_way (IsColoured (colouring (paintings.given_colours c) c.e))) (λ f. elim f [
      | inr none ↦ held (says (line.RefusedColour c.e), paintings.uncoloured same within none)
      | inl coloured ↦ mapped (λ h. (h.0, paintings.coloured h.0 same within coloured h.1))
          (for_kept_chirotope_possible (paintings.IsPaintingOfMap c) d w
          (λ m s e. painted_map c some d.elements within coloured m s e))
    ])
  ]
]

-- ---- hulls

green_is_coloured : (e : ℕ) → IsColoured (green_alone e e)
green_is_coloured e = rw (eq-eqb e e refl) tt

module _ (m : SignMap) (s : IsChirotopeWithinLimits m) where
  -- the item of an element, which is a cocircuit exactly where the element is extreme
  abbrev IsItem : ℕ → Painted → Type 0
  IsItem e x = IsPaintingOf m (green_alone e) e x × (IsCocircuitItem x ↔ IsExtreme m e)

  item_possible : (e : ℕ) → 1 ≤ e → e ≤ m.elements → IsPossible ((x : Painted) × IsItem e x)
  item_possible e low high =
      mapped (λ h. (h.0, (h.1, extreme_item m s.axioms e low high h.0 h.1)))
      (painted_possible m s.axioms (green_alone e) e low high (green_is_coloured e))

  items_possible : (k : ℕ) → k ≤ m.elements
      → IsPossible ((items : List Painted) × ((length items ≡ k) × EachItem IsItem 1 items))
  items_possible zero high = held ([], (refl, tt))
  items_possible (suc k) high = then (items_possible k (omega arith)) (λ h.
      let size = h.1.0 in
      mapped (λ x. (
        h.0 ++ x.0 ∷ [],
        (
          longer k h.0 x.0 size,
          item_more IsItem 1 h.0 x.0 h.1.1 (subst (λ e. IsItem e x.0) (omega (arith, size)) x.1),
        ),
      ))
      (item_possible (k + 1) (omega arith) (omega arith)))
    where
      longer : (k : ℕ) (items : List Painted) (x : Painted) → length items ≡ k → length (items ++ x ∷ []) ≡ suc k
      longer k items x size = let l = length-append items (x ∷ []) in omega (arith, l, size)

  firsts_of : (e : ℕ) (items : List Painted) → EachItem IsItem e items
      → EachItem (λ e. IsPaintingOf m (green_alone e) e) e items
  firsts_of e [] each = tt
  firsts_of e (x ∷ items) each = (each.0.0, firsts_of (e + 1) items each.1)

  extremes_of : (e : ℕ) (items : List Painted) → EachItem IsItem e items
      → EachItem (λ e x. IsCocircuitItem x ↔ IsExtreme m e) e items
  extremes_of e [] each = tt
  extremes_of e (x ∷ items) each = (each.0.1, extremes_of (e + 1) items each.1)

  positive_possible : (IsCovectorOfChirotope m (all_plus m.elements) → ⊥)
      → IsPossible ((X : List Sign) × IsPositiveCircuit m X)
  positive_possible cyclic none = cyclic ((acyclic_both m s.axioms).1 (λ X p. none (X, p)))

  pub hull_possible : IsPossible ((a : Answer) × hulls.IsHullOfMap m a)
  hull_possible = then (either_way (IsCovectorOfChirotope m (all_plus m.elements))) (λ d. elim d [
    | inl acyclic ↦
        mapped (λ h. (tells h.0, hulls.acyclic h.0 acyclic h.1.0 (firsts_of 1 h.0 h.1.1) (extremes_of 1 h.0 h.1.1)))
        (items_possible m.elements (omega arith))
    | inr cyclic ↦
        then (positive_possible cyclic)
        (λ p. mapped (λ h. (says (line.Cyclic h.0), hulls.cyclic h.0 cyclic h.1))
        (first_vector m.elements (IsPositiveCircuit m) (λ X q. circuit_length m X q.0) p.0 p.1))
  ])
