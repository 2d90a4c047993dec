-- A set of the rank is a basis of the normal chirotope of a list of cocircuits exactly where it meets each member.
--
-- Main results: met_function, met_list, basis_meets, meeting_basis
-- Reference: Björner, Las Vergnas, Sturmfels, White and Ziegler, Oriented Matroids, chapter 3.
use Rattle.std.specs.Prelude.{ℕ, ◌≡◌, ◌≢◌, List, length, refl}
use Rattle.std.specs.List.{Contains}
use Rattle.std.proofs.Common.{zero, suc, sym, ap, subst, ◌∙◌}
use Rattle.om_signs.specs.declared.sign.Sign.{Sign}
use Rattle.om_signs.specs.declared.sign.Sign.TheVariants.{Minus, Zero, Plus}
use Rattle.om_signs.specs.Sign.{product}
use Rattle.om_signs.proofs.SignLaws.{product_assoc, opposite_nonzero, plus_nonzero}
use Rattle.om_subsets.specs.Subsets.{IsSubsetFrom}
use Rattle.om_subsets.proofs.Order.{members_from}
use Rattle.om_laws.specs.Signs.{IsNonzero}
use Rattle.om_laws.specs.Vectors.{SignVector}
use Rattle.om_laws.specs.Chirotope as theory
use Rattle.om_laws.specs.Chirotope.{elements_to}
use Rattle.om_laws.specs.Circuits.{IsCocircuit}
use Rattle.om_laws.specs.Bridge.{as_function, as_list}
use Rattle.om_laws.proofs.SortingLaws.{increasing_distinct}
use Rattle.om_laws.proofs.TupleSizes.{on_tuples_tuple}
use Rattle.om_laws.proofs.BridgeLaws.{as_function-as_list}
use Rattle.om_chirotope.specs.Map.{SignMap, chi_of, parity_sign}
use Rattle.om_chirotope.proofs.Circuits.{parity_sign-suc}
use Rattle.om_chirotope.proofs.Theory.{theory_chirotope}
use Rattle.om_denotation.proofs.ChirotopeBridge.{tuples_of, cocircuit_function, cocircuit_supported, cocircuit_list}
use Rattle.om_denotation.proofs.ChirotopeBridge.{increasing_subset}
use Rattle.om_denotation.proofs.ListFunctions.{at_place, place_function}
use Rattle.om_denotation.proofs.Uniqueness.{tuples_at}
use Rattle.om_convert.specs.Hitting.{IsNonzeroOn, MeetsEach, IsNormalOf}
use Rattle.om_convert.proofs.HittingLaws.{Meets, base_hits, hitting_base}

-- ---- signs

pub parity_nonzero : (k : ℕ) → IsNonzero (parity_sign k)
parity_nonzero zero = plus_nonzero
parity_nonzero (suc k) = subst IsNonzero (sym (parity_sign-suc k)) (opposite_nonzero (parity_sign k) (parity_nonzero k))

-- nonzero factors that stand twice
cancelled : (p q s t : Sign) → IsNonzero p → IsNonzero q → IsNonzero s
    → product (product (product p q) (product (product p t) (product q s))) s ≡ t
cancelled Zero q s t n k j = absurd (n refl)
cancelled Plus Zero s t n k j = absurd (k refl)
cancelled Minus Zero s t n k j = absurd (k refl)
cancelled Plus Plus Zero t n k j = absurd (j refl)
cancelled Plus Minus Zero t n k j = absurd (j refl)
cancelled Minus Plus Zero t n k j = absurd (j refl)
cancelled Minus Minus Zero t n k j = absurd (j refl)
cancelled Plus Plus Plus Plus n k j = refl
cancelled Plus Plus Plus Minus n k j = refl
cancelled Plus Plus Plus Zero n k j = refl
cancelled Plus Plus Minus Plus n k j = refl
cancelled Plus Plus Minus Minus n k j = refl
cancelled Plus Plus Minus Zero n k j = refl
cancelled Plus Minus Plus Plus n k j = refl
cancelled Plus Minus Plus Minus n k j = refl
cancelled Plus Minus Plus Zero n k j = refl
cancelled Plus Minus Minus Plus n k j = refl
cancelled Plus Minus Minus Minus n k j = refl
cancelled Plus Minus Minus Zero n k j = refl
cancelled Minus Plus Plus Plus n k j = refl
cancelled Minus Plus Plus Minus n k j = refl
cancelled Minus Plus Plus Zero n k j = refl
cancelled Minus Plus Minus Plus n k j = refl
cancelled Minus Plus Minus Minus n k j = refl
cancelled Minus Plus Minus Zero n k j = refl
cancelled Minus Minus Plus Plus n k j = refl
cancelled Minus Minus Plus Minus n k j = refl
cancelled Minus Minus Plus Zero n k j = refl
cancelled Minus Minus Minus Plus n k j = refl
cancelled Minus Minus Minus Minus n k j = refl
cancelled Minus Minus Minus Zero n k j = refl

pub carry : (p q s t y z : Sign) → IsNonzero p → IsNonzero q → IsNonzero s
    → product y z ≡ product (product p t) (product q s) → product (product (product (product p q) y) z) s ≡ t
carry p q s t y z n k j e =
    ap (λ x. product x s) (product_assoc (product p q) y z ∙ ap (product (product p q)) e)
    ∙ cancelled p q s t n k j

-- ---- sets and vectors

pub met_function : (n : ℕ) (s : List ℕ) (Y : List Sign) → IsSubsetFrom 1 n s → IsNonzeroOn s Y → Meets s (as_function Y)
met_function n s Y list (e, m, k) = let low = (members_from 1 n e s list m).0 in
    (e, m, λ z. k (place_function Y e low ∙ z))

pub met_list : (s : List ℕ) (Y : List Sign) → Meets s (as_function Y) → IsNonzeroOn s Y
met_list s Y (zero, m, k) = absurd (k refl)
met_list s Y (suc i, m, k) = (suc i, m, λ z. k (sym (at_place Y i) ∙ z))

module _ (n : ℕ) (members : List (List Sign)) (m : SignMap) (h : IsNormalOf n members m) where
  abbrev E : List ℕ
  E = elements_to m.elements

  abbrev chi : List ℕ → Sign
  chi = tuples_of m

  pub om : theory.IsChirotope E chi
  om = theory_chirotope m h.axioms

  pub of_member : (Y : List Sign) → Contains members Y → IsCocircuit chi (as_function Y)
  of_member Y y = cocircuit_function m Y (h.cocircuits.sound Y y)

  member_of : (F : SignVector) → IsCocircuit chi F → Contains members (as_list m.elements F)
  member_of F f = h.cocircuits.complete (as_list m.elements F) (cocircuit_list m F f)

  back : (F : SignVector) → IsCocircuit chi F → (e : ℕ) → as_function (as_list m.elements F) e ≡ F e
  back F f = as_function-as_list m.elements F (cocircuit_supported m F f)

  base_of : (t : List ℕ) → IsSubsetFrom 1 m.elements t → length t ≡ m.rank → chi_of m t ≢ Zero → IsNonzero (chi t)
  base_of t list size k z = k (sym (tuples_at m t list size) ∙ z)

  of_base : (t : List ℕ) → IsSubsetFrom 1 m.elements t → length t ≡ m.rank → IsNonzero (chi t) → chi_of m t ≢ Zero
  of_base t list size k z = k (tuples_at m t list size ∙ z)

  base_size : length om.base.0 ≡ m.rank
  base_size = (on_tuples_tuple m.elements m.rank (chi_of m) om.base.0 om.base.1).size

  pub basis_meets : (t : List ℕ) → IsSubsetFrom 1 m.elements t → length t ≡ m.rank → chi_of m t ≢ Zero
      → MeetsEach members t
  basis_meets t list size k Y y =
      met_list t Y (base_hits E chi om t (base_of t list size k) (as_function Y) (of_member Y y))

  pub meets_all : (t : List ℕ) → IsSubsetFrom 1 m.elements t → MeetsEach members t → (F : SignVector)
      → IsCocircuit chi F
      → Meets t F
  meets_all t list each F f =
      let k = met_function m.elements t (as_list m.elements F) list (each (as_list m.elements F) (member_of F f)) in
      (k.0, k.1, subst IsNonzero (back F f k.0) k.2)

  pub meeting_basis : (t : List ℕ) → IsSubsetFrom 1 m.elements t → length t ≡ m.rank → MeetsEach members t
      → chi_of m t ≢ Zero
  meeting_basis t list size each = of_base t list size
      (hitting_base E chi om t (meets_all t list each) (increasing_distinct t (increasing_subset m.elements t list))
      om.base.0 om.base.1 (size ∙ sym base_size))
