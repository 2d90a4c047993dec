-- Lists that are shown.
--
-- Main results: what a shown list is, by its parts (shown_from) and back (shown_complete); the list on three elements
-- is shown (first_shown); an exact list has one member of each class (one_of_each).
use Rattle.std.proofs.Common.{ℕ, zero, suc, ◌≡◌, ◌<◌, List, [], ◌∷◌, get_or, All, refl, sym, subst, arith}
use Rattle.std.specs.declared.cmp.Ordering.TheVariants.{Less}
use Rattle.om_signs.specs.declared.sign.Sign.{Sign}
use Rattle.om_signs.specs.declared.sign.Sign.TheVariants.{Minus, Zero, Plus}
use Rattle.om_signs.specs.Order.{lexicographic}
use Rattle.om_chirotope.specs.Map.{SignMap, chi_of}
use Rattle.om_symmetry.specs.Permutations.{acted, AreIsomorphic}
use Rattle.om_symmetry.proofs.Axioms.{acted_chirotope}
use Rattle.om_symmetry.proofs.Groups.{isomorphic_on}
use Rattle.om_symmetry.proofs.Reorientations.{isomorphic_negative}
use Rattle.om_covers.specs.Classes.{IsSimpleChirotope, IsUniformChirotope, IsComplete}
use Rattle.om_covers.specs.Covers.{triangle}
use Rattle.om_covers.proofs.Simple.{acted_simple, acted_uniform}
use Rattle.om_covers.proofs.Triangles.{triangle_axioms, triangle_simple, triangle_uniform, to_triangle}
use Rattle.om_least.specs.Least.{IsLeast, IsIncreasing, IsOfOneMember}
use Rattle.om_least.proofs.Increasing.{one_member}
use Rattle.om_levels.specs.declared.family.Family.{Family}
use Rattle.om_levels.specs.declared.family.Family.TheVariants.{Simple, Uniform}
use Rattle.om_levels.specs.Families.{IsOfFamily}
use Rattle.om_chain.specs.declared.asked.Asked.{Asked}
use Rattle.om_chain.specs.declared.asked.Asked.TheVariants.{Complete, Exact}
use Rattle.om_chain.specs.Chains.{IsExact, IsShown, least_triangle}

pub shown_from : (asked : Asked) (family : Family) (n : ℕ) (maps : List SignMap) → IsComplete (IsOfFamily family n) maps
    → (asked ≡ Exact → All IsLeast maps) → (asked ≡ Exact → IsIncreasing maps) → IsShown asked family n maps
shown_from Complete family n maps complete least up = complete
shown_from Exact family n maps complete least up = record {
  complete = complete;
  least = least refl;
  increasing = up refl;
}

pub shown_complete : (asked : Asked) (family : Family) (n : ℕ) (maps : List SignMap) → IsShown asked family n maps
    → IsComplete (IsOfFamily family n) maps
shown_complete Complete family n maps h = h
shown_complete Exact family n maps h = h.complete

-- ---- the list on three elements

to_least : AreIsomorphic triangle least_triangle
to_least = isomorphic_negative triangle triangle_axioms.whole refl

pub least_simple : IsSimpleChirotope 3 least_triangle
least_simple =
    let w = to_least.0 in
    let p = to_least.1 in
    subst (IsSimpleChirotope 3) to_least.2 (record {
      axioms = acted_chirotope triangle w p triangle_axioms;
      rank = refl;
      elements = refl;
      simple = acted_simple triangle w p triangle_simple;
    })

least_uniform : IsUniformChirotope 3 least_triangle
least_uniform =
    let w = to_least.0 in
    let p = to_least.1 in
    subst (IsUniformChirotope 3) to_least.2 (record {
      axioms = acted_chirotope triangle w p triangle_axioms;
      rank = refl;
      elements = refl;
      uniform = acted_uniform triangle w p triangle_uniform;
    })

only : (d : SignMap) (k : ℕ) → k < 1 → get_or (least_triangle ∷ []) k d ≡ least_triangle
only d zero lt = refl
only d (suc k) lt = absurd (omega arith)

first_complete : (family : Family) → IsComplete (IsOfFamily family 3) (least_triangle ∷ [])
first_complete Simple = record {
  members = λ k d lt. subst (IsSimpleChirotope 3) (sym (only d k lt)) least_simple;
  each = λ m h. (
    least_triangle,
    (0, omega arith, refl),
    isomorphic_on m triangle least_triangle (to_triangle m h.axioms h.rank h.elements) to_least,
  );
}
first_complete Uniform = record {
  members = λ k d lt. subst (IsUniformChirotope 3) (sym (only d k lt)) least_uniform;
  each = λ m h. (
    least_triangle,
    (0, omega arith, refl),
    isomorphic_on m triangle least_triangle (to_triangle m h.axioms h.rank h.elements) to_least,
  );
}

-- no sign comes before minus
none_before : (s : Sign) → lexicographic (s ∷ []) (Minus ∷ []) ≡ Less → ⊥
none_before Minus h = cc h
none_before Zero h = cc h
none_before Plus h = cc h

pub first_least : IsLeast least_triangle
first_least w p before = none_before (chi_of (acted w least_triangle) (1 ∷ 2 ∷ 3 ∷ [])) before

pub first_shown : (asked : Asked) (family : Family) → IsShown asked family 3 (least_triangle ∷ [])
first_shown asked family = shown_from asked family 3 (least_triangle ∷ []) (first_complete family)
    (λ e k d lt. subst IsLeast (sym (only d k lt)) first_least) (λ e i lt. absurd (omega arith))

-- ---- exact lists

-- for the law on exact lists: each map of the family is isomorphic to exactly one member
pub one_of_each : (family : Family) (n : ℕ) (classes : List SignMap) → IsExact family n classes → (m : SignMap)
    → IsOfFamily family n m → IsOfOneMember classes m
one_of_each Simple n classes h m p =
    one_member (IsSimpleChirotope n) classes (λ j s. s.axioms.whole) h.complete h.least h.increasing m p
one_of_each Uniform n classes h m p =
    one_member (IsUniformChirotope n) classes (λ j s. s.axioms.whole) h.complete h.least h.increasing m p
