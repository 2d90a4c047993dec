-- Increasing lists of least maps.
--
-- Main results: maps at later places come later (later), and one more behind the last (increasing_push); isomorphic
-- members stand at one place (one_place); a map that is isomorphic to a member is so to one alone (of_one_member), and
-- a complete list has one member of each class (one_member).
use Rattle.std.proofs.Common.{ℕ, zero, suc, ◌≡◌, ◌+◌, ◌-◌, ◌<◌, ◌≤◌, List, [], ◌∷◌, ◌++◌, length, get_or, sym}
use Rattle.std.proofs.Common.{ap, subst, ◌∙◌, inl, inr, arith, All}
use Rattle.std.specs.List.{Contains}
use Rattle.std.specs.Cmp.{tied_itself}
use Rattle.std.proofs.lemmas.Bool.{cases_lt}
use Rattle.std.proofs.lemmas.List.{get_or_default, length_push, get_or_append_left, get_or_push}
use Rattle.om_signs.specs.OrderLaws.{lexicographic-total}
use Rattle.om_chirotope.specs.Map.{SignMap, IsMap}
use Rattle.om_symmetry.specs.Permutations.{AreIsomorphic}
use Rattle.om_symmetry.proofs.Groups.{isomorphic_back, isomorphic_on}
use Rattle.om_covers.specs.Classes.{IsComplete}
use Rattle.om_least.specs.Least.{signs_in_reverse, IsBefore, IsLeast, IsIncreasing, IsOfOneMember, map_at, no_map}
use Rattle.om_least.proofs.Orders.{less_not_equal}
use Rattle.om_least.proofs.SameMaps.{least_same}

not_before_itself : (m k : SignMap) → m ≡ k → IsBefore m k → ⊥
not_before_itself m k e b =
    let s : IsBefore m m = subst (IsBefore m) (sym e) b in
    let t = tied_itself lexicographic-total (signs_in_reverse m) in
    less_not_equal (sym s ∙ t)

-- each map comes before those at later places
pub later : (maps : List SignMap) → IsIncreasing maps → (d i j : ℕ) → j ≡ i + 1 + d → j < length maps
    → IsBefore (map_at maps i) (map_at maps j)
later maps up zero i j q lt =
    let e : i + 1 ≡ j = omega arith in
    subst (λ k. IsBefore (map_at maps i) (map_at maps k)) e (up i (omega arith))
later maps up (suc d) i zero q lt = absurd (omega arith)
later maps up (suc d) i (suc j) q lt =
    let e : j + 1 ≡ suc j = omega arith in
    lexicographic-total.trans (signs_in_reverse (map_at maps i)) (signs_in_reverse (map_at maps j))
    (signs_in_reverse (map_at maps (suc j))) (later maps up d i j (omega arith) (omega arith))
    (subst (λ k. IsBefore (map_at maps j) (map_at maps k)) e (up j (omega arith)))

-- one more map, behind the last
pub increasing_push : (maps : List SignMap) (m : SignMap) → IsIncreasing maps
    → (1 ≤ length maps → IsBefore (map_at maps (length maps - 1)) m) → IsIncreasing (maps ++ m ∷ [])
increasing_push maps m up h i lt =
    let l = length_push maps m in
    let few : i < length maps = omega arith in
    let here : map_at (maps ++ m ∷ []) i ≡ map_at maps i = get_or_append_left maps (m ∷ []) no_map i few in
    elim (cases_lt (i + 1) (length maps)) [
      | inl more ↦
          let next = get_or_append_left maps (m ∷ []) no_map (i + 1) more in
          subst (IsBefore (map_at (maps ++ m ∷ []) i)) (sym next)
          (subst (λ k. IsBefore k (map_at maps (i + 1))) (sym here) (up i more))
      | inr end ↦
          let last : length maps ≡ i + 1 = omega arith in
          let back : length maps - 1 ≡ i = omega arith in
          let next = get_or_push maps m no_map (i + 1) last in
          subst (IsBefore (map_at (maps ++ m ∷ []) i)) (sym next)
          (subst (λ k. IsBefore k m) (ap (map_at maps) back ∙ sym here) (h (omega arith)))
    ]

same_place : (maps : List SignMap) → IsIncreasing maps → (i j : ℕ) → i < length maps → j < length maps
    → map_at maps i ≡ map_at maps j → i ≡ j
same_place maps up i j li lj q = elim (cases_lt i j) [
  | inl lt ↦ absurd (not_before_itself (map_at maps i) (map_at maps j) q
      (later maps up (j - i - 1) i j (omega arith) lj))
  | inr ge ↦ elim (cases_lt j i) [
    | inl gt ↦ absurd (not_before_itself (map_at maps j) (map_at maps i) (sym q)
        (later maps up (i - j - 1) j i (omega arith) li))
    | inr le ↦ omega arith
  ]
]

module _ (maps : List SignMap) (whole : All IsMap maps) (least : All IsLeast maps) (up : IsIncreasing maps) where
  pub one_place : (i j : ℕ) → i < length maps → j < length maps → AreIsomorphic (map_at maps i) (map_at maps j) → i ≡ j
  one_place i j li lj h = same_place maps up i j li lj
      (least_same (map_at maps i) (map_at maps j) (whole i no_map li) (least i no_map li) (least j no_map lj) h)

  pub of_one_member : (m k : SignMap) → IsMap m → Contains maps k → AreIsomorphic m k → IsOfOneMember maps m
  of_one_member m k lawful found h =
      let here : map_at maps found.0 ≡ k = get_or_default maps found.0 no_map k found.1 ∙ found.2 in
      let isomorphic : AreIsomorphic m (map_at maps found.0) = subst (AreIsomorphic m) (sym here) h in
      record {
        place = found.0;
        within = found.1;
        isomorphic = isomorphic;
        only = λ i lt also. one_place i found.0 lt found.1
            (isomorphic_on (map_at maps i) m (map_at maps found.0) (isomorphic_back m (map_at maps i) lawful also)
            isomorphic);
      }

-- a complete list of a family
pub one_member : (P : SignMap → Type 0) (classes : List SignMap) → ((m : SignMap) → P m → IsMap m)
    → IsComplete P classes → All IsLeast classes → IsIncreasing classes → (m : SignMap) → P m → IsOfOneMember classes m
one_member P classes lawful complete least up m h =
    let c = complete.each m h in
    of_one_member classes (λ i d lt. lawful (get_or classes i d) (complete.members i d lt)) least up m c.0 (lawful m h)
    c.1 c.2
