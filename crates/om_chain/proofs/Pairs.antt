-- Two elements in some basis, and the pairs and sets in their order.
--
-- Main results: two elements are in some basis exactly if they have rank 2 (pair_rank); a map without a sign zero is
-- uniform (uniform_from), and the first set with the sign zero (first_found); a map behind the last of a list
-- (behind_by).
use Rattle.std.proofs.Common.{ℕ, ◌≡◌, ◌≢◌, ◌<◌, ◌≤◌, ◌↔◌, List, [], ◌∷◌, length, sym, ap, subst, ◌∙◌, inl, inr}
use Rattle.std.proofs.Common.{refl, ◌-◌, Bool, IsTrue, true≢false, Option, Some, None, IsNone, arith}
use Rattle.std.proofs.lemmas.Bool.{ne_eqb, lt-ltb}
use Rattle.std.proofs.lemmas.List.{get_or_default}
use Rattle.om_signs.specs.declared.sign.Sign.TheVariants.{Zero}
use Rattle.om_subsets.specs.Subsets.{IsSubsetFrom, IsMember, with_element}
use Rattle.om_subsets.specs.Members.{Chosen}
use Rattle.om_subsets.proofs.SetChains.{FindsFirst, IsFirstSet}
use Rattle.om_subsets.proofs.Statements.{subset_is_increasing}
use Rattle.om_chirotope.specs.Map.{SignMap, chi_of}
use Rattle.om_matroid.specs.Bases.{IsIndependent, IsIndependentPart, IsRankOf}
use Rattle.om_localize.proofs.SignatureCircles.{pair_list}
use Rattle.om_covers.specs.Classes.{IsUniform}
use Rattle.om_least.specs.Least.{IsBefore, map_at, no_map}
use Rattle.om_levels.specs.Levels.{IsMemberAt}
use Rattle.om_chain.specs.Chains.{IsFirstZero, IsBehind}

-- ---- two elements

pub pair_elements : (e f : ℕ) → e < f → with_element e (f ∷ []) ≡ e ∷ f ∷ []
pair_elements e f lt =
    let ne : e ≢ f = omega arith in
    rw (ne_eqb e f ne, lt-ltb e f lt) refl

-- an increasing list of two and more of two numbers has both
both_in : (n e f x y : ℕ) (t : List ℕ) → e < f → IsSubsetFrom 1 n (x ∷ y ∷ t) → IsMember x (e ∷ f ∷ [])
    → IsMember y (e ∷ f ∷ []) → (e ≡ x) × (f ≡ y)
both_in n e f x y t lt h mx my =
    let up = ((subset_is_increasing n (x ∷ y ∷ t)).0 h).0.0 in
    elim mx [
      | inl a ↦ elim my [
        | inl b ↦ absurd (omega arith)
        | inr j ↦ elim j [
          | inl b ↦ (sym a, sym b)
          | inr none ↦ absurd none
        ]
      ]
      | inr i ↦ elim i [
        | inl a ↦ elim my [
          | inl b ↦ absurd (omega arith)
          | inr j ↦ elim j [
            | inl b ↦ absurd (omega arith)
            | inr none ↦ absurd none
          ]
        ]
        | inr none ↦ absurd none
      ]
    ]

module _ (m : SignMap) (e f : ℕ) (low : 1 ≤ e) (lt : e < f) (high : f ≤ m.elements) where
  from_part : (t : List ℕ) → IsIndependentPart m (e ∷ f ∷ []) t → 2 ≤ length t → IsIndependent m (e ∷ f ∷ [])
  from_part [] h some = absurd (omega arith)
  from_part (x ∷ []) h some = absurd (omega arith)
  from_part (x ∷ y ∷ t) h some =
      let both = both_in m.elements e f x y t lt h.list (h.part x (inl refl)) (h.part y (inr (inl refl))) in
      let b = h.independent in (
        b.0,
        b.1,
        λ g k. elim k [
          | inl q ↦ b.2 g (inl (q ∙ both.0))
          | inr j ↦ elim j [
            | inl q ↦ b.2 g (inr (inl (q ∙ both.1)))
            | inr none ↦ absurd none
          ]
        ],
      )

  -- two elements are in some basis exactly if they have rank 2
  pub pair_rank : (s : List ℕ) (k : ℕ) → s ≡ e ∷ f ∷ [] → IsRankOf m s k → (2 ≤ k) ↔ IsIndependent m (e ∷ f ∷ [])
  pair_rank s k q h =
      let r : IsRankOf m (e ∷ f ∷ []) k = subst (λ u. IsRankOf m u k) q h in (
        λ two. (let size = r.reached.2 in from_part r.reached.0 r.reached.1 (omega arith)),
        λ independent. r.greatest (e ∷ f ∷ []) (record {
          list = pair_list m.elements e f low lt high;
          part = λ g j. j;
          independent = independent;
        }),
      )

-- ---- sets with the sign zero

-- the search for the first set with the sign zero, by its result
abbrev pub FindsZero : SignMap → Option Chosen → Type 0
FindsZero m = FindsFirst m.elements m.rank (λ xs. chi_of m xs ≡ Zero) (λ xs. chi_of m xs ≡ Zero → ⊥)

-- where none is found, the map is uniform
pub uniform_from : (m : SignMap) (found : Option Chosen) → FindsZero m found → IsNone found → IsUniform m
uniform_from m None h none = h.none
uniform_from m (Some set) h none = absurd (true≢false none)

-- what is found is the first
pub first_found : (m : SignMap) (set : Chosen)
    → IsFirstSet m.elements m.rank (λ xs. chi_of m xs ≡ Zero) (λ xs. chi_of m xs ≡ Zero → ⊥) set → IsFirstZero m set
first_found m set h = record {
  n = h.set.n_is;
  size = h.set.size;
  zero = h.yes;
  first = λ xs list size before. h.earlier xs list size before;
}

-- ---- the last map of a list

pub behind_by : (maps : List SignMap) (m last : SignMap) (len : ℕ) (r : Bool) → len ≡ length maps → (len ≡ 0 → ⊥)
    → IsMemberAt maps (len - 1) last → (IsTrue r ↔ IsBefore last m) → IsTrue r ↔ IsBehind maps m
behind_by maps m last len r e some at h =
    let q : map_at maps (length maps - 1) ≡ last =
    ap (λ k. map_at maps (k - 1)) (sym e) ∙ get_or_default maps (len - 1) no_map last at.below ∙ at.same in
    let one : 1 ≤ length maps = omega arith in (
      λ t u. subst (λ k. IsBefore k m) (sym q) (h.0 t),
      λ b. h.1 (subst (λ k. IsBefore k m) q (b one)),
    )
