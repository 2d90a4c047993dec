-- The walk over the lawful statements in order.
--
-- Main definitions: IsWalk
-- Main results: first_unmet_here, met_by_table, two_weights, two_weights_fit, sum_of_side, side_sums, nearer_following,
-- walk_following
use Rattle.std.specs.Prelude.{ℕ, ◌≡◌, ◌-◌, ◌*◌, ◌^◌, ◌<◌, ℤ, pos, ◌+ℤ◌, Bool, IsTrue, ◌↔◌, List, Option, Some, None}
use Rattle.std.specs.Prelude.{◌≤◌, IsNone, IfSome, unsigned_abs, FitsSigned}
use Rattle.std.proofs.Math.ListN.{get_or}
use Rattle.std.proofs.Common.{refl, sym, ◌∙◌, ap, subst, arith, inl, inr, ◌⊎◌}
use Rattle.std.proofs.lemmas.Int.{ints}
use mir.Syntax.{w128}
use mir.Val.{to_z, of_z}
use Rattle.om_signs.specs.declared.limits.TheConstants.{MAX_WEIGHT}
use Rattle.om_chirotope.specs.Map.{SignMap}
use Rattle.om_grassmann.specs.declared.statement.Statement.{Statement}
use Rattle.om_grassmann.specs.Statements.{IsLawful}
use Rattle.om_grassmann.specs.Order.{IsBefore, IsNext, IsLast}
use Rattle.om_grassmann.specs.Walk.{place, frame_place}
use Rattle.om_grassmann.proofs.Places.{lawful_places}
use Rattle.om_certificate.specs.declared.weight.Weight.{Weight}
use Rattle.om_subsets.specs.Subsets.{rank_of, IsTriple}
use Rattle.om_subsets.specs.Members.{Chosen}
use Rattle.om_grassmann.specs.Sides as sides
use Rattle.om_grassmann.specs.Sides.{first_bracket, second_bracket}
use Rattle.om_certificate.specs.Weights.{IsMetBy, Compares, weight_of, term_weight}
use Rattle.om_certificate.specs.Tables.{IsWeightTable, AreSmall, sum_at}
use Rattle.om_certificate.proofs.Exclusion.{lawful_triples}
use Rattle.om_certificate.specs.Refusals.{IsFirstUnmet}

-- every lawful statement before the current one is met, and all where there is no current one
abbrev pub IsWalk : SignMap → List Weight → Option Statement → Type 0
IsWalk m ws None = (s : Statement) → IsLawful m s → IsMetBy ws s
IsWalk m ws (Some t) = IsLawful m t × ((s : Statement) → IsLawful m s → IsBefore s t → IsMetBy ws s)

-- the places: five elements as digits to the base 256, and the nine pairs of sides
abbrev places : ℕ
places = 256 ^ 5 * 9

-- the places from the current statement on
unfoldable pub left : Option Statement → ℕ
left None = 0
left (Some t) = places - place t

place_small : (m : SignMap) (t : Statement) → m.elements < 256 → IsLawful m t → place t < places
unfolding frame_place
place_small m t few h =
    let a = h.placed.a.high in
    let b = h.placed.b_c in
    let c = h.placed.c_d in
    let d = h.placed.d_e in
    let e = h.placed.e in
    let i = h.two.first.high in
    let j = h.two.second.high in
    omega arith

nearer : (m : SignMap) (s t : Statement) → m.elements < 256 → IsLawful m s → IsNext m s t
    → left (Some t) < left (Some s)
unfolding left
nearer m s t few h n = let l = lawful_places m s t few h n.lawful n.later in let p = place_small m t few n.lawful in
    omega arith

at_end : (m : SignMap) (s : Statement) → m.elements < 256 → IsLawful m s → left None < left (Some s)
unfolding left
at_end m s few h = let p = place_small m s few h in omega arith

met_before : (m : SignMap) (ws : List Weight) (s u : Statement) → IsMetBy ws s → IsWalk m ws (Some s) → IsLawful m u
    → (u ≡ s) ⊎ IsBefore u s → IsMetBy ws u
met_before m ws s u k w l (inl e) = subst (IsMetBy ws) (sym e) k
met_before m ws s u k w l (inr b) = w.1 u l b

walk_ends : (m : SignMap) (ws : List Weight) (s : Statement) → IsMetBy ws s → IsWalk m ws (Some s) → IsLast m s
    → IsWalk m ws None
walk_ends m ws s k w h u l = met_before m ws s u k w l (h u l)

walk_goes : (m : SignMap) (ws : List Weight) (s t : Statement) → IsMetBy ws s → IsWalk m ws (Some s) → IsNext m s t
    → IsWalk m ws (Some t)
walk_goes m ws s t k w n = (n.lawful, λ u l b. met_before m ws s u k w l (n.next u l b))

pub first_unmet_here : (m : SignMap) (ws : List Weight) (t : Statement) → IsWalk m ws (Some t) → (IsMetBy ws t → ⊥)
    → IsFirstUnmet m ws t
first_unmet_here m ws t w n = record { lawful = w.0; unmet = n; earlier = w.1 }

-- ---- sums by the table

sum_same : (m : SignMap) (ws : List Weight) (table : List ℤ) (st : Statement) (i : ℕ)
    → IsWeightTable m.elements ws table → IsTriple m.elements (first_bracket st i)
    → IsTriple m.elements (second_bracket st i) → sum_at m.elements table st i ≡ term_weight ws st i
sum_same m ws table st i h f s =
    ap (λ z. z +ℤ get_or table (rank_of m.elements (second_bracket st i)) (pos 0)) (h.weights (first_bracket st i) f)
    ∙ ap (λ z. weight_of ws (first_bracket st i) +ℤ z) (h.weights (second_bracket st i) s)

-- the test by the table tells whether the statement is met
pub met_by_table : (m : SignMap) (n : ℕ) (ws : List Weight) (table : List ℤ) (st : Statement) (b : Bool)
    → n ≡ m.elements → IsWeightTable m.elements ws table → IsLawful m st → IsTrue b
    ↔ Compares st.strict (sum_at n table st st.small) (sum_at n table st st.big) → IsTrue b ↔ IsMetBy ws st
met_by_table m n ws table st b e h l t =
    let a = lawful_triples m st l in
    let s = sum_same m ws table st st.small h a.small_first a.small_second in
    let g = sum_same m ws table st st.big h a.big_first a.big_second in
    subst (λ x. IsTrue b ↔ Compares st.strict x (term_weight ws st st.big)) s
    (subst (λ x. IsTrue b ↔ Compares st.strict (sum_at m.elements table st st.small) x) g
    (subst (λ k. IsTrue b ↔ Compares st.strict (sum_at k table st st.small) (sum_at k table st st.big)) e t))

-- the sum of two weights, which are read back from 128 bits as the sum is
pub two_weights : (table : List ℤ) (i j p q : ℕ) → AreSmall table → i ≡ p → j ≡ q
    → to_z w128 (of_z w128 (to_z w128 (of_z w128 (get_or table i (pos 0)))
    +ℤ to_z w128 (of_z w128 (get_or table j (pos 0))))) ≡ get_or table p (pos 0) +ℤ get_or table q (pos 0)
two_weights table i j p q small e f =
    rw (e, f) (read (get_or table p (pos 0)) (get_or table q (pos 0)) (small p) (small q))
  where
    read : (x y : ℤ) → unsigned_abs x ≤ unsigned_abs MAX_WEIGHT → unsigned_abs y ≤ unsigned_abs MAX_WEIGHT
        → to_z w128 (of_z w128 (to_z w128 (of_z w128 x) +ℤ to_z w128 (of_z w128 y))) ≡ x +ℤ y
    read x y hx hy = omega (arith, ints)

-- the sum of two weights fits 128 bits
pub two_weights_fit : (table : List ℤ) (i j : ℕ) → AreSmall table
    → FitsSigned w128 (to_z w128 (of_z w128 (get_or table i (pos 0))) +ℤ to_z w128 (of_z w128 (get_or table j (pos 0))))
two_weights_fit table i j small = fit (get_or table i (pos 0)) (get_or table j (pos 0)) (small i) (small j)
  where
    fit : (x y : ℤ) → unsigned_abs x ≤ unsigned_abs MAX_WEIGHT → unsigned_abs y ≤ unsigned_abs MAX_WEIGHT
        → FitsSigned w128 (to_z w128 (of_z w128 x) +ℤ to_z w128 (of_z w128 y))
    fit x y hx hy = omega (arith, ints)

-- the sum over the sets of the two brackets of a side
pub sum_of_side : (n : ℕ) (table : List ℤ) (st : Statement) (i : ℕ) (s t : Chosen) (z : ℤ)
    → sides.IsTriple n (first_bracket st i) s → sides.IsTriple n (second_bracket st i) t
    → z ≡ get_or table (rank_of s.n s.elements) (pos 0) +ℤ get_or table (rank_of t.n t.elements) (pos 0)
    → z ≡ sum_at n table st i
sum_of_side n table st i s t z hs ht e = rw (sym hs.n, sym hs.elements, sym ht.elements) (subst (λ k. z
    ≡ get_or table (rank_of s.n s.elements) (pos 0) +ℤ get_or table (rank_of k t.elements) (pos 0)) (ht.n ∙ sym hs.n) e)

-- a test of two sums is one of the sums by the table
pub side_sums : (strict b : Bool) (x y u v : ℤ) → x ≡ u → y ≡ v → IsTrue b ↔ Compares strict x y
    → IsTrue b ↔ Compares strict u v
side_sums strict b x y u v e f h =
    subst (λ z. IsTrue b ↔ Compares strict u z) f (subst (λ z. IsTrue b ↔ Compares strict z y) e h)

-- on fewer than 256 elements fewer places are left at the next lawful statement, or at the end: so the walk ends
pub nearer_following : (m : SignMap) (s : Statement) (r : Option Statement) → m.elements < 256 → IsLawful m s
    → IfSome r (λ t. IsNext m s t) → left r < left (Some s)
nearer_following m s None few h n = at_end m s few h
nearer_following m s (Some t) few h n = nearer m s t few h n

pub walk_following : (m : SignMap) (ws : List Weight) (s : Statement) (r : Option Statement) → IsMetBy ws s
    → IsWalk m ws (Some s) → IsNone r ↔ IsLast m s → IfSome r (λ t. IsNext m s t) → IsWalk m ws r
walk_following m ws s None k w h n = walk_ends m ws s k w (h.0 refl)
walk_following m ws s (Some t) k w h n = walk_goes m ws s t k w n
