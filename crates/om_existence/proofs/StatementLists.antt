-- The lawful statements of a map are listed in their order.
--
-- Main results: statements_possible; statement_order: of an increasing list each statement comes before the later ones.
use Rattle.std.specs.Prelude.{ℕ, ◌≡◌, ◌*◌, ◌<◌, ◌↔◌, List, [], ◌∷◌, ◌++◌, length, refl}
use Rattle.std.specs.List.{Contains}
use Rattle.std.proofs.Common.{zero, suc, get_or, ap, subst, inl, inr, arith}
use Rattle.std.proofs.lemmas.Bool.{cases_eq, cases_lt}
use Rattle.std.proofs.lemmas.List.Elements.{Contains-append_left, Contains-push, Contains-push_cases}
use Rattle.om_signs.proofs.Contained.{none_contained}
use Rattle.om_chirotope.specs.Map.{SignMap}
use Rattle.om_grassmann.specs.declared.statement.Statement.{Statement}
use Rattle.om_grassmann.specs.Order.{IsBefore, IsIncreasing, AreAll}
use Rattle.om_grassmann.specs.Statements.{IsLawful}
use Rattle.om_grassmann.specs.Walk.{frame_place, place}
use Rattle.om_grassmann.proofs.Counting.{increasing_push, increasing_tail, head_before}
use Rattle.om_grassmann.proofs.OrderLaws.{before_total}
use Rattle.om_grassmann.proofs.Places.{lawful_places, places_before}
use Rattle.om_existence.specs.Possible.{IsPossible}
use Rattle.om_existence.proofs.Possible.{then, held, mapped, either_way}

-- ---- place by place

-- the lawful statements at places below b, in order
record AreBelow (m : SignMap) (b : ℕ) (ss : List Statement) : Type 0 where
  pub increasing : IsIncreasing ss
  pub members : (s : Statement) → Contains ss s ↔ (IsLawful m s × (place s < b))

module _ (m : SignMap) (small : m.elements < 256) where
  none_below : AreBelow m 0 []
  none_below = record {
    increasing = tt;
    members = λ s. (λ c. absurd (none_contained s c), λ h. let l = h.1 in absurd (omega (arith, l)));
  }

  -- no lawful statement at this place
  none_here : (b : ℕ) (ss : List Statement) → AreBelow m b ss → ((t : Statement) × (IsLawful m t × (place t ≡ b)) → ⊥)
      → AreBelow m (suc b) ss
  none_here b ss h none = record {
    increasing = h.increasing;
    members = λ s. (
      λ c. let q = (h.members s).0 c in let l = q.1 in (q.0, omega (arith, l)),
      λ q. elim (cases_eq (place s) b) [
        | inl at ↦ absurd (none (s, (q.0, at)))
        | inr other ↦ (h.members s).1 (q.0, let l = q.1 in omega (arith, l, other))
      ],
    );
  }

  -- a lawful statement at this place
  one_here : (b : ℕ) (ss : List Statement) (t : Statement) → AreBelow m b ss → IsLawful m t → place t ≡ b
      → AreBelow m (suc b) (ss ++ t ∷ [])
  one_here b ss t h lawful at = record {
    increasing = increasing_push ss t h.increasing (λ u c. let q = (h.members u).0 c in let l = q.1 in
        places_before m u t small q.0 lawful (omega (arith, l, at)));
    members = λ s. (
      λ c. elim (Contains-push_cases ss t s c) [
        | inl there ↦ let q = (h.members s).0 there in let l = q.1 in (q.0, omega (arith, l))
        | inr same ↦ (subst (IsLawful m) same lawful, let e = ap place same in omega (arith, e, at))
      ],
      λ q. elim (cases_lt (place s) b) [
        | inl less ↦ Contains-append_left ss (t ∷ []) s ((h.members s).1 (q.0, less))
        | inr most ↦ subst (Contains (ss ++ t ∷ [])) (same_at s q.0 (let l = q.1 in omega (arith, l, most)))
            (Contains-push ss t)
      ],
    );
  }
    where
      same_at : (s : Statement) → IsLawful m s → place s ≡ b → t ≡ s
      same_at s is here = elim (before_total m t s lawful is) [
        | inl before ↦ let l = lawful_places m t s small lawful is before in absurd (omega (arith, l, at, here))
        | inr (inl same) ↦ same
        | inr (inr before) ↦ let l = lawful_places m s t small is lawful before in absurd (omega (arith, l, at, here))
      ]

  below_possible : (b : ℕ) → IsPossible ((ss : List Statement) × AreBelow m b ss)
  below_possible zero = held ([], none_below)
  below_possible (suc b) = then (below_possible b) (λ h. mapped (λ e. elim e [
    | inl t ↦ (h.0 ++ t.0 ∷ [], one_here b h.0 t.0 h.1 t.1.0 t.1.1)
    | inr none ↦ (h.0, none_here b h.0 h.1 none)
  ]) (either_way ((t : Statement) × (IsLawful m t × (place t ≡ b)))))

-- a bound of the places
most_places : ℕ
most_places = 256 * 256 * 256 * 256 * 256 * 9

place_within : (m : SignMap) (s : Statement) → m.elements < 256 → IsLawful m s → place s < most_places
unfolding frame_place most_places
place_within m s small h =
    let p = h.placed in
    let a = p.a.high in
    let bc = p.b_c in
    let cd = p.c_d in
    let de = p.d_e in
    let e = p.e in
    let i = h.two.first.high in
    let j = h.two.second.high in
    omega (arith, small, a, bc, cd, de, e, i, j)

pub statements_possible : (m : SignMap) → m.elements < 256 → IsPossible ((ss : List Statement) × AreAll m ss)
statements_possible m small = mapped (λ h. (
  h.0,
  record {
    increasing = h.1.increasing;
    members = λ s. (λ c. ((h.1.members s).0 c).0, λ is. (h.1.members s).1 (is, place_within m s small is));
  },
)) (below_possible m small most_places)

-- ---- the order of a list

pub statement_order : (ss : List Statement) (i j : ℕ) (d : Statement) → IsIncreasing ss → i < j → j < length ss
    → IsBefore (get_or ss i d) (get_or ss j d)
statement_order [] i j d h less l = absurd (omega (arith, l))
statement_order (s ∷ ss) i zero d h less l = absurd (omega (arith, less))
statement_order (s ∷ ss) zero (suc j) d h less l = head_before s ss (get_or ss j d) h
    (j, (let k : j < length ss = omega (arith, l) in k), inside ss j d (omega (arith, l)))
  where
    inside : (xs : List Statement) (k : ℕ) (e : Statement) → k < length xs → get_or xs k (get_or xs k e) ≡ get_or xs k e
    inside [] k e l = absurd (omega (arith, l))
    inside (x ∷ xs) zero e l = refl
    inside (x ∷ xs) (suc k) e l = inside xs k e (omega (arith, l))
statement_order (s ∷ ss) (suc i) (suc j) d h less l = statement_order ss i j d (increasing_tail s ss h)
    (omega (arith, less)) (omega (arith, l))
