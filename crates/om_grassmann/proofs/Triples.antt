-- Three elements in order, as a set.
--
-- Main results: triple-with, how a set of them is made; triple-subset; apart_in_middle and apart_at_end, two triples
-- that differ.
use Rattle.std.specs.Prelude.{ℕ, ◌≡◌, ◌≢◌, ◌+◌, ◌<◌, ◌≤◌, [], ◌∷◌, length}
use Rattle.std.proofs.Common.{refl, sym, ◌∙◌, ap, subst, arith, inl, inr, ◌⊎◌}
use Rattle.std.proofs.lemmas.Bool.{cases_lt, lt-ltb, le-ltb}
use Rattle.om_subsets.specs.Subsets.{IsSubsetFrom, IsMember, with_element}
use Rattle.om_subsets.specs.Lists.{IsIncreasing}
use Rattle.om_subsets.proofs.Order.{from_increasing}
use Rattle.om_subsets.proofs.Statements.{members_with}
use Rattle.om_subsets.proofs.OneElement.{not_in_single}
use Rattle.om_laws.specs.Tuples.{insert}
use Rattle.om_chirotope.proofs.Cocircuits.{insert_with, length-with}
use Rattle.om_grassmann.specs.Statements.{IsElement}
use Rattle.om_grassmann.specs.Sides.{triple}

not_in_two : (x y z : ℕ) → x ≢ y → x ≢ z → IsMember x (with_element y (z ∷ [])) → ⊥
not_in_two x y z xy xz h = elim ((members_with y x (z ∷ [])).0 h) [
  | inl q ↦ xy q
  | inr k ↦ not_in_single z x xz k
]

pub triple-with : (x y z : ℕ) → x ≢ y → x ≢ z → y ≢ z → with_element x (with_element y (z ∷ [])) ≡ triple x y z
unfolding triple
triple-with x y z xy xz yz =
    sym (insert_with x (with_element y (z ∷ [])) (not_in_two x y z xy xz))
    ∙ ap (insert x) (sym (insert_with y (z ∷ []) (not_in_single z y yz)))

pub length-triple : (x y z : ℕ) → x ≢ y → x ≢ z → y ≢ z → length (triple x y z) ≡ 3
length-triple x y z xy xz yz =
    ap length (sym (triple-with x y z xy xz yz))
    ∙ length-with x (with_element y (z ∷ [])) (not_in_two x y z xy xz)
    ∙ ap (λ k. k + 1) (length-with y (z ∷ []) (not_in_single z y yz))

-- ---- the members

member_of : (x y z e : ℕ) → x ≢ y → x ≢ z → y ≢ z → IsMember e (triple x y z) → (e ≡ x) ⊎ ((e ≡ y) ⊎ (e ≡ z))
member_of x y z e xy xz yz h =
    elim ((members_with x e (with_element y (z ∷ []))).0 (subst (IsMember e) (sym (triple-with x y z xy xz yz)) h)) [
      | inl q ↦ inl q
      | inr k ↦ elim ((members_with y e (z ∷ [])).0 k) [
        | inl q ↦ inr (inl q)
        | inr (inl q) ↦ inr (inr q)
        | inr (inr l) ↦ absurd l
      ]
    ]

has_middle : (x y z : ℕ) → x ≢ y → x ≢ z → y ≢ z → IsMember y (triple x y z)
has_middle x y z xy xz yz = subst (IsMember y) (triple-with x y z xy xz yz)
    ((members_with x y (with_element y (z ∷ []))).1 (inr ((members_with y y (z ∷ [])).1 (inl refl))))

has_end : (x y z : ℕ) → x ≢ y → x ≢ z → y ≢ z → IsMember z (triple x y z)
has_end x y z xy xz yz = subst (IsMember z) (triple-with x y z xy xz yz)
    ((members_with x z (with_element y (z ∷ []))).1 (inr ((members_with y z (z ∷ [])).1 (inr (inl refl)))))

-- three distinct numbers
pub record IsThree (x y z : ℕ) : Type 0 where
  pub first : x ≢ y
  pub second : x ≢ z
  pub third : y ≢ z

not_in : (x y z e : ℕ) → IsThree x y z → e ≢ x → e ≢ y → e ≢ z → IsMember e (triple x y z) → ⊥
not_in x y z e d ex ey ez h = elim (member_of x y z e d.first d.second d.third h) [
  | inl q ↦ ex q
  | inr (inl q) ↦ ey q
  | inr (inr q) ↦ ez q
]

pub apart_in_middle : (a x y u v : ℕ) → IsThree a x y → IsThree a u v → x ≢ u → x ≢ v → triple a x y ≢ triple a u v
apart_in_middle a x y u v d f xu xv =
    λ q. not_in a u v x f (λ k. d.first (sym k)) xu xv
    (subst (IsMember x) q (has_middle a x y d.first d.second d.third))

pub apart_at_end : (a x y u v : ℕ) → IsThree a x y → IsThree a u v → y ≢ u → y ≢ v → triple a x y ≢ triple a u v
apart_at_end a x y u v d f yu yv =
    λ q. not_in a u v y f (λ k. d.second (sym k)) yu yv (subst (IsMember y) q (has_end a x y d.first d.second d.third))

-- ---- the order

increasing_front : (x y z : ℕ) → x ≢ y → x ≢ z → y < z → IsIncreasing (insert x (y ∷ z ∷ []))
increasing_front x y z xy xz yz = elim (cases_lt x y) [
  | inl l ↦ rw (lt-ltb x y l) (l, (yz, tt))
  | inr g ↦ rw (le-ltb x y g) (elim (cases_lt x z) [
    | inl l ↦ rw (lt-ltb x z l) (omega arith, (l, tt))
    | inr h ↦ rw (le-ltb x z h) (yz, (omega arith, tt))
  ])
]

triple-increasing : (x y z : ℕ) → x ≢ y → x ≢ z → y ≢ z → IsIncreasing (triple x y z)
unfolding triple
triple-increasing x y z xy xz yz = elim (cases_lt y z) [
  | inl l ↦ rw (lt-ltb y z l) (increasing_front x y z xy xz l)
  | inr g ↦ rw (le-ltb y z g) (increasing_front x z y xz xy (omega arith))
]

pub triple-subset : (n x y z : ℕ) → IsElement n x → IsElement n y → IsElement n z → IsThree x y z
    → IsSubsetFrom 1 n (triple x y z)
triple-subset n x y z hx hy hz d =
    from_increasing 1 n (triple x y z) (triple-increasing x y z d.first d.second d.third) within
  where
    within : (e : ℕ) → IsMember e (triple x y z) → (1 ≤ e) × (e < 1 + n)
    within e h = elim (member_of x y z e d.first d.second d.third h) [
      | inl q ↦ (omega arith, omega arith)
      | inr (inl q) ↦ (omega arith, omega arith)
      | inr (inr q) ↦ (omega arith, omega arith)
    ]
