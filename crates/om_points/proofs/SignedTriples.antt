-- A consistent word has the map's sign at any three different elements that have a vector.
--
-- Main definitions: HasSignAt
-- Main results: swap_front, swap_back, permuted, any_three, from_order
use Rattle.std.proofs.Common.{ℕ, ◌≡◌, ◌≢◌, ◌<◌, ◌≤◌, List, [], ◌∷◌, length, inl, inr, arith, sym, ◌∙◌, refl, ap}
use Rattle.std.specs.Prelude.{pos}
use Rattle.std.proofs.lemmas.List.{get_or_past}
use Rattle.std.proofs.lemmas.Bool.{cases_lt}
use Rattle.std.proofs.Math.IntN.{zero-*ℤ, *ℤ-zero}
use Rattle.om_signs.specs.declared.sign.Sign.TheVariants.{Zero}
use Rattle.om_signs.specs.Sign.{opposite}
use Rattle.om_signs.proofs.SignLaws.{zero_or_nonzero}
use Rattle.om_signs.proofs.Rings.{sums}
use Rattle.om_subsets.specs.Subsets.{IsMember}
use Rattle.om_subsets.proofs.Order.{members_from}
use Rattle.om_subsets.proofs.Triples.{triple_subset}
use Rattle.om_laws.proofs.TupleLaws.{value_alternating}
use Rattle.om_laws.proofs.SortingLaws.{value_increasing}
use Rattle.om_laws.proofs.MemberLaws.{member_left, member_right, member_or_not}
use Rattle.om_chirotope.specs.Map.{SignMap, chi_of, value_of}
use Rattle.om_chirotope.specs.ThreeTerm.{IsBasis}
use Rattle.om_vectors.specs.WholeVectors.{WholeVector, zero_vector, triple_product, sign_of}
use Rattle.om_vectors.proofs.Identities.{swap_first, swap_last}
use Rattle.om_vectors.proofs.NumberSigns.{sign-neg}
use Rattle.om_points.specs.Starts.{Start, IsStart, order, place_of, placed, vector_by, HasVector, IsConsistent}
use Rattle.om_points.proofs.Places.{place_absent, order_length}

-- the triple product of the vectors of three elements has the sign of the map at them
abbrev pub HasSignAt : SignMap → Start → List WholeVector → ℕ → ℕ → ℕ → Type 0
HasSignAt m s w x y z = sign_of (triple_product (vector_by m s w x) (vector_by m s w y) (vector_by m s w z))
    ≡ value_of m (x ∷ y ∷ z ∷ [])

pub swap_front : (m : SignMap) (s : Start) (w : List WholeVector) (x y z : ℕ) → HasSignAt m s w x y z
    → HasSignAt m s w y x z
swap_front m s w x y z h =
    ap sign_of (swap_first (vector_by m s w x) (vector_by m s w y) (vector_by m s w z))
    ∙ sign-neg (triple_product (vector_by m s w x) (vector_by m s w y) (vector_by m s w z))
    ∙ ap opposite h
    ∙ sym (value_alternating (chi_of m) x y [] (z ∷ []))

pub swap_back : (m : SignMap) (s : Start) (w : List WholeVector) (x y z : ℕ) → HasSignAt m s w x y z
    → HasSignAt m s w x z y
swap_back m s w x y z h =
    ap sign_of (swap_last (vector_by m s w x) (vector_by m s w y) (vector_by m s w z))
    ∙ sign-neg (triple_product (vector_by m s w x) (vector_by m s w y) (vector_by m s w z))
    ∙ ap opposite h
    ∙ sym (value_alternating (chi_of m) y z (x ∷ []) [])

-- what holds of three in the order of a key, and is kept where neighbours change places, holds of any three with
-- different keys
pub permuted : (D : ℕ → ℕ → ℕ → Type 0) (H : ℕ → Type 0) (key : ℕ → ℕ) → ((x y z : ℕ) → D x y z → D y x z)
    → ((x y z : ℕ) → D x y z → D x z y) → ((x y z : ℕ) → H x → H y → H z → key x < key y → key y < key z → D x y z)
    → (x y z : ℕ) → H x → H y → H z → (key x ≡ key y → ⊥) → (key x ≡ key z → ⊥) → (key y ≡ key z → ⊥) → D x y z
permuted D H key front back f x y z hx hy hz xy xz yz =
    elim (cases_lt (key x) (key y)) [
      | inl a ↦ elim (cases_lt (key y) (key z)) [
        | inl b ↦ f x y z hx hy hz a b
        | inr b ↦ elim (cases_lt (key x) (key z)) [
          | inl c ↦ back x z y (f x z y hx hz hy c (omega arith))
          | inr c ↦ back x z y (front z x y (f z x y hz hx hy (omega arith) a))
        ]
      ]
      | inr a ↦ elim (cases_lt (key y) (key z)) [
        | inl b ↦ elim (cases_lt (key x) (key z)) [
          | inl c ↦ front y x z (f y x z hy hx hz (omega arith) c)
          | inr c ↦ front y x z (back y z x (f y z x hy hz hx b (omega arith)))
        ]
        | inr b ↦ front y x z (back y z x (front z y x (f z y x hz hy hx (omega arith) (omega arith))))
      ]
    ]

-- an element that has a vector
pub record Seen (m : SignMap) (s : Start) (w : List WholeVector) (e : ℕ) : Type 0 where
  pub low : 1 ≤ e
  pub high : e ≤ m.elements
  pub has : HasVector s w e

-- a consistent word has the map's sign at any three different elements that have a vector
pub any_three : (m : SignMap) (s : Start) (w : List WholeVector) → IsConsistent m s w → (x y z : ℕ) → Seen m s w x
    → Seen m s w y → Seen m s w z → (x ≡ y → ⊥) → (x ≡ z → ⊥) → (y ≡ z → ⊥) → HasSignAt m s w x y z
any_three m s w h = permuted (HasSignAt m s w) (Seen m s w) (λ e. e) (swap_front m s w) (swap_back m s w)
    (λ x y z hx hy hz a b. h x y z hx.low a b hz.high hx.has hy.has hz.has
    ∙ sym (value_increasing (chi_of m) (x ∷ y ∷ z ∷ []) (a, (b, tt))))

-- ---- loops

zero_first : (b c : WholeVector) → triple_product zero_vector b c ≡ pos 0
zero_first b c = simp (zero-*ℤ, *ℤ-zero) (omega sums)

zero_second : (a c : WholeVector) → triple_product a zero_vector c ≡ pos 0
zero_second a c = simp (zero-*ℤ, *ℤ-zero) (omega sums)

zero_third : (a b : WholeVector) → triple_product a b zero_vector ≡ pos 0
zero_third a b = simp (zero-*ℤ, *ℤ-zero) (omega sums)

-- an increasing triple with a nonzero sign has its elements in the order
in_order : (m : SignMap) (s : Start) (a b c e : ℕ) → IsStart m s → 1 ≤ a → a < b → b < c → c ≤ m.elements
    → chi_of m (a ∷ b ∷ c ∷ []) ≢ Zero → IsMember e (a ∷ b ∷ c ∷ []) → (IsMember e (order s) → ⊥) → ⊥
in_order m s a b c e st low ab bc high n i out =
    let list = triple_subset m.elements a b c low ab bc high in
    let basis : IsBasis m (a ∷ b ∷ c ∷ []) =
    record {
      list = list;
      size = sym st.rank;
      nonzero =
          λ z. n (sym (value_increasing (chi_of m) (a ∷ b ∷ c ∷ []) (ab, (bc, tt))) ∙ z);
    } in
    let k = members_from 1 m.elements e (a ∷ b ∷ c ∷ []) list i in
    out (member_right e s.basis s.free ((st.exactly e).1 (record {
      low = k.0;
      high = omega arith;
      outside = λ j. out (member_left e s.basis s.free j);
      nonzero = λ l. l (a ∷ b ∷ c ∷ []) basis i;
    })))

loop_vector : (m : SignMap) (s : Start) (w : List WholeVector) (e : ℕ) → IsStart m s → length w ≤ length s.free
    → (IsMember e (order s) → ⊥) → vector_by m s w e ≡ zero_vector
loop_vector m s w e st few out =
    let n = order_length m s st in
    let p = place_absent e (order s) out in
    get_or_past (placed m s w) (place_of e (order s)) zero_vector (omega arith)

-- three elements, one of which isn't in the order
outside : (m : SignMap) (s : Start) (w : List WholeVector) (a b c e : ℕ) → IsStart m s → 1 ≤ a → a < b → b < c
    → c ≤ m.elements → IsMember e (a ∷ b ∷ c ∷ []) → (IsMember e (order s) → ⊥)
    → triple_product (vector_by m s w a) (vector_by m s w b) (vector_by m s w c) ≡ pos 0
    → sign_of (triple_product (vector_by m s w a) (vector_by m s w b) (vector_by m s w c)) ≡ chi_of m (a ∷ b ∷ c ∷ [])
outside m s w a b c e st low ab bc high i out z = elim (zero_or_nonzero (chi_of m (a ∷ b ∷ c ∷ []))) [
  | inl q ↦ ap sign_of z ∙ sym q
  | inr n ↦ absurd (in_order m s a b c e st low ab bc high n i out)
]

-- a word is consistent where each increasing triple of elements of the order that have a vector has the map's sign
pub from_order : (m : SignMap) (s : Start) (w : List WholeVector) → IsStart m s → length w ≤ length s.free
    → ((a b c : ℕ) → 1 ≤ a → a < b → b < c → c ≤ m.elements → IsMember a (order s) → IsMember b (order s)
    → IsMember c (order s) → HasVector s w a → HasVector s w b → HasVector s w c → HasSignAt m s w a b c)
    → IsConsistent m s w
from_order m s w st few h a b c low ab bc high ha hb hc = elim (member_or_not a (order s)) [
  | inr o ↦ outside m s w a b c a st low ab bc high (inl refl) o
      (rw (loop_vector m s w a st few o) (zero_first (vector_by m s w b) (vector_by m s w c)))
  | inl ia ↦ elim (member_or_not b (order s)) [
    | inr o ↦ outside m s w a b c b st low ab bc high (inr (inl refl)) o
        (rw (loop_vector m s w b st few o) (zero_second (vector_by m s w a) (vector_by m s w c)))
    | inl ib ↦ elim (member_or_not c (order s)) [
      | inr o ↦ outside m s w a b c c st low ab bc high (inr (inr (inl refl))) o
          (rw (loop_vector m s w c st few o) (zero_third (vector_by m s w a) (vector_by m s w b)))
      | inl ic ↦ h a b c low ab bc high ia ib ic ha hb hc ∙ value_increasing (chi_of m) (a ∷ b ∷ c ∷ []) (ab, (bc, tt))
    ]
  ]
]
