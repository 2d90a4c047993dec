-- Triples of vectors and their signs.
--
-- Main results: realized_triple and realizes_from, what it is to realize a map; none_when_realized,
-- none_when_low, low_rank_from, rank_not_low and chirotope_from, by the triples whose sign is zero.
use Rattle.std.specs.Prelude.{Option, Some, None, IsNone, ◌↔◌}
use Rattle.std.proofs.Common.{refl, true≢false, ℕ, ◌≡◌, ◌≢◌, List, [], ◌∷◌, length, ◌∙◌, ap}
use Rattle.om_signs.specs.declared.sign.Sign.TheVariants.{Zero}
use Rattle.om_subsets.specs.Subsets.{IsTriple}
use Rattle.om_subsets.specs.Members.{Chosen}
use Rattle.om_subsets.proofs.SetChains.{FindsFirst}
use Rattle.om_subsets.proofs.Triples.{IsRising, elements_of_triple, triple_from}
use Rattle.om_chirotope.specs.Map.{SignMap, chi_of}
use Rattle.om_chirotope.specs.Chirotope.{IsChirotope}
use Rattle.om_vectors.specs.WholeVectors.{WholeVector, sign_of}
use Rattle.om_vectors.specs.Realizations.{triple_sign, signs_map, Realizes, IsRankLow}
use Rattle.om_vectors.proofs.TripleSigns.{bracket, chirotope_of}
use Rattle.om_vectors.proofs.NumberSigns.{sign_zero}

-- ---- realizing

-- the triple product of a triple has the sign of the map
abbrev pub HasItsSign : List WholeVector → SignMap → List ℕ → Type 0
HasItsSign vs m t = triple_sign vs t ≡ chi_of m t

-- a map that vectors realize has the signs of their triple products on increasing triples
pub realized_triple : (vs : List WholeVector) (m : SignMap) → Realizes vs m → (t : List ℕ) → IsTriple m.elements t
    → triple_sign vs t ≡ chi_of m t
realized_triple vs m h t i = of (elements_of_triple m.elements t i)
  where
    of : (a : ℕ) × (b : ℕ) × (c : ℕ) × (t ≡ a ∷ b ∷ c ∷ []) × IsRising m.elements a b c → triple_sign vs t ≡ chi_of m t
    of (a, b, c, e, r) = rw e (h.signs a b c r.low r.first r.second r.high)

-- vectors realize a map of rank 3 on as many elements, if it has the signs of their products on increasing triples
pub realizes_from : (vs : List WholeVector) (m : SignMap) → m.rank ≡ 3 → m.elements ≡ length vs
    → ((t : List ℕ) → IsTriple m.elements t → triple_sign vs t ≡ chi_of m t) → Realizes vs m
realizes_from vs m r n h = record {
  rank = r;
  elements = n;
  signs = λ a b c low ab bc high. h (a ∷ b ∷ c ∷ []) (triple_from m.elements a b c low ab bc high);
}

-- where no triple has another sign, the vectors realize the map
pub none_when_realized : (vs : List WholeVector) (m : SignMap) (o : Option Chosen) → m.rank ≡ 3 → m.elements ≡ length vs
    → FindsFirst m.elements 3 (λ t. triple_sign vs t ≢ chi_of m t) (HasItsSign vs m) o → IsNone o ↔ Realizes vs m
none_when_realized vs m None r n h = (λ e. realizes_from vs m r n (λ t i. h.none t i.list i.size), λ f. refl)
none_when_realized vs m (Some x) r n h = (
  λ e. absurd (true≢false e),
  λ f. absurd
      (h.first.yes
      (realized_triple vs m f x.elements (record { list = h.first.set.list; size = h.first.set.size }))),
)

-- ---- the signs of all triples

-- the triple product of a triple is zero
abbrev pub HasSignZero : List WholeVector → List ℕ → Type 0
HasSignZero vs t = triple_sign vs t ≡ Zero

-- the vectors lie in a plane, if the triple product of each increasing triple has the sign zero
pub low_rank_from : (vs : List WholeVector) → ((t : List ℕ) → IsTriple (length vs) t → HasSignZero vs t) → IsRankLow vs
low_rank_from vs h a b c low ab bc high =
    sign_zero (bracket vs a b c) (h (a ∷ b ∷ c ∷ []) (triple_from (length vs) a b c low ab bc high))

-- a triple with a nonzero product: the rank is not low, and the signs make a chirotope
pub rank_not_low : (vs : List WholeVector) (t : List ℕ) → IsTriple (length vs) t → triple_sign vs t ≢ Zero
    → IsRankLow vs → ⊥
rank_not_low vs t i n low = of (elements_of_triple (length vs) t i)
  where
    of : (a : ℕ) × (b : ℕ) × (c : ℕ) × (t ≡ a ∷ b ∷ c ∷ []) × IsRising (length vs) a b c → ⊥
    of (a, b, c, e, r) = n (ap (triple_sign vs) e ∙ ap sign_of (low a b c r.low r.first r.second r.high))

-- the signs of triple products are a chirotope, if that of some increasing triple isn't zero
pub chirotope_from : (vs : List WholeVector) (t : List ℕ) → IsTriple (length vs) t → triple_sign vs t ≢ Zero
    → IsChirotope (signs_map vs)
chirotope_from vs t i n = of (elements_of_triple (length vs) t i)
  where
    of : (a : ℕ) × (b : ℕ) × (c : ℕ) × (t ≡ a ∷ b ∷ c ∷ []) × IsRising (length vs) a b c → IsChirotope (signs_map vs)
    of (a, b, c, e, r) = chirotope_of vs a b c r.low r.first r.second r.high
        (λ z. n (ap (triple_sign vs) e ∙ ap sign_of z))

-- where no triple has a nonzero product, the rank is low
pub none_when_low : (vs : List WholeVector) (o : Option Chosen)
    → FindsFirst (length vs) 3 (λ t. triple_sign vs t ≢ Zero) (HasSignZero vs) o → IsNone o ↔ IsRankLow vs
none_when_low vs None h = (λ e. low_rank_from vs (λ t i. h.none t i.list i.size), λ l. refl)
none_when_low vs (Some x) h = (
  λ e. absurd (true≢false e),
  λ l. absurd
      (rank_not_low vs x.elements (record { list = h.first.set.list; size = h.first.set.size }) h.first.yes l),
)
