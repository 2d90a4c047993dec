-- The vectors of increasing lists, gathered by the places of the lists in lexicographic order.
--
-- Main results: gathered_more (one place more), cause_at_place, all_places (all places are all increasing lists of the
-- size), and what this says of circuits and cocircuits (circuits_of_places, cocircuits_of_places,
-- no_cocircuits).
use Rattle.std.proofs.Common.{ℕ, ◌≡◌, ◌+◌, ◌-◌, ◌<◌, ◌⊎◌, List, [], length, sym, ap, subst, ◌∙◌, inl, inr, arith}
use Rattle.std.proofs.lemmas.Bool.{cases_lt}
use Rattle.om_signs.specs.declared.sign.Sign.{Sign}
use Rattle.om_subsets.specs.Subsets.{choose, rank_of, subset_at, IsSubsetFrom}
use Rattle.om_subsets.proofs.Order.{listed, rank_from-lt, get_or-rank_from}
use Rattle.om_chirotope.specs.Map.{SignMap, circuit_vector, cocircuit_vector}
use Rattle.om_denotation.specs.Circuits.{IsCircuitOfChirotope, IsCocircuitOfChirotope}
use Rattle.om_denotation.specs.Listings.{AreAllOf}
use Rattle.om_convert.specs.declared.convert_error.ConvertError.{ConvertError}
use Rattle.om_convert.specs.Gathering.{IsOldOrAdded, IsExtendedBy, IsNonzeroUpToSign}
use Rattle.om_convert.specs.Limits.{IsCause}
use Rattle.om_convert.proofs.CountingLaws.{cause_of_cause}
use Rattle.om_convert.proofs.GatheringLaws.{none_gathered, gathered, cause_gathered}

-- nonzero, and up to sign the vector of an increasing list of a size
pub record IsOfIncreasing (V : List ℕ → List Sign) (n size : ℕ) (X : List Sign) : Type 0 where
  pub tuple : List ℕ
  pub increasing : IsSubsetFrom 1 n tuple
  pub sized : length tuple ≡ size
  pub vector : IsNonzeroUpToSign (V tuple) X

-- the same of a list at one of the first k places
abbrev pub IsOfPlace : (List ℕ → List Sign) → ℕ → ℕ → ℕ → List Sign → Type 0
IsOfPlace V n size k X = (j : ℕ) × (j < k) × IsNonzeroUpToSign (V (subset_at n size j)) X

module _ (V : List ℕ → List Sign) (n size : ℕ) where
  pub none_at_places : AreAllOf (IsOfPlace V n size 0) []
  none_at_places = none_gathered (IsOfPlace V n size 0) (λ X h. let l = h.1 in omega (arith, l))

  earlier_place : (k : ℕ) (X : List Sign) → IsOfPlace V n size k X → IsOfPlace V n size (k + 1) X
  earlier_place k X h = (h.0, (let l = h.1 in omega (arith, l)), h.2)

  last_place : (k : ℕ) (v : List Sign) → v ≡ V (subset_at n size k) → (X : List Sign) → IsNonzeroUpToSign v X
      → IsOfPlace V n size (k + 1) X
  last_place k v q X h = (k, omega arith, subst (λ u. IsNonzeroUpToSign u X) q h)

  either_place : (k : ℕ) (v : List Sign) → v ≡ V (subset_at n size k) → (X : List Sign) → IsOfPlace V n size (k + 1) X
      → IsOfPlace V n size k X ⊎ IsNonzeroUpToSign v X
  either_place k v q X (j, l, h) = elim (cases_lt j k) [
    | inl lt ↦ inl (j, lt, h)
    | inr ge ↦ let e : j ≡ k = omega (arith, l, ge) in
        inr (subst (λ u. IsNonzeroUpToSign u X) (ap (λ i. V (subset_at n size i)) e ∙ sym q) h)
  ]

  pub gathered_more : (k : ℕ) (v : List Sign) → v ≡ V (subset_at n size k) → (old new : List (List Sign))
      → AreAllOf (IsOfPlace V n size k) old → IsExtendedBy (IsNonzeroUpToSign v) old new
      → AreAllOf (IsOfPlace V n size (k + 1)) new
  gathered_more k v q old new h x =
      gathered (IsOfPlace V n size k) (IsNonzeroUpToSign v) (IsOfPlace V n size (k + 1)) (earlier_place k)
      (last_place k v q) (either_place k v q) old new h x

  -- ---- all places

  at_place : (j : ℕ) → j < choose n size → (X : List Sign) → IsNonzeroUpToSign (V (subset_at n size j)) X
      → IsOfIncreasing V n size X
  at_place j l X h =
      let p = listed 1 n size j l in
      record { tuple = subset_at n size j; increasing = p.lawful; sized = p.size; vector = h }

  to_increasing : (X : List Sign) → IsOfPlace V n size (choose n size) X → IsOfIncreasing V n size X
  to_increasing X (j, l, h) = at_place j l X h

  to_place : (X : List Sign) → IsOfIncreasing V n size X → IsOfPlace V n size (choose n size) X
  to_place X h =
      let e = subst (λ k. subset_at n k (rank_of n h.tuple) ≡ h.tuple) h.sized
      (get_or-rank_from 1 n h.tuple h.increasing) in (
        rank_of n h.tuple,
        subst (λ k. rank_of n h.tuple < choose n k) h.sized (rank_from-lt 1 n h.tuple h.increasing),
        subst (λ t. IsNonzeroUpToSign (V t) X) (sym e) h.vector,
      )

  pub all_places : (members : List (List Sign)) → AreAllOf (IsOfPlace V n size (choose n size)) members
      → AreAllOf (IsOfIncreasing V n size) members
  all_places members h =
      record { sound = λ X c. to_increasing X (h.sound X c); complete = λ X a. h.complete X (to_place X a) }

  pub cause_at_place : (k : ℕ) (v : List Sign) → v ≡ V (subset_at n size k) → k < choose n size
      → (old : List (List Sign)) (e : ConvertError) → AreAllOf (IsOfPlace V n size k) old
      → IsCause (IsOldOrAdded old (IsNonzeroUpToSign v)) e → IsCause (IsOfIncreasing V n size) e
  cause_at_place k v q l old e h c =
      cause_gathered (IsOfPlace V n size k) (IsNonzeroUpToSign v) (IsOfIncreasing V n size)
      (λ X p. let b = p.1 in at_place p.0 (omega (arith, b, l)) X p.2)
      (λ X a. at_place k l X (subst (λ u. IsNonzeroUpToSign u X) q a)) old e h c

-- ---- circuits and cocircuits

module _ (m : SignMap) where
  circuit_of_increasing : (X : List Sign) → IsOfIncreasing (circuit_vector m) m.elements (m.rank + 1) X
      → IsCircuitOfChirotope m X
  circuit_of_increasing X h =
      record { tuple = h.tuple; increasing = h.increasing; size = h.sized; nonzero = h.vector.0; same = h.vector.1 }

  increasing_of_circuit : (X : List Sign) → IsCircuitOfChirotope m X
      → IsOfIncreasing (circuit_vector m) m.elements (m.rank + 1) X
  increasing_of_circuit X h =
      record { tuple = h.tuple; increasing = h.increasing; sized = h.size; vector = (h.nonzero, h.same) }

  pub circuits_of_places : (k : ℕ) → k ≡ choose m.elements (m.rank + 1) → (members : List (List Sign))
      → AreAllOf (IsOfPlace (circuit_vector m) m.elements (m.rank + 1) k) members
      → AreAllOf (IsCircuitOfChirotope m) members
  circuits_of_places k q members h =
      let a = all_places (circuit_vector m) m.elements (m.rank + 1) members
      (subst (λ j. AreAllOf (IsOfPlace (circuit_vector m) m.elements (m.rank + 1) j) members) q h) in
      record {
        sound = λ X c. circuit_of_increasing X (a.sound X c);
        complete =
            λ X c. a.complete X (increasing_of_circuit X c);
      }

  pub circuit_cause : (e : ConvertError) → IsCause (IsOfIncreasing (circuit_vector m) m.elements (m.rank + 1)) e
      → IsCause (IsCircuitOfChirotope m) e
  circuit_cause e c = cause_of_cause (IsOfIncreasing (circuit_vector m) m.elements (m.rank + 1))
      (IsCircuitOfChirotope m) circuit_of_increasing e c

  cocircuit_of_increasing : 0 < m.rank → (X : List Sign) → IsOfIncreasing (cocircuit_vector m) m.elements (m.rank - 1) X
      → IsCocircuitOfChirotope m X
  cocircuit_of_increasing r X h =
      record {
        tuple = h.tuple;
        increasing = h.increasing;
        size = (let s = h.sized in omega (arith, r, s));
        nonzero =
            h.vector.0;
        same = h.vector.1;
      }

  increasing_of_cocircuit : (X : List Sign) → IsCocircuitOfChirotope m X
      → IsOfIncreasing (cocircuit_vector m) m.elements (m.rank - 1) X
  increasing_of_cocircuit X h =
      record {
        tuple = h.tuple;
        increasing = h.increasing;
        sized = (let s = h.size in omega (arith, s));
        vector =
            (h.nonzero, h.same);
      }

  pub cocircuits_of_places : 0 < m.rank → (k : ℕ) → k ≡ choose m.elements (m.rank - 1) → (members : List (List Sign))
      → AreAllOf (IsOfPlace (cocircuit_vector m) m.elements (m.rank - 1) k) members
      → AreAllOf (IsCocircuitOfChirotope m) members
  cocircuits_of_places r k q members h =
      let a = all_places (cocircuit_vector m) m.elements (m.rank - 1) members
      (subst (λ j. AreAllOf (IsOfPlace (cocircuit_vector m) m.elements (m.rank - 1) j) members) q h) in
      record {
        sound = λ X c. cocircuit_of_increasing r X (a.sound X c);
        complete =
            λ X c. a.complete X (increasing_of_cocircuit X c);
      }

  pub cocircuit_cause : 0 < m.rank → (e : ConvertError)
      → IsCause (IsOfIncreasing (cocircuit_vector m) m.elements (m.rank - 1)) e → IsCause (IsCocircuitOfChirotope m) e
  cocircuit_cause r e c = cause_of_cause (IsOfIncreasing (cocircuit_vector m) m.elements (m.rank - 1))
      (IsCocircuitOfChirotope m) (cocircuit_of_increasing r) e c

  pub no_cocircuits : m.rank ≡ 0 → AreAllOf (IsCocircuitOfChirotope m) []
  no_cocircuits z = none_gathered (IsCocircuitOfChirotope m) (λ X h. let s = h.size in absurd (omega (arith, z, s)))
