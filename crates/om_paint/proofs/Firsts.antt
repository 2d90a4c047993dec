-- The lexicographically first member of each class of a family of sign vectors, as the sets of a size come; the first
-- circuits and cocircuits.
--
-- Main definitions: AreFirsts, IsCircuitIn, IsCocircuitIn
-- Main results: kept_zero, put, placed, first_is_some, met_none, met_more, first_of_circuits,
-- first_of_cocircuits, no_cocircuits
use Rattle.std.proofs.Common.{ℕ, ◌≡◌, ◌+◌, ◌-◌, ◌<◌, ◌↔◌, List, length, map, get_or, replicate, set, refl, sym, ap}
use Rattle.std.proofs.Common.{subst, ◌∙◌, inl, inr, arith}
use Rattle.std.specs.Prelude.{Option, None, Some, IsSome}
use Rattle.std.proofs.lemmas.Bool.{cases_eq}
use Rattle.std.proofs.lemmas.List.{get_or-replicate, get_or-set_same, get_or-set_other, get_or_default}
use Rattle.std.proofs.lemmas.Option.{same_Some}
use Rattle.om_signs.specs.declared.sign.Sign.{Sign}
use Rattle.om_signs.specs.Sign.{opposite}
use Rattle.om_subsets.specs.Subsets.{choose, subset_at}
use Rattle.om_chirotope.specs.Map.{SignMap, circuit_vector, cocircuit_vector}
use Rattle.om_denotation.specs.Circuits.{HasNonzero, IsCircuitOfChirotope, IsCocircuitOfChirotope}
use Rattle.om_paint.specs.declared.classes.TheConstants.{CLASSES}
use Rattle.om_paint.specs.Paintings.{IsFirstIfAny, ComesBefore, IsEarlierOf}
use Rattle.om_paint.proofs.FirstVectors.{first_same, IsPassing, IsOfList, place_more, all_places}

-- ---- one vector more, with a place for each class

module _ (H : ℕ → List Sign → Type 0) (x : List Sign) (firsts : List (Option (List Sign))) where
  pub kept_zero : (HasNonzero x → ⊥) → (j : ℕ) → IsEarlierOf (H j) (get_or firsts j None) x (get_or firsts j None)
  kept_zero z j = inr (refl, λ n q b. z n)

  module _ (class : Option ℕ) (in_class : (i : ℕ) → H i x ↔ (class ≡ Some i)) where
    same_class : (i j : ℕ) → class ≡ Some i → H j x → i ≡ j
    same_class i j e q = same_Some i j (sym e ∙ (in_class j).0 q)

    pub put : (i : ℕ) → class ≡ Some i → i < length firsts → HasNonzero x → ComesBefore x (get_or firsts i None)
        → (j : ℕ) → IsEarlierOf (H j) (get_or firsts j None) x (get_or (set firsts i (Some x)) j None)
    put i e lt nonzero before j = elim (cases_eq j i) [
      | inl s ↦ inl (
        ap (λ k. get_or (set firsts i (Some x)) k None) s ∙ get_or-set_same firsts i (Some x) None lt,
        nonzero,
        (in_class j).1 (e ∙ ap Some (sym s)),
        subst (λ k. ComesBefore x (get_or firsts k None)) (sym s) before,
      )
      | inr d ↦ inr (get_or-set_other firsts i j (Some x) None d, λ n q b. d (sym (same_class i j e q)))
    ]

-- what stands at the place of a class, whatever is read past the end
pub placed : (P : ℕ → List Sign → Type 0) (firsts : List (Option (List Sign))) (e : ℕ) → length firsts ≡ CLASSES
    → e < CLASSES → ((i : ℕ) → i < CLASSES → IsFirstIfAny (P i) (get_or firsts i None))
    → (d o : Option (List Sign)) → get_or firsts e d ≡ o → IsFirstIfAny (P e) o
placed P firsts e size lt h d o s =
    subst (IsFirstIfAny (P e)) (get_or_default firsts e None d (omega (arith, size, lt)) ∙ s) (h e lt)

-- the first member is Some, if the family has members
pub first_is_some : (P : List Sign → Type 0) (o : Option (List Sign)) → IsFirstIfAny P o → (IsFirstIfAny P None → ⊥)
    → IsSome o
first_is_some P None h some = absurd (some h)
first_is_some P (Some X) h some = refl

-- ---- the walk over the sets of a size, with a place for each class

-- at each place the first of the vectors of the first k lists that are in its class
abbrev pub AreFirsts : (List ℕ → List Sign) → (ℕ → List Sign → Type 0) → ℕ → ℕ → ℕ → List (Option (List Sign)) → Type 0
AreFirsts V H n size k firsts = (i : ℕ) → i < CLASSES → IsFirstIfAny (IsPassing V (H i) n size k) (get_or firsts i None)

-- before the first list no vector has been met
pub met_none : (V : List ℕ → List Sign) (H : ℕ → List Sign → Type 0) (n size : ℕ)
    → AreFirsts V H n size 0 (replicate CLASSES None)
met_none V H n size i lt =
    subst (IsFirstIfAny (IsPassing V (H i) n size 0)) (sym (get_or-replicate CLASSES i None None lt))
    (λ X h. let below = h.1 in absurd (omega (arith, below)))

-- the vector of the list at the next place has been met, and its negative
pub met_more : (V : List ℕ → List Sign) (H : ℕ → List Sign → Type 0) (n size k : ℕ) (s : List ℕ)
    (old mid new : List (Option (List Sign))) (v w : List Sign) → AreFirsts V H n size k old → s ≡ subset_at n size k
    → v ≡ V s → w ≡ map opposite v
    → ((i : ℕ) → i < CLASSES → IsEarlierOf (H i) (get_or old i None) v (get_or mid i None))
    → ((i : ℕ) → i < CLASSES → IsEarlierOf (H i) (get_or mid i None) w (get_or new i None))
    → AreFirsts V H n size (k + 1) new
met_more V H n size k s old mid new v w met here e d a b i lt =
    place_more V (H i) n size k v w (e ∙ ap V here) d (get_or old i None) (get_or mid i None) (get_or new i None)
    (met i lt) (a i lt) (b i lt)

-- ---- circuits and cocircuits

module _ (m : SignMap) (Q : List Sign → Type 0) where
  abbrev pub IsCircuitIn : List Sign → Type 0
  IsCircuitIn X = IsCircuitOfChirotope m X × Q X

  abbrev pub IsCocircuitIn : List Sign → Type 0
  IsCocircuitIn X = IsCocircuitOfChirotope m X × Q X

  to_circuit : (X : List Sign) → IsOfList (circuit_vector m) Q m.elements (m.rank + 1) X → IsCircuitIn X
  to_circuit X h = (
    record { tuple = h.tuple; increasing = h.increasing; size = h.sized; nonzero = h.nonzero; same = h.same },
    h.allowed,
  )

  from_circuit : (X : List Sign) → IsCircuitIn X → IsOfList (circuit_vector m) Q m.elements (m.rank + 1) X
  from_circuit X h = let c = h.0 in
      record {
        tuple = c.tuple;
        increasing = c.increasing;
        sized = c.size;
        same = c.same;
        nonzero = c.nonzero;
        allowed =
            h.1;
      }

  pub first_of_circuits : (o : Option (List Sign))
      → IsFirstIfAny (IsPassing (circuit_vector m) Q m.elements (m.rank + 1) (choose m.elements (m.rank + 1))) o
      → IsFirstIfAny IsCircuitIn o
  first_of_circuits o h = first_same (IsOfList (circuit_vector m) Q m.elements (m.rank + 1)) IsCircuitIn to_circuit
      from_circuit o (all_places (circuit_vector m) Q m.elements (m.rank + 1) o h)

  to_cocircuit : 0 < m.rank → (X : List Sign) → IsOfList (cocircuit_vector m) Q m.elements (m.rank - 1) X
      → IsCocircuitIn X
  to_cocircuit r X h = (
    record {
      tuple = h.tuple;
      increasing = h.increasing;
      size = (let s = h.sized in omega (arith, r, s));
      nonzero =
          h.nonzero;
      same = h.same;
    },
    h.allowed,
  )

  from_cocircuit : (X : List Sign) → IsCocircuitIn X → IsOfList (cocircuit_vector m) Q m.elements (m.rank - 1) X
  from_cocircuit X h = let c = h.0 in
      record {
        tuple = c.tuple;
        increasing = c.increasing;
        sized = (let s = c.size in omega (arith, s));
        same = c.same;
        nonzero = c.nonzero;
        allowed = h.1;
      }

  pub first_of_cocircuits : 0 < m.rank → (o : Option (List Sign))
      → IsFirstIfAny (IsPassing (cocircuit_vector m) Q m.elements (m.rank - 1) (choose m.elements (m.rank - 1))) o
      → IsFirstIfAny IsCocircuitIn o
  first_of_cocircuits r o h =
      first_same (IsOfList (cocircuit_vector m) Q m.elements (m.rank - 1)) IsCocircuitIn (to_cocircuit r) from_cocircuit
      o (all_places (cocircuit_vector m) Q m.elements (m.rank - 1) o h)

  -- in rank 0 there is no cocircuit
  pub no_cocircuits : m.rank ≡ 0 → (i : ℕ) → i < CLASSES
      → IsFirstIfAny IsCocircuitIn (get_or (replicate CLASSES None) i None)
  no_cocircuits none i lt = subst (IsFirstIfAny IsCocircuitIn) (sym (get_or-replicate CLASSES i None None lt))
      (λ X h. let c = h.0 in let s = c.size in omega (arith, none, s))
