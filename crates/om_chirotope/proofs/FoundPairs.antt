-- What a violated pair, once found, says of the map and of its refusal.
--
-- Main results: pair_denies, some_found; zeros_refused, pair_refused and chirotope_accepted; no_pair_named, not_zeros
-- and same_pair; within_places.
use Rattle.std.specs.Prelude.{ℕ, ◌≡◌, ◌≤◌, ◌↔◌, false, true, Option, Some, None, IsNone, IsSome, IfSome}
use Rattle.std.proofs.Common.{refl, sym, subst, arith}
use Rattle.std.proofs.lemmas.Bool.{false≢true}
use Rattle.om_signs.specs.declared.limits.TheConstants.{MAX_ELEMENTS, MAX_PLACES}
use Rattle.om_subsets.specs.Members.{Chosen}
use Rattle.om_chirotope.specs.Map.{SignMap, IsMap}
use Rattle.om_chirotope.specs.Chirotope.{IsChirotope, HasOrthogonalPairs, IsAllZero, IsFirstViolated}
use Rattle.om_chirotope.specs.declared.map_refused.MapRefused.TheVariants.{AllZero, Relation}
use Rattle.om_chirotope.proofs.Axioms.{not_all_zero, nonzero_value}

-- a map with a violated pair has not only orthogonal pairs
pub pair_denies : (m : SignMap) (s a : Chosen) → IsFirstViolated m s a → HasOrthogonalPairs m → ⊥
pair_denies m s a f h = f.violated (h s.elements a.elements f.pair)

-- a scan that returns a violated pair
pub some_found : (m : SignMap) (r : Option (Chosen × Chosen)) → IsSome r → IfSome r (λ p. IsFirstViolated m p.0 p.1)
    → IsNone r ↔ HasOrthogonalPairs m
some_found m None s f = absurd (false≢true s)
some_found m (Some p) s f = (λ n. absurd (false≢true (sym n)), λ h. absurd (pair_denies m p.0 p.1 f h))

-- a map whose signs are all zero is no chirotope
pub zeros_refused : (m : SignMap) → IsAllZero m.signs → (false ≡ true) ↔ IsChirotope m
zeros_refused m z = (
  λ e. absurd (false≢true e),
  λ h. absurd (not_all_zero m h.whole z h.nonzero),
)

-- a map with a violated pair is no chirotope
pub pair_refused : (m : SignMap) (s a : Chosen) → IsFirstViolated m s a → (false ≡ true) ↔ IsChirotope m
pair_refused m s a f = (λ e. absurd (false≢true e), λ h. absurd (pair_denies m s a f h.orthogonal))

-- a map without a violated pair, whose signs aren't all zero, is a chirotope
pub chirotope_accepted : (m : SignMap) → IsMap m → (IsAllZero m.signs → ⊥) → HasOrthogonalPairs m
    → (true ≡ true) ↔ IsChirotope m
chirotope_accepted m w n o = (
  λ e. record { whole = w; nonzero = nonzero_value m w n; orthogonal = o },
  λ h. refl,
)

-- the refusal of zeros names no pair
pub no_pair_named : (m : SignMap) (s a : Chosen) → AllZero ≡ Relation s a → IsFirstViolated m s a
no_pair_named m s a e = cc

-- the refusal of a pair isn't that of zeros
pub not_zeros : (m : SignMap) (s a : Chosen) → (IsAllZero m.signs → ⊥) → (Relation s a ≡ AllZero) ↔ IsAllZero m.signs
not_zeros m s a n = (λ e. cc, λ z. absurd (n z))

-- the pair that a refusal names
pub same_pair : (m : SignMap) (s a t b : Chosen) → IsFirstViolated m s a → Relation s a ≡ Relation t b
    → IsFirstViolated m t b
same_pair m s a t b f e =
    let x : s ≡ t = cc in
    let y : a ≡ b = cc in
    subst (IsFirstViolated m t) y (subst (λ u. IsFirstViolated m u a) x f)

-- the limit of the elements is within that of the places
pub within_places : (n : ℕ) → n ≤ MAX_ELEMENTS → n ≤ MAX_PLACES
within_places n h = omega arith
