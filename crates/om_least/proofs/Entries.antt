-- The search over signed permutations, entry by entry.
--
-- Main definitions: IsTried, IsComparable
-- Main results: first signs before those of the map (image_before, not_least), behind them (passed_over) and the same
-- to the end (least_at_end); what holds with each next entry holds (least_by_entries); one more entry (comparable,
-- next_requires), and no entry (tied_at_start, nothing_listed).
use Rattle.std.proofs.Common.{ℕ, suc, ◌≡◌, ◌+◌, ◌-◌, ◌<◌, ◌≤◌, Bool, true, false, List, [], ◌∷◌, ◌++◌, length, take}
use Rattle.std.proofs.Common.{refl, sym, ap, subst, ◌∙◌, arith}
use Rattle.std.specs.declared.cmp.Ordering.TheVariants.{Greater}
use Rattle.std.specs.Ordering.{ordering_then}
use Rattle.std.proofs.lemmas.List.{length_push, take_all}
use Rattle.std.proofs.lemmas.Bool.{false≢true}
use Rattle.om_signs.specs.declared.limits.TheConstants.{MAX_PLACES, MAX_ELEMENTS}
use Rattle.om_signs.specs.declared.sign.Sign.{Sign}
use Rattle.om_signs.specs.Order.{lexicographic}
use Rattle.om_signs.specs.OrderLaws.{order_of_same}
use Rattle.om_subsets.specs.Subsets.{choose, IsSubsetFrom}
use Rattle.om_laws.specs.Members.{IsMember}
use Rattle.om_laws.specs.Sorting.{IsElement}
use Rattle.om_laws.specs.Tuples.{value}
use Rattle.om_chirotope.specs.Map.{SignMap, chi_of, value_of}
use Rattle.om_symmetry.specs.declared.signed_element.SignedElement.{SignedElement}
use Rattle.om_symmetry.specs.Permutations.{IsSignedPermutation, elements_of, signed_at}
use Rattle.om_symmetry.specs.Permutations.{image_value, acted}
use Rattle.om_symmetry.proofs.Places.{permutation_length}
use Rattle.om_least.specs.Least.{IsBefore, IsLeast}
use Rattle.om_least.specs.Beginnings.{IsBeginning, IsLeastBehind, BeginsBefore, first_signs, first_image_signs}
use Rattle.om_least.proofs.Orders.{greater_not_less, equal_not_less}
use Rattle.om_least.proofs.Reverse.{same_in_reverse}
use Rattle.om_least.proofs.Completing.{completed, next_begins, next_within, next_off, one_more}
use Rattle.om_least.proofs.FirstSigns.{order_behind, order_of_all, tied_on}

module _ (m : SignMap) (w : List SignedElement) where
  pub image_before : BeginsBefore m w → (v : List SignedElement) → IsSignedPermutation m.elements v
      → take (length w) v ≡ w → IsBefore (acted v m) m
  image_before b v p q =
      let o = order_behind m w v p q b.few in
      o.1 ∙ ap (λ p. ordering_then p o.0) b.before

  pub not_least : BeginsBefore m w → IsLeast m → ⊥
  not_least b h =
      let v = completed m.elements w b.begun b.few in
      h v.0 v.1 (image_before b v.0 v.1 v.2)

  pub passed_over : length w ≤ m.elements
      → lexicographic (first_image_signs m w) (first_signs m (length w)) ≡ Greater → IsLeastBehind m w
  passed_over le more v p q before =
      let o = order_behind m w v p q le in
      greater_not_less (sym (o.1 ∙ ap (λ p. ordering_then p o.0) more) ∙ before)

  pub least_at_end : length w ≡ m.elements → first_image_signs m w ≡ first_signs m (length w) → IsLeastBehind m w
  least_at_end l tied v p q before =
      let whole = permutation_length m.elements v p in
      let same : v ≡ w = sym (take_all (length w) v (omega arith)) ∙ q in
      let tied' : first_image_signs m v ≡ first_signs m (length v) =
      subst (λ u. first_image_signs m u ≡ first_signs m (length u)) (sym same) tied in
      equal_not_less
      (sym (order_of_all m v p ∙ order_of_same (first_image_signs m v) (first_signs m (length v)) tied') ∙ before)

  by_negation : (P : SignedElement → Type 0) (e : ℕ) (b : Bool) → P (record { element = e; negated = false })
      → P (record { element = e; negated = true }) → P (record { element = e; negated = b })
  by_negation P e true f t = t
  by_negation P e false f t = f

  -- no image is before the map with this next entry, as it is or negated
  pub record IsTried (e : ℕ) : Type 0 where
    pub plain : IsLeastBehind m (w ++ (record { element = e; negated = false }) ∷ [])
    pub negative : IsLeastBehind m (w ++ (record { element = e; negated = true }) ∷ [])

  pub least_by_entries : length w < m.elements
      → ((e : ℕ) → IsElement m.elements e → (IsMember e (elements_of w) → ⊥) → IsTried e) → IsLeastBehind m w
  least_by_entries l h v p q =
      let a = signed_at v (suc (length w)) in
      let tried = h a.element (next_within m.elements w v p q l) (next_off m.elements w v p q l) in
      let k = length_push w a in
      by_negation (λ b. IsLeastBehind m (w ++ b ∷ [])) a.element a.negated tried.plain tried.negative v p
      (ap (λ i. take i v) k ∙ next_begins m.elements w v p q l)

-- ---- one more entry

-- the first signs with these entries can be compared with those of the map
pub record IsComparable (m : SignMap) (w : List SignedElement) : Type 0 where
  pub begun : IsBeginning m.elements w
  pub some : 1 ≤ length w
  pub few : length w ≤ m.elements
  pub tied : take (choose (length w - 1) m.rank) (first_image_signs m w)
      ≡ take (choose (length w - 1) m.rank) (first_signs m (length w))

module _ (m : SignMap) (w u : List SignedElement) (a : SignedElement) (q : u ≡ w ++ a ∷ []) where
  pub longer : length u ≡ length w + 1
  longer = ap length q ∙ length_push w a

  pub comparable : length w < m.elements → IsBeginning m.elements w
      → first_image_signs m w ≡ first_signs m (length w) → IsElement m.elements a.element
      → (IsMember a.element (elements_of w) → ⊥) → IsComparable m u
  comparable l b tied i off =
      let k = longer in
      let back : length w ≡ length (w ++ a ∷ []) - 1 = let p = length_push w a in omega arith in
      subst (IsComparable m) (sym q)
      (record {
        begun = one_more m.elements w a b i off;
        some = (let p = length_push w a in omega arith);
        few = (let p = length_push w a in omega arith);
        tied = subst (λ j. take (choose j m.rank) (first_image_signs m (w ++ a ∷ []))
            ≡ take (choose j m.rank) (first_signs m (length (w ++ a ∷ [])))) back (tied_on m w a tied);
      })

-- what a call with one more entry requires, of what is known where it is made
pub next_requires : (m : SignMap) (w : List SignedElement) (n size e : ℕ) (has : Bool) → n ≡ m.elements
    → n ≤ MAX_ELEMENTS → size ≡ length w → (size ≡ n → ⊥) → length w ≤ m.elements → 1 ≤ e → e < n + 1 → has ≡ false
    → (IsMember e (elements_of w) → has ≡ true)
    → (length w < m.elements) × (length w < MAX_PLACES) × IsElement m.elements e × (IsMember e (elements_of w) → ⊥)
next_requires m w n size e has value high ql other few low test absent member =
    let less : length w < m.elements = omega (arith, value, ql, other, few) in
    (less, omega (arith, less, value, high), (low, omega (arith, value, test)), λ h. false≢true (sym absent ∙ member h))

-- ---- the start

no_signs : (f : List ℕ → Sign) (xs : List ℕ) → IsSubsetFrom 1 0 xs → image_value [] (value f) xs ≡ f xs
no_signs f [] h = refl
no_signs f (x ∷ xs) h = absurd h

pub tied_at_start : (m : SignMap) → first_image_signs m [] ≡ first_signs m 0
tied_at_start m = same_in_reverse 0 m.rank (image_value [] (value_of m)) (chi_of m) (λ xs h l. no_signs (chi_of m) xs h)

pub nothing_listed : (n : ℕ) → IsBeginning n []
nothing_listed n = record { within = tt; distinct = tt }
