-- Two forms of the exchange of bases: of an element of a basis B off a basis C, and of the list that is left of B.
--
-- Main results: exchange_from_lists and back, exchange_of_lists; exchange_of_rank_zero; a value that isn't zero with an
-- element behind isn't with it in its place (nonzero_in_place).
use Rattle.std.specs.Prelude.{ℕ, ◌≡◌, ◌≢◌, ◌%◌, List, [], ◌∷◌, ◌++◌, length, refl}
use Rattle.std.proofs.Common.{sym, ap, subst, ◌∙◌, ⊎_elim, inl, inr, arith}
use Rattle.std.proofs.lemmas.Bool.{cases_eq, cases_lt, eq-eqb, ne_eqb, lt-ltb, le-ltb}
use Rattle.om_signs.specs.declared.sign.Sign.{Sign}
use Rattle.om_signs.specs.declared.sign.Sign.TheVariants.{Zero}
use Rattle.om_signs.specs.Sign.{opposite}
use Rattle.om_signs.proofs.SignLaws.{zero_from_opposite}
use Rattle.om_subsets.specs.Subsets.{IsSubsetFrom, IsMember, with_element, without_element, count_above}
use Rattle.om_subsets.proofs.OneElement.{without_other, subset_without, with_without}
use Rattle.om_subsets.proofs.Order.{members_from}
use Rattle.om_subsets.proofs.Statements.{members_with, members_without}
use Rattle.om_laws.specs.Tuples.{value}
use Rattle.om_laws.proofs.MemberLaws.{member_or_not}
use Rattle.om_chirotope.specs.Map.{SignMap, chi_of, value_of}
use Rattle.om_chirotope.specs.ThreeTerm.{IsBasis, IsBasisWith, HasExchange, HasListExchange}
use Rattle.om_chirotope.proofs.Circuits.{length-without}
use Rattle.om_chirotope.proofs.Cocircuits.{along_even, along_member, along_odd, length-with}
use Rattle.om_chirotope.proofs.Theory.{lawful_with}

-- ---- a list with an element, and without it again

without_with : (e : ℕ) (xs : List ℕ) → (IsMember e xs → ⊥) → without_element e (with_element e xs) ≡ xs
without_with e [] n = rw (eq-eqb e e refl) refl
without_with e (x ∷ xs) n =
    let ne : e ≢ x = (λ q. n (inl q)) in
    let rest = without_with e xs (λ k. n (inr k)) in
    rw (ne_eqb e x ne) (elim (cases_lt e x) [
      | inl lt ↦ rw (lt-ltb e x lt) (rw (eq-eqb e e refl) (without_other e (x ∷ xs) n))
      | inr ge ↦ rw (le-ltb e x ge) (rw (ne_eqb e x ne) (ap (λ l. x ∷ l) rest))
    ])

-- ---- the value with an element in its place, and behind

-- the value with an element in its place, from that with the element behind
pub nonzero_in_place : (n e : ℕ) (f : List ℕ → Sign) (xs : List ℕ) → IsSubsetFrom 1 n xs
    → IsSubsetFrom 1 n (with_element e xs) → (IsMember e xs → ⊥) → value f (xs ++ e ∷ []) ≢ Zero
    → value f (with_element e xs) ≢ Zero
nonzero_in_place n e f xs list lawful fresh nonzero z = elim (cases_eq (count_above e xs % 2) 1) [
  | inl odd ↦ nonzero (sym (along_odd 1 n e f xs list lawful fresh odd) ∙ ap opposite z)
  | inr even ↦ nonzero (sym (along_even 1 n e f xs list lawful fresh even) ∙ z)
]

nonzero_behind : (n e : ℕ) (f : List ℕ → Sign) (xs : List ℕ) → IsSubsetFrom 1 n xs
    → IsSubsetFrom 1 n (with_element e xs) → (IsMember e xs → ⊥) → value f (with_element e xs) ≢ Zero
    → value f (xs ++ e ∷ []) ≢ Zero
nonzero_behind n e f xs list lawful fresh nonzero z = elim (cases_eq (count_above e xs % 2) 1) [
  | inl odd ↦ nonzero (zero_from_opposite (value f (with_element e xs))
      (along_odd 1 n e f xs list lawful fresh odd ∙ z))
  | inr even ↦ nonzero (along_even 1 n e f xs list lawful fresh even ∙ z)
]

module _ (m : SignMap) where
  basis_with : (a : List ℕ) (e : ℕ) → IsBasisWith m a e → IsBasis m (with_element e a) × (IsMember e a → ⊥)
  basis_with a e h = (
    record {
      list = lawful;
      size = length-with e a fresh ∙ h.size;
      nonzero =
          nonzero_in_place m.elements e (chi_of m) a h.list lawful fresh h.nonzero;
    },
    fresh,
  )
    where
      fresh : IsMember e a → ⊥
      fresh k = h.nonzero (along_member 1 m.elements e (chi_of m) a h.list k)

      lawful : IsSubsetFrom 1 m.elements (with_element e a)
      lawful = let high = h.high in lawful_with 1 m.elements e a h.list h.low (omega (arith, high))

  with_of_basis : (a : List ℕ) (f : ℕ) → IsSubsetFrom 1 m.elements a → (IsMember f a → ⊥) → IsBasis m (with_element f a)
      → value_of m (a ++ f ∷ []) ≢ Zero
  with_of_basis a f list fresh basis = nonzero_behind m.elements f (chi_of m) a list basis.list fresh basis.nonzero

  -- where B without e, and C, are lists with exchange, e changes places with an element of C
  pub exchange_from_lists : HasListExchange m → HasExchange m
  exchange_from_lists ex b c e first second inside outside = go (ex (without_element e b) c e rest second)
    where
      list : IsSubsetFrom 1 m.elements (without_element e b)
      list = subset_without 1 m.elements e b first.list

      fresh : IsMember e (without_element e b) → ⊥
      fresh k = ((members_without e e b).0 k).0 refl

      back : with_element e (without_element e b) ≡ b
      back = with_without 1 m.elements e b first.list inside

      rest : IsBasisWith m (without_element e b) e
      rest =
          let bound = members_from 1 m.elements e b first.list inside in
          let low = bound.0 in
          let high = bound.1 in
          record {
            list = list;
            size = length-without 1 m.elements e b first.list inside ∙ first.size;
            low = low;
            high = omega (arith, high);
            nonzero = with_of_basis (without_element e b) e list fresh (subst (IsBasis m) (sym back) first);
          }

      go : (f : ℕ) × IsMember f c × (value_of m (without_element e b ++ f ∷ []) ≢ Zero) → (f : ℕ) × IsMember f c
          × (IsMember f b → ⊥) × IsBasis m (with_element f (without_element e b))
      go (f, k, nz) =
          let bound = members_from 1 m.elements f c second.list k in
          let high = bound.1 in
          let made =
          basis_with (without_element e b) f
          (record { list = list; size = rest.size; low = bound.0; high = omega (arith, high); nonzero = nz }) in
          (f, k, (λ j. made.1 ((members_without e f b).1 ((λ q. outside (subst (λ y. IsMember y c) q k)), j))), made.0)

  pub exchange_of_lists : HasExchange m → HasListExchange m
  exchange_of_lists ex a c e h second = ⊎_elim (λ k. (e, k, h.nonzero)) (λ n. go n) (member_or_not e c)
    where
      made : IsBasis m (with_element e a) × (IsMember e a → ⊥)
      made = basis_with a e h

      back : without_element e (with_element e a) ≡ a
      back = without_with e a made.1

      go : (IsMember e c → ⊥) → (f : ℕ) × IsMember f c × (value_of m (a ++ f ∷ []) ≢ Zero)
      go n =
          let k = ex (with_element e a) c e made.0 second ((members_with e e a).1 (inl refl)) n in (
            k.0,
            k.1,
            with_of_basis a k.0 h.list (λ j. k.2 ((members_with e k.0 a).1 (inr j)))
                (subst (λ l. IsBasis m (with_element k.0 l)) back k.3),
          )

pub exchange_of_rank_zero : (m : SignMap) → m.rank ≡ 0 → HasExchange m
exchange_of_rank_zero m r b c e first second inside outside = absurd (nothing b (first.size ∙ r) inside)
  where
    nothing : (xs : List ℕ) → length xs ≡ 0 → IsMember e xs → ⊥
    nothing [] q k = k
    nothing (x ∷ xs) q k = omega (arith, q)
