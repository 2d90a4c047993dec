-- Bases as increasing lists, and as tuples.
--
-- Main definitions: HasBasis.
-- Main results: a tuple that is a base gives a basis, with e or without it (basis_list), and conversely (avoided,
-- in_base); an element that is no coloop is avoided by a basis, and one that is no loop is in a basis (basis_off,
-- basis_on); an element that no basis avoids is a coloop, and one that none has is a loop (coloop_tuple, coloop_list,
-- loop_tuple); a basis is there or not (decide_basis).
use Rattle.std.specs.Prelude.{ℕ, ◌≡◌, ◌↔◌, ◌⊎◌, ◌+◌, ◌≤◌, List, [], ◌∷◌, ◌++◌, length, Bool, true, false, IsTrue}
use Rattle.std.proofs.Common.{zero, suc, sym, subst, inl, inr, arith, refl, ⊎_elim}
use Rattle.std.proofs.lemmas.Bool.{false≢true, cases_eq}
use Rattle.om_signs.proofs.SignLaws.{nonzero_from_opposite, zero_or_nonzero}
use Rattle.om_subsets.specs.Subsets.{IsSubsetFrom, IsMember, choose, subset_at}
use Rattle.om_subsets.proofs.Order.{listed}
use Rattle.om_laws.specs.Signs.{IsNonzero}
use Rattle.om_laws.specs.Minors.{IsAvoided}
use Rattle.om_laws.specs.Parallel.{IsInBase}
use Rattle.om_laws.specs.Members.{IsDistinct}
use Rattle.om_laws.specs.Parallel as theory
use Rattle.om_laws.proofs.MemberLaws.{member_or_not, split_at, member_swap}
use Rattle.om_laws.proofs.SortingLaws.{by_sorting}
use Rattle.om_laws.proofs.TupleLaws.{nonzero_distinct}
use Rattle.om_laws.proofs.TupleSizes.{on_tuples_at, on_tuples_alternating, on_tuples_tuple}
use Rattle.om_chirotope.specs.Map.{SignMap, chi_of, value_of}
use Rattle.om_chirotope.specs.Chirotope.{IsChirotope}
use Rattle.om_chirotope.proofs.Theory.{from_tuple, theory_chirotope, to_tuple}
use Rattle.om_matroid.specs.Bases.{IsColoop, IsLoop}
use Rattle.om_chirotope.specs.ThreeTerm.{IsBasis}
use Rattle.om_matroid.proofs.WalkLaws.{HasNoneBefore, none_at_all}
use Rattle.om_denotation.proofs.ChirotopeBridge.{tuples_of}

-- some basis has e, where `inside` is true, and else some basis avoids e
abbrev pub HasBasis : SignMap → ℕ → Bool → Type 0
HasBasis m e inside = (xs : List ℕ) × IsBasis m xs × (IsTrue inside ↔ IsMember e xs)

module _ (m : SignMap) where
  pub basis_nonzero : (xs : List ℕ) → IsBasis m xs → IsNonzero (tuples_of m xs)
  basis_nonzero xs b =
      subst IsNonzero (sym (on_tuples_at m.elements m.rank (chi_of m) xs (to_tuple m.elements m.rank xs b.list b.size)))
      b.nonzero

  -- a tuple with a nonzero value, which has e or not as the test says, gives such a basis
  pub basis_list : (e : ℕ) (inside : Bool) (t : List ℕ) → IsNonzero (tuples_of m t) → (IsTrue inside ↔ IsMember e t)
      → HasBasis m e inside
  basis_list e inside =
      by_sorting (λ t. IsNonzero (tuples_of m t) → (IsTrue inside ↔ IsMember e t) → HasBasis m e inside)
      (λ x y cs bs h n w. h
      (nonzero_from_opposite (tuples_of m (cs ++ x ∷ y ∷ bs))
      (subst IsNonzero (on_tuples_alternating m.elements m.rank (chi_of m) x y cs bs) n))
      ((λ k. member_swap e y x cs bs (w.0 k)), (λ k. w.1 (member_swap e x y cs bs k))))
      (λ x cs bs n w. absurd
      (repeated x cs bs
      (nonzero_distinct (tuples_of m) (on_tuples_alternating m.elements m.rank (chi_of m)) (cs ++ x ∷ x ∷ bs) n)))
      (λ xs i n w.
      let t = on_tuples_tuple m.elements m.rank (chi_of m) xs n in (
        xs,
        record {
          list = from_tuple m.elements m.rank xs t i;
          size = t.size;
          nonzero =
              subst IsNonzero (on_tuples_at m.elements m.rank (chi_of m) xs t) n;
        },
        w,
      ))
    where
      repeated : (x : ℕ) (cs bs : List ℕ) → IsDistinct (cs ++ x ∷ x ∷ bs) → ⊥
      repeated x [] bs d = d.0 (inl refl)
      repeated x (c ∷ cs) bs d = repeated x cs bs d.1

  pub avoided : (e : ℕ) → HasBasis m e false → IsAvoided (tuples_of m) e
  avoided e (xs, b, w) = (xs, basis_nonzero xs b, (λ k. false≢true (w.1 k)))

  pub in_base : (e : ℕ) → HasBasis m e true → IsInBase (tuples_of m) e
  in_base e (xs, b, w) =
      let s = split_at e xs (w.0 refl) in
      (s.0, s.1, subst (λ l. IsNonzero (tuples_of m l)) s.2 (basis_nonzero xs b))

  -- ---- where no basis avoids e, and where none has it

  outside : (e : ℕ) (t : List ℕ) → (IsMember e t → ⊥) → IsTrue false ↔ IsMember e t
  outside e t n = ((λ k. absurd (false≢true k)), (λ k. absurd (n k)))

  inner : (e : ℕ) (t : List ℕ) → IsMember e t → IsTrue true ↔ IsMember e t
  inner e t k = ((λ q. k), (λ q. refl))

  pub coloop_tuple : (e : ℕ) → (HasBasis m e false → ⊥) → theory.IsColoop (tuples_of m) e
  coloop_tuple e none t n = ⊎_elim (λ k. k) (λ off. absurd (none (basis_list e false t n (outside e t off))))
      (member_or_not e t)

  pub loop_tuple : (e : ℕ) → (HasBasis m e true → ⊥) → theory.IsLoop (tuples_of m) e
  loop_tuple e none t n k = none (basis_list e true t n (inner e t k))

  pub coloop_list : (e : ℕ) → (HasBasis m e false → ⊥) → IsColoop m e
  coloop_list e none xs b = ⊎_elim (λ k. k) (λ off. absurd (none (xs, b, outside e xs off))) (member_or_not e xs)

  -- an element that no basis avoids is in some basis, and one that none has is avoided by some
  pub basis_with : IsChirotope m → (e : ℕ) → (HasBasis m e false → ⊥) → HasBasis m e true
  basis_with om e none =
      let b = (theory_chirotope m om).base in
      ⊎_elim (λ k. basis_list e true b.0 b.1 (inner e b.0 k))
      (λ off. absurd (none (basis_list e false b.0 b.1 (outside e b.0 off)))) (member_or_not e b.0)

  -- an element of a chirotope that is in no basis is avoided by some basis
  pub basis_without : IsChirotope m → (e : ℕ) → (HasBasis m e true → ⊥) → HasBasis m e false
  basis_without om e none =
      let b = (theory_chirotope m om).base in
      ⊎_elim (λ k. absurd (none (basis_list e true b.0 b.1 (inner e b.0 k))))
      (λ off. basis_list e false b.0 b.1 (outside e b.0 off)) (member_or_not e b.0)

  -- if some basis has an element, the rank is at least 1
  pub rank_low : (e : ℕ) → HasBasis m e true → 1 ≤ m.rank
  rank_low e (xs, b, w) = let s = b.size in let k = long xs (w.0 refl) in omega (arith, s, k)
    where
      long : (xs : List ℕ) → IsMember e xs → 1 ≤ length xs
      long [] k = absurd k
      long (x ∷ xs) k = let l : length (x ∷ xs) ≡ length xs + 1 = omega arith in omega arith

  -- ---- such a basis is there or not

  -- a basis that has e or not, as the test says
  abbrev IsSuch : ℕ → Bool → List ℕ → Type 0
  IsSuch e inside xs = IsBasis m xs × (IsTrue inside ↔ IsMember e xs)

  such_or_not : (e : ℕ) (inside : Bool) (s : List ℕ) → IsSubsetFrom 1 m.elements s → length s ≡ m.rank
      → IsSuch e inside s ⊎ (IsSuch e inside s → ⊥)
  such_or_not e inside s h l =
      ⊎_elim (λ z. inr (λ w. w.0.nonzero z))
      (λ n. go inside (member_or_not e s) (record { list = h; size = l; nonzero = n })) (zero_or_nonzero (value_of m s))
    where
      go : (b : Bool) → IsMember e s ⊎ (IsMember e s → ⊥) → IsBasis m s → IsSuch e b s ⊎ (IsSuch e b s → ⊥)
      go true (inl k) w = inl (w, inner e s k)
      go true (inr off) w = inr (λ q. off (q.1.0 refl))
      go false (inl k) w = inr (λ q. false≢true (q.1.1 k))
      go false (inr off) w = inl (w, outside e s off)

  decide_below : (e : ℕ) (inside : Bool) (k : ℕ) → k ≤ choose m.elements m.rank → HasBasis m e inside
      ⊎ HasNoneBefore (IsSuch e inside) m.elements m.rank k
  decide_below e inside zero le = inr (λ j l. absurd (omega arith))
  decide_below e inside (suc k) le = ⊎_elim (λ h. inl h)
      (λ none.
      let t = listed 1 m.elements m.rank k (omega arith) in
      ⊎_elim (λ w. inl (subset_at m.elements m.rank k, w.0, w.1))
      (λ off. inr (λ j l. elim (cases_eq j k) [
        | inl q ↦ subst (λ i. IsSuch e inside (subset_at m.elements m.rank i) → ⊥) (sym q) off
        | inr n ↦ none j (omega arith)
      ]))
      (such_or_not e inside (subset_at m.elements m.rank k) t.lawful t.size))
      (decide_below e inside k (omega arith))

  -- some basis has e, or avoids it, as `inside` says, or none does
  pub decide_basis : (e : ℕ) (inside : Bool) → HasBasis m e inside ⊎ (HasBasis m e inside → ⊥)
  decide_basis e inside = ⊎_elim (λ h. inl h)
      (λ none. inr (λ h. none_at_all (IsSuch e inside) m.elements m.rank none h.0 h.1.list h.1.size (h.1, h.2)))
      (decide_below e inside (choose m.elements m.rank) (omega arith))

  -- ---- coloops and loops

  pub coloop_none : (e : ℕ) → IsColoop m e → HasBasis m e false → ⊥
  coloop_none e coloop (xs, b, w) = false≢true (w.1 (coloop xs b))

  pub loop_none : (e : ℕ) → IsLoop m e → HasBasis m e true → ⊥
  loop_none e loop (xs, b, w) = loop xs b (w.0 refl)

  pub basis_off : (e : ℕ) → (IsColoop m e → ⊥) → HasBasis m e false
  basis_off e some = ⊎_elim (λ h. h) (λ none. absurd (some (coloop_list e none))) (decide_basis e false)

  pub basis_on : (e : ℕ) → (IsLoop m e → ⊥) → HasBasis m e true
  basis_on e some = ⊎_elim (λ h. h) (λ none. absurd (some (λ xs b k. none (xs, b, inner e xs k)))) (decide_basis e true)
