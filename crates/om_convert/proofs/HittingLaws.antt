-- Tuples that every cocircuit meets.
--
-- Main results: each cocircuit meets each base (base_hits); a tuple that each cocircuit meets contains a base
-- (base_within), and is one where it has as many elements and no repeat (hitting_base) or where no element can be left
-- out (sharp_base); a cocircuit that is zero on a base without one element is the vector along the others, up to sign
-- (vanishing_same).
-- Reference: Björner, Las Vergnas, Sturmfels, White and Ziegler, Oriented Matroids, chapter 3.
use Rattle.std.specs.Prelude.{ℕ, ◌≡◌, ◌≢◌, ◌≤◌, ◌⊎◌, List, [], ◌∷◌, ◌++◌, length, refl}
use Rattle.std.proofs.Common.{zero, suc, sym, ap, subst, ◌∙◌, ⊎_elim, inl, inr, arith}
use Rattle.std.proofs.lemmas.List.{nil_from_length}
use Rattle.om_signs.specs.declared.sign.Sign.{Sign}
use Rattle.om_signs.specs.declared.sign.Sign.TheVariants.{Zero}
use Rattle.om_signs.proofs.SignLaws.{zero_or_nonzero, opposite_nonzero}
use Rattle.om_laws.specs.Signs.{IsNonzero}
use Rattle.om_laws.specs.Members.{IsMember, IsDistinct}
use Rattle.om_laws.specs.Vectors.{SignVector, AreEqualUpToSign, HasSupportIn}
use Rattle.om_laws.specs.Relations.{around, along}
use Rattle.om_laws.specs.Circuits.{IsCircuit, IsCocircuit}
use Rattle.om_laws.specs.Dual.{complement}
use Rattle.om_laws.specs.Chirotope.{IsChirotope}
use Rattle.om_laws.proofs.MemberLaws.{member_or_not, search_members, split_at, distinct_last, member_last}
use Rattle.om_laws.proofs.MemberLaws.{outside_or_within}
use Rattle.om_laws.proofs.TupleLaws.{nonzero_distinct}
use Rattle.om_laws.proofs.BlockLaws.{same_members}
use Rattle.om_laws.proofs.BaseLaws.{other_common}
use Rattle.om_laws.proofs.FundamentalCircuits.{fundamental_circuit, fundamental_cocircuit}
use Rattle.om_laws.proofs.TwoElements.{cocircuit_supported}
use Rattle.om_laws.proofs.DualPairs.{dual_pair}
use Rattle.om_laws.proofs.PairAxioms as pairs
use Rattle.om_laws.proofs.SizeLaws.{one_size}
use Rattle.om_laws.proofs.Missing.{missing, missing_middle_member, missing_middle_other}
use Rattle.om_laws.proofs.Complements.{complement_is_complement}
use Rattle.om_laws.proofs.DualSizes.{length_complement}
use Rattle.om_laws.proofs.VectorLaws.{same_zero, same_sym}

-- nonzero at some entry
abbrev pub Meets : List ℕ → SignVector → Type 0
Meets t Y = (g : ℕ) × IsMember g t × IsNonzero (Y g)

pub meets_or_zero : (t : List ℕ) (Y : SignVector) → Meets t Y ⊎ ((g : ℕ) → IsMember g t → Y g ≡ Zero)
meets_or_zero t Y = search_members (λ g. IsNonzero (Y g)) (λ g. Y g ≡ Zero)
    (λ g. ⊎_elim (λ z. inr z) (λ n. inl n) (zero_or_nonzero (Y g))) t

module _ (E : List ℕ) (chi : List ℕ → Sign) (om : IsChirotope E chi) where
  nonzero_along : (Y : SignVector) (c : IsCocircuit chi Y) (e : ℕ) → IsNonzero (Y e) → IsNonzero (along chi c.tuple e)
  nonzero_along Y c e n z = n (same_zero Y (along chi c.tuple) c.same e z)

  along_nonzero : (Y : SignVector) (c : IsCocircuit chi Y) (e : ℕ) → IsNonzero (along chi c.tuple e) → IsNonzero (Y e)
  along_nonzero Y c e n z = n (same_zero (along chi c.tuple) Y (same_sym Y (along chi c.tuple) c.same) e z)

  -- where a cocircuit is nonzero off a base, it is nonzero at some element of the base that this one can take the place
  -- of
  pub meets_fundamental : (t : List ℕ) (e : ℕ) → IsNonzero (chi t) → (IsMember e t → ⊥) → (Y : SignVector)
      → IsCocircuit chi Y → IsNonzero (Y e)
      → (g : ℕ) × IsMember g t × IsNonzero (Y g) × IsNonzero (around chi (t ++ e ∷ []) g)
  meets_fundamental t e nt out Y c ny =
      let within = cocircuit_supported E chi om Y c e ny in
      let f = fundamental_circuit E chi om t e within nt out in
      let d = distinct_last t e (nonzero_distinct chi om.alternating t nt) out in
      let k = other_common E chi om (t ++ e ∷ []) c.tuple d e f.at_element (nonzero_along Y c e ny) in
      (k.0, ⊎_elim (λ m. m) (λ q. absurd (k.3 q)) (f.support k.0 k.1), along_nonzero Y c k.0 k.2, k.1)

  pub base_hits : (t : List ℕ) → IsNonzero (chi t) → (Y : SignVector) → IsCocircuit chi Y → Meets t Y
  base_hits t nt Y c = ⊎_elim
      (λ m. (c.nonzero.0, m, c.nonzero.1))
      (λ out. let k = meets_fundamental t c.nonzero.0 nt out Y c c.nonzero.1 in (k.0, k.1, k.2))
      (member_or_not c.nonzero.0 t)

  pub vanishing_same : (a : List ℕ) (h : ℕ) → IsNonzero (chi (a ++ h ∷ [])) → (Y : SignVector) → IsCocircuit chi Y
      → ((g : ℕ) → IsMember g a → Y g ≡ Zero)
      → AreEqualUpToSign Y (along chi a)
  vanishing_same a h n Y c zeros =
      let axioms = pairs.cocircuit_axioms E (IsCircuit E chi) (IsCocircuit chi) (dual_pair E chi om) in
      axioms.incomparable Y (along chi a) c (record { tuple = a; nonzero = (h, n); same = inl (λ g. refl) }) support
    where
      at_other : (e : ℕ) → IsNonzero (Y e) → (IsMember e (a ++ h ∷ []) → ⊥) → IsNonzero (along chi a e)
      at_other e ny out =
          let k = meets_fundamental (a ++ h ∷ []) e n out Y c ny in
          let within = cocircuit_supported E chi om Y c e ny in
          let f = fundamental_circuit E chi om (a ++ h ∷ []) e within n out in
          ⊎_elim
          (λ m. absurd (k.2 (zeros k.0 m)))
          (λ q. (f.exchange a h [] refl).0 (subst (λ i. IsNonzero (around chi ((a ++ h ∷ []) ++ e ∷ []) i)) q k.3))
          (member_last k.0 h a k.1)

      support : HasSupportIn Y (along chi a)
      support e ny = ⊎_elim
          (λ m. ⊎_elim (λ k. absurd (ny (zeros e k))) (λ q. subst (λ i. IsNonzero (along chi a i)) (sym q) n)
          (member_last e h a m))
          (λ out. at_other e ny out)
          (member_or_not e (a ++ h ∷ []))

  -- ---- tuples that each cocircuit meets

  abbrev HasBaseWithin : List ℕ → Type 0
  HasBaseWithin t = (b : List ℕ) × IsNonzero (chi b) × ((g : ℕ) → IsMember g b → IsMember g t)

  module _ (t : List ℕ) (hits : (Y : SignVector) → IsCocircuit chi Y → Meets t Y) where
    exchanged : (b : List ℕ) → IsNonzero (chi b) → (e : ℕ) → IsMember e b → (IsMember e t → ⊥) → (r : List ℕ)
        × IsNonzero (chi r) × (suc (missing t r) ≡ missing t b)
    exchanged b nb e m out =
        let k = split_at e b m in
        let f = fundamental_cocircuit E chi om k.0 k.1 e (subst (λ l. IsNonzero (chi l)) k.2 nb) in
        let h = hits (along chi (k.0 ++ k.1)) f.cocircuit in (
          k.0 ++ h.0 ∷ k.1,
          (f.exchange h.0).0 h.2,
          ap suc (missing_middle_member t k.0 h.0 k.1 h.1) ∙ sym (missing_middle_other t k.0 e k.1 out)
              ∙ ap (missing t) (sym k.2),
        )

    by_missing : (n : ℕ) (b : List ℕ) → missing t b ≤ n → IsNonzero (chi b) → HasBaseWithin t
    by_missing zero b le nb = ⊎_elim
        (λ k. let r = exchanged b nb k.0 k.1 k.2 in let q = r.2 in absurd (omega (arith, le, q)))
        (λ sub. (b, nb, sub))
        (outside_or_within b t)
    by_missing (suc n) b le nb = ⊎_elim
        (λ k. let r = exchanged b nb k.0 k.1 k.2 in let q = r.2 in by_missing n r.0 (omega (arith, le, q)) r.1)
        (λ sub. (b, nb, sub))
        (outside_or_within b t)

    pub base_within : HasBaseWithin t
    base_within = by_missing (missing t om.base.0) om.base.0 (omega arith) om.base.1

    swapped : (u : List ℕ) (x y : ℕ) (v : List ℕ) → IsNonzero (chi (u ++ x ∷ y ∷ v)) → IsNonzero (chi (u ++ y ∷ x ∷ v))
    swapped u x y v n = subst IsNonzero (sym (om.alternating x y u v)) (opposite_nonzero (chi (u ++ x ∷ y ∷ v)) n)

    -- with the elements of a base
    same_as_base : (b : List ℕ) → IsNonzero (chi b) → IsDistinct t → ((g : ℕ) → IsMember g b → IsMember g t)
        → ((g : ℕ) → IsMember g t → IsMember g b) → IsNonzero (chi t)
    same_as_base b nb d to from =
        same_members (λ l. IsNonzero (chi l)) swapped b [] t (nonzero_distinct chi om.alternating b nb) d to from nb

    all_of_base : (b : List ℕ) → IsNonzero (chi b) → IsDistinct t → length t ≡ length b
        → ((g : ℕ) → IsMember g b → IsMember g t) → (g : ℕ) → IsMember g t → IsMember g b
    all_of_base b nb d l to g m = ⊎_elim
        (λ k. k)
        (λ out.
        let s = length_complement t b d (nonzero_distinct chi om.alternating b nb) to in
        let none = nil_from_length (complement t b) (omega (arith, s, l)) in
        absurd (subst (IsMember g) none ((complement_is_complement t b d).all g m out)))
        (member_or_not g b)

    pub hitting_base : IsDistinct t → (b : List ℕ) → IsNonzero (chi b) → length t ≡ length b → IsNonzero (chi t)
    hitting_base d b nb l =
        let k = base_within in
        same_as_base k.0 k.1 d k.2 (all_of_base k.0 k.1 d (l ∙ one_size E chi om b k.0 nb k.1) k.2)

    -- where each element is needed
    pub sharp_base : IsDistinct t
        → ((e : ℕ) → IsMember e t → (Y : SignVector) × IsCocircuit chi Y
        × ((g : ℕ) → IsMember g t → g ≢ e → Y g ≡ Zero)) → IsNonzero (chi t)
    sharp_base d sharp =
        let k = base_within in
        same_as_base k.0 k.1 d k.2 (λ g m. ⊎_elim
        (λ j. j)
        (λ out. let y = sharp g m in let h = base_hits k.0 k.1 y.0 y.1 in
        absurd (h.2 (y.2 h.0 (k.2 h.0 h.1) (λ q. out (subst (λ i. IsMember i k.0) q h.1)))))
        (member_or_not g k.0))
