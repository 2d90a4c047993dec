-- Bases of a chirotope have one size.
--
-- Main results: one_size.
-- Reference: Björner, Las Vergnas, Sturmfels, White and Ziegler, Oriented Matroids, chapter 3.
use Rattle.std.specs.Prelude.{ℕ, ◌≡◌, ◌≤◌, List, [], ◌∷◌, ◌++◌, length, refl}
use Rattle.std.proofs.Common.{zero, suc, sym, ap, subst, ◌∙◌, ⊎_elim, arith}
use Rattle.om_signs.specs.declared.sign.Sign.{Sign}
use Rattle.om_laws.specs.Signs.{IsNonzero}
use Rattle.om_laws.specs.Members.{IsMember}
use Rattle.om_laws.specs.Chirotope.{IsChirotope}
use Rattle.om_laws.proofs.MemberLaws.{split_at, outside_or_within}
use Rattle.om_laws.proofs.TupleLaws.{nonzero_distinct}
use Rattle.om_laws.proofs.BlockLaws.{same_members}
use Rattle.om_laws.proofs.BaseLaws.{exchange}
use Rattle.om_laws.proofs.DualExchangeLaws.{contained}
use Rattle.om_laws.proofs.Missing.{missing, missing_middle_member, missing_middle_other}
use Rattle.om_laws.proofs.TupleSizes.{length_swap}

middle_length : (u : List ℕ) (x y : ℕ) (v : List ℕ) → length (u ++ x ∷ v) ≡ length (u ++ y ∷ v)
middle_length [] x y v = refl
middle_length (c ∷ u) x y v = ap suc (middle_length u x y v)

module _ (E : List ℕ) (chi : List ℕ → Sign) (om : IsChirotope E chi) where
  within : (s t : List ℕ) → IsNonzero (chi s) → IsNonzero (chi t) → ((e : ℕ) → IsMember e s → IsMember e t)
      → length s ≡ length t
  within s t ns nt sub = sym (same_members (λ l. length l ≡ length s) (λ u x y v q. length_swap u y x v ∙ q) s [] t
      (nonzero_distinct chi om.alternating s ns) (nonzero_distinct chi om.alternating t nt)
      sub (contained chi om.alternating (exchange E chi om) s t ns nt sub) refl)

  exchanged : (s t : List ℕ) → IsNonzero (chi s) → IsNonzero (chi t) → (e : ℕ) → IsMember e s → (IsMember e t → ⊥)
      → (r : List ℕ) × IsNonzero (chi r) × (length s ≡ length r) × (suc (missing t r) ≡ missing t s)
  exchanged s t ns nt e m out =
      let k = split_at e s m in
      let h = exchange E chi om k.0 e k.1 t (subst (λ l. IsNonzero (chi l)) k.2 ns) nt out in (
        k.0 ++ h.0 ∷ k.1,
        h.3,
        ap length k.2 ∙ middle_length k.0 e h.0 k.1,
        ap suc (missing_middle_member t k.0 h.0 k.1 h.1) ∙ sym (missing_middle_other t k.0 e k.1 out)
            ∙ ap (missing t) (sym k.2),
      )

  by_missing : (n : ℕ) (s t : List ℕ) → missing t s ≤ n → IsNonzero (chi s) → IsNonzero (chi t) → length s ≡ length t
  by_missing zero s t le ns nt = ⊎_elim
      (λ k. let r = exchanged s t ns nt k.0 k.1 k.2 in let q = r.3 in absurd (omega (arith, le, q)))
      (λ sub. within s t ns nt sub)
      (outside_or_within s t)
  by_missing (suc n) s t le ns nt = ⊎_elim
      (λ k. let r = exchanged s t ns nt k.0 k.1 k.2 in let q = r.3 in
      r.2 ∙ by_missing n r.0 t (omega (arith, le, q)) r.1 nt)
      (λ sub. within s t ns nt sub)
      (outside_or_within s t)

  -- all bases of a chirotope have equally many elements
  pub one_size : (s t : List ℕ) → IsNonzero (chi s) → IsNonzero (chi t) → length s ≡ length t
  one_size s t ns nt = by_missing (missing t s) s t (omega arith) ns nt
