-- A base contained in another is the same set, and dual exchange of bases follows from exchange.
--
-- Main results: contained, dual_exchange
-- Reference: Björner, Las Vergnas, Sturmfels, White and Ziegler, Oriented Matroids, chapter 3.
use Rattle.std.specs.Prelude.{◌≡◌, ◌≢◌, ◌⊎◌, ℕ, ◌≤◌, List, [], ◌∷◌, ◌++◌}
use Rattle.std.proofs.Common.{zero, suc, sym, ap, ◌∙◌, subst, ⊎_elim, inl, inr, arith, append_assoc}
use Rattle.std.proofs.lemmas.Bool.{cases_eq}
use Rattle.om_signs.specs.declared.sign.Sign.{Sign}
use Rattle.om_laws.specs.Bases.{HasExchange}
use Rattle.om_laws.specs.Members.{IsDistinct, IsMember}
use Rattle.om_laws.specs.Signs.{IsNonzero}
use Rattle.om_laws.specs.Tuples.{IsAlternating}
use Rattle.om_laws.proofs.BlockLaws.{same_members}
use Rattle.om_laws.proofs.MemberLaws.{distinct_drop, member_drop, member_insert, member_middle, member_or_not}
use Rattle.om_laws.proofs.MemberLaws.{search_members, split_at}
use Rattle.om_laws.proofs.Missing.{missing, missing_middle_member, missing_middle_other}
use Rattle.om_laws.proofs.TupleLaws.{nonzero_distinct, nonzero_from_end, nonzero_swapped, nonzero_to_end}

module _ (chi : List ℕ → Sign) (alt : IsAlternating chi) (ex : HasExchange chi) where
  -- a base contained in another is the same set
  pub contained : (s t : List ℕ) → IsNonzero (chi s) → IsNonzero (chi t) → ((g : ℕ) → IsMember g s → IsMember g t)
      → (g : ℕ) → IsMember g t → IsMember g s
  contained s t ns nt sub g m =
      ⊎_elim (λ k. k)
      (λ n.
      let k = split_at g t m in
      let h = ex k.0 g k.1 s (subst (λ l. IsNonzero (chi l)) k.2 nt) ns n in
      absurd (h.2 (subst (IsMember h.0) k.2 (sub h.0 h.1))))
      (member_or_not g s)

  abbrev DualExchange : List ℕ → List ℕ → ℕ → Type 0
  DualExchange t b e = (u : List ℕ) × (h : ℕ) × (v : List ℕ) × (t ≡ u ++ h ∷ v) × (IsMember h b → ⊥)
      × IsNonzero (chi (u ++ e ∷ v))

  dual_last : (t b : List ℕ) → IsNonzero (chi t) → IsNonzero (chi b) → (e : ℕ) → IsMember e b → (IsMember e t → ⊥)
      → ((g : ℕ) → IsMember g b → (g ≡ e) ⊎ IsMember g t) → DualExchange t b e
  dual_last t b nt nb e me ne rest =
      let s = split_at e b me in
      let nb' = subst (λ l. IsNonzero (chi l)) s.2 nb in
      let h = ex s.0 e s.1 t nb' nt ne in
      let bh = s.0 ++ h.0 ∷ s.1 in
      let sub : (g : ℕ) → IsMember g bh → IsMember g t = λ g m.
      ⊎_elim (λ q. subst (λ z. IsMember z t) (sym q) h.1)
      (λ k. ⊎_elim
      (λ q. absurd
      ((distinct_drop s.0 e s.1 (nonzero_distinct chi alt (s.0 ++ e ∷ s.1) nb')).1
      (subst (λ z. IsMember z (s.0 ++ s.1)) q k))) (λ j. j)
      (rest g (subst (IsMember g) (sym s.2) (member_insert g s.0 e s.1 k))))
      (member_drop g s.0 h.0 s.1 m) in
      let sup = contained bh t h.3 nt sub in
      let k = split_at h.0 t h.1 in
      let rt = distinct_drop k.0 h.0 k.1 (subst IsDistinct k.2 (nonzero_distinct chi alt t nt)) in
      let rb = distinct_drop s.0 e s.1 (nonzero_distinct chi alt (s.0 ++ e ∷ s.1) nb') in
      let rh = distinct_drop s.0 h.0 s.1 (nonzero_distinct chi alt bh h.3) in
      let to : (g : ℕ) → IsMember g (s.0 ++ s.1) → IsMember g (k.0 ++ k.1) = λ g m.
      ⊎_elim (λ q. absurd (rh.1 (subst (λ z. IsMember z (s.0 ++ s.1)) q m))) (λ j. j)
      (member_drop g k.0 h.0 k.1 (subst (IsMember g) k.2 (sub g (member_insert g s.0 h.0 s.1 m)))) in
      let from : (g : ℕ) → IsMember g (k.0 ++ k.1) → IsMember g (s.0 ++ s.1) = λ g m.
      ⊎_elim (λ q. absurd (rt.1 (subst (λ z. IsMember z (k.0 ++ k.1)) q m))) (λ j. j)
      (member_drop g s.0 h.0 s.1 (sup g (subst (IsMember g) (sym k.2) (member_insert g k.0 h.0 k.1 m)))) in
      let n1 = nonzero_to_end chi alt s.0 s.1 e nb' in
      let n2 = same_members (λ l. IsNonzero (chi (l ++ e ∷ [])))
      (λ u x y v q. subst (λ l. IsNonzero (chi l)) (sym (append_assoc u (y ∷ x ∷ v) (e ∷ [])))
      (nonzero_swapped chi alt u x y (v ++ e ∷ [])
      (subst (λ l. IsNonzero (chi l)) (append_assoc u (x ∷ y ∷ v) (e ∷ [])) q)))
      (s.0 ++ s.1) [] (k.0 ++ k.1) rb.0 rt.0 to from n1 in
      (k.0, h.0, k.1, k.2, λ m. h.2 (subst (IsMember h.0) s.2 m), nonzero_from_end chi alt k.0 k.1 e n2)

  abbrev Smaller : ℕ → List ℕ → ℕ → Type 0
  Smaller n t e = (b : List ℕ) → suc (missing t b) ≤ n → IsNonzero (chi t) → IsNonzero (chi b) → IsMember e b
      → (IsMember e t → ⊥) → DualExchange t b e

  dual_step : (n : ℕ) (t b : List ℕ) → missing t b ≤ n → IsNonzero (chi t) → IsNonzero (chi b) → (e : ℕ) → IsMember e b
      → (IsMember e t → ⊥) → Smaller n t e → (u : ℕ) → IsMember u b → (IsMember u t → ⊥) × (u ≢ e) → DualExchange t b e
  dual_step n t b c nt nb e me ne rec u mu nu =
      let s = split_at u b mu in
      let h = ex s.0 u s.1 t (subst (λ l. IsNonzero (chi l)) s.2 nb) nt nu.0 in
      let p : missing t b ≡ suc (missing t (s.0 ++ s.1)) = ap (missing t) s.2 ∙ missing_middle_other t s.0 u s.1 nu.0 in
      let q = missing_middle_member t s.0 h.0 s.1 h.1 in
      let e_in : IsMember e (s.0 ++ h.0 ∷ s.1) =
      member_insert e s.0 h.0 s.1
      (⊎_elim (λ k. absurd (nu.1 (sym k))) (λ k. k) (member_drop e s.0 u s.1 (subst (IsMember e) s.2 me))) in
      let d = rec (s.0 ++ h.0 ∷ s.1) (omega (arith, c, p, q)) nt h.3 e_in ne in (
        d.0,
        d.1,
        d.2,
        d.3,
        λ m. ⊎_elim
            (λ k. nu.0 (subst (λ z. IsMember z t) k (subst (IsMember d.1) (sym d.3) (member_middle d.1 d.0 d.2))))
            (λ k. d.4 (member_insert d.1 s.0 h.0 s.1 k))
            (member_drop d.1 s.0 u s.1 (subst (IsMember d.1) s.2 m)),
        d.5,
      )

  dual_try : (n : ℕ) (t b : List ℕ) → missing t b ≤ n → IsNonzero (chi t) → IsNonzero (chi b) → (e : ℕ) → IsMember e b
      → (IsMember e t → ⊥) → Smaller n t e → DualExchange t b e
  dual_try n t b c nt nb e me ne rec =
      ⊎_elim
      (λ k. dual_step n t b c nt nb e me ne rec k.0 k.1 k.2)
      (λ none. dual_last t b nt nb e me ne none)
      (search_members (λ u. (IsMember u t → ⊥) × (u ≢ e)) (λ u. (u ≡ e) ⊎ IsMember u t)
      (λ u. ⊎_elim (λ m. inr (inr m)) (λ k. ⊎_elim (λ q. inr (inl q)) (λ q. inl (k, q)) (cases_eq u e))
      (member_or_not u t))
      b)

  -- dual exchange, by the number of entries of b that aren't in t: an element of b takes the place of one of t that
  -- isn't in b
  pub dual_exchange : (n : ℕ) (t b : List ℕ) → missing t b ≤ n → IsNonzero (chi t) → IsNonzero (chi b) → (e : ℕ)
      → IsMember e b → (IsMember e t → ⊥) → DualExchange t b e
  dual_exchange zero t b c nt nb e me ne =
      dual_try 0 t b c nt nb e me ne
      (λ b' q nt' nb' m k. absurd (let z : suc (missing t b') ≤ 0 = q in omega (arith, z)))
  dual_exchange (suc n) t b c nt nb e me ne =
      dual_try (suc n) t b c nt nb e me ne (λ b' q nt' nb' m k. dual_exchange n t b' (omega (arith, q)) nt' nb' e m k)
