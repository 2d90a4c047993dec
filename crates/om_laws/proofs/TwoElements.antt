-- Two elements of a cocircuit lie in a circuit that meets it there alone, and conversely.
--
-- Main results: circuit_through_two, cocircuit_through_two, circuit_supported, cocircuit_supported
-- Reference: Björner, Las Vergnas, Sturmfels, White and Ziegler, Oriented Matroids, chapter 3.
use Rattle.std.proofs.Common.{◌≡◌, ◌≢◌, ◌⊎◌, ℕ, List, [], ◌∷◌, ◌++◌, refl, sym, ap, ◌∙◌, subst, ⊎_elim, inl, inr}
use Rattle.std.proofs.Common.{append_assoc}
use Rattle.om_signs.specs.declared.sign.Sign.{Sign}
use Rattle.om_signs.specs.declared.sign.Sign.TheVariants.{Zero}
use Rattle.om_signs.specs.Sign.{opposite, product}
use Rattle.om_signs.proofs.SignLaws.{zero_or_nonzero, zero_not_nonzero, product_zero_left, product_zero_right}
use Rattle.om_laws.specs.Chirotope.{IsChirotope}
use Rattle.om_laws.specs.Circuits.{IsCocircuit, IsCircuit}
use Rattle.om_laws.specs.Members.{IsMember, IsDistinct}
use Rattle.om_laws.specs.Relations.{around, along}
use Rattle.om_laws.specs.Signs.{IsNonzero}
use Rattle.om_laws.specs.Vectors.{SignVector}
use Rattle.om_laws.proofs.MemberLaws.{split_at, member_middle, member_append, member_left, member_right, member_last}
use Rattle.om_laws.proofs.MemberLaws.{distinct_last}
use Rattle.om_laws.proofs.RelationLaws.{around_member, around_at_nonzero, nonzero_from_around, around_last_nonzero}
use Rattle.om_laws.proofs.TupleLaws.{nonzero_distinct, nonzero_to_end}
use Rattle.om_laws.proofs.BaseLaws.{zero_up_to_sign, nonzero_up_to_sign}
use Rattle.om_laws.proofs.FundamentalCircuits.{along_member_zero}

module _ (E : List ℕ) (chi : List ℕ → Sign) (om : IsChirotope E chi) where
  -- ---- two elements

  circuit_sign : (X : SignVector) → (c : IsCircuit E chi X) → (e : ℕ) → (X e ≡ around chi c.tuple e)
      ⊎ (X e ≡ opposite (around chi c.tuple e))
  circuit_sign X c e = ⊎_elim (λ q. inl (q e)) (λ q. inr (q e)) c.same

  cocircuit_sign : (Y : SignVector) → (d : IsCocircuit chi Y) → (e : ℕ) → (Y e ≡ along chi d.tuple e)
      ⊎ (Y e ≡ opposite (along chi d.tuple e))
  cocircuit_sign Y d e = ⊎_elim (λ q. inl (q e)) (λ q. inr (q e)) d.same

  -- two elements of a cocircuit lie in a circuit that meets it there alone
  pub circuit_through_two : (Y : SignVector) → IsCocircuit chi Y → (e h : ℕ) → h ≢ e → IsNonzero (Y e) → IsNonzero (Y h)
      → (U : SignVector) × IsCircuit E chi U × IsNonzero (U e) × IsNonzero (U h)
      × ((g : ℕ) → g ≢ e → g ≢ h → product (U g) (Y g) ≡ Zero)
  circuit_through_two Y d e h ne ye yh =
      let y = d.tuple in
      let fe : IsNonzero (chi (y ++ e ∷ [])) = nonzero_up_to_sign (Y e) (along chi y e) ye (cocircuit_sign Y d e) in
      let fh : IsNonzero (chi (y ++ h ∷ [])) = nonzero_up_to_sign (Y h) (along chi y h) yh (cocircuit_sign Y d h) in
      let hy : IsMember h y → ⊥ = λ m. zero_not_nonzero (chi (y ++ h ∷ [])) (along_member_zero E chi om y h m) fh in
      let r1 : IsDistinct ((y ++ e ∷ []) ++ h ∷ []) =
      distinct_last (y ++ e ∷ []) h (nonzero_distinct chi om.alternating (y ++ e ∷ []) fe)
      (λ m. ⊎_elim hy ne (member_last h e y m)) in
      let q : (y ++ e ∷ []) ++ h ∷ [] ≡ y ++ e ∷ h ∷ [] = append_assoc y (e ∷ []) (h ∷ []) in
      let r2 : IsDistinct (y ++ e ∷ h ∷ []) = subst IsDistinct q r1 in
      let x = y ++ e ∷ h ∷ [] in
      let ue : IsNonzero (around chi x e) = around_at_nonzero chi y e (h ∷ []) r2 fh in
      let uh1 : IsNonzero (around chi ((y ++ e ∷ []) ++ h ∷ []) h) =
      around_last_nonzero chi (y ++ e ∷ []) h r1 fe in
      let uh : IsNonzero (around chi x h) = subst (λ l. IsNonzero (around chi l h)) q uh1 in (
        around chi x,
        record {
          tuple = x;
          distinct = r2;
          nonzero = (e, ue);
          same = inl (λ g. refl);
          within =
              λ g m. ⊎_elim (λ k. om.within (y ++ e ∷ []) fe g (member_left g y (e ∷ []) k))
              (λ k. ⊎_elim (λ j. om.within (y ++ e ∷ []) fe g (member_right g y (e ∷ []) (inl j)))
              (λ j. ⊎_elim (λ i. om.within (y ++ h ∷ []) fh g (member_right g y (h ∷ []) (inl i))) (λ i. absurd i) j) k)
              (member_append g y (e ∷ h ∷ []) m);
        },
        ue,
        uh,
        λ g a b. ⊎_elim
            (λ z. product_zero_left (around chi x g) (Y g) z)
            (λ w. ⊎_elim
            (λ m. product_zero_right (around chi x g) (Y g)
            (zero_up_to_sign (Y g) (along chi y g) (along_member_zero E chi om y g m) (cocircuit_sign Y d g)))
            (λ m. absurd (⊎_elim (λ k. a k) (λ k. ⊎_elim (λ j. b j) (λ j. j) k) m))
            (member_append g y (e ∷ h ∷ []) (around_member chi x g w)))
            (zero_or_nonzero (around chi x g)),
      )

  -- a tuple x is known by its splits at e and at h
  pair_at : (x u v y : List ℕ) (e h : ℕ) → IsDistinct x → x ≡ u ++ e ∷ v → IsNonzero (around chi x e)
      → IsNonzero (chi (y ++ h ∷ [])) → IsNonzero (chi (y ++ e ∷ []))
      → ((g : ℕ) → IsMember g x → g ≢ e → g ≢ h → IsMember g y)
      → (Y : SignVector) → ((g : ℕ) → (Y g ≡ around chi x g) ⊎ (Y g ≡ opposite (around chi x g)))
      → (U : SignVector) × IsCocircuit chi U × IsNonzero (U e) × IsNonzero (U h)
      × ((g : ℕ) → g ≢ e → g ≢ h → product (U g) (Y g) ≡ Zero)
  pair_at x u v y e h r q n fh fe rest Y same = (
    along chi y,
    record { tuple = y; nonzero = (e, fe); same = inl (λ g. refl) },
    fe,
    fh,
    λ g a b. ⊎_elim
        (λ z. product_zero_right (along chi y g) (Y g) (zero_up_to_sign (Y g) (around chi x g) z (same g)))
        (λ w. product_zero_left (along chi y g) (Y g) (along_member_zero E chi om y g
        (rest g (around_member chi x g w) a b)))
        (zero_or_nonzero (around chi x g)),
  )

  without : (x u v : List ℕ) (e : ℕ) → IsDistinct x → x ≡ u ++ e ∷ v → IsNonzero (around chi x e)
      → IsNonzero (chi (u ++ v))
  without x u v e r q n =
      nonzero_from_around chi u e v (subst IsDistinct q r) (subst (λ l. IsNonzero (around chi l e)) q n)

  -- two elements of a circuit lie in a cocircuit that meets it there alone
  pub cocircuit_through_two : (Y : SignVector) → IsCircuit E chi Y → (e h : ℕ) → h ≢ e → IsNonzero (Y e)
      → IsNonzero (Y h) → (U : SignVector) × IsCocircuit chi U × IsNonzero (U e) × IsNonzero (U h)
      × ((g : ℕ) → g ≢ e → g ≢ h → product (U g) (Y g) ≡ Zero)
  cocircuit_through_two Y c e h ne ye yh =
      let x = c.tuple in
      let ce : IsNonzero (around chi x e) = nonzero_up_to_sign (Y e) (around chi x e) ye (circuit_sign Y c e) in
      let ch : IsNonzero (around chi x h) = nonzero_up_to_sign (Y h) (around chi x h) yh (circuit_sign Y c h) in
      let s = split_at e x (around_member chi x e ce) in
      let u = s.0 in
      let v = s.1 in
      let fuv : IsNonzero (chi (u ++ v)) = without x u v e c.distinct s.2 ce in
      let mh : IsMember h (u ++ e ∷ v) = subst (IsMember h) s.2 (around_member chi x h ch) in
      ⊎_elim
      (λ m.
      let k = split_at h u m in
      let xs : x ≡ k.0 ++ h ∷ (k.1 ++ e ∷ v) = s.2 ∙ ap (λ l. l ++ e ∷ v) k.2 ∙ append_assoc k.0 (h ∷ k.1) (e ∷ v) in
      let y = k.0 ++ (k.1 ++ v) in
      let fx : IsNonzero (chi (k.0 ++ (k.1 ++ e ∷ v))) = without x k.0 (k.1 ++ e ∷ v) h c.distinct xs ch in
      let fx2 = subst (λ l. IsNonzero (chi l)) (sym (append_assoc k.0 k.1 (e ∷ v))) fx in
      let fe : IsNonzero (chi (y ++ e ∷ [])) =
      subst (λ l. IsNonzero (chi (l ++ e ∷ []))) (append_assoc k.0 k.1 v)
      (nonzero_to_end chi om.alternating (k.0 ++ k.1) v e fx2) in
      let fu : IsNonzero (chi (k.0 ++ h ∷ (k.1 ++ v))) =
      subst (λ l. IsNonzero (chi l)) (ap (λ l. l ++ v) k.2 ∙ append_assoc k.0 (h ∷ k.1) v) fuv in
      pair_at x u v y e h c.distinct s.2 ce (nonzero_to_end chi om.alternating k.0 (k.1 ++ v) h fu) fe
      (λ g gm a b. ⊎_elim
      (λ p. member_left g k.0 (k.1 ++ v) p)
      (λ p. ⊎_elim (λ j. absurd (b j))
      (λ j. ⊎_elim (λ i. member_right g k.0 (k.1 ++ v) (member_left g k.1 v i))
      (λ i. ⊎_elim (λ t. absurd (a t)) (λ t. member_right g k.0 (k.1 ++ v) (member_right g k.1 v t)) i)
      (member_append g k.1 (e ∷ v) j)) p)
      (member_append g k.0 (h ∷ (k.1 ++ e ∷ v)) (subst (IsMember g) xs gm)))
      Y (circuit_sign Y c))
      (λ mm. ⊎_elim
      (λ j. absurd (ne j))
      (λ m.
      let k = split_at h v m in
      let xs : x ≡ (u ++ e ∷ k.0) ++ h ∷ k.1 = s.2 ∙ ap (λ l. u ++ e ∷ l) k.2
      ∙ sym (append_assoc u (e ∷ k.0) (h ∷ k.1)) in
      let y = (u ++ k.0) ++ k.1 in
      let fx : IsNonzero (chi ((u ++ e ∷ k.0) ++ k.1)) = without x (u ++ e ∷ k.0) k.1 h c.distinct xs ch in
      let fx2 : IsNonzero (chi (u ++ e ∷ (k.0 ++ k.1))) =
      subst (λ l. IsNonzero (chi l)) (append_assoc u (e ∷ k.0) k.1) fx in
      let fe : IsNonzero (chi (y ++ e ∷ [])) =
      subst (λ l. IsNonzero (chi (l ++ e ∷ []))) (sym (append_assoc u k.0 k.1))
      (nonzero_to_end chi om.alternating u (k.0 ++ k.1) e fx2) in
      let fu : IsNonzero (chi ((u ++ k.0) ++ h ∷ k.1)) =
      subst (λ l. IsNonzero (chi l)) (ap (λ l. u ++ l) k.2 ∙ sym (append_assoc u k.0 (h ∷ k.1))) fuv in
      pair_at x u v y e h c.distinct s.2 ce (nonzero_to_end chi om.alternating (u ++ k.0) k.1 h fu) fe
      (λ g gm a b. ⊎_elim
      (λ p. member_left g (u ++ k.0) k.1 (member_left g u k.0 p))
      (λ p. ⊎_elim (λ j. absurd (a j))
      (λ j. ⊎_elim (λ i. member_left g (u ++ k.0) k.1 (member_right g u k.0 i))
      (λ i. ⊎_elim (λ t. absurd (b t)) (λ t. member_right g (u ++ k.0) k.1 t) i)
      (member_append g k.0 (h ∷ k.1) (subst (λ l. IsMember g l) k.2 j))) p)
      (member_append g u (e ∷ v) (subst (IsMember g) s.2 gm)))
      Y (circuit_sign Y c))
      mm)
      (member_append h u (e ∷ v) mh)

  pub circuit_supported : (X : SignVector) → IsCircuit E chi X → (g : ℕ) → IsNonzero (X g) → IsMember g E
  circuit_supported X c g n =
      c.within g (around_member chi c.tuple g (nonzero_up_to_sign (X g) (around chi c.tuple g) n (circuit_sign X c g)))

  -- a cocircuit of a chirotope on E is nonzero only at elements of E
  pub cocircuit_supported : (Y : SignVector) → IsCocircuit chi Y → (g : ℕ) → IsNonzero (Y g) → IsMember g E
  cocircuit_supported Y d g n =
      om.within (d.tuple ++ g ∷ []) (nonzero_up_to_sign (Y g) (along chi d.tuple g) n (cocircuit_sign Y d g)) g
      (member_middle g d.tuple [])
