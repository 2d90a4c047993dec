-- The pullback of a chirotope along a renaming is a chirotope. Its covectors come from covectors that are zero at the
-- fixed elements, and such covectors give covectors.
--
-- Main definitions: IsLift
-- Main results: pullback_chirotope, covector_lifted, covector_pullback
-- Reference: Björner, Las Vergnas, Sturmfels, White and Ziegler, Oriented Matroids, chapters 3 and 4.
use Rattle.std.specs.Prelude.{ℕ, ◌≡◌, refl, ◌⊎◌, List, [], ◌∷◌, ◌++◌, map}
use Rattle.std.proofs.Common.{inl, inr, sym, ◌∙◌, ap, subst, ⊎_elim}
use Rattle.om_signs.specs.declared.sign.Sign.{Sign}
use Rattle.om_signs.specs.declared.sign.Sign.TheVariants.{Zero}
use Rattle.om_signs.specs.Sign.{opposite, product, first_nonzero}
use Rattle.om_signs.proofs.SignLaws.{opposite_nonzero, opposite-opposite, left_nonzero, right_nonzero}
use Rattle.om_laws.specs.Chirotope.{IsChirotope}
use Rattle.om_laws.specs.Circuits.{IsCircuit, IsCocircuit}
use Rattle.om_laws.specs.Compositions.{EachVector, composition_of, IsConforming}
use Rattle.om_laws.specs.Covectors.{IsCovector}
use Rattle.om_laws.specs.Members.{IsMember, IsDistinct}
use Rattle.om_laws.specs.Minors.{pullback}
use Rattle.om_laws.specs.Relations.{around, along}
use Rattle.om_laws.specs.Signs.{IsNonzero}
use Rattle.om_laws.specs.Vectors.{SignVector, zero_vector, negated, composition, Orthogonal, AreEqualUpToSign}
use Rattle.om_laws.proofs.BlockLaws.{negated_for}
use Rattle.om_laws.proofs.ChirotopeCovectors.{cocircuit_covector, covector_axioms, covector_composition}
use Rattle.om_laws.proofs.MemberLaws.{member_append, member_left}
use Rattle.om_laws.proofs.VectorLaws.{opposite_product, orthogonal_from, orthogonal_sym, orthogonal_up_to_sign}
use Rattle.om_laws.proofs.PulledBackMaps.{pullback_alternating, along_pullback, along_added, pullback_relations}
use Rattle.om_laws.proofs.PulledBackMaps.{map_member, map_image, around_pullback, renamed_distinct}

-- ---- the pullback of a chirotope

module _ (E : List ℕ) (chi : List ℕ → Sign) (om : IsChirotope E chi) (rename : ℕ → ℕ) (q : List ℕ) (N : List ℕ)
    (inside : (p : ℕ) → IsMember (rename p) E → IsMember p N) (t : List ℕ)
    (nt : IsNonzero (pullback chi rename q t)) where
  -- a pullback of a chirotope that isn't zero everywhere is a chirotope on N, if N has all that is renamed into E
  pub pullback_chirotope : IsChirotope N (pullback chi rename q)
  pullback_chirotope = record {
    alternating = pullback_alternating rename q chi om.alternating;
    within = λ x n e m. inside e
        (om.within (map rename x ++ q) n (rename e)
        (member_left (rename e) (map rename x) q (map_member rename q e x m)));
    relations = pullback_relations rename q chi om.alternating om.relations;
    base = (t, nt);
  }

  -- ---- covectors of the pullback come from covectors

  -- a covector that is zero at the added elements, and the vector on the renamed ones
  pub record IsLift (X W : SignVector) : Type 0 where
    pub covector : IsCovector E chi W
    pub added : (g : ℕ) → IsMember g q → W g ≡ Zero
    pub renamed : (p : ℕ) → W (rename p) ≡ X p

  -- the vector along the renamed tuple, with the sign of the cocircuit
  either_sign : (Y : SignVector) → (c : IsCocircuit (pullback chi rename q) Y)
      → ((p : ℕ) → along chi (map rename c.tuple ++ q) (rename p) ≡ Y p)
      ⊎ ((p : ℕ) → opposite (along chi (map rename c.tuple ++ q) (rename p)) ≡ Y p)
  either_sign Y c = go (negated_for_either q) c.same
    where
      negated_for_either : (u : List ℕ) → ((s : Sign) → negated_for u s ≡ s)
          ⊎ ((s : Sign) → negated_for u s ≡ opposite s)
      negated_for_either [] = inl (λ s. refl)
      negated_for_either (z ∷ u) =
          ⊎_elim (λ h. inr (λ s. ap opposite (h s))) (λ h. inl (λ s. ap opposite (h s) ∙ opposite-opposite s))
          (negated_for_either u)

      e : (p : ℕ) → along (pullback chi rename q) c.tuple p
          ≡ negated_for q (along chi (map rename c.tuple ++ q) (rename p))
      e p = along_pullback rename q chi om.alternating c.tuple p

      go : ((s : Sign) → negated_for q s ≡ s) ⊎ ((s : Sign) → negated_for q s ≡ opposite s)
          → AreEqualUpToSign Y (along (pullback chi rename q) c.tuple)
          → ((p : ℕ) → along chi (map rename c.tuple ++ q) (rename p) ≡ Y p)
          ⊎ ((p : ℕ) → opposite (along chi (map rename c.tuple ++ q) (rename p)) ≡ Y p)
      go (inl h) (inl k) = inl (λ p. sym (k p ∙ e p ∙ h (along chi (map rename c.tuple ++ q) (rename p))))
      go (inl h) (inr k) = inr (λ p. sym (k p ∙ ap opposite (e p ∙ h (along chi (map rename c.tuple ++ q) (rename p)))))
      go (inr h) (inl k) = inr (λ p. sym (k p ∙ e p ∙ h (along chi (map rename c.tuple ++ q) (rename p))))
      go (inr h) (inr k) =
          inl (λ p. sym (k p ∙ ap opposite (e p ∙ h (along chi (map rename c.tuple ++ q) (rename p)))
          ∙ opposite-opposite (along chi (map rename c.tuple ++ q) (rename p))))

  cocircuit_lifted : (Y : SignVector) → IsCocircuit (pullback chi rename q) Y → (W : SignVector) × IsLift Y W
  cocircuit_lifted Y c =
      let up : SignVector = along chi (map rename c.tuple ++ q) in
      let added : (g : ℕ) → IsMember g q → up g ≡ Zero = along_added rename q chi om.alternating c.tuple in
      ⊎_elim
      (λ h. (
        up,
        record {
          covector =
              cocircuit_covector E chi om up
              (record {
                tuple = map rename c.tuple ++ q;
                nonzero =
                    (rename c.nonzero.0, subst IsNonzero (sym (h c.nonzero.0)) c.nonzero.1);
                same = inl (λ g. refl);
              });
          added =
              added;
          renamed = h;
        },
      ))
      (λ h. (
        negated up,
        record {
          covector =
              cocircuit_covector E chi om (negated up)
              (record {
                tuple = map rename c.tuple ++ q;
                nonzero =
                    (rename c.nonzero.0, subst IsNonzero (sym (h c.nonzero.0)) c.nonzero.1);
                same = inr (λ g. refl);
              });
          added =
              λ g m. ap opposite (added g m);
          renamed = h;
        },
      ))
      (either_sign Y c)

  compositions_lifted : (Ys : List SignVector) → EachVector (IsCocircuit (pullback chi rename q)) Ys → (W : SignVector)
      × IsLift (composition_of Ys) W
  compositions_lifted [] d =
      (zero_vector, record { covector = (covector_axioms E chi om).zero; added = λ g m. refl; renamed = λ p. refl })
  compositions_lifted (Y ∷ Ys) d =
      let w = cocircuit_lifted Y d.0 in
      let z = compositions_lifted Ys d.1 in
      let a = w.1 in
      let b = z.1 in (
        composition w.0 z.0,
        record {
          covector = (covector_axioms E chi om).composition_closed w.0 z.0 a.covector b.covector;
          added = λ g m. ap (λ k. first_nonzero k (z.0 g)) (a.added g m) ∙ b.added g m;
          renamed = λ p. ap (λ k. first_nonzero k (z.0 (rename p))) (a.renamed p)
              ∙ ap (first_nonzero (Y p)) (b.renamed p);
        },
      )

  each_cocircuit : (X : SignVector) (Ys : List SignVector)
      → EachVector (IsConforming (IsCocircuit (pullback chi rename q)) X) Ys
      → EachVector (IsCocircuit (pullback chi rename q)) Ys
  each_cocircuit X [] d = tt
  each_cocircuit X (Y ∷ Ys) d = (d.0.0, each_cocircuit X Ys d.1)

  pub covector_lifted : (X : SignVector) → IsCovector N (pullback chi rename q) X → (W : SignVector) × IsLift X W
  covector_lifted X x =
      let r = covector_composition N (pullback chi rename q) pullback_chirotope X x in
      let w = compositions_lifted r.0 (each_cocircuit X r.0 r.1) in
      let a = w.1 in
      (w.0, record { covector = a.covector; added = a.added; renamed = λ p. a.renamed p ∙ sym (r.2 p) })

  -- ---- covectors, seen on the new elements

  -- all elements where W and a circuit of renamed tuples are nonzero are renamed ones
  pub covector_pullback : ((x y : ℕ) → rename x ≡ rename y → x ≡ y) → ((x : ℕ) → IsMember (rename x) q → ⊥)
      → ((x : ℕ) → IsMember x N → IsMember (rename x) E) → IsDistinct q → ((g : ℕ) → IsMember g q → IsMember g E)
      → (W : SignVector) → IsCovector E chi W
      → ((x : List ℕ) → IsDistinct x → (g : ℕ) → IsNonzero (around chi (map rename x ++ q) g) → IsNonzero (W g)
      → (p : ℕ) × (g ≡ rename p))
      → IsCovector N (pullback chi rename q) (λ p. W (rename p))
  covector_pullback apart fresh onto dq iq W w covered = record {
    orthogonal =
        λ V c. orthogonal_sym V (λ p. W (rename p))
        (orthogonal_up_to_sign V (around (pullback chi rename q) c.tuple) (λ p. W (rename p)) c.same
        (seen c.tuple c.distinct (λ e m. onto e (c.within e m))));
    supported = λ p n. inside p (w.supported (rename p) n);
  }
    where
      within_renamed : (x : List ℕ) → ((e : ℕ) → IsMember e x → IsMember (rename e) E) → (g : ℕ)
          → IsMember g (map rename x ++ q) → IsMember g E
      within_renamed x i g m = ⊎_elim
          (λ k. (let r = map_image rename q g x k in subst (λ z. IsMember z E) (sym r.2) (i r.0 r.1)))
          (λ k. iq g k)
          (member_append g (map rename x) q m)

      seen : (x : List ℕ) → IsDistinct x → ((e : ℕ) → IsMember e x → IsMember (rename e) E)
          → Orthogonal (around (pullback chi rename q) x) (λ p. W (rename p))
      seen x d i = orthogonal_from (around (pullback chi rename q) x) (λ p. W (rename p)) (λ p s n h.
          let big : SignVector = around chi (map rename x ++ q) in
          let big_distinct : IsDistinct (map rename x ++ q) = renamed_distinct rename q apart fresh x d dq in
          let same : (p : ℕ) → around (pullback chi rename q) x p ≡ big (rename p) =
          around_pullback rename q apart fresh chi x in
          let nb : IsNonzero (big (rename p)) =
          subst IsNonzero (same p) (left_nonzero (around (pullback chi rename q) x p) (W (rename p)) s h n) in
          let c : IsCircuit E chi big =
          record {
            tuple = map rename x ++ q;
            distinct = big_distinct;
            within = within_renamed x i;
            nonzero =
                (rename p, nb);
            same = inl (λ g. refl);
          } in
          let k = opposite_product big W (orthogonal_sym W big (w.orthogonal big c)) (rename p) s n
          (ap (λ z. product z (W (rename p))) (sym (same p)) ∙ h) in
          let r = covered x d k.0 (left_nonzero (big k.0) (W k.0) (opposite s) k.1 (opposite_nonzero s n))
          (right_nonzero (big k.0) (W k.0) (opposite s) k.1 (opposite_nonzero s n)) in (
            r.0,
            ap (λ z. product z (W (rename r.0))) (same r.0)
                ∙ subst (λ z. product (big z) (W z) ≡ opposite s) r.1 k.1,
          ))
