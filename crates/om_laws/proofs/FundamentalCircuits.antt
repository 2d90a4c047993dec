-- The fundamental circuit and cocircuit of an element and a base. For each colouring in two colours a circuit or a
-- cocircuit goes through an element.
--
-- Main definitions: CircuitOrCocircuit
-- Main results: along_member_zero, fundamental_circuit, fundamental_cocircuit, two_colours
-- Reference: Björner, Las Vergnas, Sturmfels, White and Ziegler, Oriented Matroids, chapter 3.
use Rattle.std.proofs.Common.{◌≡◌, ◌≢◌, ◌⊎◌, ℕ, zero, suc, Bool, true, false, cond, List, [], ◌∷◌, ◌++◌, refl, sym, ap}
use Rattle.std.proofs.Common.{◌∙◌, subst, ⊎_elim, inl, inr, arith, append_assoc}
use Rattle.std.proofs.lemmas.Bool.{cases_Bool, both_ways}
use Rattle.om_signs.specs.declared.sign.Sign.{Sign}
use Rattle.om_signs.specs.declared.sign.Sign.TheVariants.{Zero}
use Rattle.om_signs.proofs.SignLaws.{zero_or_nonzero}
use Rattle.om_laws.specs.Bases.{IsFundamentalCircuit, IsFundamentalCocircuit}
use Rattle.om_laws.specs.Chirotope.{IsChirotope}
use Rattle.om_laws.specs.Circuits.{IsCocircuit, IsCircuit}
use Rattle.om_laws.specs.Members.{IsMember, IsDistinct}
use Rattle.om_laws.specs.Relations.{around, along}
use Rattle.om_laws.specs.Signs.{IsNonzero}
use Rattle.om_laws.specs.Vectors.{SignVector}
use Rattle.om_laws.proofs.MemberLaws.{split_at, member_middle, member_or_not, member_append, member_last, distinct_last}
use Rattle.om_laws.proofs.MemberLaws.{search_members}
use Rattle.om_laws.proofs.RelationLaws.{around_member, around_at_nonzero, nonzero_from_around, around_last_nonzero}
use Rattle.om_laws.proofs.TupleLaws.{last_repeat_zero, nonzero_distinct, nonzero_to_end, nonzero_from_end}

module _ (E : List ℕ) (chi : List ℕ → Sign) (om : IsChirotope E chi) where
  -- ---- fundamental circuits and cocircuits

  -- the vector along a list is zero at the elements of the list
  pub along_member_zero : (y : List ℕ) (g : ℕ) → IsMember g y → chi (y ++ g ∷ []) ≡ Zero
  along_member_zero y g m = last_repeat_zero chi om.alternating y g m

  -- of a basis and an element off it, the vector around the basis with the element put last is the fundamental circuit
  pub fundamental_circuit : (t : List ℕ) (e : ℕ) → IsMember e E → IsNonzero (chi t) → (IsMember e t → ⊥)
      → IsFundamentalCircuit E chi t e (around chi (t ++ e ∷ []))
  fundamental_circuit t e ie n out =
      let r : IsDistinct (t ++ e ∷ []) = distinct_last t e (nonzero_distinct chi om.alternating t n) out in
      let ne : IsNonzero (around chi (t ++ e ∷ []) e) = around_last_nonzero chi t e r n in
      let split : (u : List ℕ) (g : ℕ) (v : List ℕ) → t ≡ u ++ g ∷ v → t ++ e ∷ [] ≡ u ++ g ∷ (v ++ e ∷ []) =
      λ u g v q. ap (λ z. z ++ e ∷ []) q ∙ append_assoc u (g ∷ v) (e ∷ []) in
      record {
        circuit = record {
          tuple = t ++ e ∷ [];
          distinct = r;
          within = λ g m. ⊎_elim (λ k. om.within t n g k) (λ q. subst (λ z. IsMember z E) (sym q) ie)
              (member_last g e t m);
          nonzero = (e, ne);
          same = inl (λ g. refl);
        };
        at_element = ne;
        support = λ g m. member_last g e t (around_member chi (t ++ e ∷ []) g m);
        exchange = λ u g v q. (
          λ m. nonzero_from_end chi om.alternating u v e
              (subst (λ l. IsNonzero (chi l)) (sym (append_assoc u v (e ∷ [])))
              (nonzero_from_around chi u g (v ++ e ∷ []) (subst IsDistinct (split u g v q) r)
              (subst (λ z. IsNonzero (around chi z g)) (split u g v q) m))),
          λ m. subst (λ z. IsNonzero (around chi z g)) (sym (split u g v q))
              (around_at_nonzero chi u g (v ++ e ∷ []) (subst IsDistinct (split u g v q) r)
              (subst (λ l. IsNonzero (chi l)) (append_assoc u v (e ∷ [])) (nonzero_to_end chi om.alternating u v e m))),
        );
      }

  -- of a basis and one of its elements, the vector along the others is the fundamental cocircuit
  pub fundamental_cocircuit : (u v : List ℕ) (e : ℕ) → IsNonzero (chi (u ++ e ∷ v))
      → IsFundamentalCocircuit chi u e v (along chi (u ++ v))
  fundamental_cocircuit u v e n =
      let ne = nonzero_to_end chi om.alternating u v e n in
      record {
        cocircuit = record { tuple = u ++ v; nonzero = (e, ne); same = inl (λ g. refl) };
        at_element = ne;
        others = λ g m. along_member_zero (u ++ v) g m;
        exchange = λ g. (nonzero_from_end chi om.alternating u v g, nonzero_to_end chi om.alternating u v g);
      }

  -- ---- two colours

  module _ (e : ℕ) (ie : IsMember e E) (b : ℕ → Bool) (be : b e ≡ false) where
    abbrev pub CircuitOrCocircuit : Type 0
    CircuitOrCocircuit =
        ((X : SignVector) × IsCircuit E chi X × IsNonzero (X e) × ((g : ℕ) → g ≢ e → b g ≡ false → X g ≡ Zero))
        ⊎ ((Y : SignVector) × IsCocircuit chi Y × IsNonzero (Y e) × ((g : ℕ) → b g ≡ true → Y g ≡ Zero))

    outside : List ℕ → ℕ
    outside [] = 0
    outside (a ∷ l) = cond (b a) (outside l) (suc (outside l))

    outside_member : (u : List ℕ) (a : ℕ) (v : List ℕ) → b a ≡ true → outside (u ++ a ∷ v) ≡ outside (u ++ v)
    unfolding outside
    outside_member [] a v p = rw p
    outside_member (c ∷ u) a v p = ap (λ z. cond (b c) z (suc z)) (outside_member u a v p)

    outside_other : (u : List ℕ) (a : ℕ) (v : List ℕ) → b a ≡ false → outside (u ++ a ∷ v) ≡ suc (outside (u ++ v))
    unfolding outside
    outside_other [] a v p = rw p
    outside_other (c ∷ u) a v p =
        elim (b c) as
        (λ z. cond z (outside (u ++ a ∷ v)) (suc (outside (u ++ a ∷ v)))
        ≡ suc (cond z (outside (u ++ v)) (suc (outside (u ++ v))))) [
          | true ↦ outside_other u a v p
          | false ↦ ap suc (outside_other u a v p)
        ]

    -- e isn't in the base t: its circuit, or a base with e in it
    off_base : (t : List ℕ) → IsNonzero (chi t) → (IsMember e t → ⊥)
        → ((u v : List ℕ) → suc (outside (u ++ v)) ≡ outside t → IsNonzero (chi (u ++ e ∷ v)) → CircuitOrCocircuit)
        → CircuitOrCocircuit
    off_base t n off rec =
        let r : IsDistinct (t ++ e ∷ []) = distinct_last t e (nonzero_distinct chi om.alternating t n) off in
        ⊎_elim
        (λ k.
        let s = split_at k.0 t k.1 in
        let q : t ++ e ∷ [] ≡ s.0 ++ k.0 ∷ (s.1 ++ e ∷ []) = ap (λ z. z ++ e ∷ []) s.2
        ∙ append_assoc s.0 (k.0 ∷ s.1) (e ∷ []) in
        let nf = nonzero_from_around chi s.0 k.0 (s.1 ++ e ∷ []) (subst IsDistinct q r)
        (subst (λ z. IsNonzero (around chi z k.0)) q k.2.1) in
        rec s.0 s.1 (sym (ap outside s.2 ∙ outside_other s.0 k.0 s.1 k.2.0))
        (nonzero_from_end chi om.alternating s.0 s.1 e
        (subst (λ l. IsNonzero (chi l)) (sym (append_assoc s.0 s.1 (e ∷ []))) nf)))
        (λ none.
        let nz : IsNonzero (around chi (t ++ e ∷ []) e) = around_last_nonzero chi t e r n in
        inl (
          around chi (t ++ e ∷ []),
          record {
            tuple = t ++ e ∷ [];
            distinct = r;
            within =
                λ g m3. ⊎_elim (λ k. om.within t n g k) (λ q. subst (λ z. IsMember z E) (sym q) ie)
                (member_last g e t m3);
            nonzero = (e, nz);
            same = inl (λ g. refl);
          },
          nz,
          λ g ne bg. ⊎_elim
              (λ z. z)
              (λ k. ⊎_elim (λ m2. none g m2 bg) (λ q. absurd (ne q))
              (member_last g e t (around_member chi (t ++ e ∷ []) g k)))
              (zero_or_nonzero (around chi (t ++ e ∷ []) g)),
        ))
        (search_members (λ x. (b x ≡ false) × IsNonzero (around chi (t ++ e ∷ []) x))
        (λ x. b x ≡ false → around chi (t ++ e ∷ []) x ≡ Zero)
        (λ x. ⊎_elim
        (λ p. inr (λ q. absurd (both_ways (b x) q p)))
        (λ p. ⊎_elim (λ z. inr (λ q. z)) (λ k. inl (p, k)) (zero_or_nonzero (around chi (t ++ e ∷ []) x)))
        (cases_Bool (b x)))
        t)

    distinct_middle : (u v : List ℕ) → IsDistinct (u ++ e ∷ v) → (IsMember e u ⊎ IsMember e v) → ⊥
    distinct_middle [] v r (inl m) = m
    distinct_middle [] v r (inr m) = r.0 m
    distinct_middle (a ∷ u) v r (inl (inl q)) = r.0 (subst (λ k. IsMember k (u ++ e ∷ v)) q (member_middle e u v))
    distinct_middle (a ∷ u) v r (inl (inr m)) = distinct_middle u v r.1 (inl m)
    distinct_middle (a ∷ u) v r (inr m) = distinct_middle u v r.1 (inr m)

    -- e stands in the base: its cocircuit, or go on with fewer entries outside b
    on_base : (k : ℕ) (u v : List ℕ)
        → ((u2 v2 : List ℕ) → suc (outside (u2 ++ v2)) ≡ outside (u ++ v) → IsNonzero (chi (u2 ++ e ∷ v2))
        → CircuitOrCocircuit) → IsNonzero (chi (u ++ e ∷ v)) → CircuitOrCocircuit
    on_base k u v rec n =
        ⊎_elim
        (λ c.
        let base : IsNonzero (chi (u ++ c.0 ∷ v)) = nonzero_from_end chi om.alternating u v c.0 c.2.1 in
        let ne : e ≢ c.0 = λ q. both_ways (b e) be (ap b q ∙ c.2.0) in
        let off : IsMember e (u ++ c.0 ∷ v) → ⊥ = λ m.
        ⊎_elim (λ a. distinct_middle u v (nonzero_distinct chi om.alternating (u ++ e ∷ v) n) (inl a))
        (λ a. ⊎_elim (λ q. ne q) (λ w. distinct_middle u v (nonzero_distinct chi om.alternating (u ++ e ∷ v) n) (inr w))
        a)
        (member_append e u (c.0 ∷ v) m) in
        off_base (u ++ c.0 ∷ v) base off (λ u2 v2 q. rec u2 v2 (q ∙ outside_member u c.0 v c.2.0)))
        (λ none.
        let nz = nonzero_to_end chi om.alternating u v e n in
        inr (
          along chi (u ++ v),
          record { tuple = u ++ v; nonzero = (e, nz); same = inl (λ g. refl) },
          nz,
          λ g bg. ⊎_elim
              (λ z. z)
              (λ w. none g (om.within ((u ++ v) ++ g ∷ []) w g (member_middle g (u ++ v) [])) bg)
              (zero_or_nonzero (along chi (u ++ v) g)),
        ))
        (search_members (λ x. (b x ≡ true) × IsNonzero (along chi (u ++ v) x))
        (λ x. b x ≡ true → along chi (u ++ v) x ≡ Zero)
        (λ x. ⊎_elim
        (λ p. ⊎_elim (λ z. inr (λ q. z)) (λ w. inl (p, w)) (zero_or_nonzero (along chi (u ++ v) x)))
        (λ p. inr (λ q. absurd (both_ways (b x) p q)))
        (cases_Bool (b x)))
        E)

    each_base : (k : ℕ) (u v : List ℕ) → outside (u ++ v) ≡ k → IsNonzero (chi (u ++ e ∷ v)) → CircuitOrCocircuit
    each_base zero u v h n =
        on_base zero u v (λ u2 v2 q w. absurd (let z : suc (outside (u2 ++ v2)) ≡ 0 = q ∙ h in omega (arith, z))) n
    each_base (suc k) u v h n =
        on_base (suc k) u v
        (λ u2 v2 q w. each_base k u2 v2 (let z : suc (outside (u2 ++ v2)) ≡ suc k = q ∙ h in omega (arith, z)) w) n

    -- through e: a circuit that is zero off b and e, or a cocircuit that is zero on b
    pub two_colours : (t : List ℕ) → IsNonzero (chi t) → CircuitOrCocircuit
    two_colours t n =
        ⊎_elim
        (λ m. let s = split_at e t m in
        each_base (outside (s.0 ++ s.1)) s.0 s.1 refl (subst (λ l. IsNonzero (chi l)) s.2 n))
        (λ off. off_base t n off (λ u v q w. each_base (outside (u ++ v)) u v refl w))
        (member_or_not e t)
