-- A finite list of sign vectors that meets the axioms of circuits has exactly the cocircuits of a chirotope.
--
-- Main definitions: IsRow
-- Main results: base, chirotope, member_row, row_member, list_map, list_chirotope, list_member_cocircuit,
-- list_cocircuit_member
use Rattle.std.specs.Prelude.{◌≡◌, ◌≢◌, ◌⊎◌, ℕ, ◌≤◌, List, [], ◌∷◌, ◌++◌}
use Rattle.std.proofs.Common.{zero, suc, sym, ap, ◌∙◌, subst, ⊎_elim, inl, inr, arith}
use Rattle.om_signs.specs.declared.sign.Sign.{Sign}
use Rattle.om_signs.specs.declared.sign.Sign.TheVariants.{Zero}
use Rattle.om_signs.specs.Sign.{opposite}
use Rattle.om_signs.proofs.SignLaws.{nonzero_from_opposite, zero_not_nonzero, zero_or_nonzero}
use Rattle.om_laws.specs.Signs.{IsNonzero}
use Rattle.om_laws.specs.Members.{IsDistinct, IsMember}
use Rattle.om_laws.proofs.MemberLaws.{distinct_drop, distinct_last, member_drop, member_insert, member_last}
use Rattle.om_laws.proofs.MemberLaws.{member_left, member_middle, member_or_not, member_right, search_members, split_at}
use Rattle.om_laws.specs.Vectors.{AreEqualUpToSign, IsSupportedOn, SignVector}
use Rattle.om_laws.proofs.ExistenceHelpers.{Vanishes, same_nonzero}
use Rattle.om_laws.specs.Chirotope.{IsChirotope}
use Rattle.om_laws.specs.Circuits.{IsCocircuit}
use Rattle.om_laws.specs.Axioms.{CircuitAxioms}
use Rattle.om_laws.proofs.CocircuitBases.{HitsAll, IsCocircuitBase, base_exchange, base_from_members, extending_same}
use Rattle.om_laws.proofs.Existence.{CocircuitMap, map_of_cocircuits}
use Rattle.om_laws.specs.Families.{IsListed}
use Rattle.om_laws.proofs.FamilyLaws.{listed_same}
use Rattle.om_laws.proofs.FiniteBases.{support_size, weight_mid_zero, weight_mid_more, dec_sharp_at, on_ground}
use Rattle.om_laws.proofs.FiniteBases.{extends_or_not}

module _ (Ks : List SignVector) (E : List ℕ) (no_rep_ground : IsDistinct E)
    (ground : (X : SignVector) → IsListed Ks X → (e : ℕ) → IsNonzero (X e) → IsMember e E)
    (c0 : (X : SignVector) → IsListed Ks X → (e : ℕ) × IsNonzero (X e))
    (c1 : (X : SignVector) → IsListed Ks X → IsListed Ks (λ e. opposite (X e)))
    (c2 : (X Y : SignVector) → IsListed Ks X → IsListed Ks Y → ((g : ℕ) → IsNonzero (X g) → IsNonzero (Y g))
    → AreEqualUpToSign X Y)
    (c3 : (X Y : SignVector) → IsListed Ks X → IsListed Ks Y → (e : ℕ) → IsNonzero (X e) → X e ≡ opposite (Y e)
    → (h : ℕ) → (X h ≡ opposite (Y h) → ⊥) → (Z : SignVector) × IsListed Ks Z × (Z e ≡ Zero)
    × ((g : ℕ) → IsNonzero (Z g) → (Z g ≡ X g) ⊎ (Z g ≡ Y g)))
  where
    abbrev K : SignVector → Type 0
    K X = IsListed Ks X

    abbrev H : List ℕ → Type 0
    H = HitsAll K c1 c3

    abbrev B : List ℕ → Type 0
    B = IsCocircuitBase K c1 c3

    abbrev SharpAt : List ℕ → ℕ → Type 0
    SharpAt t i = (Y : SignVector) × K Y × ((g : ℕ) → IsMember g t → g ≢ i → Y g ≡ Zero)

    -- elements are taken away while the rest still hits
    abbrev Reduced : List ℕ → List ℕ → Type 0
    Reduced l t = (s : List ℕ) × IsDistinct s × H s × ((i : ℕ) → IsMember i s → IsMember i t)
        × ((i : ℕ) → IsMember i l → IsMember i s → SharpAt s i)

    reduce : (l t : List ℕ) → IsDistinct t → H t → Reduced l t
    reduce [] t r h = (t, r, h, (λ i m. m), λ i m. absurd m)
    reduce (i ∷ l) t r h =
        ⊎_elim
        (λ sh.
        let k = reduce l t r h in (
          k.0,
          k.1,
          k.2,
          k.3,
          λ j m js. ⊎_elim
              (λ q. subst (λ z. SharpAt k.0 z) (sym q) (sh.0, sh.1, λ g gm d. sh.2 g (k.3 g gm) d))
              (λ n. k.4 j n js) m,
        ))
        (λ none.
        ⊎_elim
        (λ mi.
        let s = split_at i t mi in
        let d = distinct_drop s.0 i s.1 (subst IsDistinct s.2 r) in
        let h2 : H (s.0 ++ s.1) =
        λ X kx. (let w = none X kx in (
          w.0,
          ⊎_elim (λ q. absurd (w.2 q)) (λ k. k) (member_drop w.0 s.0 i s.1 (subst (IsMember w.0) s.2 w.1)),
          w.3,
        )) in
        let k = reduce l (s.0 ++ s.1) d.0 h2 in (
          k.0,
          k.1,
          k.2,
          (λ j m. subst (IsMember j) (sym s.2) (member_insert j s.0 i s.1 (k.3 j m))),
          λ j m js. ⊎_elim
              (λ q. absurd (d.1 (k.3 i (subst (λ z. IsMember z k.0) q js))))
              (λ n. k.4 j n js) m,
        ))
        (λ ni.
        let k = reduce l t r h in (
          k.0,
          k.1,
          k.2,
          k.3,
          λ j m js. ⊎_elim (λ q. absurd (ni (k.3 i (subst (λ z. IsMember z k.0) q js)))) (λ n. k.4 j n js) m,
        ))
        (member_or_not i t))
        (dec_sharp_at Ks E no_rep_ground ground c0 c1 c2 c3 t i)

    pub base : (t : List ℕ) × B t
    base =
        let k = reduce E E no_rep_ground (λ X kx. (let w = c0 X kx in (w.0, ground X kx w.0 w.1, w.1))) in
        (k.0, (k.1, k.2, λ i m. k.4 i (k.3 i m) m))

    pub chirotope : CocircuitMap K c1 c3 (extends_or_not Ks E no_rep_ground ground c0 c1 c2 c3) base.0 base.1 E ground
    chirotope = map_of_cocircuits K c1 c3 (extends_or_not Ks E no_rep_ground ground c0 c1 c2 c3) base.0 base.1 E ground

    -- a member vanishes on a base less one entry
    abbrev pub IsRow : SignVector → Type 0
    IsRow X = (a : List ℕ) × (h : ℕ) × B (a ++ h ∷ []) × Vanishes X a

    lean_more : (X : SignVector) → K X → (u v : List ℕ) (e : ℕ) → B (u ++ e ∷ v) → IsNonzero (X e) → (j : ℕ)
        → IsMember j (u ++ v) → IsNonzero (X j)
        → ((t : List ℕ) → B t → suc (support_size X t) ≤ support_size X (u ++ e ∷ v) → IsRow X) → IsRow X
    lean_more X kx u v e b ne j mj nj rec =
        let d = distinct_drop u e v b.0 in
        let y = b.2 e (member_middle e u v) in
        let vy : Vanishes y.0 (u ++ v) =
        λ g m. y.2 g (member_insert g u e v m) (λ q. d.1 (subst (λ z. IsMember z (u ++ v)) q m)) in
        ⊎_elim
        (λ k.
        let bt = base_exchange K c1 c3 u v e k.0 b y.0 y.1 vy k.2.0 in
        let w1 = weight_mid_zero X u k.0 v k.2.1 in
        let w2 = weight_mid_more X u e v ne in
        rec (u ++ k.0 ∷ v) bt (omega (arith, w1, w2)))
        (λ none.
        let sub : (g : ℕ) → IsNonzero (y.0 g) → IsNonzero (X g) =
        λ g n. ⊎_elim (λ q. absurd (zero_not_nonzero (y.0 g) q n)) (λ q. q) (none g (ground y.0 y.1 g n)) in
        absurd (zero_not_nonzero (y.0 j) (vy j mj) (same_nonzero y.0 X (c2 y.0 X y.1 kx sub) j nj)))
        (search_members (λ g. IsNonzero (y.0 g) × (X g ≡ Zero)) (λ g. (y.0 g ≡ Zero) ⊎ IsNonzero (X g))
        (λ g. ⊎_elim (λ q. inr (inl q)) (λ n. ⊎_elim (λ z. inl (n, z)) (λ m. inr (inr m)) (zero_or_nonzero (X g)))
        (zero_or_nonzero (y.0 g))) E)

    lean_step : (X : SignVector) → K X → (t : List ℕ) → B t
        → ((t' : List ℕ) → B t' → suc (support_size X t') ≤ support_size X t → IsRow X) → IsRow X
    lean_step X kx t b rec =
        let e = b.1 X kx in
        let s = split_at e.0 t e.1 in
        let b2 : B (s.0 ++ e.0 ∷ s.1) = subst B s.2 b in
        let d = distinct_drop s.0 e.0 s.1 b2.0 in
        ⊎_elim
        (λ k. lean_more X kx s.0 s.1 e.0 b2 e.2 k.0 k.1 k.2
        (λ t' b' w. rec t' b' (subst (λ l. suc (support_size X t') ≤ support_size X l) (sym s.2) w)))
        (λ none. (
          s.0 ++ s.1,
          e.0,
          base_from_members K c1 c3 (s.0 ++ e.0 ∷ s.1) ((s.0 ++ s.1) ++ e.0 ∷ [])
              (λ i m. ⊎_elim (λ q. member_right i (s.0 ++ s.1) (e.0 ∷ []) (inl q))
              (λ k. member_left i (s.0 ++ s.1) (e.0 ∷ []) k) (member_drop i s.0 e.0 s.1 m))
              (λ i m. ⊎_elim (λ k. member_insert i s.0 e.0 s.1 k) (λ q. member_right i s.0 (e.0 ∷ s.1) (inl q))
              (member_last i e.0 (s.0 ++ s.1) m))
              (distinct_last (s.0 ++ s.1) e.0 d.0 d.1) b2,
          λ g m. none g m,
        ))
        (search_members (λ j. IsNonzero (X j)) (λ j. X j ≡ Zero)
        (λ j. ⊎_elim (λ q. inr q) (λ q. inl q) (zero_or_nonzero (X j))) (s.0 ++ s.1))

    lean : (n : ℕ) (X : SignVector) → K X → (t : List ℕ) → B t → support_size X t ≤ n → IsRow X
    lean zero X kx t b w =
        lean_step X kx t b
        (λ t' b' q. absurd (let z : suc (support_size X t') ≤ support_size X t = q in omega (arith, z, w)))
    lean (suc n) X kx t b w = lean_step X kx t b (λ t' b' q. lean n X kx t' b' (omega (arith, q, w)))

    -- each member is a row of the chirotope, up to sign
    pub member_row : (X : SignVector) → K X → (a : List ℕ) × (h : ℕ) × IsNonzero (chirotope.map (a ++ h ∷ []))
        × AreEqualUpToSign X (λ e. chirotope.map (a ++ e ∷ []))
    member_row X kx =
        let r = lean (support_size X base.0) X kx base.0 base.1 (omega arith) in
        let n = chirotope.base_value (r.0 ++ r.1 ∷ []) r.2 in
        let y = chirotope.row r.0 r.1 n in
        let s = extending_same K c1 c3 r.0 (r.1, r.2) X y.0 kx y.1 r.3 y.2 in
        (r.0, r.1, n, ⊎_elim (λ q. inl (λ e. q e ∙ y.3 e)) (λ q. inr (λ e. q e ∙ ap opposite (y.3 e))) s)

    -- each nonzero row is a member, up to equality place by place
    pub row_member : (a : List ℕ) (h : ℕ) → IsNonzero (chirotope.map (a ++ h ∷ []))
        → K (λ e. chirotope.map (a ++ e ∷ []))
    row_member a h n = let y = chirotope.row a h n in
        listed_same (λ e. chirotope.map (a ++ e ∷ [])) y.0 Ks (λ e. sym (y.3 e)) y.1

-- ---- the chirotope

module _ (Ks : List SignVector) (E : List ℕ) (distinct_ground : IsDistinct E)
    (supported : (X : SignVector) → IsListed Ks X → IsSupportedOn E X)
    (axioms : CircuitAxioms (λ X. IsListed Ks X)) where
  eliminated : (X Y : SignVector) → IsListed Ks X → IsListed Ks Y → (e : ℕ) → IsNonzero (X e) → X e ≡ opposite (Y e)
      → (h : ℕ) → (X h ≡ opposite (Y h) → ⊥) → (Z : SignVector) × IsListed Ks Z × (Z e ≡ Zero)
      × ((g : ℕ) → IsNonzero (Z g) → (Z g ≡ X g) ⊎ (Z g ≡ Y g))
  eliminated X Y x y e n q h o = axioms.elimination X Y x y (λ all. o (all h)) e (n, q)

  -- the map whose cocircuits are the members of a list that satisfies the circuit axioms
  pub list_map : List ℕ → Sign
  list_map =
      (chirotope Ks E distinct_ground supported axioms.nonzero axioms.negation axioms.incomparable eliminated).map

  -- the map whose cocircuits are the members of the list is a chirotope
  pub list_chirotope : IsChirotope E list_map
  unfolding list_map
  list_chirotope =
      let m = chirotope Ks E distinct_ground supported axioms.nonzero axioms.negation axioms.incomparable eliminated in
      let b = base Ks E distinct_ground supported axioms.nonzero axioms.negation axioms.incomparable eliminated in
      record {
        alternating = m.alt;
        within = λ t n. on_ground Ks E distinct_ground supported axioms.nonzero axioms.negation axioms.incomparable
            eliminated t (m.value_base t n);
        relations = m.relations;
        base = (b.0, m.base_value b.0 b.1);
      }

  -- each member of the list is a cocircuit of this map
  pub list_member_cocircuit : (X : SignVector) → IsListed Ks X → IsCocircuit list_map X
  unfolding list_map
  list_member_cocircuit X x =
      let r = member_row Ks E distinct_ground supported axioms.nonzero axioms.negation axioms.incomparable eliminated X
      x in
      record { tuple = r.0; nonzero = axioms.nonzero X x; same = r.3 }

  -- each cocircuit of this map is a member of the list
  pub list_cocircuit_member : (X : SignVector) → IsCocircuit list_map X → IsListed Ks X
  unfolding list_map
  list_cocircuit_member X c =
      let m = chirotope Ks E distinct_ground supported axioms.nonzero axioms.negation axioms.incomparable eliminated in
      let along_in : IsNonzero (m.map (c.tuple ++ c.nonzero.0 ∷ [])) → IsListed Ks (λ e. m.map (c.tuple ++ e ∷ [])) =
      row_member Ks E distinct_ground supported axioms.nonzero axioms.negation axioms.incomparable eliminated
      c.tuple c.nonzero.0 in
      ⊎_elim
      (λ q. listed_same X (λ e. m.map (c.tuple ++ e ∷ [])) Ks q
      (along_in (subst IsNonzero (q c.nonzero.0) c.nonzero.1)))
      (λ q. listed_same X (λ e. opposite (m.map (c.tuple ++ e ∷ []))) Ks q
      (axioms.negation (λ e. m.map (c.tuple ++ e ∷ []))
      (along_in
      (nonzero_from_opposite (m.map (c.tuple ++ c.nonzero.0 ∷ [])) (subst IsNonzero (q c.nonzero.0) c.nonzero.1)))))
      c.same
