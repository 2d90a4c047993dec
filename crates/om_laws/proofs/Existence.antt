-- Each set of cocircuits with a base has a chirotope.
--
-- Main definitions: B, CocircuitMap
-- Main results: map_of_cocircuits
-- Reference: Björner, Las Vergnas, Sturmfels, White and Ziegler, Oriented Matroids, section 3.5.
use Rattle.std.specs.Prelude.{◌≡◌, ◌⊎◌, ℕ, List, [], ◌∷◌, ◌++◌, refl}
use Rattle.std.proofs.Common.{sym, ap, ◌∙◌, subst, ⊎_elim, inl, inr}
use Rattle.std.proofs.lemmas.Bool.{cases_eq}
use Rattle.om_signs.specs.declared.sign.Sign.{Sign}
use Rattle.om_signs.specs.declared.sign.Sign.TheVariants.{Zero}
use Rattle.om_signs.specs.Sign.{opposite, product}
use Rattle.om_signs.proofs.SignLaws.{product_zero_left, zero_not_nonzero, zero_or_nonzero, zeros_opposite}
use Rattle.om_signs.proofs.SignLaws.{products_zero}
use Rattle.om_laws.specs.Signs.{IsNonzero}
use Rattle.om_laws.specs.Members.{IsMember}
use Rattle.om_laws.proofs.MemberLaws.{distinct_drop, member_append, member_last, member_left, member_middle}
use Rattle.om_laws.proofs.MemberLaws.{member_or_not, member_right}
use Rattle.om_laws.proofs.BlockLaws.{same_members}
use Rattle.om_laws.specs.Vectors.{SignVector}
use Rattle.om_laws.proofs.ExistenceHelpers.{Vanishes}
use Rattle.om_laws.specs.Tuples.{IsAlternating}
use Rattle.om_laws.proofs.TupleLaws.{nonzero_distinct, nonzero_swapped}
use Rattle.om_laws.specs.Relations.{HasRelations}
use Rattle.om_laws.proofs.CocircuitBases.{ExtendsToBase, IsCocircuitBase, base_from_members}
use Rattle.om_laws.proofs.PivotRule.{AreOver, IsPartialMap}
use Rattle.om_laws.proofs.Growth.{grown_over_all}
use Rattle.om_laws.proofs.Construction.{made_relations, row_is_member}
use Rattle.om_laws.proofs.PermutationSigns.{IsPermutationSign, permutation_sign, dec_over, restrict, restrict_in}
use Rattle.om_laws.proofs.PermutationSigns.{restrict_out}

module _ (K : SignVector → Type 0)
    (neg_k : (X : SignVector) → K X → K (λ e. opposite (X e)))
    (elim_k : (X Y : SignVector) → K X → K Y → (e : ℕ) → IsNonzero (X e) → X e ≡ opposite (Y e) → (h : ℕ)
    → (X h ≡ opposite (Y h) → ⊥) → (Z : SignVector) × K Z × (Z e ≡ Zero)
    × ((g : ℕ) → IsNonzero (Z g) → (Z g ≡ X g) ⊎ (Z g ≡ Y g)))
    (extends_or_not : (a : List ℕ) → ExtendsToBase K neg_k elim_k a ⊎ (ExtendsToBase K neg_k elim_k a → ⊥))
    (b0 : List ℕ) (base0 : IsCocircuitBase K neg_k elim_k b0)
    (E : List ℕ) (ground : (X : SignVector) → K X → (e : ℕ) → IsNonzero (X e) → IsMember e E)
  where
    abbrev pub B : List ℕ → Type 0
    B = IsCocircuitBase K neg_k elim_k

    -- a base within another has all of its members
    base_within : (s t : List ℕ) → B s → B t → ((i : ℕ) → IsMember i s → IsMember i t) → (i : ℕ) → IsMember i t
        → IsMember i s
    base_within s t bs bt sub i m =
        ⊎_elim (λ k. k)
        (λ n.
        let y = bt.2 i m in
        let h = bs.1 y.0 y.1 in
        absurd (zero_not_nonzero (y.0 h.0) (y.2 h.0 (sub h.0 h.1) (λ q. n (subst (λ z. IsMember z s) q h.1))) h.2))
        (member_or_not i s)

    base_on : (t : List ℕ) → B t → (i : ℕ) → IsMember i t → IsMember i E
    base_on t b i m =
        let y = b.2 i m in
        let h = b.1 y.0 y.1 in
        ⊎_elim (λ q. ground y.0 y.1 i (subst (λ z. IsNonzero (y.0 z)) q h.2))
        (λ n. absurd (zero_not_nonzero (y.0 h.0) (y.2 h.0 h.1 n) h.2)) (cases_eq h.0 i)

    module _ (s : IsPermutationSign b0) where
      start_base : (t : List ℕ) → IsNonzero (s.map t) → B t
      start_base t n = base_from_members K neg_k elim_k b0 t (s.all t n) (s.over t n) (nonzero_distinct s.map s.alt t n)
          base0

      base_start : (t : List ℕ) → AreOver K neg_k elim_k extends_or_not b0 base0 b0 t → B t → IsNonzero (s.map t)
      base_start t o b =
          same_members (λ l. IsNonzero (s.map l)) (nonzero_swapped s.map s.alt)
          b0 [] t base0.0 b.0 (base_within t b0 b base0 o) o s.at

      start_pivot : (a : List ℕ) → AreOver K neg_k elim_k extends_or_not b0 base0 b0 a → (Y : SignVector) → K Y
          → Vanishes Y a → (e h : ℕ) → IsMember e b0 → IsMember h b0
          → product (s.map (a ++ e ∷ [])) (Y h) ≡ product (s.map (a ++ h ∷ [])) (Y e)
      start_pivot a o Y ky vy e h me mh =
          let rep : (i : ℕ) → IsMember i a → s.map (a ++ i ∷ []) ≡ Zero = λ i m.
          ⊎_elim (λ q. q)
          (λ n. absurd
          ((distinct_drop a i [] (nonzero_distinct s.map s.alt (a ++ i ∷ []) n)).1 (member_left i a [] m)))
          (zero_or_nonzero (s.map (a ++ i ∷ []))) in
          ⊎_elim
          (λ ze. ⊎_elim
          (λ zh. product_zero_left (s.map (a ++ e ∷ [])) (Y h) ze
          ∙ sym (product_zero_left (s.map (a ++ h ∷ [])) (Y e) zh))
          (λ nh. ⊎_elim
          (λ m. products_zero (s.map (a ++ e ∷ [])) (s.map (a ++ h ∷ [])) (Y h) (Y e) ze (vy e m))
          (λ q. subst (λ z. product (s.map (a ++ e ∷ [])) (Y z) ≡ product (s.map (a ++ z ∷ [])) (Y e)) q refl)
          (member_last e h a (s.all (a ++ h ∷ []) nh e me)))
          (zero_or_nonzero (s.map (a ++ h ∷ []))))
          (λ ne. ⊎_elim
          (λ m. sym (products_zero (s.map (a ++ h ∷ [])) (s.map (a ++ e ∷ [])) (Y e) (Y h) (rep h m) (vy h m)))
          (λ q. subst (λ z. product (s.map (a ++ z ∷ [])) (Y h) ≡ product (s.map (a ++ h ∷ [])) (Y z)) q refl)
          (member_last h e a (s.all (a ++ e ∷ []) ne h mh)))
          (zero_or_nonzero (s.map (a ++ e ∷ [])))

      start_inv : IsPartialMap K neg_k elim_k extends_or_not b0 base0 b0 s.map
      start_inv = ((λ u x y v o. s.alt y x u v), (λ t o n. start_base t n), (λ t o b. base_start t o b), start_pivot)

    -- the map of the set: it alternates, has the relations of all tuples and the bases of the set, and each nonzero
    -- vector along a tuple is a member
    pub record CocircuitMap : Type 0 where
      pub map : List ℕ → Sign
      pub alt : IsAlternating map
      pub relations : HasRelations map
      pub value_base : (t : List ℕ) → IsNonzero (map t) → B t
      pub base_value : (t : List ℕ) → B t → IsNonzero (map t)
      pub row : (a : List ℕ) (h : ℕ) → IsNonzero (map (a ++ h ∷ [])) → (Y : SignVector) × K Y × Vanishes Y a
          × ((e : ℕ) → Y e ≡ map (a ++ e ∷ []))

    over_end : (a : List ℕ) (e : ℕ) → ((i : ℕ) → IsMember i a → IsMember i E) → IsMember e E → (i : ℕ)
        → IsMember i (a ++ e ∷ []) → IsMember i E
    over_end a e o m i k = ⊎_elim (λ j. o i j) (λ q. subst (λ z. IsMember z E) (sym q) m) (member_last i e a k)

    pivot_all : (G : List ℕ) (g : List ℕ → Sign) → IsPartialMap K neg_k elim_k extends_or_not b0 base0 G g
        → ((i : ℕ) → IsMember i E → IsMember i G) → (a : List ℕ) (Y : SignVector) → K Y → Vanishes Y a → (e h : ℕ)
        → ((i : ℕ) → IsMember i a → IsMember i E) ⊎ (((i : ℕ) → IsMember i a → IsMember i E) → ⊥) → IsMember e E
        ⊎ (IsMember e E → ⊥) → IsMember h E ⊎ (IsMember h E → ⊥)
        → product (restrict g E (a ++ e ∷ [])) (Y h) ≡ product (restrict g E (a ++ h ∷ [])) (Y e)
    pivot_all G g inv all a Y ky vy e h (inr n) de dh =
        let z : (i : ℕ) → restrict g E (a ++ i ∷ []) ≡ Zero =
        λ i. restrict_out g E (a ++ i ∷ []) (λ o. n (λ j m. o j (member_left j a (i ∷ []) m))) in
        product_zero_left (restrict g E (a ++ e ∷ [])) (Y h) (z e)
        ∙ sym (product_zero_left (restrict g E (a ++ h ∷ [])) (Y e) (z h))
    pivot_all G g inv all a Y ky vy e h (inl o) (inr ne) dh =
        let ye : Y e ≡ Zero = ⊎_elim (λ q. q) (λ n. absurd (ne (ground Y ky e n))) (zero_or_nonzero (Y e)) in
        products_zero (restrict g E (a ++ e ∷ [])) (restrict g E (a ++ h ∷ [])) (Y h) (Y e)
        (restrict_out g E (a ++ e ∷ []) (λ k. ne (k e (member_middle e a [])))) ye
    pivot_all G g inv all a Y ky vy e h (inl o) (inl me) (inr nh) =
        let yh : Y h ≡ Zero = ⊎_elim (λ q. q) (λ n. absurd (nh (ground Y ky h n))) (zero_or_nonzero (Y h)) in
        sym (products_zero (restrict g E (a ++ h ∷ [])) (restrict g E (a ++ e ∷ [])) (Y e) (Y h)
        (restrict_out g E (a ++ h ∷ []) (λ k. nh (k h (member_middle h a [])))) yh)
    pivot_all G g inv all a Y ky vy e h (inl o) (inl me) (inl mh) =
        ap (λ z. product z (Y h)) (restrict_in g E (a ++ e ∷ []) (over_end a e o me))
        ∙ inv.3 a (λ i m. all i (o i m)) Y ky vy e h (all e me) (all h mh)
        ∙ ap (λ z. product z (Y e)) (sym (restrict_in g E (a ++ h ∷ []) (over_end a h o mh)))

    made_zero_outside : (G : List ℕ) (g : List ℕ → Sign) → IsPartialMap K neg_k elim_k extends_or_not b0 base0 G g
        → ((i : ℕ) → IsMember i E → IsMember i G) → CocircuitMap
    made_zero_outside G g inv all =
        let f : List ℕ → Sign = restrict g E in
        let swap_in : (u : List ℕ) (x y : ℕ) (v : List ℕ) → ((i : ℕ) → IsMember i (u ++ x ∷ y ∷ v) → IsMember i E)
        → (i : ℕ) → IsMember i (u ++ y ∷ x ∷ v) → IsMember i E = λ u x y v o i m.
        o i (⊎_elim (λ k. member_left i u (x ∷ y ∷ v) k)
        (λ k. member_right i u (x ∷ y ∷ v)
        (⊎_elim (λ q. inr (inl q)) (λ j. ⊎_elim (λ q. inl q) (λ l. inr (inr l)) j) k))
        (member_append i u (y ∷ x ∷ v) m)) in
        let swap : (u : List ℕ) (x y : ℕ) (v : List ℕ) → f (u ++ x ∷ y ∷ v) ≡ opposite (f (u ++ y ∷ x ∷ v)) =
        λ u x y v. ⊎_elim
        (λ o. restrict_in g E (u ++ x ∷ y ∷ v) o ∙ inv.0 u x y v (λ i m. all i (o i m))
        ∙ ap opposite (sym (restrict_in g E (u ++ y ∷ x ∷ v) (swap_in u x y v o))))
        (λ n. zeros_opposite (f (u ++ x ∷ y ∷ v)) (f (u ++ y ∷ x ∷ v)) (restrict_out g E (u ++ x ∷ y ∷ v) n)
        (restrict_out g E (u ++ y ∷ x ∷ v) (λ o. n (swap_in u y x v o))))
        (dec_over E (u ++ x ∷ y ∷ v)) in
        let alt : IsAlternating f = λ x y cs bs. swap cs y x bs in
        let on : (t : List ℕ) → IsNonzero (f t) → (i : ℕ) → IsMember i t → IsMember i E =
        λ t n. ⊎_elim (λ o. o) (λ k. absurd (zero_not_nonzero (f t) (restrict_out g E t k) n)) (dec_over E t) in
        let is_b : (t : List ℕ) → IsNonzero (f t) → B t =
        λ t n. inv.1 t (λ i m. all i (on t n i m)) (subst IsNonzero (restrict_in g E t (on t n)) n) in
        let b_is : (t : List ℕ) → B t → IsNonzero (f t) =
        λ t b. subst IsNonzero (sym (restrict_in g E t (base_on t b)))
        (inv.2 t (λ i m. all i (base_on t b i m)) b) in
        let pivot : (a : List ℕ) (Y : SignVector) → K Y → Vanishes Y a → (e h : ℕ)
        → product (f (a ++ e ∷ [])) (Y h) ≡ product (f (a ++ h ∷ [])) (Y e) =
        λ a Y ky vy e h. pivot_all G g inv all a Y ky vy e h (dec_over E a) (member_or_not e E)
        (member_or_not h E) in
        record {
          map = f;
          alt = alt;
          relations = made_relations K neg_k elim_k f alt is_b b_is pivot;
          value_base = is_b;
          base_value = b_is;
          row = row_is_member K neg_k elim_k f alt is_b b_is pivot;
        }

    -- each set of cocircuits has such a map
    pub map_of_cocircuits : CocircuitMap
    map_of_cocircuits =
        let s = permutation_sign b0 base0.0 in
        let k = grown_over_all K neg_k elim_k extends_or_not b0 base0 E b0 s.map (start_inv s) (λ i m. m) in
        made_zero_outside k.0 k.1 k.2 k.4
