-- An alternating map expanded along one element more, the sign of a permutation of a base, and a map made zero on lists
-- that leave the ground.
--
-- Main results: expand, expand_at, expand_no, expand_swap
-- Reference: Björner, Las Vergnas, Sturmfels, White and Ziegler, Oriented Matroids, section 3.5.
use Rattle.std.specs.Prelude.{◌≡◌, ◌≢◌, ◌⊎◌, ℕ, false, cond, List, [], ◌∷◌, ◌++◌, refl}
use Rattle.std.proofs.Common.{eqb, sym, ap, ◌∙◌, subst, ⊎_elim, inl, inr, append_assoc, append-nil}
use Rattle.std.proofs.lemmas.Bool.{cases_eq, eq-eqb, ne_eqb}
use Rattle.om_signs.specs.declared.sign.Sign.{Sign}
use Rattle.om_signs.specs.declared.sign.Sign.TheVariants.{Zero, Plus}
use Rattle.om_signs.specs.Sign.{opposite}
use Rattle.om_signs.proofs.SignLaws.{opposite-opposite, plus_nonzero, zero_not_nonzero, zero_or_nonzero, zeros_opposite}
use Rattle.om_laws.specs.Signs.{IsNonzero}
use Rattle.om_laws.specs.Members.{IsDistinct, IsMember}
use Rattle.om_laws.proofs.MemberLaws.{member_append, member_drop, member_insert, member_last, member_middle}
use Rattle.om_laws.proofs.MemberLaws.{member_or_not, member_right}
use Rattle.om_laws.specs.Tuples.{IsAlternating}
use Rattle.om_laws.proofs.BlockLaws.{negated_for, negated_for_last, negated_for_opposite, negated_for_zero}
use Rattle.om_laws.proofs.ExistenceHelpers.{negated_for_none, negated_for_swap, nonzero_from_negated_for}
use Rattle.om_laws.proofs.GrownMaps.{first_place}

-- expansion along b, the first place of b moved to the front
module _ (b : ℕ) (psi : List ℕ → Sign) (alt : IsAlternating psi)
    (zero : (a : List ℕ) → IsMember b a → psi a ≡ Zero) where
  pick : List ℕ → List ℕ → Sign
  pick pre [] = Zero
  pick pre (a ∷ t) = cond (eqb a b) (negated_for pre (psi (pre ++ t))) (pick (pre ++ a ∷ []) t)

  pub expand : List ℕ → Sign
  expand t = pick [] t

  pick_at : (u pre v : List ℕ) → (IsMember b u → ⊥) → pick pre (u ++ b ∷ v)
      ≡ negated_for (pre ++ u) (psi ((pre ++ u) ++ v))
  unfolding pick
  pick_at [] pre v n = rw (eq-eqb b b refl, append-nil pre)
  pick_at (c ∷ u) pre v n =
      let e : eqb c b ≡ false = ne_eqb c b (λ q. n (inl (sym q))) in
      let h = pick_at u (pre ++ c ∷ []) v (λ m. n (inr m)) in
      ap (λ z. cond z (negated_for pre (psi (pre ++ (u ++ b ∷ v)))) (pick (pre ++ c ∷ []) (u ++ b ∷ v))) e ∙ h
      ∙ ap (λ l. negated_for l (psi (l ++ v))) (append_assoc pre (c ∷ []) u)

  pick_no : (t pre : List ℕ) → (IsMember b t → ⊥) → pick pre t ≡ Zero
  unfolding pick
  pick_no [] pre n = refl
  pick_no (c ∷ t) pre n =
      let e : eqb c b ≡ false = ne_eqb c b (λ q. n (inl (sym q))) in
      ap (λ z. cond z (negated_for pre (psi (pre ++ t))) (pick (pre ++ c ∷ []) t)) e
      ∙ pick_no t (pre ++ c ∷ []) (λ m. n (inr m))

  pub expand_at : (u v : List ℕ) → (IsMember b u → ⊥) → expand (u ++ b ∷ v) ≡ negated_for u (psi (u ++ v))
  unfolding expand
  expand_at u v n = pick_at u [] v n

  pub expand_no : (t : List ℕ) → (IsMember b t → ⊥) → expand t ≡ Zero
  unfolding expand
  expand_no t n = pick_no t [] n

  front_b : (u : List ℕ) (x y : ℕ) (v : List ℕ) → (IsMember b u → ⊥) → x ≡ b → y ≢ b
      → expand (u ++ x ∷ y ∷ v) ≡ opposite (expand (u ++ y ∷ x ∷ v))
  front_b u x y v n q ny =
      let l : expand (u ++ x ∷ y ∷ v) ≡ negated_for u (psi (u ++ y ∷ v)) = ap (λ z. expand (u ++ z ∷ y ∷ v)) q
      ∙ expand_at u (y ∷ v) n in
      let nuy : IsMember b (u ++ y ∷ []) → ⊥ = λ m. ⊎_elim n (λ k. ny (sym k)) (member_last b y u m) in
      let r : expand (u ++ y ∷ x ∷ v) ≡ opposite (negated_for u (psi (u ++ y ∷ v))) =
      ap (λ z. expand (u ++ y ∷ z ∷ v)) q ∙ ap expand (sym (append_assoc u (y ∷ []) (b ∷ v)))
      ∙ expand_at (u ++ y ∷ []) v nuy ∙ negated_for_last u y (psi ((u ++ y ∷ []) ++ v))
      ∙ ap (λ z. opposite (negated_for u (psi z))) (append_assoc u (y ∷ []) v) in
      l ∙ sym (opposite-opposite (negated_for u (psi (u ++ y ∷ v)))) ∙ ap opposite (sym r)

  twice_b : (u : List ℕ) (x y : ℕ) (v : List ℕ) → (IsMember b u → ⊥) → x ≡ b → y ≡ b → expand (u ++ x ∷ y ∷ v) ≡ Zero
  twice_b u x y v n qx qy =
      ap (λ k. expand (u ++ k ∷ y ∷ v)) qx ∙ expand_at u (y ∷ v) n
      ∙ ap (negated_for u) (zero (u ++ y ∷ v) (member_right b u (y ∷ v) (inl (sym qy)))) ∙ negated_for_zero u

  in_u : (u1 u2 : List ℕ) (x y : ℕ) (v : List ℕ) → (IsMember b u1 → ⊥)
      → expand ((u1 ++ b ∷ u2) ++ x ∷ y ∷ v) ≡ opposite (expand ((u1 ++ b ∷ u2) ++ y ∷ x ∷ v))
  in_u u1 u2 x y v n =
      let at : (i j : ℕ) → expand ((u1 ++ b ∷ u2) ++ i ∷ j ∷ v) ≡ negated_for u1 (psi ((u1 ++ u2) ++ i ∷ j ∷ v)) =
      λ i j.
      ap expand (append_assoc u1 (b ∷ u2) (i ∷ j ∷ v)) ∙ expand_at u1 (u2 ++ i ∷ j ∷ v) n
      ∙ ap (λ l. negated_for u1 (psi l)) (sym (append_assoc u1 u2 (i ∷ j ∷ v))) in
      at x y ∙ ap (negated_for u1) (alt y x (u1 ++ u2) v) ∙ negated_for_opposite u1 (psi ((u1 ++ u2) ++ y ∷ x ∷ v))
      ∙ ap opposite (sym (at y x))

  in_v : (u : List ℕ) (x y : ℕ) (v1 v2 : List ℕ) → (IsMember b u → ⊥) → x ≢ b → y ≢ b → (IsMember b v1 → ⊥)
      → expand (u ++ x ∷ y ∷ (v1 ++ b ∷ v2)) ≡ opposite (expand (u ++ y ∷ x ∷ (v1 ++ b ∷ v2)))
  in_v u x y v1 v2 nu nx ny nv =
      let out : (i j : ℕ) → i ≢ b → j ≢ b → IsMember b (u ++ i ∷ j ∷ v1) → ⊥ = λ i j ni nj m.
      ⊎_elim nu (λ h. ⊎_elim (λ q. ni (sym q)) (λ l. ⊎_elim (λ q. nj (sym q)) nv l) h)
      (member_append b u (i ∷ j ∷ v1) m) in
      let at : (i j : ℕ) → i ≢ b → j ≢ b → expand (u ++ i ∷ j ∷ (v1 ++ b ∷ v2))
      ≡ negated_for (u ++ i ∷ j ∷ v1) (psi (u ++ i ∷ j ∷ (v1 ++ v2))) = λ i j ni nj.
      ap expand (sym (append_assoc u (i ∷ j ∷ v1) (b ∷ v2))) ∙ expand_at (u ++ i ∷ j ∷ v1) v2 (out i j ni nj)
      ∙ ap (λ l. negated_for (u ++ i ∷ j ∷ v1) (psi l)) (append_assoc u (i ∷ j ∷ v1) v2) in
      at x y nx ny ∙ ap (negated_for (u ++ x ∷ y ∷ v1)) (alt y x u (v1 ++ v2))
      ∙ negated_for_opposite (u ++ x ∷ y ∷ v1) (psi (u ++ y ∷ x ∷ (v1 ++ v2)))
      ∙ ap opposite (negated_for_swap u x y v1 (psi (u ++ y ∷ x ∷ (v1 ++ v2))) ∙ sym (at y x ny nx))

  pub expand_swap : (u : List ℕ) (x y : ℕ) (v : List ℕ) → expand (u ++ x ∷ y ∷ v) ≡ opposite (expand (u ++ y ∷ x ∷ v))
  expand_swap u x y v =
      ⊎_elim
      (λ nu. ⊎_elim
      (λ qx. ⊎_elim
      (λ qy. zeros_opposite (expand (u ++ x ∷ y ∷ v)) (expand (u ++ y ∷ x ∷ v)) (twice_b u x y v nu qx qy)
      (twice_b u y x v nu qy qx))
      (λ ny. front_b u x y v nu qx ny) (cases_eq y b))
      (λ nx. ⊎_elim
      (λ qy. sym (opposite-opposite (expand (u ++ x ∷ y ∷ v))) ∙ ap opposite (sym (front_b u y x v nu qy nx)))
      (λ ny. ⊎_elim
      (λ nv.
      let out : (i j : ℕ) → i ≢ b → j ≢ b → expand (u ++ i ∷ j ∷ v) ≡ Zero =
      λ i j ni nj. expand_no (u ++ i ∷ j ∷ v) (λ m.
      ⊎_elim nu (λ h. ⊎_elim (λ q. ni (sym q)) (λ l. ⊎_elim (λ q. nj (sym q)) nv l) h)
      (member_append b u (i ∷ j ∷ v) m)) in
      zeros_opposite (expand (u ++ x ∷ y ∷ v)) (expand (u ++ y ∷ x ∷ v)) (out x y nx ny) (out y x ny nx))
      (λ k. subst (λ l. expand (u ++ x ∷ y ∷ l) ≡ opposite (expand (u ++ y ∷ x ∷ l))) (sym k.2)
      (in_v u x y k.0 k.1 nu nx ny k.3))
      (first_place b v))
      (cases_eq y b))
      (cases_eq x b))
      (λ k. subst (λ l. expand (l ++ x ∷ y ∷ v) ≡ opposite (expand (l ++ y ∷ x ∷ v))) (sym k.2)
      (in_u k.0 k.1 x y v k.3))
      (first_place b u)

  expand_alt : IsAlternating expand
  expand_alt x y cs bs = expand_swap cs y x bs

  expand_over : (l : List ℕ) → ((t : List ℕ) → IsNonzero (psi t) → (i : ℕ) → IsMember i t → IsMember i l) → (t : List ℕ)
      → IsNonzero (expand t) → (i : ℕ) → IsMember i t
      → (IsMember b t → ⊥) ⊎ ((u : List ℕ) × (v : List ℕ) × (t ≡ u ++ b ∷ v) × (IsMember b u → ⊥)) → IsMember i (b ∷ l)
  expand_over l h t n i m (inl k) = absurd (zero_not_nonzero (expand t) (expand_no t k) n)
  expand_over l h t n i m (inr k) =
      let np = nonzero_from_negated_for k.0 (psi (k.0 ++ k.1))
      (subst IsNonzero (ap expand k.2 ∙ expand_at k.0 k.1 k.3) n) in
      ⊎_elim (λ q. inl q) (λ j. inr (h (k.0 ++ k.1) np i j)) (member_drop i k.0 b k.1 (subst (IsMember i) k.2 m))

  expand_all : (l : List ℕ) → ((t : List ℕ) → IsNonzero (psi t) → (i : ℕ) → IsMember i l → IsMember i t) → (t : List ℕ)
      → IsNonzero (expand t) → (i : ℕ) → IsMember i (b ∷ l)
      → (IsMember b t → ⊥) ⊎ ((u : List ℕ) × (v : List ℕ) × (t ≡ u ++ b ∷ v) × (IsMember b u → ⊥)) → IsMember i t
  expand_all l h t n i m (inl k) = absurd (zero_not_nonzero (expand t) (expand_no t k) n)
  expand_all l h t n i m (inr k) =
      let np = nonzero_from_negated_for k.0 (psi (k.0 ++ k.1))
      (subst IsNonzero (ap expand k.2 ∙ expand_at k.0 k.1 k.3) n) in
      subst (IsMember i) (sym k.2)
      (⊎_elim (λ q. subst (λ z. IsMember z (k.0 ++ b ∷ k.1)) (sym q) (member_middle b k.0 k.1))
      (λ j. member_insert i k.0 b k.1 (h (k.0 ++ k.1) np i j)) m)

-- the sign of a permutation of a list without repeats, as an alternating map
pub record IsPermutationSign (l : List ℕ) : Type 0 where
  pub map : List ℕ → Sign
  pub alt : IsAlternating map
  pub over : (t : List ℕ) → IsNonzero (map t) → (i : ℕ) → IsMember i t → IsMember i l
  pub all : (t : List ℕ) → IsNonzero (map t) → (i : ℕ) → IsMember i l → IsMember i t
  pub at : IsNonzero (map l)

empty_sign : List ℕ → Sign
empty_sign [] = Plus
empty_sign (a ∷ t) = Zero

empty_sign_alt : IsAlternating empty_sign
unfolding empty_sign
empty_sign_alt x y [] v = refl
empty_sign_alt x y (c ∷ u) v = refl

empty_over : (t : List ℕ) → IsNonzero (empty_sign t) → (i : ℕ) → IsMember i t → IsMember i []
unfolding empty_sign
empty_over [] n i m = m
empty_over (a ∷ t) n i m = absurd (n refl)

empty_start : IsPermutationSign []
unfolding empty_sign
empty_start =
    record { map = empty_sign; alt = empty_sign_alt; over = empty_over; all = λ t n i m. absurd m; at = plus_nonzero }

pub permutation_sign : (l : List ℕ) → IsDistinct l → IsPermutationSign l
permutation_sign [] r = empty_start
permutation_sign (b ∷ l) r =
    let s = permutation_sign l r.1 in
    let zero : (a : List ℕ) → IsMember b a → s.map a ≡ Zero =
    λ a m. ⊎_elim (λ q. q) (λ n. absurd (r.0 (s.over a n b m))) (zero_or_nonzero (s.map a)) in
    record {
      map = expand b s.map s.alt zero;
      alt = expand_alt b s.map s.alt zero;
      over = λ t n i m. expand_over b s.map s.alt zero l s.over t n i m (first_place b t);
      all = λ t n i m. expand_all b s.map s.alt zero l s.all t n i m (first_place b t);
      at = subst IsNonzero (sym (expand_at b s.map s.alt zero [] l (λ m. m) ∙ negated_for_none (s.map l))) s.at;
    }

pub dec_over : (E t : List ℕ) → ((i : ℕ) → IsMember i t → IsMember i E) ⊎ (((i : ℕ) → IsMember i t → IsMember i E) → ⊥)
dec_over E [] = inl (λ i m. absurd m)
dec_over E (a ∷ t) =
    ⊎_elim
    (λ m. ⊎_elim
    (λ k. inl (λ i j. ⊎_elim (λ q. subst (λ z. IsMember z E) (sym q) m) (λ h. k i h) j))
    (λ k. inr (λ h. k (λ i j. h i (inr j))))
    (dec_over E t))
    (λ n. inr (λ h. n (h a (inl refl))))
    (member_or_not a E)

-- a map made 0 on lists that leave the ground
restrict_go : (g : List ℕ → Sign) (E t : List ℕ) → ((i : ℕ) → IsMember i t → IsMember i E)
    ⊎ (((i : ℕ) → IsMember i t → IsMember i E) → ⊥) → Sign
restrict_go g E t (inl k) = g t
restrict_go g E t (inr k) = Zero

pub restrict : (List ℕ → Sign) → List ℕ → List ℕ → Sign
restrict g E t = restrict_go g E t (dec_over E t)

restrict_in_go : (g : List ℕ → Sign) (E t : List ℕ)
    (d : ((i : ℕ) → IsMember i t → IsMember i E) ⊎ (((i : ℕ) → IsMember i t → IsMember i E) → ⊥))
    → ((i : ℕ) → IsMember i t → IsMember i E) → restrict_go g E t d ≡ g t
unfolding restrict_go
restrict_in_go g E t (inl k) o = refl
restrict_in_go g E t (inr k) o = absurd (k o)

pub restrict_in : (g : List ℕ → Sign) (E t : List ℕ) → ((i : ℕ) → IsMember i t → IsMember i E) → restrict g E t ≡ g t
unfolding restrict
restrict_in g E t o = restrict_in_go g E t (dec_over E t) o

restrict_out_go : (g : List ℕ → Sign) (E t : List ℕ)
    (d : ((i : ℕ) → IsMember i t → IsMember i E) ⊎ (((i : ℕ) → IsMember i t → IsMember i E) → ⊥))
    → (((i : ℕ) → IsMember i t → IsMember i E) → ⊥) → restrict_go g E t d ≡ Zero
unfolding restrict_go
restrict_out_go g E t (inl k) o = absurd (o k)
restrict_out_go g E t (inr k) o = refl

pub restrict_out : (g : List ℕ → Sign) (E t : List ℕ) → (((i : ℕ) → IsMember i t → IsMember i E) → ⊥)
    → restrict g E t ≡ Zero
unfolding restrict
restrict_out g E t o = restrict_out_go g E t (dec_over E t) o
