-- The bases of a finite list of sign vectors: whether a list of elements is one can be told.
--
-- Main definitions: K, B
-- Main results: on_ground, extends_or_not
use Rattle.std.specs.Prelude.{◌≡◌, ◌≢◌, ◌⊎◌, ℕ, List, [], ◌∷◌, ◌++◌, refl}
use Rattle.std.proofs.Common.{suc, sym, ap, ◌∙◌, subst, ⊎_elim, inl, inr}
use Rattle.std.proofs.lemmas.Bool.{cases_eq}
use Rattle.om_signs.specs.declared.sign.Sign.TheVariants.{Zero}
use Rattle.om_signs.specs.Sign.{opposite}
use Rattle.om_signs.proofs.SignLaws.{zero_not_nonzero, zero_or_nonzero}
use Rattle.om_laws.specs.Signs.{IsNonzero}
use Rattle.om_laws.specs.Members.{IsDistinct, IsMember}
use Rattle.om_laws.proofs.MemberLaws.{member_middle, member_or_not, search_members}
use Rattle.om_laws.specs.Vectors.{AreEqualUpToSign, SignVector}
use Rattle.om_laws.proofs.ExistenceHelpers.{Vanishes}
use Rattle.om_laws.proofs.CocircuitBases.{ExtendsToBase, HitsAll, IsCocircuitBase, IsSharp}
use Rattle.om_laws.specs.Families.{IsListed}
use Rattle.om_laws.proofs.FamilyLaws.{search_vectors}

distinct_or_not : (t : List ℕ) → IsDistinct t ⊎ (IsDistinct t → ⊥)
distinct_or_not [] = inl tt
distinct_or_not (a ∷ t) =
    ⊎_elim (λ m. inr (λ r. r.0 m)) (λ n. ⊎_elim (λ r. inl (n, r)) (λ k. inr (λ r. k r.1)) (distinct_or_not t))
    (member_or_not a t)

-- the entries of a list where a vector isn't 0
pub support_size : SignVector → List ℕ → ℕ
support_size X [] = 0
support_size X (a ∷ t) = ⊎_elim (λ z. support_size X t) (λ n. suc (support_size X t)) (zero_or_nonzero (X a))

weight_zero : (X : SignVector) (a : ℕ) (t : List ℕ) → X a ≡ Zero → support_size X (a ∷ t) ≡ support_size X t
unfolding support_size
weight_zero X a t z = elim (zero_or_nonzero (X a)) as
    (λ d. ⊎_elim (λ q. support_size X t) (λ n. suc (support_size X t)) d ≡ support_size X t)
    [ inl q ↦ refl | inr n ↦ absurd (zero_not_nonzero (X a) z n) ]

weight_more : (X : SignVector) (a : ℕ) (t : List ℕ) → IsNonzero (X a) → support_size X (a ∷ t) ≡ suc (support_size X t)
unfolding support_size
weight_more X a t m = elim (zero_or_nonzero (X a)) as
    (λ d. ⊎_elim (λ q. support_size X t) (λ n. suc (support_size X t)) d ≡ suc (support_size X t))
    [ inl q ↦ absurd (zero_not_nonzero (X a) q m) | inr n ↦ refl ]

pub weight_mid_zero : (X : SignVector) (u : List ℕ) (a : ℕ) (v : List ℕ) → X a ≡ Zero
    → support_size X (u ++ a ∷ v) ≡ support_size X (u ++ v)
weight_mid_zero X [] a v z = weight_zero X a v z
weight_mid_zero X (c ∷ u) a v z =
    let h = weight_mid_zero X u a v z in
    ⊎_elim
    (λ q. weight_zero X c (u ++ a ∷ v) q ∙ h ∙ sym (weight_zero X c (u ++ v) q))
    (λ n. weight_more X c (u ++ a ∷ v) n ∙ ap suc h ∙ sym (weight_more X c (u ++ v) n))
    (zero_or_nonzero (X c))

pub weight_mid_more : (X : SignVector) (u : List ℕ) (a : ℕ) (v : List ℕ) → IsNonzero (X a)
    → support_size X (u ++ a ∷ v) ≡ suc (support_size X (u ++ v))
weight_mid_more X [] a v n = weight_more X a v n
weight_mid_more X (c ∷ u) a v m =
    let h = weight_mid_more X u a v m in
    ⊎_elim
    (λ q. weight_zero X c (u ++ a ∷ v) q ∙ h ∙ ap suc (sym (weight_zero X c (u ++ v) q)))
    (λ n. weight_more X c (u ++ a ∷ v) n ∙ ap suc h ∙ ap suc (sym (weight_more X c (u ++ v) n)))
    (zero_or_nonzero (X c))

module _ (Ks : List SignVector) (E : List ℕ) (no_rep_ground : IsDistinct E)
    (ground : (X : SignVector) → IsListed Ks X → (e : ℕ) → IsNonzero (X e) → IsMember e E)
    (c0 : (X : SignVector) → IsListed Ks X → (e : ℕ) × IsNonzero (X e))
    (c1 : (X : SignVector) → IsListed Ks X → IsListed Ks (λ e. opposite (X e)))
    (c2 : (X Y : SignVector) → IsListed Ks X → IsListed Ks Y → ((g : ℕ) → IsNonzero (X g) → IsNonzero (Y g))
    → AreEqualUpToSign X Y)
    (c3 : (X Y : SignVector) → IsListed Ks X → IsListed Ks Y → (e : ℕ) → IsNonzero (X e) → X e ≡ opposite (Y e)
    → (h : ℕ) → (X h ≡ opposite (Y h) → ⊥) → (Z : SignVector) × IsListed Ks Z × (Z e ≡ Zero)
    × ((g : ℕ) → IsNonzero (Z g) → (Z g ≡ X g) ⊎ (Z g ≡ Y g)))
  where
    abbrev pub K : SignVector → Type 0
    K X = IsListed Ks X

    abbrev H : List ℕ → Type 0
    H = HitsAll K c1 c3

    abbrev pub B : List ℕ → Type 0
    B = IsCocircuitBase K c1 c3

    abbrev SharpAt : List ℕ → ℕ → Type 0
    SharpAt t i = (Y : SignVector) × K Y × ((g : ℕ) → IsMember g t → g ≢ i → Y g ≡ Zero)

    hit_or : (X : SignVector) (t : List ℕ) → Vanishes X t ⊎ ((e : ℕ) × IsMember e t × IsNonzero (X e))
    hit_or X t = ⊎_elim (λ k. inr (k.0, k.1, k.2)) (λ n. inl (λ g m. n g m))
        (search_members (λ g. IsNonzero (X g)) (λ g. X g ≡ Zero)
        (λ g. ⊎_elim (λ q. inr q) (λ q. inl q) (zero_or_nonzero (X g))) t)

    dec_hits : (t : List ℕ) → H t ⊎ (H t → ⊥)
    dec_hits t =
        ⊎_elim
        (λ k. inr (λ h. let w = h k.0 k.1 in zero_not_nonzero (k.0 w.0) (k.2 w.0 w.1) w.2))
        (λ n. inl (λ X m. n X m))
        (search_vectors (λ X. Vanishes X t) (λ X. (e : ℕ) × IsMember e t × IsNonzero (X e)) (λ X. hit_or X t)
        (λ X Y q w. (w.0, w.1, subst IsNonzero (sym (q w.0)) w.2)) Ks)

    pub dec_sharp_at : (t : List ℕ) (i : ℕ) → SharpAt t i
        ⊎ ((Y : SignVector) → K Y → (g : ℕ) × IsMember g t × (g ≢ i) × IsNonzero (Y g))
    dec_sharp_at t i =
        search_vectors (λ Y. (g : ℕ) → IsMember g t → g ≢ i → Y g ≡ Zero)
        (λ Y. (g : ℕ) × IsMember g t × (g ≢ i) × IsNonzero (Y g))
        (λ Y. ⊎_elim (λ k. inr (k.0, k.1, k.2.0, k.2.1))
        (λ n. inl (λ g m d. ⊎_elim (λ q. absurd (d q)) (λ q. q) (n g m)))
        (search_members (λ g. (g ≢ i) × IsNonzero (Y g)) (λ g. (g ≡ i) ⊎ (Y g ≡ Zero))
        (λ g. ⊎_elim (λ q. inr (inl q)) (λ d. ⊎_elim (λ z. inr (inr z)) (λ n. inl (d, n)) (zero_or_nonzero (Y g)))
        (cases_eq g i)) t))
        (λ X Y q w. (w.0, w.1, w.2, subst IsNonzero (sym (q w.0)) w.3)) Ks

    dec_sharp : (t : List ℕ) → IsSharp K c1 c3 t ⊎ (IsSharp K c1 c3 t → ⊥)
    dec_sharp t =
        ⊎_elim
        (λ k. inr (λ s. let y = s k.0 k.1 in let w = k.2 y.0 y.1 in zero_not_nonzero (y.0 w.0) (y.2 w.0 w.1 w.2) w.3))
        (λ n. inl (λ i m. n i m))
        (search_members (λ i. (Y : SignVector) → K Y → (g : ℕ) × IsMember g t × (g ≢ i) × IsNonzero (Y g))
        (λ i. SharpAt t i)
        (λ i. ⊎_elim (λ q. inr q) (λ q. inl q) (dec_sharp_at t i)) t)

    dec_base : (t : List ℕ) → B t ⊎ (B t → ⊥)
    dec_base t =
        ⊎_elim
        (λ r. ⊎_elim
        (λ h. ⊎_elim (λ s. inl (r, h, s)) (λ n. inr (λ b. n b.2)) (dec_sharp t))
        (λ n. inr (λ b. n b.1)) (dec_hits t))
        (λ n. inr (λ b. n b.0)) (distinct_or_not t)

    pub on_ground : (t : List ℕ) → B t → (i : ℕ) → IsMember i t → IsMember i E
    on_ground t b i m =
        let y = b.2 i m in
        let h = b.1 y.0 y.1 in
        ⊎_elim (λ q. ground y.0 y.1 i (subst (λ z. IsNonzero (y.0 z)) q h.2))
        (λ n. absurd (zero_not_nonzero (y.0 h.0) (y.2 h.0 h.1 n) h.2)) (cases_eq h.0 i)

    pub extends_or_not : (a : List ℕ) → ExtendsToBase K c1 c3 a ⊎ (ExtendsToBase K c1 c3 a → ⊥)
    extends_or_not a =
        ⊎_elim
        (λ k. inl (k.0, k.2))
        (λ n. inr (λ g. n g.0 (on_ground (a ++ g.0 ∷ []) g.1 g.0 (member_middle g.0 a [])) g.1))
        (search_members (λ e. B (a ++ e ∷ [])) (λ e. B (a ++ e ∷ []) → ⊥) (λ e. dec_base (a ++ e ∷ [])) E)
