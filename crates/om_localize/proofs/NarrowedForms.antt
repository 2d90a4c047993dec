-- One sign more of a signature leaves the open forms that have it.
--
-- Main results: at_first, at_second, narrowed, written
use Rattle.std.proofs.Common.{ℕ, ◌≡◌, ◌≢◌, ◌+◌, ◌-◌, ◌<◌, ◌≤◌, ◌⊎◌, ◌↔◌, List, [], ◌∷◌, ◌++◌, length, get_or, sym, ◌∙◌}
use Rattle.std.proofs.Common.{ap, subst, ⊎_elim, arith, inl, inr, bit_and, set}
use Rattle.std.specs.Int.{bit_at}
use Rattle.std.proofs.lemmas.Bool.{cases_lt, cases_eq}
use Rattle.std.proofs.lemmas.List.{length-set, length-append}
use Rattle.om_signs.specs.declared.sign.Sign.{Sign}
use Rattle.om_signs.specs.Sign.{opposite}
use Rattle.om_signs.specs.SignVec.{at}
use Rattle.om_signs.proofs.Bits.{bit_at_and_one}
use Rattle.om_subsets.specs.Subsets.{rank_of}
use Rattle.om_localize.specs.declared.circles.TheConstants.{MAX_OLD}
use Rattle.om_localize.specs.Circles.{signs_on_circle}
use Rattle.om_localize.specs.Masks.{mask_place, HasSign, IsPairAt, IsDecided, AreOpen, cut_entry, narrowed_forms}
use Rattle.om_localize.proofs.PairLaws.{same_pair}
use Rattle.om_localize.proofs.CircleSigns.{low_sign, turned_sign, decided_same, at_pushed, last_pushed, entry_same}
use Rattle.om_localize.proofs.CircleSigns.{entry_other}

-- one sign more leaves the forms that have it
module _ (n : ℕ) (masks : List ℕ) (signs : List Sign) (a b : ℕ) (s : Sign) (forms : List ℕ) (few : n ≤ MAX_OLD)
    (b_high : b ≤ n)
    (pair : IsPairAt n (length signs) a b) (open_forms : AreOpen n masks signs forms)
  where
    a_low : 1 ≤ a
    a_low = pair.low

    ordered : a < b
    ordered = pair.order

    pushed : List Sign
    pushed = signs ++ s ∷ []

    size : length (signs ++ s ∷ []) ≡ length signs + 1
    size = let l = length-append signs (s ∷ []) in omega arith

    -- what was decided is decided with the same sign
    decided_later : (e f : ℕ) → IsDecided n (length signs) e f → IsDecided n (length (signs ++ s ∷ [])) e f
    decided_later e f (inl q) = inl q
    decided_later e f (inr (inl (lt, r))) = inr (inl (lt, (let z = size in omega (arith, z, r))))
    decided_later e f (inr (inr (lt, r))) = inr (inr (lt, (let z = size in omega (arith, z, r))))

    same_later : (e f : ℕ) → 1 ≤ e → e ≤ n → 1 ≤ f → f ≤ n → IsDecided n (length signs) e f
        → signs_on_circle n signs e f ≡ signs_on_circle n (signs ++ s ∷ []) e f
    same_later = decided_same n (length signs) signs (signs ++ s ∷ []) (λ i l. sym (at_pushed signs s i l))

    -- what is decided now was decided, or is the new pair
    abbrev IsNewPair : ℕ → ℕ → Type 0
    IsNewPair e f = ((e ≡ a) × (f ≡ b)) ⊎ ((e ≡ b) × (f ≡ a))

    decided_now : (e f : ℕ) → 1 ≤ e → e ≤ n → 1 ≤ f → f ≤ n → IsDecided n (length (signs ++ s ∷ [])) e f
        → IsDecided n (length signs) e f ⊎ IsNewPair e f
    decided_now e f el eh fl fh (inl q) = inl (inl q)
    decided_now e f el eh fl fh (inr (inl (lt, r))) = elim (cases_lt (rank_of n (e ∷ f ∷ [])) (length signs)) [
      | inl less ↦ inl (inr (inl (lt, less)))
      | inr ge ↦ let z = size in let p = pair.place in let q =
          same_pair n e f a b el lt fh a_low ordered b_high (omega (arith, z, r, ge, p)) in
          inr (inl (q.first, q.second))
    ]
    decided_now e f el eh fl fh (inr (inr (lt, r))) = elim (cases_lt (rank_of n (f ∷ e ∷ [])) (length signs)) [
      | inl less ↦ inl (inr (inr (lt, less)))
      | inr ge ↦ let z = size in let p = pair.place in let q =
          same_pair n f e a b fl lt eh a_low ordered b_high (omega (arith, z, r, ge, p)) in
          inr (inr (q.second, q.first))
    ]

    sign_at_pair : signs_on_circle n (signs ++ s ∷ []) a b ≡ s
    sign_at_pair = low_sign n (signs ++ s ∷ []) a b a_low ordered b_high ∙ ap (at (signs ++ s ∷ [])) pair.place
        ∙ last_pushed signs s

    sign_turned : signs_on_circle n (signs ++ s ∷ []) b a ≡ opposite s
    sign_turned = turned_sign n (signs ++ s ∷ []) a b ∙ ap opposite sign_at_pair

    pair_decided : IsDecided n (length (signs ++ s ∷ [])) a b
    pair_decided = inr (inl (ordered, (let z = size in let p = pair.place in omega (arith, z, p))))

    pair_decided_turned : IsDecided n (length (signs ++ s ∷ [])) b a
    pair_decided_turned = inr (inr (ordered, (let z = size in let p = pair.place in omega (arith, z, p))))

    abbrev Told : List Sign → ℕ → ℕ → Type 0
    Told xs e k = (f : ℕ) → 1 ≤ f → f ≤ n → IsDecided n (length xs) e f → HasSign masks e f (signs_on_circle n xs e f) k

    told_before : (e k : ℕ) → 1 ≤ e → e ≤ n → Told (signs ++ s ∷ []) e k → Told signs e k
    told_before e k el eh h f fl fh d =
        subst (λ t. HasSign masks e f t k) (sym (same_later e f el eh fl fh d)) (h f fl fh (decided_later e f d))

    told_now : (e k : ℕ) → 1 ≤ e → e ≤ n → Told signs e k
        → ((f : ℕ) → IsNewPair e f → HasSign masks e f (signs_on_circle n (signs ++ s ∷ []) e f) k)
        → Told (signs ++ s ∷ []) e k
    told_now e k el eh h new f fl fh d =
        ⊎_elim (λ old. subst (λ t. HasSign masks e f t k) (same_later e f el eh fl fh old) (h f fl fh old))
        (λ p. new f p) (decided_now e f el eh fl fh d)

    pub at_first : get_or (narrowed_forms masks a b s forms) (a - 1) 0
        ≡ bit_and (get_or forms (a - 1) 0) (get_or masks (mask_place a b s) 0)
    at_first =
        let w = open_forms.whole in
        entry_other (cut_entry forms a (get_or masks (mask_place a b s) 0)) b a
        (get_or masks (mask_place b a (opposite s)) 0) (let l = a_low in let o = ordered in omega arith) a_low
        (let o = ordered in omega arith)
        ∙ entry_same forms a (get_or masks (mask_place a b s) 0) (let o = ordered in omega arith)

    pub at_second : get_or (narrowed_forms masks a b s forms) (b - 1) 0
        ≡ bit_and (get_or forms (b - 1) 0) (get_or masks (mask_place b a (opposite s)) 0)
    at_second =
        let w = open_forms.whole in
        let l = length-set forms (a - 1) (bit_and (get_or forms (a - 1) 0) (get_or masks (mask_place a b s) 0)) in
        entry_same (cut_entry forms a (get_or masks (mask_place a b s) 0)) b
        (get_or masks (mask_place b a (opposite s)) 0) (let o = ordered in let al = a_low in omega arith)
        ∙ ap (λ x. bit_and x (get_or masks (mask_place b a (opposite s)) 0))
        (entry_other forms a b (get_or masks (mask_place a b s) 0) a_low
        (let o = ordered in let al = a_low in omega arith) (let o = ordered in omega arith))

    pub at_third : (e : ℕ) → 1 ≤ e → e ≢ a → e ≢ b → get_or (narrowed_forms masks a b s forms) (e - 1) 0
        ≡ get_or forms (e - 1) 0
    at_third e el na nb =
        entry_other (cut_entry forms a (get_or masks (mask_place a b s) 0)) b e
        (get_or masks (mask_place b a (opposite s)) 0) (let o = ordered in omega arith) el nb
        ∙ entry_other forms a e (get_or masks (mask_place a b s) 0) a_low el na

    bits_first : (k : ℕ) → (bit_at (get_or (narrowed_forms masks a b s forms) (a - 1) 0) k ≡ 1)
        ↔ Told (signs ++ s ∷ []) a k
    bits_first k =
        let ah : a ≤ n = let o = ordered in omega arith in
        let two = bit_at_and_one (get_or forms (a - 1) 0) (get_or masks (mask_place a b s) 0) k in
        let old = open_forms.bits a a_low ah k in (
          λ h.
              let x = two.0 (subst (λ y. bit_at y k ≡ 1) at_first h) in
              told_now a k a_low ah (old.0 x.0) (λ f p. ⊎_elim
              (λ (u, v). subst (λ z. HasSign masks a z (signs_on_circle n (signs ++ s ∷ []) a z) k) (sym v)
              (subst (λ t. HasSign masks a b t k) (sym sign_at_pair) x.1))
              (λ (u, v). absurd (let o = ordered in omega arith))
              p),
          λ h. subst (λ y. bit_at y k ≡ 1) (sym at_first)
              (two.1 (
                old.1 (told_before a k a_low ah h),
                subst (λ t. HasSign masks a b t k) sign_at_pair
                    (h b (let o = ordered in omega arith) b_high pair_decided),
              )),
        )

    bits_second : (k : ℕ) → (bit_at (get_or (narrowed_forms masks a b s forms) (b - 1) 0) k ≡ 1)
        ↔ Told (signs ++ s ∷ []) b k
    bits_second k =
        let bl : 1 ≤ b = let o = ordered in omega arith in
        let ah : a ≤ n = let o = ordered in omega arith in
        let two = bit_at_and_one (get_or forms (b - 1) 0) (get_or masks (mask_place b a (opposite s)) 0) k in
        let old = open_forms.bits b bl b_high k in (
          λ h.
              let x = two.0 (subst (λ y. bit_at y k ≡ 1) at_second h) in
              told_now b k bl b_high (old.0 x.0) (λ f p. ⊎_elim
              (λ (u, v). absurd (let o = ordered in omega arith))
              (λ (u, v). subst (λ z. HasSign masks b z (signs_on_circle n (signs ++ s ∷ []) b z) k) (sym v)
              (subst (λ t. HasSign masks b a t k) (sym sign_turned) x.1))
              p),
          λ h. subst (λ y. bit_at y k ≡ 1) (sym at_second)
              (two.1 (
                old.1 (told_before b k bl b_high h),
                subst (λ t. HasSign masks b a t k) sign_turned (h a a_low ah pair_decided_turned),
              )),
        )

    bits_third : (e : ℕ) → 1 ≤ e → e ≤ n → e ≢ a → e ≢ b → (k : ℕ)
        → (bit_at (get_or (narrowed_forms masks a b s forms) (e - 1) 0) k ≡ 1) ↔ Told (signs ++ s ∷ []) e k
    bits_third e el eh na nb k =
        let old = open_forms.bits e el eh k in (
          λ h. told_now e k el eh (old.0 (subst (λ y. bit_at y k ≡ 1) (at_third e el na nb) h))
              (λ f p. ⊎_elim (λ (u, v). absurd (na u)) (λ (u, v). absurd (nb u)) p),
          λ h. subst (λ y. bit_at y k ≡ 1) (sym (at_third e el na nb)) (old.1 (told_before e k el eh h)),
        )

    pub narrowed : AreOpen n masks (signs ++ s ∷ []) (narrowed_forms masks a b s forms)
    narrowed = record {
      whole = length-set (cut_entry forms a (get_or masks (mask_place a b s) 0)) (b - 1) _ ∙ length-set forms (a - 1) _
          ∙ open_forms.whole;
      bits = λ e el eh k. elim (cases_eq e a) [
        | inl q ↦
            subst (λ z. (bit_at (get_or (narrowed_forms masks a b s forms) (z - 1) 0) k ≡ 1)
            ↔ Told (signs ++ s ∷ []) z k) (sym q) (bits_first k)
        | inr na ↦ elim (cases_eq e b) [
          | inl q ↦
              subst (λ z. (bit_at (get_or (narrowed_forms masks a b s forms) (z - 1) 0) k ≡ 1)
              ↔ Told (signs ++ s ∷ []) z k) (sym q) (bits_second k)
          | inr nb ↦ bits_third e el eh na nb k
        ]
      ];
    }

-- the table with both intersections, each with the table before, is narrowed
pub written : (masks forms : List ℕ) (a b : ℕ) (s : Sign) (first second : ℕ) → 1 ≤ a → a < b
    → first ≡ bit_and (get_or forms (a - 1) 0) (get_or masks (mask_place a b s) 0)
    → second ≡ bit_and (get_or forms (b - 1) 0) (get_or masks (mask_place b a (opposite s)) 0)
    → set (set forms (a - 1) first) (b - 1) second ≡ narrowed_forms masks a b s forms
written masks forms a b s first second low order p q =
    let cut = cut_entry forms a (get_or masks (mask_place a b s) 0) in
    let other : get_or cut (b - 1) 0 ≡ get_or forms (b - 1) 0 =
    entry_other forms a b _ low (omega (arith, low, order)) (λ e. omega (arith, e, order)) in
    ap (λ x. set (set forms (a - 1) x) (b - 1) second) p
    ∙ ap (set cut (b - 1)) (q ∙ ap (λ x. bit_and x (get_or masks (mask_place b a (opposite s)) 0)) (sym other))
