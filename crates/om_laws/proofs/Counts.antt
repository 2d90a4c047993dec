-- How many members of a list have a decided property.
--
-- Main definitions: count.
-- Main results: a stronger property, that one member lacks, has fewer (count_less).
use Rattle.std.specs.Prelude.{◌≡◌, ◌⊎◌, ℕ, ◌≤◌, List, [], ◌∷◌, refl}
use Rattle.std.proofs.Common.{suc, subst, ⊎_elim, inl, inr, arith}
use Rattle.om_laws.specs.Members.{IsMember}

-- how many members of a list have a decided property
module _ (P N : ℕ → Type 0) (dec : (x : ℕ) → P x ⊎ N x) where
  pub count : List ℕ → ℕ
  count [] = 0
  count (a ∷ l) = ⊎_elim (λ p. suc (count l)) (λ n. count l) (dec a)

count_none : (P N : ℕ → Type 0) (dec : (x : ℕ) → P x ⊎ N x) → count P N dec [] ≡ 0
unfolding count
count_none P N dec = refl

count_yes : (P N : ℕ → Type 0) (dec : (x : ℕ) → P x ⊎ N x) → ((x : ℕ) → P x → N x → ⊥) → (a : ℕ) (l : List ℕ) → P a
    → count P N dec (a ∷ l) ≡ suc (count P N dec l)
unfolding count
count_yes P N dec apart a l p = elim (dec a) as
    (λ d. ⊎_elim (λ q. suc (count P N dec l)) (λ n. count P N dec l) d ≡ suc (count P N dec l))
    [ inl q ↦ refl | inr n ↦ absurd (apart a p n) ]

count_no : (P N : ℕ → Type 0) (dec : (x : ℕ) → P x ⊎ N x) → ((x : ℕ) → P x → N x → ⊥) → (a : ℕ) (l : List ℕ) → N a
    → count P N dec (a ∷ l) ≡ count P N dec l
unfolding count
count_no P N dec apart a l n = elim (dec a) as
    (λ d. ⊎_elim (λ q. suc (count P N dec l)) (λ m. count P N dec l) d ≡ count P N dec l)
    [ inl q ↦ absurd (apart a q n) | inr m ↦ refl ]

module _ (P N : ℕ → Type 0) (dec : (x : ℕ) → P x ⊎ N x) (apart : (x : ℕ) → P x → N x → ⊥)
    (P' N' : ℕ → Type 0) (dec' : (x : ℕ) → P' x ⊎ N' x) (apart' : (x : ℕ) → P' x → N' x → ⊥)
    (sub : (x : ℕ) → P' x → P x) where
  count_le : (l : List ℕ) → count P' N' dec' l ≤ count P N dec l
  count_le [] = let a = count_none P N dec in let b = count_none P' N' dec' in omega (arith, a, b)
  count_le (a ∷ l) =
      let h = count_le l in
      ⊎_elim
      (λ p. let x = count_yes P' N' dec' apart' a l p in let y = count_yes P N dec apart a l (sub a p) in
      omega (arith, h, x, y))
      (λ n.
      let x = count_no P' N' dec' apart' a l n in
      ⊎_elim (λ p. let y = count_yes P N dec apart a l p in omega (arith, h, x, y))
      (λ q. let y = count_no P N dec apart a l q in omega (arith, h, x, y)) (dec a))
      (dec' a)

  pub count_less : (l : List ℕ) (s : ℕ) → IsMember s l → P s → N' s → suc (count P' N' dec' l) ≤ count P N dec l
  count_less [] s m p n = absurd m
  count_less (a ∷ l) s (inl q) p n =
      let h = count_le l in
      let x = count_no P' N' dec' apart' a l (subst N' q n) in
      let y = count_yes P N dec apart a l (subst P q p) in
      omega (arith, h, x, y)
  count_less (a ∷ l) s (inr m) p n =
      let h = count_less l s m p n in
      ⊎_elim
      (λ q. let x = count_yes P' N' dec' apart' a l q in let y = count_yes P N dec apart a l (sub a q) in
      omega (arith, h, x, y))
      (λ q.
      let x = count_no P' N' dec' apart' a l q in
      ⊎_elim (λ r. let y = count_yes P N dec apart a l r in omega (arith, h, x, y))
      (λ r. let y = count_no P N dec apart a l r in omega (arith, h, x, y)) (dec a))
      (dec' a)
