-- How many entries of a list are not in another.
--
-- Main definitions: missing.
-- Main results: an entry in the middle counts exactly if it is not in the other list (missing_middle_member,
-- missing_middle_other); a larger second list misses fewer (missing_less).
use Rattle.std.proofs.Common.{arith, subst, ◌≤◌, ℕ, suc, List, refl, inl, inr, sym, ap, ⊎_elim, ◌≡◌, ◌∷◌, ◌++◌, ◌∙◌, []}
use Rattle.om_laws.specs.Members.{IsMember}
use Rattle.om_laws.proofs.MemberLaws.{member_or_not}

-- how many entries of x aren't in y
pub missing : List ℕ → List ℕ → ℕ
missing y [] = 0
missing y (a ∷ x) = ⊎_elim (λ m. missing y x) (λ n. suc (missing y x)) (member_or_not a y)

pub missing_member : (y : List ℕ) (a : ℕ) (x : List ℕ) → IsMember a y → missing y (a ∷ x) ≡ missing y x
unfolding missing
missing_member y a x m = elim (member_or_not a y) as
    (λ d. ⊎_elim (λ m. missing y x) (λ n. suc (missing y x)) d ≡ missing y x) [ inl k ↦ refl | inr k ↦ absurd (k m) ]

pub missing_other : (y : List ℕ) (a : ℕ) (x : List ℕ) → (IsMember a y → ⊥) → missing y (a ∷ x) ≡ suc (missing y x)
unfolding missing
missing_other y a x m = elim (member_or_not a y) as
    (λ d. ⊎_elim (λ m. missing y x) (λ n. suc (missing y x)) d ≡ suc (missing y x))
    [ inl k ↦ absurd (m k) | inr k ↦ refl ]

-- an entry that is in t adds nothing to the number of entries that aren't in t
pub missing_middle_member : (t u : List ℕ) (a : ℕ) (v : List ℕ) → IsMember a t
    → missing t (u ++ a ∷ v) ≡ missing t (u ++ v)
missing_middle_member t [] a v m = missing_member t a v m
missing_middle_member t (c ∷ u) a v m =
    let h = missing_middle_member t u a v m in
    ⊎_elim
    (λ k. missing_member t c (u ++ a ∷ v) k ∙ h ∙ sym (missing_member t c (u ++ v) k))
    (λ k. missing_other t c (u ++ a ∷ v) k ∙ ap suc h ∙ sym (missing_other t c (u ++ v) k))
    (member_or_not c t)

-- an entry that isn't in t adds one to the number of entries that aren't in t
pub missing_middle_other : (t u : List ℕ) (a : ℕ) (v : List ℕ) → (IsMember a t → ⊥)
    → missing t (u ++ a ∷ v) ≡ suc (missing t (u ++ v))
missing_middle_other t [] a v m = missing_other t a v m
missing_middle_other t (c ∷ u) a v m =
    let h = missing_middle_other t u a v m in
    ⊎_elim
    (λ k. missing_member t c (u ++ a ∷ v) k ∙ h ∙ ap suc (sym (missing_member t c (u ++ v) k)))
    (λ k. missing_other t c (u ++ a ∷ v) k ∙ ap suc h ∙ ap suc (sym (missing_other t c (u ++ v) k)))
    (member_or_not c t)

pub missing_none : (y : List ℕ) → missing y [] ≡ 0
unfolding missing
missing_none y = refl

-- a larger second list
pub missing_le : (y z x : List ℕ) → ((g : ℕ) → IsMember g x → IsMember g y → IsMember g z) → missing z x ≤ missing y x
missing_le y z [] sub = let a = missing_none y in let b = missing_none z in omega (arith, a, b)
missing_le y z (a ∷ x) sub =
    let h = missing_le y z x (λ g m k. sub g (inr m) k) in
    ⊎_elim
    (λ m. let p = missing_member y a x m in let q = missing_member z a x (sub a (inl refl) m) in omega (arith, p, q, h))
    (λ n. ⊎_elim
    (λ m. let p = missing_other y a x n in let q = missing_member z a x m in omega (arith, p, q, h))
    (λ k. let p = missing_other y a x n in let q = missing_other z a x k in omega (arith, p, q, h))
    (member_or_not a z))
    (member_or_not a y)

pub missing_less : (y z x : List ℕ) → ((g : ℕ) → IsMember g x → IsMember g y → IsMember g z) → (s : ℕ) → IsMember s x
    → (IsMember s y → ⊥) → IsMember s z → suc (missing z x) ≤ missing y x
missing_less y z [] sub s m n k = absurd m
missing_less y z (a ∷ x) sub s m n k =
    let le = missing_le y z x (λ g j i. sub g (inr j) i) in
    ⊎_elim
    (λ q.
    let p = missing_other y a x (λ j. n (subst (λ i. IsMember i y) (sym q) j)) in
    let r = missing_member z a x (subst (λ i. IsMember i z) q k) in
    omega (arith, p, r, le))
    (λ j.
    let h = missing_less y z x (λ g i l. sub g (inr i) l) s j n k in
    ⊎_elim
    (λ i. let p = missing_member y a x i in let r = missing_member z a x (sub a (inl refl) i) in omega (arith, p, r, h))
    (λ i. let p = missing_other y a x i in
    ⊎_elim (λ l. let r = missing_member z a x l in omega (arith, p, r, h))
    (λ l. let r = missing_other z a x l in omega (arith, p, r, h)) (member_or_not a z))
    (member_or_not a y))
    m
