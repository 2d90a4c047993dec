-- How an increasing list begins.
--
-- Main results: least_first and last_first, the first number of a list; without_first, the list behind it;
-- first_below_second, its first two numbers; two_behind_first, one_behind_second and three_firsts, a list of three
-- numbers; same_members, lists with the same numbers are the same; same_chosen, sets with the same n and the same list
-- are the same.
use Rattle.std.proofs.Common.{ℕ, zero, suc, ◌≡◌, ◌+◌, ◌<◌, List, [], ◌∷◌, length, refl, sym, ◌∙◌, ap, subst, inl, inr}
use Rattle.std.proofs.Common.{arith}
use Rattle.std.proofs.lemmas.Bool.{cases_eq, eq-eqb}
use Rattle.om_subsets.specs.Members.{Chosen}
use Rattle.om_subsets.specs.Subsets.{IsSubsetFrom, IsMember, without_element}
use Rattle.om_subsets.proofs.Order.{members_from}
use Rattle.om_subsets.proofs.OneElement.{without_other}

-- what comes behind the first element is greater
above_head : (low m x : ℕ) (ys : List ℕ) → IsSubsetFrom low m (x ∷ ys) → (e : ℕ) → IsMember e ys → x < e
above_head low zero x ys h e q = absurd h
above_head low (suc m) x ys (inl (p, h)) e q = let b = members_from (low + 1) m e ys h q in omega arith
above_head low (suc m) x ys (inr (p, h)) e q = above_head (low + 1) m x ys h e q

without_first : (n x : ℕ) (ys : List ℕ) → IsSubsetFrom 1 n (x ∷ ys) → without_element x (x ∷ ys) ≡ ys
without_first n x ys h =
    rw (eq-eqb x x refl) (without_other x ys (λ q. let l = above_head 1 n x ys h x q in omega arith))

-- a member that no smaller number is comes first
pub least_first : (n e : ℕ) (xs : List ℕ) → IsSubsetFrom 1 n xs → IsMember e xs → ((k : ℕ) → k < e → IsMember k xs → ⊥)
    → xs ≡ e ∷ without_element e xs
least_first n e [] h q none = absurd q
least_first n e (x ∷ xs) h (inl q) none = ap (λ zs. x ∷ zs) (sym (without_first n x xs h))
    ∙ ap (λ k. k ∷ without_element k (x ∷ xs)) (sym q)
least_first n e (x ∷ xs) h (inr q) none = absurd (none x (above_head 1 n x xs h e q) (inl refl))

-- a member that is no number below n is n
pub last_first : (n : ℕ) (xs : List ℕ) → IsSubsetFrom 1 n xs → 0 < length xs → ((k : ℕ) → k < n → IsMember k xs → ⊥)
    → xs ≡ n ∷ without_element n xs
last_first n [] h l none = absurd (omega arith)
last_first n (x ∷ xs) h l none =
    let b = members_from 1 n x (x ∷ xs) h (inl refl) in
    elim (cases_eq x n) [
      | inl q ↦ least_first n n (x ∷ xs) h (inl (sym q)) none
      | inr ne ↦ absurd (none x (omega arith) (inl refl))
    ]

pub first_below_second : (n a b : ℕ) (xs ys zs : List ℕ) → IsSubsetFrom 1 n xs → xs ≡ a ∷ without_element a xs
    → ys ≡ without_element a xs → ys ≡ b ∷ zs → a < b
first_below_second n a b xs ys zs h e f g =
    above_head 1 n a (without_element a xs) (subst (IsSubsetFrom 1 n) e h) b (subst (IsMember b) (sym g ∙ f) (inl refl))

-- a list of three numbers: two are behind the first, one is behind the second, and none is behind the third
pub two_behind_first : (a : ℕ) (xs ys zs : List ℕ) → length xs ≡ 3 → xs ≡ a ∷ ys → zs ≡ ys → length zs ≡ 2
two_behind_first a xs ys zs l e f = let g = ap length e in rw f (omega arith)

pub one_behind_second : (b : ℕ) (xs ys zs : List ℕ) → length xs ≡ 2 → xs ≡ b ∷ ys → zs ≡ ys → length zs ≡ 1
one_behind_second b xs ys zs l e f = let g = ap length e in rw f (omega arith)

none_behind_third : (c : ℕ) (xs zs : List ℕ) → length xs ≡ 1 → xs ≡ c ∷ zs → xs ≡ c ∷ []
none_behind_third c xs [] l e = e
none_behind_third c xs (z ∷ zs) l e = absurd (let g = ap length e in omega arith)

pub three_firsts : (a b c : ℕ) (xs ys zs us vs ws : List ℕ) → length zs ≡ 1 → xs ≡ a ∷ us → ys ≡ us → ys ≡ b ∷ vs
    → zs ≡ vs → zs ≡ c ∷ ws → xs ≡ a ∷ b ∷ c ∷ []
three_firsts a b c xs ys zs us vs ws l e f g h i =
    e ∙ ap (λ k. a ∷ k) (sym f ∙ g ∙ ap (λ k. b ∷ k) (sym h ∙ none_behind_third c zs ws l i))

pub none_at_zero : (n k : ℕ) (xs : List ℕ) → IsSubsetFrom 1 n xs → k < 1 → IsMember k xs → ⊥
none_at_zero n k xs h l q = let b = members_from 1 n k xs h q in omega arith

-- lists with the same numbers
pub same_members : (low m : ℕ) (xs ys : List ℕ) → IsSubsetFrom low m xs → IsSubsetFrom low m ys
    → ((e : ℕ) → IsMember e xs → IsMember e ys) → ((e : ℕ) → IsMember e ys → IsMember e xs) → xs ≡ ys
same_members low m [] [] a b h k = refl
same_members low m [] (y ∷ ys) a b h k = absurd (k y (inl refl))
same_members low m (x ∷ xs) [] a b h k = absurd (h x (inl refl))
same_members low zero (x ∷ xs) (y ∷ ys) a b h k = absurd a
same_members low (suc m) (x ∷ xs) (y ∷ ys) (inl a) (inl b) h k =
    let i = same_members (low + 1) m xs ys a.1 b.1
    (λ e p. elim (h e (inr p)) [
      | inl q ↦ let l = members_from (low + 1) m e xs a.1 p in let z = b.0 in
          absurd (omega arith)
      | inr r ↦ r
    ])
    (λ e p. elim (k e (inr p)) [
      | inl q ↦ let l = members_from (low + 1) m e ys b.1 p in let z = a.0 in
          absurd (omega arith)
      | inr r ↦ r
    ]) in
    let p = a.0 in
    let q = b.0 in
    cc
same_members low (suc m) (x ∷ xs) (y ∷ ys) (inl a) (inr b) h k = let l =
    members_from (low + 1) m x (y ∷ ys) b.1 (h x (inl refl)) in let z = a.0 in absurd (omega arith)
same_members low (suc m) (x ∷ xs) (y ∷ ys) (inr a) (inl b) h k = let l =
    members_from (low + 1) m y (x ∷ xs) a.1 (k y (inl refl)) in let z = b.0 in absurd (omega arith)
same_members low (suc m) (x ∷ xs) (y ∷ ys) (inr a) (inr b) h k = same_members (low + 1) m (x ∷ xs) (y ∷ ys) a.1 b.1 h k

-- sets with the same n and the same list are the same
pub same_chosen : (s t : Chosen) → s.n ≡ t.n → s.elements ≡ t.elements → s ≡ t
same_chosen s t n e = ap (λ k. record { n = k; elements = s.elements }) n
    ∙ ap (λ xs. record { n = t.n; elements = xs }) e
