-- The order of the lawful statements.
--
-- Main results: before_total, before_self, before_then, and same_statement, that the seven numbers determine a lawful
-- statement.
use Rattle.std.specs.Prelude.{ℕ, ◌≡◌, ◌≢◌, List, [], ◌∷◌, length, cond, Bool, true, false}
use Rattle.std.proofs.Common.{refl, sym, ◌∙◌, ap, arith, inl, inr, ◌⊎◌}
use Rattle.std.proofs.lemmas.Bool.{cases_eq, cases_lt}
use Rattle.om_signs.specs.declared.sign.Sign.{Sign}
use Rattle.om_signs.specs.declared.sign.Sign.TheVariants.{Zero}
use Rattle.om_subsets.specs.Lists as lists
use Rattle.om_chirotope.specs.Map.{SignMap}
use Rattle.om_grassmann.specs.declared.statement.Statement.{Statement}
use Rattle.om_grassmann.specs.Terms.{term, third}
use Rattle.om_grassmann.specs.Statements.{IsLawful}
use Rattle.om_grassmann.specs.Order.{numbers, IsBefore}

-- ---- lists of one size

lists_total : (xs ys : List ℕ) → length xs ≡ length ys → lists.IsBefore xs ys ⊎ ((xs ≡ ys) ⊎ lists.IsBefore ys xs)
lists_total [] [] l = inr (inl refl)
lists_total [] (y ∷ ys) l = absurd (omega arith)
lists_total (x ∷ xs) [] l = absurd (omega arith)
lists_total (x ∷ xs) (y ∷ ys) l = elim (cases_lt x y) [
  | inl lt ↦ inl (inl lt)
  | inr ge ↦ elim (cases_eq x y) [
    | inl q ↦ behind q (lists_total xs ys (omega arith))
    | inr n ↦ inr (inr (inl (omega arith)))
  ]
]
  where
    behind : x ≡ y → lists.IsBefore xs ys ⊎ ((xs ≡ ys) ⊎ lists.IsBefore ys xs) → lists.IsBefore (x ∷ xs) (y ∷ ys)
        ⊎ (((x ∷ xs) ≡ (y ∷ ys)) ⊎ lists.IsBefore (y ∷ ys) (x ∷ xs))
    behind q (inl b) = inl (inr (q, b))
    behind q (inr (inl e)) = inr (inl (cc))
    behind q (inr (inr b)) = inr (inr (inr (sym q, b)))

lists_self : (xs : List ℕ) → lists.IsBefore xs xs → ⊥
lists_self [] h = h
lists_self (x ∷ xs) (inl lt) = omega arith
lists_self (x ∷ xs) (inr (q, b)) = lists_self xs b

lists_then : (xs ys zs : List ℕ) → lists.IsBefore xs ys → lists.IsBefore ys zs → lists.IsBefore xs zs
lists_then [] [] zs b d = absurd b
lists_then [] (y ∷ ys) [] b d = absurd d
lists_then [] (y ∷ ys) (z ∷ zs) b d = tt
lists_then (x ∷ xs) [] zs b d = absurd b
lists_then (x ∷ xs) (y ∷ ys) [] b d = absurd d
lists_then (x ∷ xs) (y ∷ ys) (z ∷ zs) (inl b) (inl d) = inl (omega arith)
lists_then (x ∷ xs) (y ∷ ys) (z ∷ zs) (inl b) (inr (q, d)) = inl (omega arith)
lists_then (x ∷ xs) (y ∷ ys) (z ∷ zs) (inr (p, b)) (inl d) = inl (omega arith)
lists_then (x ∷ xs) (y ∷ ys) (z ∷ zs) (inr (p, b)) (inr (q, d)) = inr (p ∙ q, lists_then xs ys zs b d)

-- ---- statements

-- no statement comes before itself
pub before_self : (s : Statement) → IsBefore s s → ⊥
before_self s b = lists_self (numbers s) b

-- the order of statements is transitive
pub before_then : (s t u : Statement) → IsBefore s t → IsBefore t u → IsBefore s u
before_then s t u b d = lists_then (numbers s) (numbers t) (numbers u) b d

-- a statement from its parts
unfoldable pub statement : ℕ → ℕ → ℕ → ℕ → ℕ → ℕ → ℕ → Bool → Statement
statement a b c d e i j strict = record { a = a; b = b; c = c; d = d; e = e; small = i; big = j; strict = strict }

equal_parts : (s t : Statement) → numbers s ≡ numbers t → s.strict ≡ t.strict
    → statement s.a s.b s.c s.d s.e s.small s.big s.strict ≡ statement t.a t.b t.c t.d t.e t.small t.big t.strict
equal_parts s t n k = cc

from_parts : (s t : Statement) → statement s.a s.b s.c s.d s.e s.small s.big s.strict
    ≡ statement t.a t.b t.c t.d t.e t.small t.big t.strict → s ≡ t
unfolding statement
from_parts s t e = e

-- the third term tells a strict statement from an equation
same_kind : (p q : Bool) (small third : Sign) → small ≢ Zero → third ≡ cond p small Zero → third ≡ cond q small Zero
    → p ≡ q
same_kind true true s t n a b = refl
same_kind false false s t n a b = refl
same_kind true false s t n a b = absurd (n (sym a ∙ b))
same_kind false true s t n a b = absurd (n (sym b ∙ a))

same_term : (m : SignMap) (s t : Statement) (i j : ℕ) → numbers s ≡ numbers t → i ≡ j → term m s i ≡ term m t j
same_term m s t i j n e =
    let a : s.a ≡ t.a = cc in
    let b : s.b ≡ t.b = cc in
    let c : s.c ≡ t.c = cc in
    let d : s.d ≡ t.d = cc in
    let f : s.e ≡ t.e = cc in
    rw (a, b, c, d, f, e) refl

pub same_statement : (m : SignMap) (s t : Statement) → IsLawful m s → IsLawful m t → numbers s ≡ numbers t → s ≡ t
same_statement m s t hs ht n =
    let i : s.small ≡ t.small = cc in
    let j : s.big ≡ t.big = cc in
    let k : third s.small s.big ≡ third t.small t.big = cc in
    let x = same_term m s t s.small t.small n i in
    let y = same_term m s t (third s.small s.big) (third t.small t.big) n k in
    let rest : term m s (third s.small s.big) ≡ cond t.strict (term m s s.small) Zero = y ∙ ht.signs.rest
    ∙ ap (λ z. cond t.strict z Zero) (sym x) in
    from_parts s t
    (equal_parts s t n
    (same_kind s.strict t.strict (term m s s.small) (term m s (third s.small s.big)) hs.signs.nonzero hs.signs.rest
    rest))

-- of two lawful statements one comes before the other, or they are equal
pub before_total : (m : SignMap) (s t : Statement) → IsLawful m s → IsLawful m t → IsBefore s t
    ⊎ ((s ≡ t) ⊎ IsBefore t s)
before_total m s t hs ht = elim (lists_total (numbers s) (numbers t) refl) [
  | inl b ↦ inl b
  | inr (inl e) ↦ inr (inl (same_statement m s t hs ht e))
  | inr (inr b) ↦ inr (inr b)
]
