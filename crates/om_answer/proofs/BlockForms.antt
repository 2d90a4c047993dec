-- What lines of a form are not: the end line, or lines of another form; and how many of the last lines pass a test.
--
-- Main results: not_line, named_line, vector_no_weight, last_passing-append, all_passing, none_passing
use Rattle.std.proofs.Common.{◌≡◌, ℕ, suc, ◌+◌, List, [], ◌∷◌, ◌++◌, Bool, false, cond, length, map, refl, sym, ap}
use Rattle.std.proofs.Common.{subst, ◌∙◌, arith, inl, inr}
use Rattle.std.specs.Prelude.{Option, Some, None, codes, bytes_eq, option_and_then, is_some}
use Rattle.std.proofs.lemmas.Slice.Eq.{bytes_eq-Decides}
use Rattle.std.specs.List.{list_any}
use Rattle.std.proofs.lemmas.List.{map-append}
use Rattle.std.proofs.lemmas.Bool.{cases_Bool}
use Rattle.om_lines.specs.Lines.{is_line}
use Rattle.om_document.specs.Heading.{plain_numbers}
use Rattle.om_lines.proofs.WordLines.{is_line-Decides}
use Rattle.om_vectors.specs.WholeVectors.{WholeVector}
use Rattle.om_certificate.specs.declared.entry.Entry.{Entry}
use Rattle.om_certificate.specs.declared.weight.Weight.{Weight}
use Rattle.om_certificate.specs.declared.lp_end.LpEnd.{LpEnd}
use Rattle.om_answer.specs.Numbers.{numbers_within}
use Rattle.om_answer.specs.BlockLines.{after_name, strictness, vector_of, vector_from, entry_of, entry_from}
use Rattle.om_answer.specs.BlockLines.{entry_ranges, weight_of, weight_from, vector_ranges, weight_ranges}
use Rattle.om_answer.specs.BlockLines.{pivots_ranges, pivots_of, count_from, basis_of, some_of, width_of, width_after}
use Rattle.om_answer.specs.Block.{AreLinesOf}
use Rattle.om_answer.specs.ClaimFault.{last_passing}

-- a line that says something isn't one that says nothing
pub not_line : {A : Type 0} (f : List (List ℕ) → Option A) (l e : List (List ℕ)) (x : A) → f e ≡ None → f l ≡ Some x
    → is_line l e ≡ false
not_line {A = A} f l e x n h = elim (cases_Bool (is_line l e)) [
  | inl t ↦ let q : l ≡ e = (is_line-Decides l e).0 t in absurd (apart x (sym n ∙ ap f (sym q) ∙ h))
  | inr m ↦ m
]
  where
    apart : (x : A) → ◌≡◌ {A = Option A} None (Some x) → ⊥
    apart x h = cc

pub then_some : {A B : Type 0} (f : A → Option B) (o : Option A) (y : B) → option_and_then f o ≡ Some y → (x : A)
    × (o ≡ Some x) × (f x ≡ Some y)
then_some f None y h = cc
then_some f (Some x) y h = (x, refl, h)

pub named_line : (name : List ℕ) (w : List (List ℕ)) (ws : List (List ℕ)) → after_name name w ≡ Some ws → w ≡ name ∷ ws
named_line name [] ws h = cc
named_line name (v ∷ vs) ws h = elim (cases_Bool (bytes_eq v name)) [
  | inl e ↦ let q : v ≡ name = (bytes_eq-Decides v name).0 e in
      let g : ◌≡◌ {A = Option (List (List ℕ))} (Some vs) (Some ws) = rw e at h in
      let r : vs ≡ ws = some_same vs ws g in
      ap (λ x. x ∷ vs) q ∙ ap (λ x. name ∷ x) r
  | inr n ↦ let g : ◌≡◌ {A = Option (List (List ℕ))} None (Some ws) = rw n at h in cc
]
  where
    some_same : (a b : List (List ℕ)) → ◌≡◌ {A = Option (List (List ℕ))} (Some a) (Some b) → a ≡ b
    some_same a b h = cc

-- the first word of a vector line
pub vector_named : (l : List (List ℕ)) (v : WholeVector) → vector_of l ≡ Some v → (ws : List (List ℕ))
    × (l ≡ codes "vector" ∷ ws)
vector_named l v h =
    let a = then_some vector_from _ v h in
    let b = then_some (numbers_within vector_ranges) (after_name (codes "vector") l) a.0 a.1 in
    (b.0, named_line (codes "vector") l b.0 b.1)

pub weight_named : (l : List (List ℕ)) (w : Weight) → weight_of l ≡ Some w → (ws : List (List ℕ))
    × (l ≡ codes "weight" ∷ ws)
weight_named l w h =
    let a = then_some weight_from _ w h in
    let b = then_some (numbers_within weight_ranges) (after_name (codes "weight") l) a.0 a.1 in
    (b.0, named_line (codes "weight") l b.0 b.1)

pub vector_no_weight : (l : List (List ℕ)) (v : WholeVector) → vector_of l ≡ Some v → weight_of l ≡ None
vector_no_weight l v h = let n = vector_named l v h in rw n.1 refl

pub weight_no_vector : (l : List (List ℕ)) (w : Weight) → weight_of l ≡ Some w → vector_of l ≡ None
weight_no_vector l w h = let n = weight_named l w h in rw n.1 refl

-- the first word of an entry line
pub entry_named : (l : List (List ℕ)) (e : Entry) → entry_of l ≡ Some e → (vector_of l ≡ None) × (weight_of l ≡ None)
entry_named [] e h = cc
entry_named (w ∷ ws) e h =
    let a = then_some (λ strict. option_and_then (entry_from strict) (numbers_within entry_ranges ws)) (strictness w) e
    h in
    by_name a.0 a.1
  where
    none_of : (name : List ℕ) → w ≡ name → (vector_of (name ∷ ws) ≡ None) × (weight_of (name ∷ ws) ≡ None)
        → (vector_of (w ∷ ws) ≡ None) × (weight_of (w ∷ ws) ≡ None)
    none_of name q n = subst (λ x. (vector_of (x ∷ ws) ≡ None) × (weight_of (x ∷ ws) ≡ None)) (sym q) n

    by_name : (strict : Bool) → strictness w ≡ Some strict → (vector_of (w ∷ ws) ≡ None) × (weight_of (w ∷ ws) ≡ None)
    by_name strict g = elim (cases_Bool (bytes_eq w (codes "lt"))) [
      | inl e ↦ none_of (codes "lt") ((bytes_eq-Decides w (codes "lt")).0 e) (refl, refl)
      | inr n ↦ elim (cases_Bool (bytes_eq w (codes "eq"))) [
        | inl e ↦ none_of (codes "eq") ((bytes_eq-Decides w (codes "eq")).0 e) (refl, refl)
        | inr m ↦ let k : ◌≡◌ {A = Option Bool} None (Some strict) = rw (n, m) at g in cc
      ]
    ]

pub pivots_named : (l : List (List ℕ)) (p : ℕ) → pivots_of l ≡ Some p → (vector_of l ≡ None) × (weight_of l ≡ None)
pivots_named l p h =
    let a = then_some count_from _ p h in
    let b = then_some (numbers_within pivots_ranges) (after_name (codes "pivots") l) a.0 a.1 in
    let n = named_line (codes "pivots") l b.0 b.1 in
    (rw n refl, rw n refl)

pub basis_named : (l : List (List ℕ)) (b : List ℕ) → basis_of l ≡ Some b → (vector_of l ≡ None) × (weight_of l ≡ None)
basis_named l b h =
    let a = then_some some_of _ b h in
    let c = then_some plain_numbers (after_name (codes "basis") l) a.0 a.1 in
    let n = named_line (codes "basis") l c.0 c.1 in
    (rw n refl, rw n refl)

pub width_named : (l : List (List ℕ)) (e : LpEnd) → width_of l ≡ Some e → (vector_of l ≡ None) × (weight_of l ≡ None)
width_named l e h =
    let a = then_some width_after (after_name (codes "width") l) e h in
    let n = named_line (codes "width") l a.0 a.1 in
    (rw n refl, rw n refl)

-- a line with a width has no budget of pivots
pub width_no_pivots : (l : List (List ℕ)) (e : LpEnd) → width_of l ≡ Some e → pivots_of l ≡ None
width_no_pivots l e h =
    let a = then_some width_after (after_name (codes "width") l) e h in
    let n = named_line (codes "width") l a.0 a.1 in
    rw n refl

-- ---- the last lines that pass a test

pub last_passing-append : (p : List (List ℕ) → Bool) (k : ℕ) (xs ys : List (List (List ℕ)))
    → last_passing p k (xs ++ ys) ≡ last_passing p (last_passing p k xs) ys
last_passing-append p k [] ys = refl
last_passing-append p k (x ∷ xs) ys = last_passing-append p (cond (p x) (suc k) 0) xs ys

-- lines of a form, each with an item
pub lines_head : {A : Type 0} (f : List (List ℕ) → Option A) (l : List (List ℕ)) (ls : List (List (List ℕ))) (x : A)
    (xs : List A) → AreLinesOf f (l ∷ ls) (x ∷ xs) → f l ≡ Some x
lines_head {A = A} f l ls x xs h = head (f l) (Some x) (map f ls) (map Some xs) h
  where
    head : (a b : Option A) (as' bs : List (Option A)) → ◌≡◌ {A = List (Option A)} (a ∷ as') (b ∷ bs) → a ≡ b
    head a b as' bs h = cc

pub lines_tail : {A : Type 0} (f : List (List ℕ) → Option A) (l : List (List ℕ)) (ls : List (List (List ℕ))) (x : A)
    (xs : List A) → AreLinesOf f (l ∷ ls) (x ∷ xs) → AreLinesOf f ls xs
lines_tail {A = A} f l ls x xs h = tail (f l) (Some x) (map f ls) (map Some xs) h
  where
    tail : (a b : Option A) (as' bs : List (Option A)) → ◌≡◌ {A = List (Option A)} (a ∷ as') (b ∷ bs) → as' ≡ bs
    tail a b as' bs h = cc

-- one more line with its item
pub lines_more : {A : Type 0} (f : List (List ℕ) → Option A) (ls : List (List (List ℕ))) (xs : List A)
    (l : List (List ℕ)) (x : A) → AreLinesOf f ls xs → f l ≡ Some x → AreLinesOf f (ls ++ l ∷ []) (xs ++ x ∷ [])
lines_more f ls xs l x h e = map-append f ls (l ∷ []) ∙ ap (λ r. r ++ f l ∷ []) h ∙ ap (λ o. map Some xs ++ o ∷ []) e
    ∙ sym (map-append Some xs (x ∷ []))

-- no line of a form that the end line hasn't is the end line
pub lines_not : {A : Type 0} (f : List (List ℕ) → Option A) (e : List (List ℕ)) (ls : List (List (List ℕ)))
    (xs : List A) → f e ≡ None → AreLinesOf f ls xs → list_any (λ l. is_line l e) ls ≡ false
lines_not f e [] xs n h = refl
lines_not f e (l ∷ ls) [] n h = cc
lines_not f e (l ∷ ls) (x ∷ xs) n h =
    rw (not_line f l e x n (lines_head f l ls x xs h)) (lines_not f e ls xs n (lines_tail f l ls x xs h))

-- all pass, or none does
pub all_passing : {A : Type 0} (f : List (List ℕ) → Option A) (k : ℕ) (ls : List (List (List ℕ))) (xs : List A)
    → AreLinesOf f ls xs → last_passing (λ l. is_some (f l)) k ls ≡ k + length xs
all_passing f k [] [] h = omega arith
all_passing f k [] (x ∷ xs) h = cc
all_passing f k (l ∷ ls) [] h = cc
all_passing f k (l ∷ ls) (x ∷ xs) h =
    let e = lines_head f l ls x xs h in
    let a = all_passing f (suc k) ls xs (lines_tail f l ls x xs h) in
    let q : suc k + length xs ≡ k + suc (length xs) = omega arith in
    rw e (a ∙ q)

pub none_passing : {A B : Type 0} (f : List (List ℕ) → Option A) (g : List (List ℕ) → Option B)
    (apart : (l : List (List ℕ)) (x : A) → f l ≡ Some x → g l ≡ None) (ls : List (List (List ℕ))) (xs : List A)
    → AreLinesOf f ls xs → last_passing (λ l. is_some (g l)) 0 ls ≡ 0
none_passing f g apart [] xs h = refl
none_passing f g apart (l ∷ ls) [] h = cc
none_passing f g apart (l ∷ ls) (x ∷ xs) h =
    rw (apart l x (lines_head f l ls x xs h)) (none_passing f g apart ls xs (lines_tail f l ls x xs h))
