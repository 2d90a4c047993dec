-- What the lines of a block say is in form, so that a verdict that was read can be printed.
--
-- Main results: number_in and numbers_in, that numbers that are read are in their ranges; entry_form and weight_form,
-- of one line; each_line, of all lines; verdict_form, of a block.
use Rattle.std.proofs.Common.{◌≡◌, ℕ, zero, suc, ◌+◌, ◌-◌, ◌*◌, ◌<◌, ◌≤◌, List, [], ◌∷◌, Bool, true, not, ◌||◌, length}
use Rattle.std.proofs.Common.{refl, ap, subst, arith, inl, inr}
use Rattle.std.specs.Prelude.{ℤ, pos, negsuc, unsigned_abs, Option, Some, None, IfSome, codes, nat_eq, nat_le, nat_lt}
use Rattle.std.specs.Prelude.{◌&&◌, All, option_map, option_and_then}
use Rattle.std.specs.List.{list_all}
use Rattle.std.proofs.Math.Nat.{mul-le-mul_left}
use Rattle.std.proofs.lemmas.Bool.{leb-true, ltb-true, cases_Bool, and_parts}
use Rattle.std.proofs.lemmas.Int.{ints}
use Rattle.std.proofs.lemmas.List.Elements.{All-nil, All-cons}
use Rattle.om_signs.specs.declared.limits.TheConstants.{MAX_PIVOTS, MAX_PLAIN, MAX_PLAIN_DIGITS}
use Rattle.om_vectors.specs.WholeVectors.{IsWithinLimit}
use Rattle.om_vectors.specs.declared.unfound.Unfound.{Unfound}
use Rattle.om_grassmann.specs.Statements.{IsElement}
use Rattle.om_simplex.specs.declared.stage.Stage.{Stage}
use Rattle.om_certificate.specs.declared.lp_end.LpEnd.{LpEnd}
use Rattle.om_certificate.specs.declared.verdict.Verdict.{Verdict}
use Rattle.om_certificate.specs.Forms.{IsEntryInForm, IsWeightInForm, IsEndInForm, IsSearchInForm, IsVerdictInForm}
use Rattle.om_document.specs.Heading.{with_item, plain_numbers}
use Rattle.om_lines.specs.Words.{is_digit, number_from, begins_with, is_decimal, is_plain, unsigned, plain}
use Rattle.om_lines.proofs.Digits.{ten, unsigned_within, signed_within}
use Rattle.om_answer.specs.declared.range.Range.{Range}
use Rattle.om_answer.specs.declared.range.Range.TheVariants.{Between, UpToSize}
use Rattle.om_answer.specs.Numbers.{at_least, number_within, numbers_within, IsIn, AreIn}
use Rattle.om_answer.specs.BlockLines.{after_name, vector_ranges, vector_from, vector_of, entry_ranges, entry_from}
use Rattle.om_answer.specs.BlockLines.{strictness, entry_of, weight_ranges, weight_from, weight_of, count_from}
use Rattle.om_answer.specs.BlockLines.{pivots_ranges, pivots_of, some_of, basis_of, stage_of, width_from, width_ranges}
use Rattle.om_answer.specs.BlockLines.{width_after, width_of}
use Rattle.om_answer.specs.Block.{AreLinesOf, IsSearchEnd, IsTableauEnd, IsBlock, exhausted, frontier, pivots, width}
use Rattle.om_answer.specs.Block.{realizable, nonrealizable, undecided, limit}
use Rattle.om_answer.proofs.BlockForms.{lines_head, lines_tail}

-- ---- numbers in their ranges

pub some_at : {A : Type 0} (P : A → Type 0) (o : Option A) (x : A) → IfSome o P → o ≡ Some x → P x
some_at P o x h e = subst (λ o. IfSome o P) e h

-- what holds of the numbers of words holds of what is made of them
from_some : {A B : Type 0} (P : A → Type 0) (Q : B → Type 0) (f : A → Option B) (o : Option A) → IfSome o P
    → ((x : A) → P x → IfSome (f x) Q) → IfSome (option_and_then f o) Q
from_some P Q f None h g = tt
from_some P Q f (Some x) h g = g x h

pub number_in : (r : Range) (w : List ℕ) → IfSome (number_within r w) (IsIn r)
number_in (UpToSize size) w = signed_within size w
number_in (Between low high) w = between (unsigned high w) (unsigned_within high w)
  where
    between : (o : Option ℕ) → IfSome o (λ k. k ≤ high)
        → IfSome (option_map pos (option_and_then (at_least low) o)) (IsIn (Between low high))
    between None h = tt
    between (Some k) h = elim (cases_Bool (nat_le low k)) [
      | inl e ↦ let l = leb-true low k e in rw e (omega (arith, ints, l), omega (arith, ints, h))
      | inr n ↦ rw n tt
    ]

pub numbers_in : (rs : List Range) (ws : List (List ℕ))
    → IfSome (numbers_within rs ws) (λ zs. (length ws ≡ length rs) × AreIn rs zs)
numbers_in [] [] = (refl, tt)
numbers_in [] (w ∷ ws) = tt
numbers_in (r ∷ rs) [] = tt
numbers_in (r ∷ rs) (w ∷ ws) = joined (number_within r w) (numbers_within rs ws) (number_in r w) (numbers_in rs ws)
  where
    joined : (o : Option ℤ) (p : Option (List ℤ)) → IfSome o (IsIn r)
        → IfSome p (λ zs. (length ws ≡ length rs) × AreIn rs zs)
        → IfSome (with_item o p) (λ zs. (suc (length ws) ≡ suc (length rs)) × AreIn (r ∷ rs) zs)
    joined None p h k = tt
    joined (Some z) None h k = tt
    joined (Some z) (Some zs) h k = (ap suc k.0, (h, k.1))

-- the size of a number between two natural ones
least_size : (low high : ℕ) (z : ℤ) → IsIn (Between low high) z → low ≤ unsigned_abs z
least_size low high (pos k) h = omega (arith, ints, h.0)
least_size low high (negsuc k) h = absurd (omega (arith, ints, h.0))

most_size : (low high : ℕ) (z : ℤ) → IsIn (Between low high) z → unsigned_abs z ≤ high
most_size low high (pos k) h = omega (arith, ints, h.1)
most_size low high (negsuc k) h = absurd (omega (arith, ints, h.0))

element_in : (n : ℕ) (z : ℤ) → IsIn (Between 1 n) z → IsElement n (unsigned_abs z)
element_in n z h = record { low = least_size 1 n z h; high = most_size 1 n z h }

-- the numbers behind a name
named_in : {B : Type 0} (Q : B → Type 0) (rs : List Range) (f : List ℤ → Option B)
    → ((zs : List ℤ) → AreIn rs zs → IfSome (f zs) Q) → (o : Option (List (List ℕ)))
    → IfSome (option_and_then f (option_and_then (numbers_within rs) o)) Q
named_in Q rs f each None = tt
named_in Q rs f each (Some ws) =
    from_some (λ zs. (length ws ≡ length rs) × AreIn rs zs) Q f (numbers_within rs ws) (numbers_in rs ws)
    (λ zs h. each zs h.1)

-- ---- lines

vector_form : (w : List (List ℕ)) → IfSome (vector_of w) IsWithinLimit
vector_form w = named_in IsWithinLimit vector_ranges vector_from in_limit (after_name (codes "vector") w)
  where
    in_limit : (zs : List ℤ) → AreIn vector_ranges zs → IfSome (vector_from zs) IsWithinLimit
    in_limit [] h = tt
    in_limit (x ∷ []) h = tt
    in_limit (x ∷ y ∷ []) h = tt
    in_limit (x ∷ y ∷ z ∷ []) h = record { x = h.0; y = h.1.0; z = h.1.1.0 }
    in_limit (x ∷ y ∷ z ∷ u ∷ zs) h = tt

entry_in : (strict : Bool) (zs : List ℤ) → AreIn entry_ranges zs → IfSome (entry_from strict zs) IsEntryInForm
entry_in strict [] h = tt
entry_in strict (a ∷ []) h = tt
entry_in strict (a ∷ b ∷ []) h = tt
entry_in strict (a ∷ b ∷ c ∷ []) h = tt
entry_in strict (a ∷ b ∷ c ∷ d ∷ []) h = tt
entry_in strict (a ∷ b ∷ c ∷ d ∷ e ∷ []) h = tt
entry_in strict (a ∷ b ∷ c ∷ d ∷ e ∷ f ∷ []) h = tt
entry_in strict (a ∷ b ∷ c ∷ d ∷ e ∷ f ∷ g ∷ []) h = tt
entry_in strict (a ∷ b ∷ c ∷ d ∷ e ∷ f ∷ g ∷ t ∷ []) h = record {
  a = element_in _ a h.0;
  b = element_in _ b h.1.0;
  c = element_in _ c h.1.1.0;
  d = element_in _ d h.1.1.1.0;
  e = element_in _ e h.1.1.1.1.0;
  small = element_in _ f h.1.1.1.1.1.0;
  big = element_in _ g h.1.1.1.1.1.1.0;
  times = record { low = least_size _ _ t h.1.1.1.1.1.1.1.0; high = most_size _ _ t h.1.1.1.1.1.1.1.0 };
}
entry_in strict (a ∷ b ∷ c ∷ d ∷ e ∷ f ∷ g ∷ t ∷ u ∷ zs) h = tt

pub entry_form : (w : List (List ℕ)) → IfSome (entry_of w) IsEntryInForm
entry_form [] = tt
entry_form (w ∷ ws) = named (strictness w)
  where
    named : (o : Option Bool)
        → IfSome (option_and_then (λ strict. option_and_then (entry_from strict) (numbers_within entry_ranges ws)) o)
        IsEntryInForm
    named None = tt
    named (Some strict) = from_some (λ zs. (length ws ≡ length entry_ranges) × AreIn entry_ranges zs) IsEntryInForm
        (entry_from strict) (numbers_within entry_ranges ws) (numbers_in entry_ranges ws)
        (λ zs h. entry_in strict zs h.1)

pub weight_form : (w : List (List ℕ)) → IfSome (weight_of w) IsWeightInForm
weight_form w = named_in IsWeightInForm weight_ranges weight_from weight_in (after_name (codes "weight") w)
  where
    weight_in : (zs : List ℤ) → AreIn weight_ranges zs → IfSome (weight_from zs) IsWeightInForm
    weight_in [] h = tt
    weight_in (a ∷ []) h = tt
    weight_in (a ∷ b ∷ []) h = tt
    weight_in (a ∷ b ∷ c ∷ []) h = tt
    weight_in (a ∷ b ∷ c ∷ z ∷ []) h =
        elim (cases_Bool (nat_lt (unsigned_abs a) (unsigned_abs b) && nat_lt (unsigned_abs b) (unsigned_abs c))) [
          | inl e ↦ let p = and_parts (nat_lt (unsigned_abs a) (unsigned_abs b))
              (nat_lt (unsigned_abs b) (unsigned_abs c)) e in
              rw e (record {
                a = least_size _ _ a h.0;
                a_b = ltb-true (unsigned_abs a) (unsigned_abs b) p.0;
                b_c = ltb-true (unsigned_abs b) (unsigned_abs c) p.1;
                c = most_size _ _ c h.1.1.0;
                size = h.1.1.1.0;
              })
          | inr n ↦ rw n tt
        ]
    weight_in (a ∷ b ∷ c ∷ z ∷ u ∷ zs) h = tt

pivots_form : (w : List (List ℕ)) → IfSome (pivots_of w) (λ count. count ≤ MAX_PIVOTS)
pivots_form w = named_in (λ count. count ≤ MAX_PIVOTS) pivots_ranges count_from count_in (after_name (codes "pivots") w)
  where
    count_in : (zs : List ℤ) → AreIn pivots_ranges zs → IfSome (count_from zs) (λ count. count ≤ MAX_PIVOTS)
    count_in [] h = tt
    count_in (z ∷ []) h = most_size _ _ z h.0
    count_in (z ∷ u ∷ zs) h = tt

-- a number is below ten times ten for each of its digits
number_below : (n : ℕ) (w : List ℕ) → list_all is_digit w ≡ true → number_from n w < (n + 1) * ten (length w)
number_below n [] h = omega arith
number_below n (b ∷ bs) h =
    let a = and_parts (is_digit b) (list_all is_digit bs) h in
    let d = and_parts (nat_le 48 b) (nat_le b 57) a.0 in
    let high = leb-true b 57 d.1 in
    let step : 10 * n + (b - 48) + 1 ≤ 10 * (n + 1) = omega arith in
    let below = number_below (10 * n + (b - 48)) bs a.1 in
    let most = mul-le-mul_left (ten (length bs)) step in
    omega (arith, below, most)

ten_most : (k : ℕ) → k ≤ 6 → ten k ≤ 1000000
ten_most zero h = omega arith
ten_most (suc zero) h = omega arith
ten_most (suc (suc zero)) h = omega arith
ten_most (suc (suc (suc zero))) h = omega arith
ten_most (suc (suc (suc (suc zero)))) h = omega arith
ten_most (suc (suc (suc (suc (suc zero))))) h = omega arith
ten_most (suc (suc (suc (suc (suc (suc zero)))))) h = omega arith
ten_most (suc (suc (suc (suc (suc (suc (suc k))))))) h = absurd (omega arith)

plain_most : (w : List ℕ) → IfSome (plain w) (λ n. n ≤ MAX_PLAIN)
plain_most w = elim (cases_Bool (is_plain w)) [
  | inl e ↦
      let p = and_parts (is_decimal w) (nat_le (length w) MAX_PLAIN_DIGITS) e in
      let q = and_parts (list_all is_digit w && nat_le 1 (length w))
      (nat_eq (length w) 1 || not (begins_with 48 w)) p.0 in
      let d = and_parts (list_all is_digit w) (nat_le 1 (length w)) q.0 in
      let few = leb-true (length w) MAX_PLAIN_DIGITS p.1 in
      let below = number_below 0 w d.0 in
      let most = ten_most (length w) few in
      rw e (omega (arith, below, most))
  | inr n ↦ rw n tt
]

plain_in : (ws : List (List ℕ)) → IfSome (plain_numbers ws) (All (λ n. n ≤ MAX_PLAIN))
plain_in [] = All-nil (λ n. n ≤ MAX_PLAIN)
plain_in (w ∷ ws) = joined (plain w) (plain_numbers ws) (plain_most w) (plain_in ws)
  where
    joined : (o : Option ℕ) (p : Option (List ℕ)) → IfSome o (λ n. n ≤ MAX_PLAIN) → IfSome p (All (λ n. n ≤ MAX_PLAIN))
        → IfSome (with_item o p) (All (λ n. n ≤ MAX_PLAIN))
    joined None p h k = tt
    joined (Some n) None h k = tt
    joined (Some n) (Some ns) h k = All-cons (λ n. n ≤ MAX_PLAIN) n ns h k

-- one number or more, each with at most six digits
record ArePlain (ns : List ℕ) : Type 0 where
  some : 1 ≤ length ns
  plain : All (λ n. n ≤ MAX_PLAIN) ns

basis_form : (w : List (List ℕ)) → IfSome (basis_of w) ArePlain
basis_form w = named (after_name (codes "basis") w)
  where
    some_in : (ns : List ℕ) → All (λ n. n ≤ MAX_PLAIN) ns → IfSome (some_of ns) ArePlain
    some_in [] h = tt
    some_in (n ∷ ns) h = record { some = omega arith; plain = h }

    named : (o : Option (List (List ℕ))) → IfSome (option_and_then some_of (option_and_then plain_numbers o)) ArePlain
    named None = tt
    named (Some ws) = from_some (All (λ n. n ≤ MAX_PLAIN)) ArePlain some_of (plain_numbers ws) (plain_in ws) some_in

width_form : (w : List (List ℕ)) → IfSome (width_of w) IsEndInForm
width_form w = named (after_name (codes "width") w)
  where
    width_in : (s : Stage) (zs : List ℤ) → AreIn width_ranges zs → IfSome (width_from s zs) IsEndInForm
    width_in s [] h = tt
    width_in s (p ∷ []) h = tt
    width_in s (p ∷ r ∷ []) h = tt
    width_in s (p ∷ r ∷ c ∷ []) h =
        record {
          pivot_most = most_size _ _ p h.0;
          row_most = most_size _ _ r h.1.0;
          place_most =
              most_size _ _ c h.1.1.0;
        }
    width_in s (p ∷ r ∷ c ∷ u ∷ zs) h = tt

    staged : (ws : List (List ℕ)) (o : Option Stage)
        → IfSome (option_and_then (λ s. option_and_then (width_from s) (numbers_within width_ranges ws)) o) IsEndInForm
    staged ws None = tt
    staged ws (Some s) = from_some (λ zs. (length ws ≡ length width_ranges) × AreIn width_ranges zs) IsEndInForm
        (width_from s) (numbers_within width_ranges ws) (numbers_in width_ranges ws) (λ zs h. width_in s zs h.1)

    after : (ws : List (List ℕ)) → IfSome (width_after ws) IsEndInForm
    after [] = tt
    after (v ∷ ws) = staged ws (stage_of v)

    named : (o : Option (List (List ℕ))) → IfSome (option_and_then width_after o) IsEndInForm
    named None = tt
    named (Some ws) = after ws

-- what each line of a form says holds of each item
pub each_line : {A : Type 0} (P : A → Type 0) (line_of : List (List ℕ) → Option A)
    → ((l : List (List ℕ)) → IfSome (line_of l) P) → (ls : List (List (List ℕ))) (xs : List A)
    → AreLinesOf line_of ls xs → All P xs
each_line P line_of form ls [] h = All-nil P
each_line P line_of form [] (x ∷ xs) h = cc
each_line P line_of form (l ∷ ls) (x ∷ xs) h =
    All-cons P x xs (some_at P (line_of l) x (form l) (lines_head line_of l ls x xs h))
    (each_line P line_of form ls xs (lines_tail line_of l ls x xs h))

-- ---- blocks

search_form : (ls : List (List (List ℕ))) (u : Unfound) → IsSearchEnd ls u → IsSearchInForm u
search_form _ _ exhausted = tt
search_form _ _ (frontier ls vs h few) =
    record { few = few; each = each_line IsWithinLimit vector_of vector_form ls vs h }

tableau_form : (ls : List (List (List ℕ))) (e : LpEnd) → IsTableauEnd ls e → IsEndInForm e
tableau_form _ _ (pivots p b count basis q d) =
    let f = some_at ArePlain (basis_of b) basis (basis_form b) d in
    record {
      budget = some_at (λ count. count ≤ MAX_PIVOTS) (pivots_of p) count (pivots_form p) q;
      some = f.some;
      plain = f.plain;
    }
tableau_form _ _ (width w e q) = some_at IsEndInForm (width_of w) e (width_form w) q

pub verdict_form : (ls : List (List (List ℕ))) (v : Verdict) → IsBlock ls v → IsVerdictInForm v
verdict_form _ _ (realizable ls vs h few) =
    record { few = few; each = each_line IsWithinLimit vector_of vector_form ls vs h }
verdict_form _ _ (nonrealizable ls es h) = each_line IsEntryInForm entry_of entry_form ls es h
verdict_form _ _ (undecided ls search ws u h few s) =
    (record { few = few; each = each_line IsWeightInForm weight_of weight_form ls ws h }, search_form search u s)
verdict_form _ _ (limit tableau search e u t s) = (tableau_form tableau e t, search_form search u s)
