-- The lines of a verdict block: which words a line of each form has, and what it says.
--
-- Trusted: these definitions say what a claim is.
use Rattle.std.specs.Prelude.{ℕ, ◌+◌, ℤ, List, [], ◌∷◌, Bool, true, false, cond, nat_lt, ◌&&◌, unsigned_abs, codes}
use Rattle.std.specs.Prelude.{Option, Some, None, bytes_eq, option_and_then}
use Rattle.om_signs.specs.declared.limits.TheConstants.{MAX_ELEMENTS, MAX_COORDINATE, MAX_MULTIPLICITY, MAX_WEIGHT}
use Rattle.om_signs.specs.declared.limits.TheConstants.{MAX_PIVOTS, MAX_ROW_NAMED, MAX_PLAIN}
use Rattle.om_vectors.specs.WholeVectors.{WholeVector}
use Rattle.om_simplex.specs.declared.stage.Stage.{Stage}
use Rattle.om_simplex.specs.declared.stage.Stage.TheVariants as stage
use Rattle.om_certificate.specs.declared.entry.Entry.{Entry}
use Rattle.om_certificate.specs.declared.weight.Weight.{Weight}
use Rattle.om_certificate.specs.declared.lp_end.LpEnd.{LpEnd}
use Rattle.om_certificate.specs.declared.lp_end.LpEnd.TheVariants as lp_end
use Rattle.om_document.specs.Heading.{plain_numbers}
use Rattle.om_answer.specs.declared.block_lines.TheConstants.{TERMS}
use Rattle.om_answer.specs.declared.range.Range.{Range}
use Rattle.om_answer.specs.declared.range.Range.TheVariants.{Between, UpToSize}
use Rattle.om_answer.specs.Numbers.{numbers_within}

-- an element
abbrev pub element : Range
element = Between 1 MAX_ELEMENTS

-- the words after a name
abbrev pub after_name : List ℕ → List (List ℕ) → Option (List (List ℕ))
after_name name [] = None
after_name name (w ∷ ws) = cond (bytes_eq w name) (Some ws) None

-- the numbers of a line that begins with a name, each in its range
abbrev pub named_numbers : List ℕ → List Range → List (List ℕ) → Option (List ℤ)
named_numbers name ranges w = option_and_then (numbers_within ranges) (after_name name w)

-- three coordinates
abbrev pub coordinate : Range
coordinate = UpToSize (unsigned_abs MAX_COORDINATE)

abbrev pub vector_ranges : List Range
vector_ranges = coordinate ∷ coordinate ∷ coordinate ∷ []

abbrev pub vector_from : List ℤ → Option WholeVector
vector_from (x ∷ y ∷ z ∷ []) = Some (record { x = x; y = y; z = z })
vector_from _ = None

-- `vector x y z`
abbrev pub vector_of : List (List ℕ) → Option WholeVector
vector_of w = option_and_then vector_from (named_numbers (codes "vector") vector_ranges w)

-- the number of a term
abbrev pub term : Range
term = Between 1 TERMS

-- five elements, a small side, a big side and a multiplicity
abbrev pub entry_ranges : List Range
entry_ranges = element ∷ element ∷ element ∷ element ∷ element ∷ term ∷ term ∷ Between 1 MAX_MULTIPLICITY ∷ []

abbrev pub entry_from : Bool → List ℤ → Option Entry
entry_from strict (a ∷ b ∷ c ∷ d ∷ e ∷ small ∷ big ∷ times ∷ []) = Some (record {
  statement =
      record {
        a = unsigned_abs a;
        b = unsigned_abs b;
        c = unsigned_abs c;
        d = unsigned_abs d;
        e = unsigned_abs e;
        small = unsigned_abs small;
        big = unsigned_abs big;
        strict = strict;
      };
  times = unsigned_abs times;
})
entry_from strict _ = None

-- whether a statement is strict, from the name of its line
abbrev pub strictness : List ℕ → Option Bool
strictness w = cond (bytes_eq w (codes "lt")) (Some true) (cond (bytes_eq w (codes "eq")) (Some false) None)

-- `lt a b c d e small big m`, which is strict, or `eq a b c d e small big m`, which isn't
abbrev pub entry_of : List (List ℕ) → Option Entry
entry_of [] = None
entry_of (w ∷ ws) = option_and_then (λ strict. option_and_then (entry_from strict) (numbers_within entry_ranges ws))
    (strictness w)

-- a weight, if its elements are increasing
abbrev pub increasing : Weight → Option Weight
increasing w = cond (nat_lt w.a w.b && nat_lt w.b w.c) (Some w) None

abbrev pub weight_from : List ℤ → Option Weight
weight_from (a ∷ b ∷ c ∷ value ∷ []) =
    increasing (record { a = unsigned_abs a; b = unsigned_abs b; c = unsigned_abs c; value = value })
weight_from _ = None

-- three elements and a number of bounded absolute value
abbrev pub weight_ranges : List Range
weight_ranges = element ∷ element ∷ element ∷ UpToSize (unsigned_abs MAX_WEIGHT) ∷ []

-- `weight a b c w`
abbrev pub weight_of : List (List ℕ) → Option Weight
weight_of w = option_and_then weight_from (named_numbers (codes "weight") weight_ranges w)

abbrev pub count_from : List ℤ → Option ℕ
count_from (n ∷ []) = Some (unsigned_abs n)
count_from _ = None

abbrev pub pivots_ranges : List Range
pivots_ranges = Between 0 MAX_PIVOTS ∷ []

-- `pivots P`
abbrev pub pivots_of : List (List ℕ) → Option ℕ
pivots_of w = option_and_then count_from (named_numbers (codes "pivots") pivots_ranges w)

-- a list of numbers, if it isn't empty
abbrev pub some_of : List ℕ → Option (List ℕ)
some_of [] = None
some_of (n ∷ ns) = Some (n ∷ ns)

-- `basis B1 B2 ..`, with one number or more
abbrev pub basis_of : List (List ℕ) → Option (List ℕ)
basis_of w = option_and_then some_of (option_and_then plain_numbers (after_name (codes "basis") w))

-- the stage with this name
abbrev pub stage_of : List ℕ → Option Stage
stage_of w =
    cond (bytes_eq w (codes "price")) (Some stage.Price)
    (cond (bytes_eq w (codes "column")) (Some stage.Column)
    (cond (bytes_eq w (codes "update")) (Some stage.Update)
    (cond (bytes_eq w (codes "scale")) (Some stage.Scale) None)))

abbrev pub width_from : Stage → List ℤ → Option LpEnd
width_from s (p ∷ r ∷ c ∷ []) = Some (lp_end.Width s (unsigned_abs p) (unsigned_abs r) (unsigned_abs c))
width_from s _ = None

-- the number of a pivot, which may be one more than the most pivots; a row; a place
abbrev pub width_ranges : List Range
width_ranges = Between 0 (MAX_PIVOTS + 1) ∷ Between 0 MAX_ROW_NAMED ∷ Between 0 MAX_PLAIN ∷ []

abbrev pub width_after : List (List ℕ) → Option LpEnd
width_after [] = None
width_after (w ∷ ws) = option_and_then (λ s. option_and_then (width_from s) (numbers_within width_ranges ws))
    (stage_of w)

-- `width STAGE p r c`
abbrev pub width_of : List (List ℕ) → Option LpEnd
width_of w = option_and_then width_after (after_name (codes "width") w)
