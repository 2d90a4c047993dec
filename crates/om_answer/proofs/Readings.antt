-- What is read from numbers that are in their ranges.
--
-- Main results: in_range, cast_between, entry_read, vector_made
use Rattle.std.proofs.Common.{◌≡◌, ℕ, zero, suc, ◌≤◌, ◌<◌, ◌^◌, List, [], ◌∷◌, Bool, get_or, length, refl, ap, ◌∙◌}
use Rattle.std.proofs.Common.{Fits, arith}
use Rattle.std.specs.Prelude.{ℤ, pos, negsuc, unsigned_abs, Option, Some, None, FitsSigned}
use Rattle.std.specs.Int.{w64, w128, cast_signed, cast_unsigned}
use Rattle.std.specs.Option.{SomeIff}
use Rattle.std.specs.Int.Signed.{non_neg}
use Rattle.std.proofs.Math.Dec.{T, leb→le}
use Rattle.std.proofs.Math.Facts.{Fits-of_lt}
use mir.Syntax.{Width}
use mir.Val.{bits}
use Rattle.std.proofs.lemmas.Int.{to_z-of_z}
use Rattle.om_signs.specs.declared.limits.TheConstants.{MAX_ELEMENTS, MAX_MULTIPLICITY}
use Rattle.om_vectors.specs.WholeVectors.{WholeVector, vector_of, IsWithinLimit}
use Rattle.om_signs.specs.Coordinates.{IsCoordinate}
use Rattle.om_certificate.specs.declared.entry.Entry.{Entry}
use Rattle.om_answer.specs.declared.range.Range.{Range}
use Rattle.om_answer.specs.declared.range.Range.TheVariants.{Between}
use Rattle.om_answer.specs.Numbers.{IsIn, AreIn}
use Rattle.om_answer.specs.BlockLines.{entry_ranges, entry_from}
use Rattle.om_answer.proofs.NumberLaws.{least}

fits_between : (low high : ℕ) (z : ℤ) → high < 2 ^ 64 → IsIn (Between low high) z → FitsSigned w128 z
fits_between low high (pos n) h i = let l : n ≤ high = leb→le n high i.1.le in let k : n < 2 ^ 127 =
    omega (arith, h, l) in record { sfits = k }
fits_between low high (negsuc n) h i = absurd i.0.le

back : (low high : ℕ) (z : ℤ) → high < 2 ^ 64 → IsIn (Between low high) z → cast_signed w128 (cast_unsigned w128 z) ≡ z
back low high z h i = to_z-of_z w128 z (fits_between low high z h i)

-- each number is in the range at its place
pub in_range : (rs : List Range) (zs : List ℤ) (i : ℕ) → AreIn rs zs → i < length rs
    → IsIn (get_or rs i least) (get_or zs i (pos 0))
in_range [] zs i h l = absurd (omega arith)
in_range (r ∷ rs) [] i h l = absurd h
in_range (r ∷ rs) (z ∷ zs) zero h l = h.0
in_range (r ∷ rs) (z ∷ zs) (suc i) h l = in_range rs zs i h.1 (omega arith)

-- a number between two others is cast to an unsigned integer
pub cast_between : (w : Width) (low high : ℕ) (z : ℤ) → high < 2 ^ 64 → high < 2 ^ bits w → IsIn (Between low high) z
    → T (non_neg (cast_signed w128 (cast_unsigned w128 z)))
    × Fits w (unsigned_abs (cast_signed w128 (cast_unsigned w128 z)))
cast_between w low high (pos n) h k i =
    let l : n ≤ high = leb→le n high i.1.le in
    rw (back low high (pos n) h i) (tt, Fits-of_lt (omega arith))
cast_between w low high (negsuc n) h k i = absurd i.0.le

-- the entry that is made of the numbers of a slice
abbrev pub entry_at : Bool → List ℤ → Entry
entry_at strict xs = record {
  statement = record {
    a = unsigned_abs (cast_signed w128 (cast_unsigned w128 (get_or xs 0 (pos 0))));
    b = unsigned_abs (cast_signed w128 (cast_unsigned w128 (get_or xs 1 (pos 0))));
    c = unsigned_abs (cast_signed w128 (cast_unsigned w128 (get_or xs 2 (pos 0))));
    d = unsigned_abs (cast_signed w128 (cast_unsigned w128 (get_or xs 3 (pos 0))));
    e = unsigned_abs (cast_signed w128 (cast_unsigned w128 (get_or xs 4 (pos 0))));
    small = unsigned_abs (cast_signed w128 (cast_unsigned w128 (get_or xs 5 (pos 0))));
    big = unsigned_abs (cast_signed w128 (cast_unsigned w128 (get_or xs 6 (pos 0))));
    strict = strict;
  };
  times = unsigned_abs (cast_signed w128 (cast_unsigned w128 (get_or xs 7 (pos 0))));
}

pub entry_read : (strict : Bool) (xs : List ℤ) → AreIn entry_ranges xs
    → Some (entry_at strict xs) ≡ entry_from strict xs
entry_read strict [] h = absurd h
entry_read strict (a ∷ []) h = absurd h.1
entry_read strict (a ∷ b ∷ []) h = absurd h.1.1
entry_read strict (a ∷ b ∷ c ∷ []) h = absurd h.1.1.1
entry_read strict (a ∷ b ∷ c ∷ d ∷ []) h = absurd h.1.1.1.1
entry_read strict (a ∷ b ∷ c ∷ d ∷ e ∷ []) h = absurd h.1.1.1.1.1
entry_read strict (a ∷ b ∷ c ∷ d ∷ e ∷ f ∷ []) h = absurd h.1.1.1.1.1.1
entry_read strict (a ∷ b ∷ c ∷ d ∷ e ∷ f ∷ g ∷ []) h = absurd h.1.1.1.1.1.1.1
entry_read strict (a ∷ b ∷ c ∷ d ∷ e ∷ f ∷ g ∷ t ∷ []) h =
    rw (
      back 1 MAX_ELEMENTS a (omega arith) h.0,
      back 1 MAX_ELEMENTS b (omega arith) h.1.0,
      back 1 MAX_ELEMENTS c (omega arith) h.1.1.0,
      back 1 MAX_ELEMENTS d (omega arith) h.1.1.1.0,
      back 1 MAX_ELEMENTS e (omega arith) h.1.1.1.1.0,
      back 1 3 f (omega arith) h.1.1.1.1.1.0,
      back 1 3 g (omega arith) h.1.1.1.1.1.1.0,
      back 1 MAX_MULTIPLICITY t (omega arith) h.1.1.1.1.1.1.1.0,
    ) refl
entry_read strict (a ∷ b ∷ c ∷ d ∷ e ∷ f ∷ g ∷ t ∷ u ∷ xs) h = absurd h.1.1.1.1.1.1.1.1

-- a number that was narrowed
pub narrowed : {r x : ℤ} → FitsSigned w64 r → FitsSigned w128 x → r ≡ cast_signed w128 (cast_unsigned w128 x)
    → cast_signed w64 (cast_unsigned w64 r) ≡ x
narrowed {r} {x} f g e = to_z-of_z w64 r f ∙ e ∙ to_z-of_z w128 x g

-- the vector with coordinates that are small enough
pub vector_made : {o : Option WholeVector} {a b c x y z : ℤ}
    → SomeIff o (IsWithinLimit (vector_of a b c)) (vector_of a b c) → IsCoordinate x → IsCoordinate y → IsCoordinate z
    → a ≡ x → b ≡ y → c ≡ z → o ≡ Some (vector_of x y z)
vector_made {o = None} {x = x} {y = y} {z = z} h i j k p q r =
    absurd (h (rw (p, q, r) (record { x = i; y = j; z = k })))
vector_made {o = Some v} h i j k p q r = ap (λ w. Some w) (h.1 ∙ rw (p, q, r) refl)
