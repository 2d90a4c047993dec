-- The words of a line of points as the code has them, and the text of a point.
--
-- Main results: long_point, three_point, no_first, no_second, no_third, read_kept,
-- point_read, point_bytes
use Rattle.std.proofs.Common.{◌≡◌, ℕ, List, [], ◌∷◌, ◌++◌, true, false, get_or, refl, sym, ap, subst, ◌∙◌, arith}
use Rattle.std.proofs.Common.{append_assoc}
use Rattle.std.specs.Prelude.{ℤ, pos, unsigned_abs, Option, Some, None, IfSome, not}
use Rattle.std.specs.Fmt.{signed_decimal}
use Rattle.std.proofs.lemmas.Int.{to_z-of_z, fits_signed_from_abs}
use Rattle.std.proofs.lemmas.List.Elements.{All-head, All-tail}
use Rattle.om_signs.specs.declared.limits.TheConstants.{MAX_COORDINATE}
use Rattle.om_lines.specs.Lines.{has_any}
use Rattle.om_document.specs.Points.{coordinate, with_three, point_of}
use Rattle.om_document.specs.Form.{IsPoint}
use Rattle.om_signs.specs.Coordinates.{IsCoordinate}
use Rattle.om_document.specs.Print.{text_of, point_lines}
use Rattle.om_lines.proofs.Digits.{signed_within}
use mir.Syntax.{w64}
use mir.Val.{to_z, of_z}

-- the words of a line, one after the other
pub record AreThree (ws : List (List ℕ)) (x y z : List ℕ) (us : List (List ℕ)) : Type 0 where
  pub words : ws ≡ x ∷ y ∷ z ∷ us

-- the words of a line, from its first three and the rest, taken one after the other
pub three_words : (ws : List (List ℕ)) (x y z : List ℕ) (us vs ts : List (List ℕ)) → ws ≡ x ∷ us → us ≡ y ∷ vs
    → vs ≡ z ∷ ts → AreThree ws x y z ts
three_words ws x y z us vs ts a b c = record { words = a ∙ ap (λ r. x ∷ r) (b ∙ ap (λ r. y ∷ r) c) }

-- more than three words are no point
pub long_point : (ws : List (List ℕ)) (x y z : List ℕ) (us : List (List ℕ)) → AreThree ws x y z us
    → not (has_any us) ≡ false → point_of ws ≡ None
long_point ws x y z [] a h = cc
long_point ws x y z (u ∷ us) a h = ap point_of a.words

-- three words and no more spell the point of their coordinates
pub three_point : (ws : List (List ℕ)) (x y z : List ℕ) (us : List (List ℕ)) → AreThree ws x y z us
    → not (has_any us) ≡ true → point_of ws ≡ with_three (coordinate x) (coordinate y) (coordinate z)
three_point ws x y z [] a h = ap point_of a.words
three_point ws x y z (u ∷ us) a h = cc

-- without a first coordinate there is no point
pub no_first : (a b c : Option ℤ) → None ≡ a → with_three a b c ≡ None
no_first a b c h = ap (λ a. with_three a b c) (sym h)

-- with a first coordinate and without a second one there is no point
pub no_second : (x : ℤ) (a b c : Option ℤ) → Some x ≡ a → None ≡ b → with_three a b c ≡ None
no_second x a b c h g = ap (λ a. with_three a b c) (sym h) ∙ ap (λ b. with_three (Some x) b c) (sym g)

-- with two coordinates and without a third one there is no point
pub no_third : (x y : ℤ) (a b c : Option ℤ) → Some x ≡ a → Some y ≡ b → None ≡ c → with_three a b c ≡ None
no_third x y a b c h g f = ap (λ a. with_three a b c) (sym h) ∙ ap (λ b. with_three (Some x) b c) (sym g)
    ∙ ap (λ c. with_three (Some x) (Some y) c) (sym f)

-- a coordinate as the code's number
kept : (x : ℤ) → IsCoordinate x → to_z w64 (of_z w64 x) ≡ x
kept x h = to_z-of_z w64 x (fits_signed_from_abs w64 x (omega arith))

-- a coordinate that a word spells is the code's number
pub read_kept : (x : ℤ) (w : List ℕ) → Some x ≡ coordinate w → to_z w64 (of_z w64 x) ≡ x
read_kept x w h = kept x (subst (λ o. IfSome o IsCoordinate) (sym h) (signed_within (unsigned_abs MAX_COORDINATE) w))

-- three coordinates, as the code's numbers, are the point that their words spell
pub point_read : (x y z : ℤ) (u v w : List ℕ) → Some x ≡ coordinate u → Some y ≡ coordinate v → Some z ≡ coordinate w
    → ◌≡◌ {A = Option (List ℤ)} (Some (to_z w64 (of_z w64 x) ∷ to_z w64 (of_z w64 y) ∷ to_z w64 (of_z w64 z) ∷ []))
    (with_three (coordinate u) (coordinate v) (coordinate w))
point_read x y z u v w a b c = rw (read_kept x u a, read_kept y v b, read_kept z w c, ← a, ← b, ← c) refl

-- what is printed of a point is its line
pub point_bytes : (p : List ℤ) → IsPoint p → signed_decimal (to_z w64 (of_z w64 (get_or p 0 (pos 0)))) ++ 32
    ∷ (signed_decimal (to_z w64 (of_z w64 (get_or p 1 (pos 0)))) ++ 32
    ∷ (signed_decimal (to_z w64 (of_z w64 (get_or p 2 (pos 0)))) ++ 10 ∷ [])) ≡ text_of (point_lines (p ∷ []))
point_bytes [] f = absurd (let e = f.three in omega arith)
point_bytes (x ∷ []) f = absurd (let e = f.three in omega arith)
point_bytes (x ∷ y ∷ []) f = absurd (let e = f.three in omega arith)
point_bytes (x ∷ y ∷ z ∷ []) f =
    let t = All-tail IsCoordinate x (y ∷ z ∷ []) f.small in
    let a = kept x (All-head IsCoordinate x (y ∷ z ∷ []) f.small) in
    let b = kept y (All-head IsCoordinate y (z ∷ []) t) in
    let c = kept z (All-head IsCoordinate z [] (All-tail IsCoordinate y (z ∷ []) t)) in
    let j = append_assoc (signed_decimal y) (32 ∷ signed_decimal z) (10 ∷ []) in
    rw (a, b, c) (ap (λ r. signed_decimal x ++ 32 ∷ r) (sym j)
    ∙ sym (append_assoc (signed_decimal x) (32 ∷ (signed_decimal y ++ 32 ∷ signed_decimal z)) (10 ∷ [])))
point_bytes (x ∷ y ∷ z ∷ u ∷ p) f = absurd (let e = f.three in omega arith)
