-- What a line of points spells, from its coordinates, taken one after the other.
--
-- Main results: first_there, no_x, no_y, no_z, longer, whole_point
use Rattle.std.proofs.Common.{◌≡◌, ℕ, List, [], ◌∷◌, true, false, refl, sym, ap, ◌∙◌}
use Rattle.std.specs.Prelude.{ℤ, Option, Some, None, not}
use Rattle.om_lines.specs.Lines.{has_any}
use Rattle.om_document.specs.Points.{coordinate, point_of}
use Rattle.om_document.proofs.Coordinates.{three_words, long_point, three_point, no_first, no_second, no_third}
use Rattle.om_document.proofs.Coordinates.{read_kept, point_read}
use Rattle.om_text.specs.ReaderParts.{with_rest, first_coordinate}
use mir.Syntax.{w64}
use mir.Val.{to_z, of_z}

-- a line whose first word spells a coordinate
pub record IsFirst (ws : List (List ℕ)) (x : ℤ) (us : List (List ℕ)) : Type 0 where
  pub word : List ℕ
  pub words : ws ≡ word ∷ us
  pub value : Some x ≡ coordinate word

-- the first coordinate of a line is the one that its first word spells
pub first_there : (ws us : List (List ℕ)) (word : List ℕ) (x : ℤ) → ws ≡ word ∷ us → Some x ≡ coordinate word
    → first_coordinate ws ≡ Some (to_z w64 (of_z w64 x), us)
first_there ws us word x e h = rw (read_kept x word h, e, ← h) refl

-- the first word of a line with a first coordinate
first : (ws us : List (List ℕ)) (x : ℤ) → first_coordinate ws ≡ Some (x, us) → IsFirst ws x us
first [] us x h = cc
first (w ∷ vs) us x h = at (coordinate w) refl h
  where
    at : (o : Option ℤ) → o ≡ coordinate w → with_rest vs o ≡ Some (x, us) → IsFirst (w ∷ vs) x us
    at (Some y) e h =
        let q : ◌≡◌ {A = ℤ × List (List ℕ)} (y, vs) (x, us) = cc in
        record { word = w; words = ap (λ p. w ∷ p.1) q; value = ap (λ p. Some p.0) (sym q) ∙ e }
    at None e h = cc

wanting : (w : List ℕ) (us : List (List ℕ)) → first_coordinate (w ∷ us) ≡ None → None ≡ coordinate w
wanting w us h = at (coordinate w) h
  where
    at : (o : Option ℤ) → with_rest us o ≡ None → None ≡ o
    at (Some y) h = cc
    at None h = refl

-- without a first coordinate there is no point
pub no_x : (ws : List (List ℕ)) → first_coordinate ws ≡ None → point_of ws ≡ None
no_x [] h = refl
no_x (u ∷ []) h = refl
no_x (u ∷ v ∷ []) h = refl
no_x (u ∷ v ∷ w ∷ []) h = no_first _ _ _ (wanting u (v ∷ w ∷ []) h)
no_x (u ∷ v ∷ w ∷ t ∷ ts) h = refl

second : (u : List ℕ) (ws : List (List ℕ)) (x : ℤ) → Some x ≡ coordinate u → first_coordinate ws ≡ None
    → point_of (u ∷ ws) ≡ None
second u [] x a h = refl
second u (v ∷ []) x a h = refl
second u (v ∷ w ∷ []) x a h = no_second _ _ _ _ a (wanting v (w ∷ []) h)
second u (v ∷ w ∷ t ∷ ts) x a h = refl

-- nor without a second one
pub no_y : (ws us : List (List ℕ)) (x : ℤ) → first_coordinate ws ≡ Some (x, us) → first_coordinate us ≡ None
    → point_of ws ≡ None
no_y ws us x a h = let f = first ws us x a in rw f.words (second f.word us x f.value h)

third : (u v : List ℕ) (ws : List (List ℕ)) (x y : ℤ) → Some x ≡ coordinate u → Some y ≡ coordinate v
    → first_coordinate ws ≡ None → point_of (u ∷ v ∷ ws) ≡ None
third u v [] x y a b h = refl
third u v (w ∷ []) x y a b h = no_third _ _ _ _ _ a b (wanting w [] h)
third u v (w ∷ t ∷ ts) x y a b h = refl

-- nor without a third one
pub no_z : (ws us vs : List (List ℕ)) (x y : ℤ) → first_coordinate ws ≡ Some (x, us)
    → first_coordinate us ≡ Some (y, vs) → first_coordinate vs ≡ None → point_of ws ≡ None
no_z ws us vs x y a b h =
    let f = first ws us x a in
    let g = first us vs y b in
    rw (f.words, g.words) (third f.word g.word vs x y f.value g.value h)

-- nor where a word follows them
pub longer : (ws us vs ts : List (List ℕ)) (x y z : ℤ) → first_coordinate ws ≡ Some (x, us)
    → first_coordinate us ≡ Some (y, vs) → first_coordinate vs ≡ Some (z, ts) → not (has_any ts) ≡ false
    → point_of ws ≡ None
longer ws us vs ts x y z a b c h =
    let f = first ws us x a in
    let g = first us vs y b in
    let k = first vs ts z c in
    long_point _ _ _ _ _ (three_words _ _ _ _ _ _ _ f.words g.words k.words) h

-- three coordinates, as the code's numbers, are the point
pub whole_point : (ws us vs ts : List (List ℕ)) (x y z : ℤ) → first_coordinate ws ≡ Some (x, us)
    → first_coordinate us ≡ Some (y, vs) → first_coordinate vs ≡ Some (z, ts) → not (has_any ts) ≡ true
    → Some (to_z w64 (of_z w64 x) ∷ to_z w64 (of_z w64 y) ∷ to_z w64 (of_z w64 z) ∷ []) ≡ point_of ws
whole_point ws us vs ts x y z a b c h =
    let f = first ws us x a in
    let g = first us vs y b in
    let k = first vs ts z c in
    point_read _ _ _ f.word g.word k.word f.value g.value k.value
    ∙ sym (three_point _ _ _ _ _ (three_words _ _ _ _ _ _ _ f.words g.words k.words) h)
