-- The text of a block, put together line by line.
--
-- Main definitions: word_bytes
-- Main results: on_ok, tail_more, lines_more, line_whole, tail_next, lines_after, coordinate_next, width_named
use Rattle.std.proofs.Common.{◌≡◌, ℕ, suc, ◌+◌, ◌<◌, List, [], ◌∷◌, ◌++◌, length, take, get_or, map, refl, sym, ap, ◌∙◌}
use Rattle.std.proofs.Common.{append_assoc, append-nil, arith}
use Rattle.std.proofs.lemmas.Int.{to_z-of_z, fits_signed_from_abs}
use Rattle.om_signs.specs.Coordinates.{IsCoordinate}
use mir.Syntax.{w64, w128}
use mir.Val.{to_z, of_z}
use Rattle.std.proofs.lemmas.List.{take_more, map-append}
use Rattle.std.specs.Prelude.{ℤ, codes, decimal, Result, Ok, Err, OnOk}
use Rattle.std.specs.Fmt.{signed_decimal}
use Rattle.om_document.specs.Print.{text_of, spaced}
use Rattle.om_document.proofs.Printing.{text_of-append}
use Rattle.om_reply.specs.VerdictText.{lines_text, tail_text}

-- the bytes of words, with one more for each
abbrev pub word_bytes : List (List ℕ) → ℕ
word_bytes [] = 0
word_bytes (w ∷ ws) = suc (length w) + word_bytes ws

-- what holds where a call succeeds, from something else that holds there
pub on_ok : {E A B : Type 0} (r : Result Unit E) → (A → B) → OnOk r A → OnOk r B
on_ok (Ok x) f h = f h
on_ok (Err x) f h = tt

pub tail_text-append : (ws vs : List (List ℕ)) → tail_text (ws ++ vs) ≡ tail_text ws ++ tail_text vs
tail_text-append [] vs = refl
tail_text-append (w ∷ ws) vs = ap (λ r. 32 ∷ w ++ r) (tail_text-append ws vs)
    ∙ sym (append_assoc (32 ∷ w) (tail_text ws) (tail_text vs))

pub lines_text-append : (ls ks : List (List (List ℕ))) → lines_text (ls ++ ks) ≡ lines_text ls ++ lines_text ks
lines_text-append ls ks = ap text_of (map-append spaced ls ks) ∙ text_of-append (map spaced ls) (map spaced ks)

-- one more word of a list behind a space
pub tail_more : {A : Type 0} (word_of : A → List ℕ) (base out new : List ℕ) (xs : List A) (i : ℕ) (d x : A)
    → i < length xs → x ≡ get_or xs i d → out ≡ base ++ tail_text (map word_of (take i xs))
    → new ≡ out ++ 32 ∷ word_of x → new ≡ base ++ tail_text (map word_of (take (i + 1) xs))
tail_more word_of base out new xs i d x l e o n =
    let t : take (i + 1) xs ≡ take i xs ++ x ∷ [] = take_more xs i d l ∙ ap (λ y. take i xs ++ y ∷ []) (sym e) in
    let m : map word_of (take (i + 1) xs) ≡ map word_of (take i xs) ++ word_of x ∷ [] = ap (map word_of) t
    ∙ map-append word_of (take i xs) (x ∷ []) in
    let a : tail_text (map word_of (take (i + 1) xs)) ≡ tail_text (map word_of (take i xs)) ++ 32 ∷ word_of x =
    ap tail_text m ∙ tail_text-append (map word_of (take i xs)) (word_of x ∷ [])
    ∙ ap (λ r. tail_text (map word_of (take i xs)) ++ 32 ∷ r) (append-nil (word_of x)) in
    n ∙ ap (λ r. r ++ 32 ∷ word_of x) o ∙ append_assoc base (tail_text (map word_of (take i xs))) (32 ∷ word_of x)
    ∙ ap (λ r. base ++ r) (sym a)

-- one more line
pub lines_more : {A : Type 0} (words_of : A → List (List ℕ)) (base out new : List ℕ) (xs : List A) (i : ℕ) (d x : A)
    → i < length xs → x ≡ get_or xs i d → out ≡ base ++ lines_text (map words_of (take i xs))
    → new ≡ out ++ lines_text (words_of x ∷ []) → new ≡ base ++ lines_text (map words_of (take (i + 1) xs))
lines_more words_of base out new xs i d x l e o n =
    let t : take (i + 1) xs ≡ take i xs ++ x ∷ [] = take_more xs i d l ∙ ap (λ y. take i xs ++ y ∷ []) (sym e) in
    let m : map words_of (take (i + 1) xs) ≡ map words_of (take i xs) ++ words_of x ∷ [] = ap (map words_of) t
    ∙ map-append words_of (take i xs) (x ∷ []) in
    let a : lines_text (map words_of (take (i + 1) xs)) ≡ lines_text (map words_of (take i xs))
    ++ lines_text (words_of x ∷ []) = ap lines_text m
    ∙ lines_text-append (map words_of (take i xs)) (words_of x ∷ []) in
    n ∙ ap (λ r. r ++ lines_text (words_of x ∷ [])) o
    ∙ append_assoc base (lines_text (map words_of (take i xs))) (lines_text (words_of x ∷ []))
    ∙ ap (λ r. base ++ r) (sym a)

spaced_tail : (w : List ℕ) (ws : List (List ℕ)) → w ++ tail_text ws ≡ spaced (w ∷ ws)
spaced_tail w [] = append-nil w
spaced_tail w (v ∷ ws) = ap (λ r. w ++ 32 ∷ r) (spaced_tail v ws)

-- a line from its name, the words behind it and its line feed
pub line_whole : (name : List ℕ) (ws : List (List ℕ)) (old first second new : List ℕ) → first ≡ old ++ name
    → second ≡ first ++ tail_text ws → new ≡ second ++ 10 ∷ [] → new ≡ old ++ lines_text ((name ∷ ws) ∷ [])
line_whole name ws old first second new f s n =
    n ∙ ap (λ r. r ++ 10 ∷ []) (s ∙ ap (λ r. r ++ tail_text ws) f ∙ append_assoc old name (tail_text ws)
    ∙ ap (λ r. old ++ r) (spaced_tail name ws)) ∙ append_assoc old (spaced (name ∷ ws)) (10 ∷ [])

-- one more word behind a space
pub tail_next : (ws : List (List ℕ)) (w first old new : List ℕ) → old ≡ first ++ tail_text ws → new ≡ old ++ 32 ∷ w
    → new ≡ first ++ tail_text (ws ++ w ∷ [])
tail_next ws w first old new o n =
    n ∙ ap (λ r. r ++ 32 ∷ w) o ∙ append_assoc first (tail_text ws) (32 ∷ w)
    ∙ ap (λ r. first ++ r) (ap (λ r. tail_text ws ++ 32 ∷ r) (sym (append-nil w))
    ∙ sym (tail_text-append ws (w ∷ [])))

-- lines behind others
pub lines_after : (ls ks : List (List (List ℕ))) (old mid new : List ℕ) → mid ≡ old ++ lines_text ls
    → new ≡ mid ++ lines_text ks → new ≡ old ++ lines_text (ls ++ ks)
lines_after ls ks old mid new m n =
    n ∙ ap (λ r. r ++ lines_text ks) m ∙ append_assoc old (lines_text ls) (lines_text ks)
    ∙ ap (λ r. old ++ r) (sym (lines_text-append ls ks))

-- a coordinate as the code's number
pub coordinate_kept : (x v wide : ℤ) → IsCoordinate x → x ≡ v → wide ≡ to_z w64 (of_z w64 x)
    → to_z w128 (of_z w128 wide) ≡ v
coordinate_kept x v wide h e w =
    let same : wide ≡ x = w ∙ to_z-of_z w64 x (fits_signed_from_abs w64 x (omega arith)) in
    ap (λ z. to_z w128 (of_z w128 z)) same ∙ to_z-of_z w128 x (fits_signed_from_abs w128 x (omega arith)) ∙ e

-- a coordinate behind a space
pub coordinate_next : (ws : List (List ℕ)) (x v wide : ℤ) (first old new : List ℕ) → IsCoordinate x → x ≡ v
    → wide ≡ to_z w64 (of_z w64 x) → old ≡ first ++ tail_text ws
    → new ≡ old ++ 32 ∷ signed_decimal (to_z w128 (of_z w128 wide))
    → new ≡ first ++ tail_text (ws ++ signed_decimal v ∷ [])
coordinate_next ws x v wide first old new h e w o n =
    tail_next ws (signed_decimal v) first old new o
    (n ∙ ap (λ z. old ++ 32 ∷ signed_decimal z) (coordinate_kept x v wide h e w))

-- a line of a width, from its first two words together
pub width_named : (stage name : List ℕ) (a p b r d c : ℕ) (old new : List ℕ) → name ≡ codes "width " ++ stage → a ≡ p
    → b ≡ r → d ≡ c → new ≡ old ++ lines_text ((name ∷ decimal a ∷ decimal b ∷ decimal d ∷ []) ∷ [])
    → new ≡ old ++ lines_text ((codes "width" ∷ stage ∷ decimal p ∷ decimal r ∷ decimal c ∷ []) ∷ [])
width_named stage name a p b r d c old new n e f g h = h ∙ rw (n, e, f, g) refl
