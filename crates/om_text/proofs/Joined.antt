-- The words of a line in one are its bytes other than blanks.
--
-- Main definitions: full_bytes and signs_of_bytes, the bytes of a line other than blanks, and their signs; counted;
-- HasFirstSigns
-- Main results: concat-runs, counted-runs, signs-runs, part_more, part_end
use Rattle.std.proofs.Common.{◌≡◌, ℕ, suc, ◌+◌, ◌<◌, List, [], ◌∷◌, ◌++◌, true, false, not, length, take}
use Rattle.std.proofs.Common.{drop, set, replicate, get_or, ◌-◌, ◌≤◌, append_assoc, append-nil, length-append, refl}
use Rattle.std.proofs.Common.{sym, ap, ◌∙◌, arith, inl, inr, map}
use Rattle.std.specs.Prelude.{filter, cond, nat_eq, Option, Some, None}
use Rattle.std.specs.List.{list_all, concat}
use Rattle.std.proofs.lemmas.List.{take_more, length-map, length-replicate, map-append, take_all, take-append-drop}
use Rattle.std.proofs.lemmas.List.Elements.{filter-append}
use Rattle.std.proofs.Math.Seq.{set-append_seam, drop-cons}
use Rattle.std.proofs.lemmas.Bool.{cases_Bool, eqb-true}
use Rattle.om_signs.specs.declared.sign.Sign.TheVariants.{Zero}
use Rattle.om_signs.specs.declared.sign.Sign.{Sign}
use Rattle.om_lines.specs.Lines.{with_first, is_blank, pieces, has_any, runs}
use Rattle.om_lines.specs.Words.{is_sign, sign_of_byte}
use Rattle.om_document.specs.Document.{signs_of_line}
use Rattle.om_text.specs.ReaderParts.{sign_count}

-- the bytes of a line other than blanks
abbrev pub full_bytes : List ℕ → List ℕ
full_bytes line = filter (λ b. not (is_blank b)) line

-- the signs that these are
abbrev pub signs_of_bytes : List ℕ → List Sign
signs_of_bytes line = map sign_of_byte (full_bytes line)

concat_full : (ps : List (List ℕ)) → concat (filter has_any ps) ≡ concat ps
concat_full [] = refl
concat_full ([] ∷ ps) = concat_full ps
concat_full ((x ∷ xs) ∷ ps) = ap (λ r. (x ∷ xs) ++ r) (concat_full ps)

concat-with_first : (b : ℕ) (ps : List (List ℕ)) → concat (with_first b ps) ≡ b ∷ concat ps
concat-with_first b [] = refl
concat-with_first b (p ∷ ps) = refl

concat-pieces : (bs : List ℕ) → concat (pieces bs) ≡ full_bytes bs
concat-pieces [] = refl
concat-pieces (b ∷ bs) = elim (cases_Bool (is_blank b)) [
  | inl e ↦ rw e (concat-pieces bs)
  | inr n ↦ rw n (concat-with_first b (pieces bs) ∙ ap (λ r. b ∷ r) (concat-pieces bs))
]

pub concat-runs : (bs : List ℕ) → concat (runs bs) ≡ full_bytes bs
concat-runs bs = concat_full (pieces bs) ∙ concat-pieces bs

-- a byte of a sign is no blank
sign_full : (b : ℕ) → is_sign b ≡ true → is_blank b ≡ false
sign_full b s = elim (cases_Bool (nat_eq b 43)) [
  | inl e ↦ rw (eqb-true b 43 e) refl
  | inr m ↦ elim (cases_Bool (nat_eq b 45)) [
    | inl e ↦ rw (eqb-true b 45 e) refl
    | inr n ↦ let e : nat_eq b 48 ≡ true = rw (m, n) at s in rw (eqb-true b 48 e) refl
  ]
]

-- the number of the signs of a line, continued from those before them
abbrev pub counted : ℕ → List ℕ → Option ℕ
counted k [] = Some k
counted k (b ∷ bs) = cond (is_sign b) (counted (k + 1) bs) (cond (is_blank b) (counted k bs) None)

counted_full : (k : ℕ) (bs : List ℕ)
    → counted k bs ≡ cond (list_all is_sign (full_bytes bs)) (Some (k + length (full_bytes bs))) None
counted_full k [] = ap Some (let e : k ≡ k + 0 = omega arith in e)
counted_full k (b ∷ bs) = elim (cases_Bool (is_sign b)) [
  | inl s ↦ let m : k + 1 + length (full_bytes bs) ≡ k + suc (length (full_bytes bs)) = omega arith in
      rw (s, sign_full b s, s) (counted_full (k + 1) bs
      ∙ ap (λ n. cond (list_all is_sign (full_bytes bs)) (Some n) None) m)
  | inr s ↦ elim (cases_Bool (is_blank b)) [
    | inl e ↦ rw (s, e) (counted_full k bs)
    | inr n ↦ rw (s, n, s) refl
  ]
]

pub counted-runs : (bs : List ℕ) → counted 0 bs ≡ sign_count (runs bs)
counted-runs bs =
    let z : 0 + length (full_bytes bs) ≡ length (full_bytes bs) = omega arith in
    counted_full 0 bs ∙ ap (λ n. cond (list_all is_sign (full_bytes bs)) (Some n) None) z
    ∙ rw (concat-runs bs) refl

-- a byte that is neither of a sign nor a blank, at the index i
pub counted_stops : (line : List ℕ) (i k : ℕ) → i < length line → is_sign (get_or line i 0) ≡ false
    → is_blank (get_or line i 0) ≡ false → counted k (drop i line) ≡ None
counted_stops line i k l s n = rw (drop-cons line i 0 l, s, n) refl

pub signs-runs : (bs : List ℕ) → signs_of_line (runs bs) ≡ signs_of_bytes bs
signs-runs bs = ap (map sign_of_byte) (concat-runs bs)

-- the first e signs of the line stand in the vector
pub record HasFirstSigns (n : ℕ) (line : List ℕ) (i e : ℕ) (vector : List Sign) : Type 0 where
  pub count : e ≡ length (full_bytes (take i line))
  pub value : vector ≡ signs_of_bytes (take i line) ++ replicate (n - e) Zero

full_more : (line : List ℕ) (i : ℕ) → i < length line → is_blank (get_or line i 0) ≡ false
    → full_bytes (take (i + 1) line) ≡ full_bytes (take i line) ++ get_or line i 0 ∷ []
full_more line i l n = ap full_bytes (take_more line i 0 l)
    ∙ filter-append (λ b. not (is_blank b)) (take i line) (get_or line i 0 ∷ []) ∙ rw n refl

full_same : (line : List ℕ) (i : ℕ) → i < length line → is_blank (get_or line i 0) ≡ true
    → full_bytes (take (i + 1) line) ≡ full_bytes (take i line)
full_same line i l e = ap full_bytes (take_more line i 0 l)
    ∙ filter-append (λ b. not (is_blank b)) (take i line) (get_or line i 0 ∷ [])
    ∙ rw e (append-nil (full_bytes (take i line)))

full_within : (line : List ℕ) (i : ℕ) → length (full_bytes (take i line)) ≤ length (full_bytes line)
full_within line i =
    let e : full_bytes (take i line) ++ full_bytes (drop i line) ≡ full_bytes line =
    sym (filter-append (λ b. not (is_blank b)) (take i line) (drop i line))
    ∙ ap full_bytes (take-append-drop i line) in
    omega (arith, length-append (full_bytes (take i line)) (full_bytes (drop i line)), ap length e)

pub part_room : (n : ℕ) (line : List ℕ) (i e : ℕ) (v : List Sign) → HasFirstSigns n line i e v → i < length line
    → is_blank (get_or line i 0) ≡ false → length (concat (runs line)) ≡ n → e < n
part_room n line i e v p l b h =
    let m = ap length (full_more line i l b) in
    let k = full_within line (i + 1) in
    let q : length (full_bytes line) ≡ n = sym (ap length (concat-runs line)) ∙ h in
    omega (arith, length-append (full_bytes (take i line)) (get_or line i 0 ∷ []), p.count)

pub part_length : (n : ℕ) (line : List ℕ) (i e : ℕ) (v : List Sign) → HasFirstSigns n line i e v → e ≤ n
    → length v ≡ n
part_length n line i e v p h =
    ap length p.value ∙ length-append (signs_of_bytes (take i line)) (replicate (n - e) Zero)
    ∙ rw (length-replicate (n - e) Zero, length-map (full_bytes (take i line)) sign_of_byte, ← p.count)
    (omega arith)

pub part_same : (n : ℕ) (line : List ℕ) (i e : ℕ) (v : List Sign) → HasFirstSigns n line i e v → i < length line
    → is_blank (get_or line i 0) ≡ true → HasFirstSigns n line (i + 1) e v
part_same n line i e v p l b = record {
  count = p.count ∙ ap length (sym (full_same line i l b));
  value = p.value ∙ ap (λ r. map sign_of_byte r ++ replicate (n - e) Zero) (sym (full_same line i l b));
}

set_next : (xs : List Sign) (n e : ℕ) (s : Sign) → e ≡ length xs → e < n
    → set (xs ++ replicate (n - e) Zero) e s ≡ (xs ++ s ∷ []) ++ replicate (n - (e + 1)) Zero
set_next xs n e s q l =
    let z : n - e ≡ suc (n - (e + 1)) = omega arith in
    rw (z, q) (set-append_seam xs Zero (replicate (n - (length xs + 1)) Zero) s
    ∙ sym (append_assoc xs (s ∷ []) (replicate (n - (length xs + 1)) Zero)))

pub part_more : (n : ℕ) (line : List ℕ) (i e : ℕ) (v : List Sign) → HasFirstSigns n line i e v → i < length line
    → is_blank (get_or line i 0) ≡ false → length (concat (runs line)) ≡ n
    → HasFirstSigns n line (i + 1) (e + 1) (set v (e + 1 - 1) (sign_of_byte (get_or line i 0)))
part_more n line i e v p l b h =
    let r = part_room n line i e v p l b h in
    let f = full_more line i l b in
    let c : e ≡ length (signs_of_bytes (take i line)) = p.count
    ∙ sym (length-map (full_bytes (take i line)) sign_of_byte) in
    let s : signs_of_bytes (take (i + 1) line) ≡ signs_of_bytes (take i line) ++ sign_of_byte (get_or line i 0) ∷ [] =
    ap (map sign_of_byte) f ∙ map-append sign_of_byte (full_bytes (take i line)) (get_or line i 0 ∷ []) in
    let d : e + 1 - 1 ≡ e = omega arith in
    record {
      count = omega (arith, p.count, ap length f, length-append (full_bytes (take i line)) (get_or line i 0 ∷ []));
      value = ap (λ k. set v k (sign_of_byte (get_or line i 0))) d
          ∙ ap (λ v. set v e (sign_of_byte (get_or line i 0))) p.value
          ∙ set_next (signs_of_bytes (take i line)) n e (sign_of_byte (get_or line i 0)) c r
          ∙ ap (λ r. r ++ replicate (n - (e + 1)) Zero) (sym s);
    }

pub part_end : (n : ℕ) (line : List ℕ) (i e : ℕ) (v : List Sign) → HasFirstSigns n line i e v → length line ≤ i
    → length (concat (runs line)) ≡ n → v ≡ signs_of_line (runs line)
part_end n line i e v p l h =
    let t = take_all i line l in
    let q : length (full_bytes line) ≡ n = sym (ap length (concat-runs line)) ∙ h in
    let c : e ≡ n = p.count ∙ ap (λ r. length (full_bytes r)) t ∙ q in
    let z : n - e ≡ 0 = omega arith in
    p.value ∙ rw (z, t) (append-nil (signs_of_bytes line) ∙ sym (signs-runs line))
