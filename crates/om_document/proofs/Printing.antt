-- The text of lines, put together piece by piece.
--
-- Main results: sign_lines_step, lines_more, rows_more, members_more, blocks_more, points_more, pushed, printed_bytes,
-- printed_map
use Rattle.std.proofs.Common.{◌≡◌, ℕ, suc, ◌+◌, ◌-◌, ◌/◌, ◌<◌, min, List, [], ◌∷◌, ◌++◌, length, take, drop, get_or}
use Rattle.std.proofs.Common.{map, refl, sym, ap, ◌∙◌, arith, append_assoc, length-drop, inl, inr, Bool, true, false}
use Rattle.std.proofs.Common.{nat_eq}
use Rattle.std.proofs.lemmas.List.{take_rest, take_min, take-map, drop-map, take_more, map-append}
use Rattle.std.proofs.Math.ListN.{drop_of_length-le}
use Rattle.std.proofs.lemmas.Bool.{cases_lt, eqb-false, eqb-true}
use Rattle.om_signs.specs.declared.block.Block.{Block}
use Rattle.om_signs.specs.declared.sign.Sign.{Sign}
use Rattle.std.specs.Prelude.{ℤ, codes, decimal, Result, Ok, Err, OnOk}
use Rattle.std.specs.Fmt.{signed_decimal}
use Rattle.om_document.specs.declared.document.Document.{Document}
use Rattle.om_lines.specs.Words.{byte_of}
use Rattle.om_document.specs.Print.{text_of, cut, sign_lines, member_lines, block_text, block_lines, spaced}
use Rattle.om_document.specs.Print.{point_lines, kind_text, body_lines, printed, unnamed_map}

-- the text of some lines and then others is the text of the first and then that of the others
pub text_of-append : (xs ys : List (List ℕ)) → text_of (xs ++ ys) ≡ text_of xs ++ text_of ys
text_of-append [] ys = refl
text_of-append (x ∷ xs) ys = ap (λ r. x ++ 10 ∷ r) (text_of-append xs ys)
    ∙ sym (append_assoc x (10 ∷ text_of xs) (text_of ys))

take_least : (k : ℕ) (xs : List Sign) → k ≡ min (length xs) 64 → take 64 xs ≡ take k xs
take_least k xs h = sym (take_min 64 xs) ∙ ap (λ k. take k xs) (let e : min 64 (length xs) ≡ k = omega arith in e)

drop_least : (k : ℕ) (xs : List Sign) → k ≡ min (length xs) 64 → drop 64 xs ≡ drop k xs
drop_least k xs h = elim (cases_lt 64 (length xs)) [
  | inl l ↦ let e : 64 ≡ k = omega arith in ap (λ k. drop k xs) e
  | inr g ↦ drop_of_length-le xs g ∙ sym (drop_of_length-le xs (omega arith))
]

-- where the test for length 0 fails, the length is positive
pub not_empty : (n : ℕ) (b : Bool) → b ≡ nat_eq n 0 → b ≡ false → 0 < n
not_empty n b e f = let h : n ≡ 0 → ⊥ = eqb-false n 0 (sym e ∙ f) in omega arith

-- where the test for length 0 succeeds, the length is 0
pub no_bytes : (n : ℕ) (b : Bool) → b ≡ nat_eq n 0 → b ≡ true → n ≡ 0
no_bytes n b e f = eqb-true n 0 (sym e ∙ f)

pub sign_lines_step : (xs : List Sign) (k : ℕ) → 0 < length xs → k ≡ min (length xs) 64
    → sign_lines xs ≡ map byte_of (take k xs) ∷ sign_lines (drop k xs)
sign_lines_step xs k h e =
    let m : (length xs + 63) / 64 ≡ suc ((length xs - k + 63) / 64) = omega arith in
    rw (m, length-drop k xs)
    (ap (λ r. r ∷ cut ((length xs - k + 63) / 64) (drop 64 (map byte_of xs)))
    (take-map byte_of 64 xs ∙ ap (map byte_of) (take_least k xs e))
    ∙ ap (λ r. map byte_of (take k xs) ∷ cut ((length xs - k + 63) / 64) r)
    (drop-map byte_of 64 xs ∙ ap (map byte_of) (drop_least k xs e)))

pub rows_more : (out new t : List ℕ) (rest : List Sign) (k : ℕ) → 0 < length rest → k ≡ min (length rest) 64
    → new ≡ (out ++ map byte_of (take k rest)) ++ 10 ∷ [] → out ++ text_of (sign_lines rest) ≡ t
    → new ++ text_of (sign_lines (take (length rest - k) (drop k rest))) ≡ t
rows_more out new t rest k h e n i =
    let s = ap text_of (sign_lines_step rest k h e) in
    rw (n, take_rest rest k)
    (append_assoc (out ++ map byte_of (take k rest)) (10 ∷ []) (text_of (sign_lines (drop k rest)))
    ∙ append_assoc out (map byte_of (take k rest)) (10 ∷ text_of (sign_lines (drop k rest)))
    ∙ ap (λ r. out ++ r) (sym s) ∙ i)

-- lines behind others
pub lines_more : (base : List ℕ) (xs ys : List (List ℕ))
    → (base ++ text_of xs) ++ text_of ys ≡ base ++ text_of (xs ++ ys)
lines_more base xs ys = append_assoc base (text_of xs) (text_of ys) ∙ ap (λ t. base ++ t) (sym (text_of-append xs ys))

-- the canonical form, from its heading, its body and its end
pub printed_bytes : {E : Type 0} (r : Result Unit E) (d : Document) (base head body out : List ℕ)
    → head ≡ (base ++ text_of (codes "om 1" ∷ [])) ++ text_of (kind_text d ∷ [])
    → body ≡ head ++ text_of (body_lines d.body) → OnOk r (out ≡ body ++ (101 ∷ 110 ∷ 100 ∷ 10 ∷ []))
    → OnOk r (out ≡ base ++ printed d)
printed_bytes (Ok x) d base head body out h b o =
    let first : List (List ℕ) = codes "om 1" ∷ [] in
    let kind : List (List ℕ) = kind_text d ∷ [] in
    let last : List (List ℕ) = codes "end" ∷ [] in
    let top : head ≡ base ++ text_of (first ++ kind) = h ∙ lines_more base first kind in
    let most : body ≡ base ++ text_of ((first ++ kind) ++ body_lines d.body) = b
    ∙ ap (λ x. x ++ text_of (body_lines d.body)) top ∙ lines_more base (first ++ kind) (body_lines d.body) in
    o ∙ ap (λ x. x ++ text_of last) most ∙ lines_more base ((first ++ kind) ++ body_lines d.body) last
printed_bytes (Err x) d base head body out h b o = tt

-- the kind line of a map, as it is printed
map_kind : (rank n : ℕ) (xs : List Sign) → codes "chirotope " ++ (decimal rank ++ 32 ∷ (decimal n ++ 10 ∷ []))
    ≡ text_of (kind_text (unnamed_map rank n xs) ∷ [])
map_kind rank n xs =
    ap (λ r. codes "chirotope " ++ r) (sym (append_assoc (decimal rank) (32 ∷ decimal n) (10 ∷ [])))

-- the canonical form of a map, from the pieces that `print_map` appends: a version line, a kind line, signs, an end
pub printed_map : {E : Type 0} (r : Result Unit E) (rank n : ℕ) (xs : List Sign) (base top line head body out : List ℕ)
    → top ≡ base ++ text_of (codes "om 1" ∷ [])
    → line ≡ codes "chirotope " ++ (decimal rank ++ 32 ∷ (decimal n ++ 10 ∷ [])) → head ≡ top ++ line
    → body ≡ head ++ text_of (sign_lines xs) → OnOk r (out ≡ body ++ (101 ∷ 110 ∷ 100 ∷ 10 ∷ []))
    → OnOk r (out ≡ base ++ printed (unnamed_map rank n xs))
printed_map r rank n xs base top line head body out t l h b o =
    printed_bytes r (unnamed_map rank n xs) base head body out (h ∙ ap (λ x. x ++ line) t
    ∙ ap (λ x. (base ++ text_of (codes "om 1" ∷ [])) ++ x) (l ∙ map_kind rank n xs)) b o

-- one more member
pub members_more : (base out new : List ℕ) (ms : List (List Sign)) (i : ℕ) (x : List Sign) → i < length ms
    → x ≡ get_or ms i x → out ≡ base ++ text_of (member_lines (take i ms)) → new ≡ (out ++ map byte_of x) ++ 10 ∷ []
    → new ≡ base ++ text_of (member_lines (take (i + 1) ms))
members_more base out new ms i x l e o n =
    let t : take (i + 1) ms ≡ take i ms ++ x ∷ [] = take_more ms i x l ∙ ap (λ y. take i ms ++ y ∷ []) (sym e) in
    let m : member_lines (take (i + 1) ms) ≡ member_lines (take i ms) ++ map byte_of x ∷ [] = ap member_lines t
    ∙ map-append (map byte_of) (take i ms) (x ∷ []) in
    let a : text_of (member_lines (take (i + 1) ms)) ≡ text_of (member_lines (take i ms))
    ++ (map byte_of x ++ 10 ∷ []) = ap text_of m
    ∙ text_of-append (member_lines (take i ms)) (map byte_of x ∷ []) in
    n ∙ append_assoc out (map byte_of x) (10 ∷ []) ∙ ap (λ y. y ++ (map byte_of x ++ 10 ∷ [])) o
    ∙ append_assoc base (text_of (member_lines (take i ms))) (map byte_of x ++ 10 ∷ []) ∙ ap (λ y. base ++ y) (sym a)

-- one more block
pub blocks_more : (base out new : List ℕ) (bs : List Block) (i : ℕ) (d : Block) → i < length bs
    → out ≡ base ++ text_of (block_lines (take i bs)) → new ≡ out ++ text_of (block_lines (get_or bs i d ∷ []))
    → new ≡ base ++ text_of (block_lines (take (i + 1) bs))
blocks_more base out new bs i d l o n =
    let b : Block = get_or bs i d in
    let t : block_lines (take (i + 1) bs) ≡ block_lines (take i bs) ++ block_lines (b ∷ []) =
    ap block_lines (take_more bs i d l) ∙ map-append block_text (take i bs) (b ∷ []) in
    n ∙ ap (λ x. x ++ text_of (block_lines (b ∷ []))) o
    ∙ append_assoc base (text_of (block_lines (take i bs))) (text_of (block_lines (b ∷ [])))
    ∙ ap (λ x. base ++ x) (sym (ap text_of t ∙ text_of-append (block_lines (take i bs)) (block_lines (b ∷ []))))

-- one more point
pub points_more : (base out new : List ℕ) (ps : List (List ℤ)) (i : ℕ) → i < length ps
    → out ≡ base ++ text_of (point_lines (take i ps)) → new ≡ out ++ text_of (point_lines (get_or ps i [] ∷ []))
    → new ≡ base ++ text_of (point_lines (take (i + 1) ps))
points_more base out new ps i l o n =
    let p : List ℤ = get_or ps i [] in
    let t : point_lines (take (i + 1) ps) ≡ point_lines (take i ps) ++ point_lines (p ∷ []) =
    ap point_lines (take_more ps i [] l) ∙ map-append (λ p. spaced (map signed_decimal p)) (take i ps) (p ∷ []) in
    n ∙ ap (λ x. x ++ text_of (point_lines (p ∷ []))) o
    ∙ append_assoc base (text_of (point_lines (take i ps))) (text_of (point_lines (p ∷ [])))
    ∙ ap (λ x. base ++ x) (sym (ap text_of t ∙ text_of-append (point_lines (take i ps)) (point_lines (p ∷ []))))

-- bytes that are pushed as others
pub pushed : {E : Type 0} (r : Result Unit E) (new old bytes text : List ℕ) → bytes ≡ text → OnOk r (new ≡ old ++ bytes)
    → OnOk r (new ≡ old ++ text)
pushed (Ok x) new old bytes text e h = h ∙ ap (λ x. old ++ x) e
pushed (Err x) new old bytes text e h = tt
