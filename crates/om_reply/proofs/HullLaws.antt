-- The text of a hull.
--
-- Main results: a line (element_pushed); one more item (items_more); the whole text, behind what was there
-- (hull_pushed).
use Rattle.std.specs.Prelude.{ℕ, ◌≡◌, ◌+◌, ◌<◌, List, [], ◌∷◌, ◌++◌, codes, length, take}
use Rattle.std.proofs.Common.{get_or, arith, sym, ap, ◌∙◌, append_assoc}
use Rattle.std.proofs.lemmas.List.{take_more, length-take-le}
use Rattle.om_oriented.specs.declared.painted.Painted.{Painted}
use Rattle.om_document.specs.Print.{text_of}
use Rattle.om_document.proofs.Printing.{text_of-append}
use Rattle.om_reply.specs.HullTexts.{item_text, item_lines, hull_text}
use Rattle.om_reply.proofs.BehindLaws.{put_behind}

pub element_pushed : (base word digits signs : List ℕ)
    → (((((base ++ word) ++ 32 ∷ []) ++ digits) ++ 32 ∷ []) ++ signs) ++ 10 ∷ [] ≡ base
    ++ (((word ++ 32 ∷ digits) ++ 32 ∷ signs) ++ 10 ∷ [])
element_pushed base word digits signs = simp append_assoc

lines_more : (e : ℕ) (items : List Painted) (x : Painted)
    → item_lines e (items ++ x ∷ []) ≡ item_lines e items ++ item_text (e + length items) x ∷ []
lines_more e [] x = let same : e ≡ e + length {A = Painted} [] = omega arith in ap (λ k. item_text k x ∷ []) same
lines_more e (y ∷ ys) x =
    let same : e + 1 + length ys ≡ e + length (y ∷ ys) = omega arith in
    ap (λ ls. item_text e y ∷ ls) (lines_more (e + 1) ys x ∙ ap (λ k. item_lines (e + 1) ys ++ item_text k x ∷ []) same)

pub items_more : (base out new : List ℕ) (items : List Painted) (i : ℕ) (x : Painted) → i < length items
    → x ≡ get_or items i x → out ≡ base ++ text_of (item_lines 1 (take i items))
    → new ≡ out ++ (item_text (i + 1) x ++ 10 ∷ []) → new ≡ base ++ text_of (item_lines 1 (take (i + 1) items))
items_more base out new items i x l e o n =
    let t : take (i + 1) items ≡ take i items ++ x ∷ [] = take_more items i x l
    ∙ ap (λ y. take i items ++ y ∷ []) (sym e) in
    let size : length (take i items) ≡ i = length-take-le i items (omega (arith, l)) in
    let place : 1 + length (take i items) ≡ i + 1 = omega (arith, size) in
    let m : item_lines 1 (take (i + 1) items) ≡ item_lines 1 (take i items) ++ item_text (i + 1) x ∷ [] =
    ap (item_lines 1) t ∙ lines_more 1 (take i items) x
    ∙ ap (λ k. item_lines 1 (take i items) ++ item_text k x ∷ []) place in
    let a : text_of (item_lines 1 (take (i + 1) items)) ≡ text_of (item_lines 1 (take i items))
    ++ (item_text (i + 1) x ++ 10 ∷ []) = ap text_of m
    ∙ text_of-append (item_lines 1 (take i items)) (item_text (i + 1) x ∷ []) in
    n ∙ ap (λ y. y ++ (item_text (i + 1) x ++ 10 ∷ [])) o
    ∙ append_assoc base (text_of (item_lines 1 (take i items))) (item_text (i + 1) x ++ 10 ∷ [])
    ∙ ap (λ y. base ++ y) (sym a)

hull_bytes : (items : List Painted) → (codes "acyclic\n" ++ text_of (item_lines 1 items)) ++ codes "end\n"
    ≡ hull_text items
hull_bytes items =
    let last : List (List ℕ) = codes "end" ∷ [] in
    append_assoc (codes "acyclic\n") (text_of (item_lines 1 items)) (text_of last)
    ∙ ap (λ r. codes "acyclic" ++ 10 ∷ r) (sym (text_of-append (item_lines 1 items) last))

pub hull_pushed : (base : List ℕ) (items : List Painted) (head body whole : List ℕ) → head ≡ base ++ codes "acyclic\n"
    → body ≡ head ++ text_of (item_lines 1 items) → whole ≡ body ++ codes "end\n" → whole ≡ base ++ hull_text items
hull_pushed base items head body whole a b c =
    let lines = put_behind base head (codes "acyclic\n") (text_of (item_lines 1 items)) body a b in
    let all = put_behind base body (codes "acyclic\n" ++ text_of (item_lines 1 items)) (codes "end\n") whole lines c in
    all ∙ ap (λ x. base ++ x) (hull_bytes items)
