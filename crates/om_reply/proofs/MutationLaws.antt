-- The text of a list of mutations.
--
-- Main results: one more set (sets_more); the whole text, behind what was there (mutations_pushed).
use Rattle.std.specs.Prelude.{ℕ, ◌≡◌, ◌+◌, ◌<◌, List, [], ◌∷◌, ◌++◌, codes, length, take}
use Rattle.std.specs.Fmt.{decimal}
use Rattle.std.proofs.Common.{get_or, sym, ap, ◌∙◌, append_assoc}
use Rattle.std.proofs.lemmas.List.{take_more, map-append}
use Rattle.om_subsets.specs.Members.{Chosen}
use Rattle.om_document.specs.Print.{text_of}
use Rattle.om_document.proofs.Printing.{text_of-append}
use Rattle.om_printing.specs.Texts.{subset_text}
use Rattle.om_reply.specs.MutationTexts.{set_lines, mutations_text}
use Rattle.om_reply.proofs.BehindLaws.{put_behind}

pub sets_more : (base out new : List ℕ) (sets : List Chosen) (i : ℕ) (s : Chosen) → i < length sets
    → s ≡ get_or sets i s → out ≡ base ++ text_of (set_lines (take i sets))
    → new ≡ (out ++ subset_text s.elements) ++ 10 ∷ [] → new ≡ base ++ text_of (set_lines (take (i + 1) sets))
sets_more base out new sets i s l e o n =
    let t : take (i + 1) sets ≡ take i sets ++ s ∷ [] = take_more sets i s l
    ∙ ap (λ y. take i sets ++ y ∷ []) (sym e) in
    let m : set_lines (take (i + 1) sets) ≡ set_lines (take i sets) ++ subset_text s.elements ∷ [] = ap set_lines t
    ∙ map-append (λ u. subset_text u.elements) (take i sets) (s ∷ []) in
    let a : text_of (set_lines (take (i + 1) sets)) ≡ text_of (set_lines (take i sets))
    ++ (subset_text s.elements ++ 10 ∷ []) = ap text_of m
    ∙ text_of-append (set_lines (take i sets)) (subset_text s.elements ∷ []) in
    n ∙ append_assoc out (subset_text s.elements) (10 ∷ []) ∙ ap (λ y. y ++ (subset_text s.elements ++ 10 ∷ [])) o
    ∙ append_assoc base (text_of (set_lines (take i sets))) (subset_text s.elements ++ 10 ∷ [])
    ∙ ap (λ y. base ++ y) (sym a)

mutations_bytes : (sets : List Chosen)
    → (((codes "mutations " ++ decimal (length sets)) ++ 10 ∷ []) ++ text_of (set_lines sets)) ++ codes "end\n"
    ≡ mutations_text sets
mutations_bytes sets =
    let last : List (List ℕ) = codes "end" ∷ [] in
    let size : List ℕ = decimal (length sets) in
    append_assoc ((codes "mutations " ++ size) ++ 10 ∷ []) (text_of (set_lines sets)) (text_of last)
    ∙ append_assoc (codes "mutations " ++ size) (10 ∷ []) (text_of (set_lines sets) ++ text_of last)
    ∙ ap (λ r. codes "mutations " ++ size ++ 10 ∷ r) (sym (text_of-append (set_lines sets) last))

pub mutations_pushed : (base : List ℕ) (sets : List Chosen) (name count head body whole : List ℕ)
    → name ≡ base ++ codes "mutations " → count ≡ name ++ decimal (length sets) → head ≡ count ++ 10 ∷ []
    → body ≡ head ++ text_of (set_lines sets) → whole ≡ body ++ codes "end\n" → whole ≡ base ++ mutations_text sets
mutations_pushed base sets name count head body whole a b c d f =
    let e : count ≡ base ++ (codes "mutations " ++ decimal (length sets)) =
    put_behind base name (codes "mutations ") (decimal (length sets)) count a b in
    let g : head ≡ base ++ ((codes "mutations " ++ decimal (length sets)) ++ 10 ∷ []) =
    put_behind base count (codes "mutations " ++ decimal (length sets)) (10 ∷ []) head e c in
    let h = put_behind base head ((codes "mutations " ++ decimal (length sets)) ++ 10 ∷ []) (text_of (set_lines sets))
    body g d in
    let i = put_behind base body
    (((codes "mutations " ++ decimal (length sets)) ++ 10 ∷ []) ++ text_of (set_lines sets)) (codes "end\n") whole
    h f in
    i ∙ ap (λ x. base ++ x) (mutations_bytes sets)
