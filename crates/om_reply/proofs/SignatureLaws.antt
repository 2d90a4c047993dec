-- The text of a list of extensions.
--
-- Main results: one more signature (signatures_more); the whole text, behind what was there (extensions_pushed).
use Rattle.std.specs.Prelude.{ℕ, ◌≡◌, ◌+◌, ◌<◌, List, [], ◌∷◌, ◌++◌, codes, length, take}
use Rattle.std.specs.Fmt.{decimal}
use Rattle.std.proofs.Common.{get_or, sym, ap, ◌∙◌, append_assoc}
use Rattle.std.proofs.lemmas.List.{take_more, map-append}
use Rattle.om_signs.specs.declared.sign.Sign.{Sign}
use Rattle.om_localize.specs.declared.listing.Listing.{Listing}
use Rattle.om_document.specs.Print.{text_of}
use Rattle.om_document.proofs.Printing.{text_of-append}
use Rattle.om_printing.specs.Texts.{signs_text}
use Rattle.om_reply.specs.ExtensionTexts.{signature_lines, last_word, extensions_text}
use Rattle.om_reply.proofs.BehindLaws.{put_behind}

pub signatures_more : (base out new : List ℕ) (lines : List (List Sign)) (i : ℕ) (s : List Sign) → i < length lines
    → s ≡ get_or lines i s → out ≡ base ++ text_of (signature_lines (take i lines))
    → new ≡ out ++ (signs_text s ++ 10 ∷ []) → new ≡ base ++ text_of (signature_lines (take (i + 1) lines))
signatures_more base out new lines i s l e o n =
    let t : take (i + 1) lines ≡ take i lines ++ s ∷ [] = take_more lines i s l
    ∙ ap (λ y. take i lines ++ y ∷ []) (sym e) in
    let m : signature_lines (take (i + 1) lines) ≡ signature_lines (take i lines) ++ signs_text s ∷ [] =
    ap signature_lines t ∙ map-append signs_text (take i lines) (s ∷ []) in
    let a : text_of (signature_lines (take (i + 1) lines)) ≡ text_of (signature_lines (take i lines))
    ++ (signs_text s ++ 10 ∷ []) = ap text_of m
    ∙ text_of-append (signature_lines (take i lines)) (signs_text s ∷ []) in
    n ∙ ap (λ y. y ++ (signs_text s ++ 10 ∷ [])) o
    ∙ append_assoc base (text_of (signature_lines (take i lines))) (signs_text s ++ 10 ∷ [])
    ∙ ap (λ y. base ++ y) (sym a)

extensions_bytes : (n : ℕ) (lines : List (List Sign)) (word : List ℕ)
    → ((((codes "om 1\nextensions " ++ decimal n) ++ 10 ∷ []) ++ text_of (signature_lines lines)) ++ word) ++ 10 ∷ []
    ≡ text_of (codes "om 1" ∷ (codes "extensions" ++ 32 ∷ decimal n) ∷ (signature_lines lines ++ word ∷ []))
extensions_bytes n lines word =
    let head : List ℕ = (codes "om 1\nextensions " ++ decimal n) ++ 10 ∷ [] in
    let body : List ℕ = text_of (signature_lines lines) in
    append_assoc (head ++ body) word (10 ∷ [])
    ∙ append_assoc head body (word ++ 10 ∷ [])
    ∙ append_assoc (codes "om 1\nextensions " ++ decimal n) (10 ∷ []) (body ++ (word ++ 10 ∷ []))
    ∙ ap (λ r. codes "om 1\nextensions " ++ decimal n ++ 10 ∷ r)
    (sym (text_of-append (signature_lines lines) (word ∷ [])))

pub extensions_pushed : (base : List ℕ) (n : ℕ) (l : Listing) (k : ℕ) (slice : List (List Sign))
    (name count head body word last whole : List ℕ) → k ≡ n → slice ≡ l.lines → word ≡ last_word l.more
    → name ≡ base ++ codes "om 1\nextensions " → count ≡ name ++ decimal k → head ≡ count ++ 10 ∷ []
    → body ≡ head ++ text_of (signature_lines slice) → last ≡ body ++ word → whole ≡ last ++ 10 ∷ []
    → whole ≡ base ++ extensions_text n l
extensions_pushed base n l k slice name count head body word last whole number same behind a b c d f g =
    let words : List ℕ = codes "om 1\nextensions " in
    let size : count ≡ base ++ (words ++ decimal n) =
    put_behind base name words (decimal n) count a (b ∙ ap (λ j. name ++ decimal j) number) in
    let start : head ≡ base ++ ((words ++ decimal n) ++ 10 ∷ []) =
    put_behind base count (words ++ decimal n) (10 ∷ []) head size c in
    let lines = put_behind base head ((words ++ decimal n) ++ 10 ∷ []) (text_of (signature_lines l.lines)) body start
    (d ∙ ap (λ s. head ++ text_of (signature_lines s)) same) in
    let named = put_behind base body (((words ++ decimal n) ++ 10 ∷ []) ++ text_of (signature_lines l.lines))
    (last_word l.more) last lines (f ∙ ap (λ w. body ++ w) behind) in
    let all =
    put_behind base last
    ((((words ++ decimal n) ++ 10 ∷ []) ++ text_of (signature_lines l.lines)) ++ last_word l.more) (10 ∷ []) whole
    named g in
    all ∙ ap (λ x. base ++ x) (extensions_bytes n l.lines (last_word l.more))
