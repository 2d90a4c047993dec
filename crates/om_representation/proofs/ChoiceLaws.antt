-- The chirotope on which a command works, or why there is none.
--
-- Main results: the chirotope of a representation has as many elements (elements_of); the answer where there is no
-- chirotope (rank_refused, width_answered); what is said of the chirotope that was chosen is said of the document
-- (kept_result).
use Rattle.std.specs.Prelude.{◌≡◌, ◌≢◌, Result, Ok, Err, IfOk}
use Rattle.std.proofs.Common.{sym, ap, subst, ◌∙◌}
use Rattle.om_chirotope.specs.Map.{SignMap}
use Rattle.om_document.specs.declared.document.Document.{Document}
use Rattle.om_printing.specs.declared.line.Line.{Line}
use Rattle.om_printing.specs.declared.line.Line.TheVariants as line
use Rattle.om_representation.specs.declared.representation.Representation.{Representation}
use Rattle.om_representation.specs.declared.representation.Representation.TheVariants as representation
use Rattle.om_representation.specs.declared.unchosen.Unchosen.{Unchosen}
use Rattle.om_representation.specs.declared.unchosen.Unchosen.TheVariants as unchosen
use Rattle.om_representation.specs.Chirotopes.{IsChirotopeOf}
use Rattle.om_representation.specs.Documents.{document_of}
use Rattle.om_representation.specs.Widths.{IsKept, IsUnchosen}
use Rattle.om_representation.specs.RefusalLines.{IsRankLine, IsWidthLine}
use Rattle.om_representation.specs.AnyRank.{IsForKeptChirotope, wide, kept}
use Rattle.om_representation.specs.RankThree.{IsForChirotope, for_chirotope}

-- ---- the chirotope of a representation

-- the chirotope of a representation has as many elements as its document
pub elements_of : (r : Representation) (c : SignMap) → IsChirotopeOf (document_of r) c
    → c.elements ≡ (document_of r).elements
elements_of (representation.Chirotope m) c is = ap (λ u. u.elements) is
elements_of (representation.Circuits s) c is = is.elements
elements_of (representation.Cocircuits s) c is = is.elements
elements_of (representation.Covectors s) c is = is.elements

-- ---- the answers where there is no chirotope

-- a command of rank 3
pub rank_refused : {A : Type 0} (says : Line → A) (Meaning : SignMap → A → Type 0) (d : Document)
    → ((m : SignMap) → IsChirotopeOf d m → m.rank ≢ 3 → Meaning m (says (line.RefusedNotrank3 m.rank)))
    → (why : Unchosen) → IsUnchosen d why → (l : Line) → IsRankLine why l → IsForChirotope Meaning d (says l)
rank_refused says Meaning d means (unchosen.TooWide rank values) is l same =
    let m = is.width.map in
    let number : line.RefusedNotrank3 m.rank ≡ l = ap (λ r. line.RefusedNotrank3 r) (sym is.value) ∙ sym same in
    subst (λ k. IsForChirotope Meaning d (says k)) number
    (for_chirotope m (says (line.RefusedNotrank3 m.rank)) is.width.of
    (means m is.width.of (λ three. is.other (is.value ∙ three))))
rank_refused says Meaning d means unchosen.Memory is l none = absurd none

-- a command of any rank
pub width_answered : {A : Type 0} (says : Line → A) (Meaning : SignMap → A → Type 0) (d : Document) (why : Unchosen)
    → IsUnchosen d why → (l : Line) → IsWidthLine why l → IsForKeptChirotope says Meaning d (says l)
width_answered says Meaning d (unchosen.TooWide rank values) is l same =
    subst (λ k. IsForKeptChirotope says Meaning d (says k)) (sym same) (wide values is.width)
width_answered says Meaning d unchosen.Memory is l none = absurd none

-- ---- the answer for the chirotope

-- what a result means for the chirotope of a document it means for the document, if the chirotope isn't too wide
pub kept_result : {A E : Type 0} (says : Line → A) (Meaning : SignMap → A → Type 0) (d : Document) (m : SignMap)
    (result : Result A E) → IsKept d → IsChirotopeOf d m → IfOk result (Meaning m)
    → IfOk result (IsForKeptChirotope says Meaning d)
kept_result says Meaning d m (Ok a) narrow is means = kept m a narrow is means
kept_result says Meaning d m (Err e) narrow is means = tt
