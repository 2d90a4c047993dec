-- The text of a line, field by field.
--
-- Main results: field_more, fields_done
use Rattle.std.proofs.Common.{ℕ, ◌≡◌, ◌+◌, ◌<◌, ◌≤◌, List, [], ◌∷◌, ◌++◌, length, get_or, drop, sym, ap, ◌∙◌}
use Rattle.std.proofs.Common.{append_assoc, add-one, drop-cons, suc}
use Rattle.std.proofs.lemmas.List.{drop_all}
use Rattle.om_printing.specs.declared.field.Field.{Field}
use Rattle.om_printing.specs.Texts.{ended, field_text}

-- one more field
pub field_more : (fields : List Field) (i : ℕ) (d x : Field) (text now whole : List ℕ) → i < length fields
    → x ≡ get_or fields i d → now ≡ text ++ field_text x → text ++ ended (drop i fields) ≡ whole
    → now ++ ended (drop (i + 1) fields) ≡ whole
field_more fields i d x text now whole l e n h =
    let q : text ++ ended (drop i fields) ≡ (text ++ field_text x) ++ ended (drop (i + 1) fields) =
    rw (add-one, drop-cons fields i d, e)
    (sym (append_assoc text (field_text (get_or fields i d)) (ended (drop (suc i) fields)))) in
    ap (λ t. t ++ ended (drop (i + 1) fields)) n ∙ sym q ∙ h

-- the line feed after all fields
pub fields_done : (fields : List Field) (i : ℕ) (text now whole : List ℕ) → length fields ≤ i → now ≡ text ++ 10 ∷ []
    → text ++ ended (drop i fields) ≡ whole → now ≡ whole
fields_done fields i text now whole l n h = n ∙ sym (ap (λ fs. text ++ ended fs) (drop_all i fields l)) ∙ h
