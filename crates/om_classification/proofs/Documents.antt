-- Documents that are read as members, and what is at fault with others.
--
-- Main results: same_fault, member_read, fault_read, other_kind
use Rattle.std.specs.Prelude.{ℕ, ◌≡◌, ◌≢◌, ◌⊎◌, ◌≤◌, List, length, IfOk, Result, Ok, Err}
use Rattle.std.proofs.Common.{refl, sym, subst, inl, inr}
use Rattle.om_signs.specs.declared.limits.TheConstants.{MAX_INPUT}
use Rattle.om_signs.specs.declared.raw_map.RawMap.{RawMap}
use Rattle.om_chirotope.specs.Map.{SignMap, map_of}
use Rattle.om_chirotope.specs.Chirotope.{IsChirotope}
use Rattle.om_document.specs.declared.body.Body.TheVariants.{Chirotope}
use Rattle.om_document.specs.declared.document.Document.{Document}
use Rattle.om_document.specs.Document.{IsDocument}
use Rattle.om_lines.specs.Lines.{lines}
use Rattle.om_classification.specs.declared.fault.Fault.{Fault}
use Rattle.om_classification.specs.declared.fault.Fault.TheVariants.{Kind, Axioms, Rank}
use Rattle.om_classification.specs.declared.document.Unread.{Unread}
use Rattle.om_classification.specs.declared.document.Unread.TheVariants.{Fault as Faulty}
use Rattle.om_classification.specs.Documents.{IsDocumentOf, IsMember, IsAtFault, kind, axioms, rank}

pub same_fault : {X : Type 0} (a b : Fault) → ◌≡◌ {A = Result X Unread} (Err (Faulty a)) (Err (Faulty b)) → a ≡ b
same_fault a b e = cc

document_read : (d : Document) (raw : RawMap) (m : SignMap) → d.body ≡ Chirotope raw → m ≡ map_of raw
    → (piece : List ℕ) → length piece ≤ MAX_INPUT → IsDocument (lines piece) d → IsDocumentOf piece m
document_read d raw m b e piece short spelled =
    record { document = d; raw = raw; short = short; spelled = spelled; body = b; map = e }

pub member_read : (d : Document) (raw : RawMap) (result : Result SignMap Unread) → d.body ≡ Chirotope raw
    → IfOk result (λ m. m ≡ map_of raw) → IfOk result IsChirotope → IfOk result (λ m. m.rank ≡ 3)
    → IfOk result (λ m. (piece : List ℕ) → length piece ≤ MAX_INPUT → IsDocument (lines piece) d → IsMember piece m)
member_read d raw (Ok m) b e a t = λ piece short spelled.
    record { document = document_read d raw m b e piece short spelled; axioms = a; rank = t }
member_read d raw (Err why) b e a t = tt

pub fault_read : (d : Document) (raw : RawMap) (why : Fault) → d.body ≡ Chirotope raw
    → ((why ≡ Axioms) × (IsChirotope (map_of raw) → ⊥)) ⊎ ((why ≡ Rank) × IsChirotope (map_of raw) × (raw.rank ≢ 3))
    → (piece : List ℕ) → length piece ≤ MAX_INPUT → IsDocument (lines piece) d → IsAtFault piece why
fault_read d raw why b (inl (e, fails)) piece short spelled =
    subst (λ x. IsAtFault piece x) (sym e)
    (axioms (map_of raw) (document_read d raw (map_of raw) b refl piece short spelled) fails)
fault_read d raw why b (inr (e, meets, other)) piece short spelled =
    subst (λ x. IsAtFault piece x) (sym e)
    (rank (map_of raw) (document_read d raw (map_of raw) b refl piece short spelled) meets other)

pub other_kind : (d : Document) (why : Fault) → Kind ≡ why → ((raw : RawMap) → d.body ≢ Chirotope raw)
    → (piece : List ℕ) → length piece ≤ MAX_INPUT → IsDocument (lines piece) d → IsAtFault piece why
other_kind d why e other piece short spelled = subst (λ x. IsAtFault piece x) e (kind d short spelled other)
