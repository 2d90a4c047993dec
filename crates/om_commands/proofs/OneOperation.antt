-- What an operation makes of a document has one text.
--
-- Main results: operations_determined.
-- Reference: Björner, Las Vergnas, Sturmfels, White and Ziegler, Oriented Matroids, chapters 3 and 4.
use Rattle.std.specs.Prelude.{ℕ, ◌≡◌, ◌+◌, ◌≤◌, ◌↔◌, List, length, refl}
use Rattle.std.proofs.Common.{sym, ◌∙◌, ap, subst, arith}
use Rattle.std.proofs.lemmas.Option.{none-some}
use Rattle.om_signs.specs.declared.sign.Sign.{Sign}
use Rattle.om_denotation.specs.Denotation.{DenoteTheSame}
use Rattle.om_document.specs.declared.document.Document.{Document}
use Rattle.om_document.specs.declared.body.Body.{Body}
use Rattle.om_document.specs.declared.body.Body.TheVariants as body
use Rattle.om_document.specs.Print.{printed}
use Rattle.om_printing.specs.declared.line.Line.TheVariants as line
use Rattle.om_representation.specs.Covectors.{IsCovectorIn}
use Rattle.om_commands.specs.declared.operation.Operation.{Operation}
use Rattle.om_commands.specs.declared.operation.Operation.TheVariants.{Dual, Delete, Contract, Reorient}
use Rattle.om_reply.specs.Determined.{IsDetermined}
use Rattle.om_commands.specs.Operations.{TakesOnly, elements_left, AreMade, kind_made, TakesChirotope, HasTooManyOn}
use Rattle.om_commands.specs.Operations.{IsResult, IsOperation, outside, last, wide, limited, made}
use Rattle.om_reply.proofs.Alike.{both_say, one_place}
use Rattle.om_representation.proofs.OneChirotope.{one_width}
use Rattle.om_commands.proofs.OneText.{IsNormalAs, denoted_alike}

-- ---- what is made

both_of : (A B C : Type 0) → A ↔ C → B ↔ C → A ↔ B
both_of A B C f g = (λ a. g.1 (f.0 a), λ b. f.1 (g.0 b))

made_once : (o : Operation) (n : ℕ) (P Q R : List Sign → Type 0) → 1 ≤ elements_left o n → AreMade o n P Q
    → AreMade o n P R → DenoteTheSame (elements_left o n) Q R
made_once Dual n P Q R some q r X size = both_of _ _ _ (q X size) (r X size)
made_once (Delete e) n P Q R some q r X size = let s : length X + 1 ≡ n = omega arith in both_of _ _ _ (q X s) (r X s)
made_once (Contract e) n P Q R some q r X size = let s : length X + 1 ≡ n = omega arith in both_of _ _ _ (q X s) (r X s)
made_once (Reorient mask) n P Q R some q r X size = both_of _ _ _ (q X size) (r X size)

made_normal : (o : Operation) (d e : Document) → IsResult o d e → IsNormalAs (kind_made d.body o) e.elements e.body
made_normal o d e p = record { kind = p.image.kind; form = p.form.body; axioms = p.axioms; normal = p.image.normal }

made_alike : (o : Operation) (d e f : Document) → IsResult o d e → IsResult o d f → printed e ≡ printed f
made_alike o d e f p q =
    let same = made_once o d.elements (IsCovectorIn d) (IsCovectorIn e) (IsCovectorIn f)
    (subst (λ n. 1 ≤ n) p.image.elements p.form.low) p.image.covectors q.image.covectors in
    denoted_alike (kind_made d.body o) e f (made_normal o d e p) (made_normal o d f q)
    (p.image.elements ∙ sym q.image.elements)
    (subst (λ n. DenoteTheSame n (IsCovectorIn e) (IsCovectorIn f)) (sym p.image.elements) same)

-- ---- the cases exclude each other

-- what would take the only element away is made without a chirotope, and has no more members
direct : (b : Body) (o : Operation) (n : ℕ) → TakesOnly o n → TakesChirotope b o → ⊥
direct (body.Covectors members) Dual n only takes = only
direct (body.Covectors members) _ n only takes = takes
direct _ o n only takes = takes

few : (b : Body) (o : Operation) (n : ℕ) (P : List Sign → Type 0) → TakesOnly o n → HasTooManyOn b o n P → ⊥
few (body.Covectors members) Dual n P only many = only
few (body.Covectors members) _ n P only many = many
few _ o n P only many = many

-- ---- the answer

-- all results of an operation on a document look alike
pub operations_determined : (o : Operation) (d : Document) → IsDetermined (IsOperation o d)
operations_determined o d a b (outside e is) (outside f is') = one_place _ e f is is'
operations_determined o d a b (outside e is) (last none' only') = absurd (none-some e (sym none' ∙ is))
operations_determined o d a b (outside e is) (wide w none' is') = absurd (none-some e (sym none' ∙ is))
operations_determined o d a b (outside e is) (limited none' narrow' many') = absurd (none-some e (sym none' ∙ is))
operations_determined o d a b (outside e is) (made f none' left' narrow' few' is') =
    absurd (none-some e (sym none' ∙ is))
operations_determined o d a b (last none only) (outside f is') = absurd (none-some f (sym none ∙ is'))
operations_determined o d a b (last none only) (last none' only') = (refl, refl)
operations_determined o d a b (last none only) (wide w none' is') = absurd (direct d.body o d.elements only is'.0)
operations_determined o d a b (last none only) (limited none' narrow' many') =
    absurd (few d.body o d.elements (IsCovectorIn d) only many')
operations_determined o d a b (last none only) (made f none' left' narrow' few' is') = absurd (left' only)
operations_determined o d a b (wide v none is) (outside f is') = absurd (none-some f (sym none ∙ is'))
operations_determined o d a b (wide v none is) (last none' only') = absurd (direct d.body o d.elements only' is.0)
operations_determined o d a b (wide v none is) (wide w none' is') =
    both_say (line.LimitValues v) (line.LimitValues w) (ap line.LimitValues (one_width d v w is.1 is'.1))
operations_determined o d a b (wide v none is) (limited none' narrow' many') = absurd (narrow' v is)
operations_determined o d a b (wide v none is) (made f none' left' narrow' few' is') = absurd (narrow' v is)
operations_determined o d a b (limited none narrow many) (outside f is') = absurd (none-some f (sym none ∙ is'))
operations_determined o d a b (limited none narrow many) (last none' only') =
    absurd (few d.body o d.elements (IsCovectorIn d) only' many)
operations_determined o d a b (limited none narrow many) (wide w none' is') = absurd (narrow w is')
operations_determined o d a b (limited none narrow many) (limited none' narrow' many') = (refl, refl)
operations_determined o d a b (limited none narrow many) (made f none' left' narrow' few' is') = absurd (few' many)
operations_determined o d a b (made e none left narrow few is) (outside f is') = absurd (none-some f (sym none ∙ is'))
operations_determined o d a b (made e none left narrow few is) (last none' only') = absurd (left only')
operations_determined o d a b (made e none left narrow few is) (wide w none' is') = absurd (narrow w is')
operations_determined o d a b (made e none left narrow few is) (limited none' narrow' many') = absurd (few many')
operations_determined o d a b (made e none left narrow few is) (made f none' left' narrow' few' is') =
    (refl, made_alike o d e f is is')
