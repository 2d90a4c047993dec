-- A document as one of a kind has one text.
--
-- Main results: conversions_determined.
use Rattle.std.specs.Prelude.{◌≡◌, true, false, List, refl}
use Rattle.std.proofs.Common.{sym, ◌∙◌, ap}
use Rattle.om_signs.specs.declared.sign.Sign.{Sign}
use Rattle.om_document.specs.declared.document.Document.{Document}
use Rattle.om_document.specs.declared.body.Body.{Body}
use Rattle.om_document.specs.declared.body.Body.TheVariants as body
use Rattle.om_document.specs.declared.kinds.Kind.{Kind}
use Rattle.om_document.specs.Print.{printed}
use Rattle.om_printing.specs.declared.line.Line.TheVariants as line
use Rattle.om_commands.specs.Conversions.{has_kind, HasExactly, IsMemberOf, IsConverted, IsConversion, itself, wide}
use Rattle.om_commands.specs.Conversions.{limited, converted}
use Rattle.om_reply.specs.Determined.{IsDetermined}
use Rattle.om_commands.specs.Operations.{IsNormalBody}
use Rattle.om_reply.proofs.Alike.{both_say}
use Rattle.om_representation.proofs.OneChirotope.{one_width}
use Rattle.om_commands.proofs.OneText.{IsNormalAs, denoted_alike}

-- a document isn't both of the kind and of another
apart : (k : Kind) (b : Body) → has_kind k b ≡ true → has_kind k b ≡ false → ⊥
apart k b own other = let e = sym own ∙ other in cc

exactly_normal : (P : List Sign → Type 0) (b : Body) → HasExactly P b → IsNormalBody b
exactly_normal P (body.Chirotope m) led = led
exactly_normal P _ all = tt

converted_normal : (k : Kind) (d e : Document) → IsConverted k d e → IsNormalAs k e.elements e.body
converted_normal k d e p =
    record {
      kind = p.kind;
      form = p.form.body;
      axioms = p.axioms;
      normal =
          exactly_normal (IsMemberOf k d) e.body p.members;
    }

converted_alike : (k : Kind) (d e f : Document) → IsConverted k d e → IsConverted k d f → printed e ≡ printed f
converted_alike k d e f p q =
    denoted_alike k e f (converted_normal k d e p) (converted_normal k d f q) (p.elements ∙ sym q.elements)
    (λ X size. (λ x. (q.same X).0 ((p.same X).1 x), λ x. (p.same X).0 ((q.same X).1 x)))

-- all conversions of a document to one kind look alike
pub conversions_determined : (k : Kind) (d : Document) → IsDetermined (IsConversion k d)
conversions_determined k d a b (itself own form axioms) (itself own' form' axioms') = (refl, refl)
conversions_determined k d a b (itself own form axioms) (wide w other' is') = absurd (apart k d.body own other')
conversions_determined k d a b (itself own form axioms) (limited other' narrow' many') =
    absurd (apart k d.body own other')
conversions_determined k d a b (itself own form axioms) (converted f other' narrow' few' is') =
    absurd (apart k d.body own other')
conversions_determined k d a b (wide v other is) (itself own' form' axioms') = absurd (apart k d.body own' other)
conversions_determined k d a b (wide v other is) (wide w other' is') =
    both_say (line.LimitValues v) (line.LimitValues w) (ap line.LimitValues (one_width d v w is.1 is'.1))
conversions_determined k d a b (wide v other is) (limited other' narrow' many') = absurd (narrow' v is)
conversions_determined k d a b (wide v other is) (converted f other' narrow' few' is') = absurd (narrow' v is)
conversions_determined k d a b (limited other narrow many) (itself own' form' axioms') =
    absurd (apart k d.body own' other)
conversions_determined k d a b (limited other narrow many) (wide w other' is') = absurd (narrow w is')
conversions_determined k d a b (limited other narrow many) (limited other' narrow' many') = (refl, refl)
conversions_determined k d a b (limited other narrow many) (converted f other' narrow' few' is') = absurd (few' many)
conversions_determined k d a b (converted e other narrow few is) (itself own' form' axioms') =
    absurd (apart k d.body own' other)
conversions_determined k d a b (converted e other narrow few is) (wide w other' is') = absurd (narrow w is')
conversions_determined k d a b (converted e other narrow few is) (limited other' narrow' many') = absurd (few many')
conversions_determined k d a b (converted e other narrow few is) (converted f other' narrow' few' is') =
    (refl, converted_alike k d e f is is')
