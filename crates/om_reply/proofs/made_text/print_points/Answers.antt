use Rattle.std.proofs.Common.{ap, sym, subst, ◌∙◌}
use Rattle.std.proofs.lemmas.Result.{IfOk-weaker}
use Rattle.om_document.specs.Form.{IsInForm}
use Rattle.om_document.specs.Print.{printed}
use Rattle.om_reply.proofs.PointTextLaws.{points_form}
use Rattle.om_reply.proofs.made_text.print_points.Goals as goal

pub print-requires : goal.print-requires
print-requires c =
    record {
      form = subst IsInForm (sym c.in_ok-document.ensures.value)
          (points_form c.args.vectors.now c.requires c.in_ok-document.ensures.few c.in_ok-document.ensures.each);
    }

pub returns : goal.returns
returns c = IfOk-weaker c.print.result _ _ (λ text bytes. bytes ∙ ap printed c.in_ok-document.ensures.value)
    c.print.ensures.bytes
