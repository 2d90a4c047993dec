use Rattle.std.proofs.Common.{◌++◌, refl, inl, ap, sym, subst, ◌∙◌}
use Rattle.om_lines.specs.Lines.{lines}
use Rattle.om_document.specs.Form.{IsInForm}
use Rattle.om_document.specs.Print.{printed, unnamed_map}
use Rattle.om_answer.specs.Claim.{IsClaim}
use Rattle.om_reply.specs.VerdictText.{chirotope_document, lines_text, block_lines, claim_of}
use Rattle.om_chirotope.proofs.FewValues.{few_values}
use Rattle.om_answer.proofs.VerdictReading.{claim_read}
use Rattle.om_answer.proofs.verdict.print_verdict.Goals as goal

pub returns-clause-text : goal.returns-clause-text
returns-clause-text c = c.in_ok-push_block.ensures
    ∙ ap (λ bytes. bytes ++ lines_text (block_lines c.args.verdict.now))
    (c.in_ok-text.ensures ∙ (ap (λ r. printed (unnamed_map r c.elements.result c.signs.result.now)) c.rank.ensures.value
    ∙ (ap (λ n. printed (unnamed_map c.args.chi.now.rank n c.signs.result.now)) c.elements.ensures.value
    ∙ ap (λ xs. printed (unnamed_map c.args.chi.now.rank c.args.chi.now.elements xs)) c.signs.ensures)))

pub returns-clause-claim : goal.returns-clause-claim
returns-clause-claim c =
    let m = c.args.chi.now in
    let v = c.args.verdict.now in
    let form : IsInForm (chirotope_document m) = record {
      low = c.rank.ensures.some;
      high = c.rank.ensures.few;
      body = record {
        elements = refl;
        rank = c.elements.ensures.part;
        signs = c.elements.ensures.lawful.whole.whole;
        few = few_values m c.rank.ensures.few c.requires.few;
      };
      names = inl refl;
    } in
    subst (λ bytes. IsClaim (lines bytes) (claim_of m v)) (sym (returns-clause-text c))
    (claim_read m v form c.requires.form)
