use Rattle.std.proofs.Common.{◌≤◌, ◌∙◌, ap, length, refl, subst, sym}
use Rattle.std.proofs.lemmas.List.{length-map}
use Rattle.om_signs.specs.Sign.{opposite}
use Rattle.om_localize.specs.declared.circles.TheConstants.{MAX_OLD}
use Rattle.om_localize.proofs.MaskLaws.{sized_opposite}
use Rattle.om_localize.proofs.circles.add_both.Goals as goal

pub add_form-requires-2 : goal.add_form-requires-2
add_form-requires-2 c =
    record {
      whole = c.add_form.ensures.whole ∙ c.requires.whole;
      e_low = c.requires.e_low;
      e_high = c.requires.e_high;
      n_high = subst (λ n. n ≤ MAX_OLD) (sym (ap length c.neg.ensures ∙ length-map c.args.form opposite))
          c.requires.n_high;
      bit = c.requires.bits;
    }

pub returns : goal.returns
returns c = record {
  between = c.add_form.new.masks;
  first = c.add_form.ensures;
  second = sized_opposite (length c.args.form) c.args.e _ c.args.form c.neg.result _ _ refl c.neg.ensures
      c.add_form-2.ensures;
}
