use Rattle.std.proofs.Common.{◌-◌, ◌∙◌, ap, bit_and, get_or}
use Rattle.om_localize.specs.declared.circles.TheConstants.{MAX_OLD}
use Rattle.om_localize.specs.Masks.{mask_place}
use Rattle.om_localize.proofs.PairLaws.{pair_bounds}
use Rattle.om_localize.proofs.NarrowedForms.{written}
use Rattle.om_localize.proofs.nodes.narrow.Goals as goal

pub cut-first-requires : goal.cut-first-requires
cut-first-requires c =
    let pair = pair_bounds c.args.a c.args.b MAX_OLD c.requires.low c.requires.order c.requires.high in
    record {
      whole = c.requires.whole;
      circles = c.requires.circles;
      e_low = pair.first_low;
      e_high = pair.first_high;
      f_low = pair.second_low;
      f_high = pair.second_high;
    }

pub cut-second-requires : goal.cut-second-requires
cut-second-requires c =
    let pair = pair_bounds c.args.a c.args.b MAX_OLD c.requires.low c.requires.order c.requires.high in
    record {
      whole = c.requires.whole;
      circles = c.requires.circles;
      e_low = pair.second_low;
      e_high = pair.second_high;
      f_low = pair.first_low;
      f_high = pair.first_high;
    }

pub returns : goal.returns
returns c = c.put.ensures
    ∙ written c.args.masks.now c.args.forms.now c.args.a c.args.b c.args.sign c.cut-first.result c.cut-second.result
    c.requires.low c.requires.order c.cut-first.ensures
    (c.cut-second.ensures
    ∙ ap (λ s. bit_and (get_or c.args.forms.now (c.args.b - 1) 0)
    (get_or c.args.masks.now (mask_place c.args.b c.args.a s) 0)) c.neg.ensures)
