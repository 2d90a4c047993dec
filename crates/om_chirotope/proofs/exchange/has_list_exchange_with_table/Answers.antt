use Rattle.std.proofs.Common.{arith, subst, sym, ap, ◌*◌, ◌≤◌, ◌^◌}
use Rattle.om_chirotope.specs.declared.marking.TheConstants.{WORD_BITS}
use Rattle.om_chirotope.proofs.exchange.has_list_exchange_with_table.Goals as goal

pub whole_as_front-marks : goal.whole_as_front-marks
whole_as_front-marks g c =
    let small = c.requires.small in (
      c.number_of_words.ensures.least _
          (subst (λ n. 2 ^ n ≤ WORD_BITS * _) (sym (ap (λ m. m.elements) c.map.view_is)) c.requires.room),
      omega (arith, small),
    )
