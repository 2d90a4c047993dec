use Rattle.std.proofs.Common.{subst}
use Rattle.om_signs.specs.declared.sign.Sign.TheVariants.{Minus, Zero, Plus}
use Rattle.om_chirotope.specs.Chirotope.{IsChirotopeWithinLimits}
use Rattle.om_make.proofs.BackLaws.{comes_back}
use Rattle.om_make.proofs.CountLaws.{few_signs, counted_signs}
use Rattle.om_make.proofs.summarizing.summarize.Goals as goal

pub count-requires : goal.count-requires
count-requires c = few_signs c.args.chi (subst IsChirotopeWithinLimits c.chi.view_is c.chi.invariant) c.into_raw.result
    c.as_slice.result.now c.into_raw.ensures.value c.as_slice.ensures

pub count-requires-2 : goal.count-requires-2
count-requires-2 c = few_signs c.args.chi (subst IsChirotopeWithinLimits c.chi.view_is c.chi.invariant)
    c.into_raw.result
    c.as_slice-2.result.now c.into_raw.ensures.value c.as_slice-2.ensures

pub count-requires-3 : goal.count-requires-3
count-requires-3 c = few_signs c.args.chi (subst IsChirotopeWithinLimits c.chi.view_is c.chi.invariant)
    c.into_raw.result
    c.as_slice-3.result.now c.into_raw.ensures.value c.as_slice-3.ensures

pub returns-clause-tally : goal.returns-clause-tally
returns-clause-tally c =
    record {
      plus = counted_signs Plus c.args.chi c.into_raw.result c.as_slice.result.now c.count.result
          c.into_raw.ensures.value c.as_slice.ensures c.count.ensures;
      zero = counted_signs Zero c.args.chi c.into_raw.result c.as_slice-2.result.now c.count-2.result
          c.into_raw.ensures.value c.as_slice-2.ensures c.count-2.ensures;
      minus = counted_signs Minus c.args.chi c.into_raw.result c.as_slice-3.result.now c.count-3.result
          c.into_raw.ensures.value c.as_slice-3.ensures c.count-3.ensures;
      cocircuits = c.in_ok-sizes.ensures.cocircuits;
      covectors = c.in_ok-sizes.ensures.covectors;
      mutations = c.in_ok-sizes.ensures.mutations;
    }

pub returns-clause-back : goal.returns-clause-back
returns-clause-back c = comes_back _ c.into_raw.ensures.lawful
