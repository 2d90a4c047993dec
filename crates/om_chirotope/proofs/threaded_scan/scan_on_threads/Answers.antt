use Rattle.om_subsets.specs.Subsets.{choose}
use Rattle.std.proofs.Common.{refl, sym, subst, ap, ◌≤◌, ◌∙◌, length, ◌+◌, ◌*◌, ◌/◌}
use Rattle.om_subsets.specs.declared.binomials.TheConstants.{MOST_SUBSETS}
use Rattle.om_chirotope.specs.declared.threaded_scan.TheConstants.{BLOCK}
use Rattle.om_chirotope.proofs.BlockLaws.{none_bad, blocks_cover, few_blocks, some_blocks, blocks_fit, numbers_fit}
use Rattle.om_chirotope.proofs.BlockLaws.{pairs_fit, cost_fits, from_zero}
use Rattle.om_chirotope.proofs.FoundPairs.{some_found}
use Rattle.om_chirotope.proofs.threaded_scan.scan_on_threads.Goals as goal

pub returns-in-None-clause-none : goal.returns-in-None-clause-none
returns-in-None-clause-none g c =
    let size = ap length c.requires.filled in (
      λ e. none_bad c.args.map.now (length c.args.cocircuits.now / BLOCK + 1) c.from.result
          (c.from.ensures ∙ (c.choose-sets.ensures.value ∙ ap (λ m. choose m.elements (m.rank + 1)) c.map.view_is))
          (some_blocks (length c.args.cocircuits.now))
          (subst (λ n. n ≤ (length c.args.cocircuits.now / BLOCK + 1) * BLOCK) size
          (blocks_cover (length c.args.cocircuits.now)))
          (λ j l h. c.in-None.ensures j (from_zero j) l h),
      λ h. refl,
    )

pub pair_of-requires-clause-earlier : goal.pair_of-requires-clause-earlier
pair_of-requires-clause-earlier g c = λ j l h. c.in-Some.ensures.earlier j (from_zero j) l h

pub overflow_mul-from : goal.overflow_mul-from
overflow_mul-from g c =
    numbers_fit c.from.result (length c.args.cocircuits.now)
    (subst (λ sets. sets ≤ MOST_SUBSETS) (sym c.from.ensures) c.choose-sets.ensures.most) c.requires.few

pub invariant_of-probe : goal.invariant_of-probe
invariant_of-probe g c = record {
  rank_low = c.requires.rank_low;
  rank_high = c.requires.rank_high;
  few = c.requires.few;
  filled = c.requires.filled;
  some = some_blocks (length c.args.cocircuits.now);
  most = few_blocks (length c.args.cocircuits.now) c.requires.few;
  all = blocks_cover (length c.args.cocircuits.now);
}

pub pair_of-requires-clause-bad : goal.pair_of-requires-clause-bad
pair_of-requires-clause-bad g c = c.in-Some.ensures.is_bad

pub returns-in-Some-clause-none : goal.returns-in-Some-clause-none
returns-in-Some-clause-none g c =
    some_found c.args.map.now c.pair_of.result c.pair_of.ensures.some c.pair_of.ensures.first

pub returns-in-Some-clause-first : goal.returns-in-Some-clause-first
returns-in-Some-clause-first g c = c.pair_of.ensures.first

pub overflow_add-blocks : goal.overflow_add-blocks
overflow_add-blocks g c = blocks_fit (length c.args.cocircuits.now) c.requires.few

pub overflow_mul-cost : goal.overflow_mul-cost
overflow_mul-cost g c = pairs_fit (length c.args.cocircuits.now) c.min.result c.min.ensures

pub overflow_add-cost : goal.overflow_add-cost
overflow_add-cost g c = cost_fits (length c.args.cocircuits.now) c.min.result c.min.ensures
