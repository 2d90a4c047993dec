use Rattle.std.proofs.Common.{refl, rules}
use Rattle.om_chirotope.specs.Map.{map_of}
use Rattle.om_chirotope.proofs.Tables.{no_pairs_above, no_pairs_of_rank_zero, some_rank, rank_below}
use Rattle.om_chirotope.proofs.Tables.{counted_within}
use Rattle.om_chirotope.proofs.scan.violated.Goals as goal

pub returns-then-raw-clause-none : goal.returns-then-raw-clause-none
returns-then-raw-clause-none c = (λ e. no_pairs_above (map_of c.args.raw.now) c.if-raw.true, λ h. refl)

pub returns-then-raw-eq0-clause-none : goal.returns-then-raw-eq0-clause-none
returns-then-raw-eq0-clause-none c = (λ e. no_pairs_of_rank_zero (map_of c.args.raw.now) c.if-raw-eq0.true, λ h. refl)

pub returns-then-count-gt-ROOM-clause-none : goal.returns-then-count-gt-ROOM-clause-none
returns-then-count-gt-ROOM-clause-none c = c.scan_each.ensures.none

pub returns-then-count-gt-ROOM-clause-first : goal.returns-then-count-gt-ROOM-clause-first
returns-then-count-gt-ROOM-clause-first c = c.scan_each.ensures.first

pub returns-then-count-gt-MANY-clause-none : goal.returns-then-count-gt-MANY-clause-none
returns-then-count-gt-MANY-clause-none c = c.violated_with_table.ensures.none

pub returns-then-count-gt-MANY-clause-first : goal.returns-then-count-gt-MANY-clause-first
returns-then-count-gt-MANY-clause-first c = c.violated_with_table.ensures.first

pub returns-then-count-gt-FEW-clause-none : goal.returns-then-count-gt-FEW-clause-none
returns-then-count-gt-FEW-clause-none c = c.violated_with_table-then-count-gt-FEW.ensures.none

pub returns-then-count-gt-FEW-clause-first : goal.returns-then-count-gt-FEW-clause-first
returns-then-count-gt-FEW-clause-first c = c.violated_with_table-then-count-gt-FEW.ensures.first

pub returns-clause-none : goal.returns-clause-none
returns-clause-none c = c.violated_with_table-2.ensures.none

pub returns-clause-first : goal.returns-clause-first
returns-clause-first c = c.violated_with_table-2.ensures.first

pub overflow_sub-raw : goal.overflow_sub-raw
overflow_sub-raw c = some_rank c.args.raw.now.rank c.if-raw-eq0.false

pub scan_each-requires-clause-rank_low : goal.scan_each-requires-clause-rank_low
scan_each-requires-clause-rank_low c = some_rank c.args.raw.now.rank c.if-raw-eq0.false

pub scan_each-requires-clause-rank_high : goal.scan_each-requires-clause-rank_high
scan_each-requires-clause-rank_high c =
    rank_below c.args.raw.now.rank c.args.raw.now.elements c.requires.rank c.if-raw.false

pub violated_with_table-requires : goal.violated_with_table-requires
violated_with_table-requires c = record {
  rank_low = some_rank c.args.raw.now.rank c.if-raw-eq0.false;
  rank_high = rank_below c.args.raw.now.rank c.args.raw.now.elements c.requires.rank c.if-raw.false;
  fits = counted_within c.choose-count.ensures.value c.if-count-gt-ROOM.false;
  small = search rules;
}

pub violated_with_table-requires-then-count-gt-FEW : goal.violated_with_table-requires-then-count-gt-FEW
violated_with_table-requires-then-count-gt-FEW c = record {
  rank_low = some_rank c.args.raw.now.rank c.if-raw-eq0.false;
  rank_high = rank_below c.args.raw.now.rank c.args.raw.now.elements c.requires.rank c.if-raw.false;
  fits = counted_within c.choose-count.ensures.value c.if-count-gt-MANY.false;
  small = search rules;
}

pub violated_with_table-requires-2 : goal.violated_with_table-requires-2
violated_with_table-requires-2 c = record {
  rank_low = some_rank c.args.raw.now.rank c.if-raw-eq0.false;
  rank_high = rank_below c.args.raw.now.rank c.args.raw.now.elements c.requires.rank c.if-raw.false;
  fits = counted_within c.choose-count.ensures.value c.if-count-gt-FEW.false;
  small = search rules;
}
