use Rattle.std.proofs.Common.{refl, rules}
use Rattle.om_chirotope.specs.Map.{map_of}
use Rattle.om_chirotope.proofs.Tables.{no_pairs_above, no_pairs_of_rank_zero, some_rank, rank_below}
use Rattle.om_chirotope.proofs.Tables.{counted_within}
use Rattle.om_chirotope.proofs.scan.violated_on_threads.Goals as goal

pub returns-then-raw-clause-none : goal.returns-then-raw-clause-none
returns-then-raw-clause-none g c = (λ e. no_pairs_above (map_of c.args.raw.now) c.if-raw.true, λ h. refl)

pub returns-then-raw-eq0-clause-none : goal.returns-then-raw-eq0-clause-none
returns-then-raw-eq0-clause-none g c = (λ e. no_pairs_of_rank_zero (map_of c.args.raw.now) c.if-raw-eq0.true, λ h. refl)

pub returns-then-count-gt-ROOM-clause-none : goal.returns-then-count-gt-ROOM-clause-none
returns-then-count-gt-ROOM-clause-none g c = c.scan_each.ensures.none

pub returns-then-count-gt-ROOM-clause-first : goal.returns-then-count-gt-ROOM-clause-first
returns-then-count-gt-ROOM-clause-first g c = c.scan_each.ensures.first

pub returns-then-count-gt-MANY-clause-none : goal.returns-then-count-gt-MANY-clause-none
returns-then-count-gt-MANY-clause-none g c = c.violated_with_table_on_threads.ensures.none

pub returns-then-count-gt-MANY-clause-first : goal.returns-then-count-gt-MANY-clause-first
returns-then-count-gt-MANY-clause-first g c = c.violated_with_table_on_threads.ensures.first

pub returns-then-count-gt-FEW-clause-none : goal.returns-then-count-gt-FEW-clause-none
returns-then-count-gt-FEW-clause-none g c = c.violated_with_table_on_threads-then-count-gt-FEW.ensures.none

pub returns-then-count-gt-FEW-clause-first : goal.returns-then-count-gt-FEW-clause-first
returns-then-count-gt-FEW-clause-first g c = c.violated_with_table_on_threads-then-count-gt-FEW.ensures.first

pub returns-clause-none : goal.returns-clause-none
returns-clause-none g c = c.violated_with_table_on_threads-2.ensures.none

pub returns-clause-first : goal.returns-clause-first
returns-clause-first g c = c.violated_with_table_on_threads-2.ensures.first

pub violated_with_table_on_threads-requires : goal.violated_with_table_on_threads-requires
violated_with_table_on_threads-requires g c =
    let low = some_rank c.args.raw.now.rank c.if-raw-eq0.false in
    let high = rank_below c.args.raw.now.rank c.args.raw.now.elements c.requires.rank c.if-raw.false in
    let fits = counted_within c.choose-count.ensures.value c.if-count-gt-ROOM.false in
    (c.type_bounds.sync-R, (low, (high, (fits, search rules))))

pub violated_with_table_on_threads-requires-then-count-gt-FEW :
    goal.violated_with_table_on_threads-requires-then-count-gt-FEW
violated_with_table_on_threads-requires-then-count-gt-FEW g c =
    let low = some_rank c.args.raw.now.rank c.if-raw-eq0.false in
    let high = rank_below c.args.raw.now.rank c.args.raw.now.elements c.requires.rank c.if-raw.false in
    let fits = counted_within c.choose-count.ensures.value c.if-count-gt-MANY.false in
    (c.type_bounds.sync-R, (low, (high, (fits, search rules))))

pub violated_with_table_on_threads-requires-2 : goal.violated_with_table_on_threads-requires-2
violated_with_table_on_threads-requires-2 g c =
    let low = some_rank c.args.raw.now.rank c.if-raw-eq0.false in
    let high = rank_below c.args.raw.now.rank c.args.raw.now.elements c.requires.rank c.if-raw.false in
    let fits = counted_within c.choose-count.ensures.value c.if-count-gt-FEW.false in
    (c.type_bounds.sync-R, (low, (high, (fits, search rules))))
