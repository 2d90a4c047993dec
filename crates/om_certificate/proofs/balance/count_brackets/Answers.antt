use Rattle.std.proofs.Common.{◌∙◌, sym, subst, false, rules}
use Rattle.om_certificate.specs.declared.entry.Entry.{Entry}
use Rattle.std.proofs.lemmas.List.{take_all}
use Rattle.om_certificate.specs.Tables.{AreCounts}
use Rattle.om_certificate.proofs.Counting.{none_counted, one_fits, one_counted, raised_side, lawful_distinct}
use Rattle.om_certificate.proofs.balance.count_brackets.Goals as goal

abbrev no_entry : Entry
no_entry =
    record { statement = record { a = 0; b = 0; c = 0; d = 0; e = 0; small = 0; big = 0; strict = false }; times = 0 }

pub loop-entry-init : goal.loop-entry-init
loop-entry-init c = none_counted c.args.chi.now.elements c.args.entries.now c.args.small.now c.args.big.now
    c.requires.small_empty c.requires.big_empty

pub loop-entry-preserved : goal.loop-entry-preserved
loop-entry-preserved c =
    one_counted c.args.chi.now.elements c.args.entries.now c.loop-entry.entry-index no_entry c.loop-entry.small
    c.loop-entry.big c.raise.new.table c.raise-in-loop-entry.new.table c.loop-entry-test.true
    (c.requires.limits.counted c.loop-entry.entry-index no_entry c.loop-entry-test.true).high c.loop-entry.invariant
    (raised_side c.args.chi.now.elements c.elements.result _ c.sides-small_first.result.0 c.sides-small_first.result.1 _
    _ c.loop-entry.small c.raise.new.table c.elements.ensures.value c.sides-small_first.ensures.small_first
    c.sides-small_first.ensures.small_second c.raise.ensures)
    (raised_side c.args.chi.now.elements c.elements.result _ c.sides-small_first.result.2 c.sides-small_first.result.3 _
    _ c.loop-entry.big c.raise-in-loop-entry.new.table c.elements.ensures.value
    c.sides-small_first.ensures.big_first c.sides-small_first.ensures.big_second c.raise-in-loop-entry.ensures)

pub returns : goal.returns
returns c = subst (λ es. AreCounts c.args.chi.now.elements es c.loop-entry.small c.loop-entry.big)
    (take_all c.loop-entry.entry-index c.args.entries.now c.loop-entry-test.false) c.loop-entry.invariant.counts

pub sides-small_first-requires : goal.sides-small_first-requires
sides-small_first-requires c =
    let lawful = c.requires.lawful c.loop-entry.entry-index no_entry c.loop-entry-test.true in
    record {
      low = search rules;
      high = search rules;
      distinct = lawful_distinct c.elements.result c.args.chi.now _ c.elements.ensures.value lawful;
      small = lawful.two.first;
      big = lawful.two.second;
    }

pub raise-requires : goal.raise-requires
raise-requires c =
    let are = c.sides-small_first.ensures in
    record {
      first = are.small_first.size;
      second = are.small_second.size;
      same = are.small_second.n ∙ sym are.small_first.n;
      room = rw (are.small_first.n, c.elements.ensures.value, c.loop-entry.auto.small) c.requires.small_room;
      fits = one_fits c.args.chi.now.elements c.args.entries.now c.loop-entry.entry-index _ c.loop-entry.small
          c.loop-entry-test.true c.requires.limits.few
          (c.requires.limits.counted c.loop-entry.entry-index _ c.loop-entry-test.true).high
          c.loop-entry.invariant.small_most;
    }

pub raise-requires-in-loop-entry : goal.raise-requires-in-loop-entry
raise-requires-in-loop-entry c =
    let are = c.sides-small_first.ensures in
    record {
      first = are.big_first.size;
      second = are.big_second.size;
      same = are.big_second.n ∙ sym are.big_first.n;
      room = rw (are.big_first.n, c.elements.ensures.value, c.loop-entry.auto.big) c.requires.big_room;
      fits = one_fits c.args.chi.now.elements c.args.entries.now c.loop-entry.entry-index _ c.loop-entry.big
          c.loop-entry-test.true c.requires.limits.few
          (c.requires.limits.counted c.loop-entry.entry-index no_entry c.loop-entry-test.true).high
          c.loop-entry.invariant.big_most;
    }
