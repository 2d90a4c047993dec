use Rattle.std.proofs.Common.{◌∷◌, [], ◌++◌, ◌∙◌, sym, ap, get_or}
use Rattle.std.proofs.lemmas.List.{map_more}
use Rattle.om_simplex.specs.declared.count.Count.{Count}
use Rattle.om_certificate.specs.declared.entry.Entry.{Entry}
use Rattle.om_decide.specs.Columns.{statement_at}
use Rattle.om_decide.proofs.evidence.entries.Goals as goal

abbrev no_count : Count
no_count = record { column = 0; times = 0 }

pub loop-count-preserved : goal.loop-count-preserved
loop-count-preserved c =
    let f : Count → Entry = λ k. record { statement = statement_at c.args.statements.now k.column; times = k.times } in
    c.in_ok-push.ensures.ok ∙ ap (λ es. es ++ f (get_or c.args.counts.now c.loop-count.count-index no_count) ∷ [])
    c.loop-count.invariant
    ∙ sym (map_more f c.args.counts.now c.loop-count.count-index no_count c.loop-count-test.true)
