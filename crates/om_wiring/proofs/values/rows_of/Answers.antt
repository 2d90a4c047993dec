use Rattle.std.proofs.Common.{◌≡◌, ◌+◌, ◌∙◌, [], ◌∷◌, length, refl, sym, subst, inl, arith}
use Rattle.std.proofs.lemmas.List.{length-set}
use Rattle.om_signs.specs.declared.limits.TheConstants.{MAX_PLACES}
use Rattle.om_chirotope.proofs.Rows.{AreWritten, rows_more, rows_skip}
use Rattle.om_wiring.proofs.TableLaws.{single_list, filled_written, rows_up_to}
use Rattle.om_wiring.proofs.values.rows_of.Goals as goal
use Rattle.om_wiring.proofs.values.rows_of.Goals.{then-x-p, else-x-p}

pub loop-x-init : goal.loop-x-init
loop-x-init c = (
  refl,
  filled_written c.args.chi.now (c.args.p ∷ []) c.elements-elements.result c.zero-rows.result c.zero-rows.ensures
      c.elements-elements.ensures.value,
)

pub row_of-requires-clause-before : goal.row_of-requires-clause-before
row_of-requires-clause-before c = c.requires.before

pub row_of-requires-clause-apart : goal.row_of-requires-clause-apart
row_of-requires-clause-apart c = c.if-x-p.true

pub returns-clause-rows : goal.returns-clause-rows
returns-clause-rows c =
    rows_up_to c.args.chi.now (c.args.p ∷ []) c.loop-x.rows c.loop-x.x c.elements-elements.result
    c.elements-elements.ensures.value c.loop-x-test.false c.loop-x.invariant.1.below

pub loop-x-preserved : goal.loop-x-preserved
loop-x-preserved c =
    let low = c.loop-x.auto.x in
    let over = c.loop-x-test.true in
    let few = c.elements-elements.ensures.high in
    let size = c.loop-x.invariant.0 in
    elim c.if-x-p.branch [
      | then-x-p w ↦
          subst (λ rs. (length rs ≡ MAX_PLACES) × AreWritten c.args.chi.now (c.args.p ∷ []) rs (c.loop-x.x + 1))
          (sym w.rows-is) (
            length-set _ _ _ ∙ size,
            rows_more c.args.chi.now (c.args.p ∷ []) c.loop-x.rows c.loop-x.x w.row_of.result low
                (omega (arith, low, over, few, size)) w.row_of.ensures c.loop-x.invariant.1,
          )
      | else-x-p w ↦
          subst (λ rs. (length rs ≡ MAX_PLACES) × AreWritten c.args.chi.now (c.args.p ∷ []) rs (c.loop-x.x + 1))
          (sym w.rows-is) (
            size,
            rows_skip c.args.chi.now (c.args.p ∷ []) c.loop-x.rows c.loop-x.x low
                (omega (arith, low, over, few, size)) (single_list c.args.chi.now.elements c.args.p c.requires.p)
                (inl w.if-x-p.false) c.loop-x.invariant.1,
          )
    ]
