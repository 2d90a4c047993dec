use Rattle.std.proofs.Common.{◌≡◌, ◌∙◌, All, length, ap, sym, subst}
use Rattle.std.proofs.lemmas.Result.{IfOk-weaker}
use Rattle.om_rows.specs.Rows.{IsPlace}
use Rattle.om_decide.specs.Answers.{IsEndOf}
use Rattle.om_certificate.specs.declared.verdict.Verdict.TheVariants.{Nonrealizable, Undecided}
use Rattle.om_certificate.specs.Weights.{nonzero_brackets}
use Rattle.om_decide.specs.Columns.{entries_of, weights_on}
use Rattle.om_decide.specs.Verdicts.{pivot_limit, width, IsVerdictOf}
use Rattle.om_decide.proofs.VerdictLaws.{counted_places, nonrealizable_by, undecided_by}
use Rattle.om_decide.proofs.deciding.by_statements.Goals as goal

pub balanced-requires : goal.balanced-requires
balanced-requires c =
    let m = c.args.chi.now in
    subst (λ cs. All (λ k. IsPlace (length c.args.statements.now) k.column) cs) (sym c.as_slice.ensures)
    (counted_places m c.args.budgets.pivots c.args.statements.now c.in-Balanced.counts c.requires.all
    (subst (IsEndOf m c.args.budgets.pivots) c.in-Balanced.is c.in_ok-counts.ensures))

pub returns-in-Balanced : goal.returns-in-Balanced
returns-in-Balanced c =
    let m = c.args.chi.now in
    let ss = c.args.statements.now in
    let end = subst (IsEndOf m c.args.budgets.pivots) c.in-Balanced.is c.in_ok-counts.ensures in
    IfOk-weaker c.balanced.result (λ v. v ≡ Nonrealizable (entries_of ss c.as_slice.result.now))
    (IsVerdictOf m c.args.budgets)
    (λ v e. nonrealizable_by m c.args.budgets ss c.in-Balanced.counts v c.requires.all end
    (e ∙ ap (λ cs. Nonrealizable (entries_of ss cs)) c.as_slice.ensures)) c.balanced.ensures

pub returns-in-Weights : goal.returns-in-Weights
returns-in-Weights c =
    let m = c.args.chi.now in
    let end = subst (IsEndOf m c.args.budgets.pivots) c.in-Weights.is c.in_ok-counts.ensures in
    IfOk-weaker c.weighed.result
    (λ v. v ≡ Undecided (weights_on (nonzero_brackets m) c.in-Weights.values) c.args.unfound)
    (IsVerdictOf m c.args.budgets)
    (λ v e. undecided_by m c.args.budgets c.in-Weights.values v c.args.unfound end c.requires.unfound e)
    c.weighed.ensures

pub returns-in-PivotLimit : goal.returns-in-PivotLimit
returns-in-PivotLimit c = pivot_limit c.in-PivotLimit.basis c.args.unfound
    (subst (IsEndOf c.args.chi.now c.args.budgets.pivots) c.in-PivotLimit.is c.in_ok-counts.ensures) c.requires.unfound

pub returns-in-Width : goal.returns-in-Width
returns-in-Width c = width c.in-Width.stage c.in-Width.pivot c.in-Width.row c.in-Width.place c.args.unfound
    (subst (IsEndOf c.args.chi.now c.args.budgets.pivots) c.in-Width.is c.in_ok-counts.ensures) c.requires.unfound
