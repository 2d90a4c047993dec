use Rattle.std.proofs.lemmas.Result.{IfOk-from_err}
use Rattle.om_make.proofs.summarizing.sizes_of.Goals as goal

pub returns-in_err-trip_by_cocircuits : goal.returns-in_err-trip_by_cocircuits
returns-in_err-trip_by_cocircuits c =
    let x = c.from_residual.result in
    let gone = c.from_residual.ensures.0 in
    record {
      cocircuits = IfOk-from_err x _ gone;
      covectors = IfOk-from_err x _ gone;
      mutations = IfOk-from_err x _ gone;
      from_cocircuits = IfOk-from_err x _ gone;
      from_covectors = IfOk-from_err x _ gone;
    }

pub returns-in_err-trip_by_covectors : goal.returns-in_err-trip_by_covectors
returns-in_err-trip_by_covectors c =
    let x = c.from_residual-in_err-trip_by_covectors.result in
    let gone = c.from_residual-in_err-trip_by_covectors.ensures.0 in
    record {
      cocircuits = IfOk-from_err x _ gone;
      covectors = IfOk-from_err x _ gone;
      mutations = IfOk-from_err x _ gone;
      from_cocircuits = IfOk-from_err x _ gone;
      from_covectors = IfOk-from_err x _ gone;
    }

pub returns-in_err-count_mutations : goal.returns-in_err-count_mutations
returns-in_err-count_mutations c =
    let x = c.from_residual-in_err-count_mutations.result in
    let gone = c.from_residual-in_err-count_mutations.ensures.0 in
    record {
      cocircuits = IfOk-from_err x _ gone;
      covectors = IfOk-from_err x _ gone;
      mutations = IfOk-from_err x _ gone;
      from_cocircuits = IfOk-from_err x _ gone;
      from_covectors = IfOk-from_err x _ gone;
    }

pub returns : goal.returns
returns c = record {
  cocircuits = c.in_ok-trip_by_cocircuits.ensures.number;
  covectors = c.in_ok-trip_by_covectors.ensures.number;
  mutations = c.in_ok-count_mutations.ensures;
  from_cocircuits = c.in_ok-trip_by_cocircuits.ensures.back;
  from_covectors = c.in_ok-trip_by_covectors.ensures.back;
}
