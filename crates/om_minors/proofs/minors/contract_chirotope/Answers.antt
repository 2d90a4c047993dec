use Rattle.std.proofs.Common.{arith}
use Rattle.std.proofs.lemmas.Result.{IfOk-from_err}
use Rattle.om_minors.proofs.LastElements.{none_of_memory, none_of_ok}
use Rattle.om_minors.proofs.minors.contract_chirotope.Goals as goal

pub contraction_beside_others-requires-clause-several : goal.contraction_beside_others-requires-clause-several
contraction_beside_others-requires-clause-several c =
    let some = c.elements.ensures.low in
    let n = c.elements.ensures.value in
    let other = c.if-elements-eq1.false in
    omega arith

pub returns : goal.returns
returns c =
    let minor = c.in_ok-contraction_beside_others.ensures in
    record {
      last_element = none_of_ok _ c.args.chi.now.elements c.elements.result c.elements.ensures.value
          c.if-elements-eq1.false;
      elements = minor.elements;
      contraction = minor.contraction;
      normal = minor.normal;
      value = minor.value;
      at_loop = minor.at_loop;
      rank = minor.rank;
      rank_at_loop = minor.rank_at_loop;
    }

pub returns-in_err-contraction_beside_others : goal.returns-in_err-contraction_beside_others
returns-in_err-contraction_beside_others c =
    let x = c.from_residual.result in
    let gone = c.from_residual.ensures in
    record {
      last_element = none_of_memory x c.args.chi.now.elements c.elements.result gone.1 c.elements.ensures.value
          c.if-elements-eq1.false;
      elements = IfOk-from_err x _ gone.0;
      contraction = IfOk-from_err x _ gone.0;
      normal = IfOk-from_err x _ gone.0;
      value = IfOk-from_err x _ gone.0;
      at_loop = IfOk-from_err x _ gone.0;
      rank = IfOk-from_err x _ gone.0;
      rank_at_loop = IfOk-from_err x _ gone.0;
    }
