use Rattle.std.proofs.Common.{subst}
use Rattle.om_denotation.specs.Covectors.{IsCovectorOfCircuits}
use Rattle.om_convert.specs.declared.convert_error.ConvertError.{ConvertError}
use Rattle.om_convert.specs.Limits.{IsWidthCause}
use Rattle.om_convert.proofs.MemoryCauses.{memory_is_width_cause}
use Rattle.om_representation.proofs.WidthLaws.{kept_circuits, wide_circuits}
use Rattle.om_representation.proofs.chirotope_choice.of_circuits.Goals as goal

pub returns-in-Ok-clause-chosen : goal.returns-in-Ok-clause-chosen
returns-in-Ok-clause-chosen c = record {
  axioms = c.in-Ok.ensures.lawful;
  elements = c.in-Ok.ensures.elements;
  same = c.in-Ok.ensures.same;
  normal = c.in-Ok.ensures.normal;
}

pub returns-in-Ok-clause-kept : goal.returns-in-Ok-clause-kept
returns-in-Ok-clause-kept c = kept_circuits c.args.circuits.now.0 c.in-Ok.ensures.narrow

pub returns-in-TooWide-clause-refused : goal.returns-in-TooWide-clause-refused
returns-in-TooWide-clause-refused c =
    let P : ConvertError → Type 0 =
    IsWidthCause c.args.circuits.now.0.elements (IsCovectorOfCircuits c.args.circuits.now.0) in
    let cause = subst P c.in-TooWide.is c.in-Err.ensures.refused in
    wide_circuits c.args.circuits.now.0 c.rank_circuits.result c.in-TooWide.values c.rank_circuits.ensures.few
    cause c.rank_circuits.ensures.rank.each

pub memory_alone-requires : goal.memory_alone-requires
memory_alone-requires c =
    memory_is_width_cause c.args.circuits.now.0.elements (IsCovectorOfCircuits c.args.circuits.now.0)
    c.in-Err.error c.in-Err.ensures.refused c.in_default.not-TooWide
