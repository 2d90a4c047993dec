use Rattle.std.proofs.Common.{subst}
use Rattle.std.specs.List.{Contains}
use Rattle.om_convert.specs.declared.convert_error.ConvertError.{ConvertError}
use Rattle.om_convert.specs.Limits.{IsWidthCause}
use Rattle.om_convert.proofs.MemoryCauses.{memory_is_width_cause}
use Rattle.om_representation.proofs.WidthLaws.{kept_covectors, wide_covectors, same_covectors}
use Rattle.om_representation.proofs.chirotope_choice.of_covectors.Goals as goal

pub returns-in-Ok-clause-chosen : goal.returns-in-Ok-clause-chosen
returns-in-Ok-clause-chosen c = record {
  axioms = c.in-Ok.ensures.lawful;
  elements = c.in-Ok.ensures.elements;
  same = same_covectors c.args.covectors.now _ c.in-Ok.ensures.same;
  normal = c.in-Ok.ensures.normal;
}

pub returns-in-Ok-clause-kept : goal.returns-in-Ok-clause-kept
returns-in-Ok-clause-kept c = kept_covectors c.args.covectors.now c.in-Ok.ensures.narrow

pub returns-in-TooWide-clause-refused : goal.returns-in-TooWide-clause-refused
returns-in-TooWide-clause-refused c =
    let P : ConvertError → Type 0 = IsWidthCause c.args.covectors.now.elements (Contains c.args.covectors.now.members)
    in
    let cause = subst P c.in-TooWide.is c.in-Err.ensures.refused in
    wide_covectors c.args.covectors.now c.rank_covectors.result c.in-TooWide.values c.rank_covectors.ensures.few
    cause c.rank_covectors.ensures.rank.each

pub memory_alone-requires : goal.memory_alone-requires
memory_alone-requires c =
    memory_is_width_cause c.args.covectors.now.elements (Contains c.args.covectors.now.members)
    c.in-Err.error c.in-Err.ensures.refused c.in_default.not-TooWide
