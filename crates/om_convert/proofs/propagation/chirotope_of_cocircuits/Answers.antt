use Rattle.std.proofs.Common.{sym}
use Rattle.std.proofs.lemmas.Result.{IfOk-weaker}
use Rattle.om_chirotope.specs.Map.{SignMap}
use Rattle.om_chirotope.specs.Chirotope.{IsChirotope}
use Rattle.om_denotation.specs.Covectors.{IsCovectorOfChirotope, IsCovectorOfCocircuits}
use Rattle.om_denotation.specs.Denotation.{DenoteTheSame}
use Rattle.om_denotation.specs.Only.{IsOnlyChirotope}
use Rattle.om_denotation.proofs.OnlyLaws.{only_chirotope}
use Rattle.om_convert.specs.Hitting.{IsNormalOf}
use Rattle.om_convert.proofs.NormalSigns.{denotes}
use Rattle.om_convert.proofs.propagation.chirotope_of_cocircuits.Goals as goal

pub chirotope_of-requires : goal.chirotope_of-requires
chirotope_of-requires c = λ m h. sym (c.requires.each m h.axioms h.elements (denotes c.args.c.now.0 m h))

pub returns-clause-same : goal.returns-clause-same
returns-clause-same c =
    let P : SignMap → Type 0 =
    λ m. DenoteTheSame c.args.c.now.0.elements (IsCovectorOfCocircuits c.args.c.now.0) (IsCovectorOfChirotope m)
    in
    IfOk-weaker c.chirotope_of.result (IsNormalOf c.args.c.now.0.elements c.args.c.now.0.members) P
    (λ m h. denotes c.args.c.now.0 m h) c.chirotope_of.ensures

pub returns-clause-unique : goal.returns-clause-unique
returns-clause-unique c =
    IfOk-weaker c.chirotope_of.result (IsNormalOf c.args.c.now.0.elements c.args.c.now.0.members) IsOnlyChirotope
    (λ m h. only_chirotope m h.axioms) c.chirotope_of.ensures

pub returns-clause-lawful : goal.returns-clause-lawful
returns-clause-lawful c =
    IfOk-weaker c.chirotope_of.result (IsNormalOf c.args.c.now.0.elements c.args.c.now.0.members) IsChirotope
    (λ m h. h.axioms) c.chirotope_of.ensures
