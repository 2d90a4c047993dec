use Rattle.om_words.specs.declared.verb.Verb.TheVariants as verb
use Rattle.om_words.proofs.VerbShapes.{shape, task_named, fault_named, named, bare_named}
use Rattle.om_words.proofs.words.after_verb.Goals as goal

pub returns-in-Accept : goal.returns-in-Accept
returns-in-Accept c = bare_named _ c.in-Accept.is (shape verb.Accept) c.bare.ensures

pub returns-in-Member : goal.returns-in-Member
returns-in-Member c = named verb.Member c.in-Member.is c.only.ensures c.map.ensures.cases

pub returns-in-Convert : goal.returns-in-Convert
returns-in-Convert c = named verb.Convert c.in-Convert.is c.only-in-Convert.ensures c.map-in-Convert.ensures.cases

pub returns-in-Dual : goal.returns-in-Dual
returns-in-Dual c = bare_named _ c.in-Dual.is (shape verb.Dual) c.bare-in-Dual.ensures

pub returns-in-Delete : goal.returns-in-Delete
returns-in-Delete c = named verb.Delete c.in-Delete.is c.only-in-Delete.ensures c.map-in-Delete.ensures.cases

pub returns-in-Contract : goal.returns-in-Contract
returns-in-Contract c = named verb.Contract c.in-Contract.is c.only-in-Contract.ensures c.map-in-Contract.ensures.cases

pub returns-in-Reorient : goal.returns-in-Reorient
returns-in-Reorient c = named verb.Reorient c.in-Reorient.is c.elements.ensures c.map-in-Reorient.ensures.cases

pub returns-in-Wiring : goal.returns-in-Wiring
returns-in-Wiring c = bare_named _ c.in-Wiring.is (shape verb.Wiring) c.bare-in-Wiring.ensures

pub returns-in-Mutations : goal.returns-in-Mutations
returns-in-Mutations c = bare_named _ c.in-Mutations.is (shape verb.Mutations) c.bare-in-Mutations.ensures

pub returns-in_ok-a-in-Flip : goal.returns-in_ok-a-in-Flip
returns-in_ok-a-in-Flip c = task_named verb.Flip _ _ _ _ c.in-Flip.is c.triple.ensures c.in_ok-a-in-Flip.was

pub returns-in_err-a-in-Flip : goal.returns-in_err-a-in-Flip
returns-in_err-a-in-Flip c =
    fault_named verb.Flip _ _ _ _ _ c.in-Flip.is c.triple.ensures c.in_err-a-in-Flip.was
    c.from_residual.ensures.1

pub returns-in_ok-lines-in-Extend : goal.returns-in_ok-lines-in-Extend
returns-in_ok-lines-in-Extend c =
    task_named verb.Extend _ _ _ _ c.in-Extend.is c.lines.ensures c.in_ok-lines-in-Extend.was

pub returns-in_err-lines-in-Extend : goal.returns-in_err-lines-in-Extend
returns-in_err-lines-in-Extend c =
    fault_named verb.Extend _ _ _ _ _ c.in-Extend.is c.lines.ensures c.in_err-lines-in-Extend.was
    c.from_residual-in_err-lines-in-Extend.ensures.1

pub returns-in-Paint : goal.returns-in-Paint
returns-in-Paint c = named verb.Paint c.in-Paint.is c.colours_and_element.ensures c.map-in-Paint.ensures.cases

pub returns-in-Hull : goal.returns-in-Hull
returns-in-Hull c = bare_named _ c.in-Hull.is (shape verb.Hull) c.bare-in-Hull.ensures

pub returns-in-Lexext : goal.returns-in-Lexext
returns-in-Lexext c = named verb.Lexext c.in-Lexext.is c.signed_elements.ensures c.map-in-Lexext.ensures.cases

pub returns-in-Threeterm : goal.returns-in-Threeterm
returns-in-Threeterm c = bare_named _ c.in-Threeterm.is (shape verb.Threeterm) c.bare-in-Threeterm.ensures

pub returns-in-Upgrade : goal.returns-in-Upgrade
returns-in-Upgrade c = bare_named _ c.in-Upgrade.is (shape verb.Upgrade) c.bare-in-Upgrade.ensures

pub returns-in-Decide : goal.returns-in-Decide
returns-in-Decide c = named verb.Decide c.in-Decide.is c.budgets.ensures c.map-in-Decide.ensures.cases

pub returns-in-Check : goal.returns-in-Check
returns-in-Check c = bare_named _ c.in-Check.is (shape verb.Check) c.bare-in-Check.ensures

pub returns-in_ok-seed-in-Make : goal.returns-in_ok-seed-in-Make
returns-in_ok-seed-in-Make c =
    task_named verb.Make _ _ _ _ c.in-Make.is c.seed_and_count.ensures c.in_ok-seed-in-Make.was

pub returns-in_err-seed-in-Make : goal.returns-in_err-seed-in-Make
returns-in_err-seed-in-Make c =
    fault_named verb.Make _ _ _ _ _ c.in-Make.is c.seed_and_count.ensures c.in_err-seed-in-Make.was
    c.from_residual-in_err-seed-in-Make.ensures.1
