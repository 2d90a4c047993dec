use Rattle.om_program.specs.Plans.{IsLawfulOnMatroid}
use Rattle.std.proofs.Common.{subst}
use Rattle.om_program.proofs.answering.answer_matroid.Goals as goal

pub convert-requires : goal.convert-requires
convert-requires g c = c.requires.few

pub operate-requires-clause-few : goal.operate-requires-clause-few
operate-requires-clause-few g c = c.requires.few

pub operate-requires-clause-lawful : goal.operate-requires-clause-lawful
operate-requires-clause-lawful g c = subst IsLawfulOnMatroid c.in-Operate.is c.requires.lawful

pub flip_triple-requires : goal.flip_triple-requires
flip_triple-requires g c = subst IsLawfulOnMatroid c.in-Flip.is c.requires.lawful

pub list_extensions-requires-after_bounds : goal.list_extensions-requires-after_bounds
list_extensions-requires-after_bounds g c κs within = subst IsLawfulOnMatroid c.in-Extend.is c.requires.lawful

pub find_painting-requires : goal.find_painting-requires
find_painting-requires g c = subst IsLawfulOnMatroid c.in-Paint.is c.requires.lawful

pub extend_lexically-requires : goal.extend_lexically-requires
extend_lexically-requires g c = subst IsLawfulOnMatroid c.in-Lexext.is c.requires.lawful

pub judge-requires : goal.judge-requires
judge-requires g c = subst IsLawfulOnMatroid c.in-Decide.is c.requires.lawful

pub returns-in-Member : goal.returns-in-Member
returns-in-Member g c = rw c.in-Member.is c.find_membership.ensures

pub returns-in-Convert : goal.returns-in-Convert
returns-in-Convert g c = rw c.in-Convert.is c.convert.ensures

pub returns-in-Operate : goal.returns-in-Operate
returns-in-Operate g c = rw c.in-Operate.is c.operate.ensures

pub returns-in-Wiring : goal.returns-in-Wiring
returns-in-Wiring g c = rw c.in-Wiring.is c.find_wiring.ensures

pub returns-in-Mutations : goal.returns-in-Mutations
returns-in-Mutations g c = rw c.in-Mutations.is c.list_mutations.ensures

pub returns-in-Flip : goal.returns-in-Flip
returns-in-Flip g c = rw c.in-Flip.is c.flip_triple.ensures

pub returns-in-Extend : goal.returns-in-Extend
returns-in-Extend g c = rw c.in-Extend.is c.list_extensions.ensures

pub returns-in-Paint : goal.returns-in-Paint
returns-in-Paint g c = rw c.in-Paint.is c.find_painting.ensures

pub returns-in-Hull : goal.returns-in-Hull
returns-in-Hull g c = rw c.in-Hull.is c.find_hull.ensures

pub returns-in-Lexext : goal.returns-in-Lexext
returns-in-Lexext g c = rw c.in-Lexext.is c.extend_lexically.ensures

pub returns-in-Decide : goal.returns-in-Decide
returns-in-Decide g c = rw c.in-Decide.is c.judge.ensures
