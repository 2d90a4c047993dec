use Rattle.std.proofs.Common.{subst, sym}
use Rattle.std.proofs.lemmas.List.Elements.{All-nil, All-same}
use Rattle.om_points.specs.Passes.{IsUseful}
use Rattle.om_points.specs.Refusers.{AreUseful}
use Rattle.om_points.proofs.Refusing.{all_useful}
use Rattle.om_points.proofs.refusers.slopes_of.Goals as goal
use Rattle.om_points.proofs.refusers.slopes_of.Goals.{in-Some, in_default}

pub loop-q-init : goal.loop-q-init
loop-q-init c =
    let P = IsUseful c.args.placing.now c.args.wanted.now in
    record {
      rising = All-same P _ _ c.new-slopes.ensures.rising (All-nil P);
      level = All-same P _ _ c.new-slopes.ensures.level (All-nil P);
      falling = All-same P _ _ c.new-slopes.ensures.falling (All-nil P);
    }

pub loop-p-preserved : goal.loop-p-preserved
loop-p-preserved c =
    let vs = c.args.placing.now in
    let signs = c.args.wanted.now in
    let first : AreUseful vs signs c.add.new.self =
    all_useful vs signs c.loop-p.slopes c.add.new.self c.form_at.result c.loop-p.invariant c.form_at.ensures
    c.add.ensures.rising c.add.ensures.level c.add.ensures.falling in
    elim c.match-opposite_at.branch [
      | in-Some w ↦ subst (AreUseful vs signs) (sym w.slopes-is)
          (all_useful vs signs c.add.new.self w.add-in-Some.new.self w.in-Some.opposite first w.in-Some.ensures
          w.add-in-Some.ensures.rising w.add-in-Some.ensures.level w.add-in-Some.ensures.falling)
      | in_default w ↦ subst (AreUseful vs signs) (sym w.slopes-is) first
    ]
