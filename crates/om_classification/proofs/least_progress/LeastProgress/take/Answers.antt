use Rattle.std.proofs.Common.{◌≡◌, ◌∙◌, ap}
use Rattle.om_document.specs.Print.{printed, unnamed_map}
use Rattle.om_classification.proofs.LeastSteps.{least_written}
use Rattle.om_classification.proofs.least_progress.LeastProgress.take.Goals as goal

pub returns-in_ok-text-in-Ok-clause-step : goal.returns-in_ok-text-in-Ok-clause-step
returns-in_ok-text-in-Ok-clause-step g c = λ all text left b.
    let k = c.in_ok-least-in-Ok.least in
    let e : c.in_ok-text-in-Ok.text.items ≡ printed (unnamed_map k.rank k.elements k.signs) =
    c.in_ok-text-in-Ok.ensures
    ∙ ap (λ r. printed (unnamed_map r c.elements.result c.signs.result.now)) c.rank.ensures.value
    ∙ ap (λ n. printed (unnamed_map k.rank n c.signs.result.now)) c.elements.ensures.value
    ∙ ap (λ s. printed (unnamed_map k.rank k.elements s)) c.signs.ensures in
    least_written all text c.args.self.now.documents c.in-Some.document c.args.piece.now left c.in-Ok.chi k
    c.in_ok-text-in-Ok.text.items b c.in-Ok.ensures.member c.in_ok-least-in-Ok.ensures.isomorphic
    c.in_ok-least-in-Ok.ensures.least e c.in-Some.ensures.1
