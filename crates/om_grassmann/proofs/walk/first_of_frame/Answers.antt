use Rattle.std.specs.Prelude.{false}
use Rattle.std.proofs.Common.{◌*◌, sym, ◌∙◌, subst, arith}
use Rattle.std.proofs.lemmas.Bool.{false≢true}
use Rattle.om_grassmann.specs.Statements.{IsPlaced}
use Rattle.om_grassmann.specs.Walk.{frame_place}
use Rattle.om_grassmann.proofs.Frames.{on_frame, none_placed}
use Rattle.om_grassmann.proofs.walk.first_of_frame.Goals as goal

pub returns-then-not-is_placed-clause-none : goal.returns-then-not-is_placed-clause-none
returns-then-not-is_placed-clause-none c =
    let refused = λ (p : IsPlaced c.args.chi.now.elements c.candidate-st.result). false≢true
    (sym c.if-not-is_placed.true
    ∙ c.is_placed.ensures.1 (subst (λ k. IsPlaced k c.candidate-st.result) (sym c.elements.ensures.value) p)) in
    let high = c.elements.ensures.high in
    none_placed c.args.chi.now c.args.frame c.candidate-st.result (frame_place c.args.frame * 9) (omega arith)
    c.requires.frame (on_frame c.args.frame 0 false c.candidate-st.result c.candidate-st.ensures) refused
    (omega arith)
