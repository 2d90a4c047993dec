use Rattle.std.proofs.Common.{◌≡◌, ◌++◌, ◌∷◌, [], true, false, length, sym, ap, subst, ◌∙◌, arith, length-append}
use Rattle.std.specs.Prelude.{bytes_eq}
use Rattle.std.specs.List.{list_any}
use Rattle.om_lines.specs.Lines.{runs}
use Rattle.om_document.proofs.NameForms.{AreKept, one_too_many, name_again, kept_more}
use Rattle.om_text.proofs.PartSteps.{name_refused, names_counted}
use Rattle.om_text.proofs.setting_lines.push_names.Goals as goal
use Rattle.om_text.proofs.setting_lines.push_names.Goals.{then-len-elements-via-then-len-elements}
use Rattle.om_text.proofs.setting_lines.push_names.Goals.{then-len-elements-via-else-len-elements+then-has_name}

pub returns-then-len-elements : goal.returns-then-len-elements
returns-then-len-elements c = elim c.then-len-elements.branch [
  | then-len-elements-via-then-len-elements w ↦
      sym (one_too_many c.args.elements (runs c.args.words.now) c.loop-word.names c.in-Some.word.now
      (runs c.in-Some.after.now) (runs c.loop-word.rest.now) c.loop-word.invariant.kept c.in-Some.ensures.words
      (omega arith))
  | then-len-elements-via-else-len-elements+then-has_name w ↦
      let e : list_any (λ v. bytes_eq v c.in-Some.word.now) c.loop-word.names ≡ true =
      ap (list_any (λ v. bytes_eq v c.in-Some.word.now)) (sym w.as_slice.ensures) ∙ sym w.has_name.ensures
      ∙ w.if-has_name.true in
      sym (name_again c.args.elements (runs c.args.words.now) c.loop-word.names c.in-Some.word.now
      (runs c.in-Some.after.now) (runs c.loop-word.rest.now) c.loop-word.invariant.kept c.in-Some.ensures.words e)
]

pub loop-word-preserved : goal.loop-word-preserved
loop-word-preserved c =
    let e : list_any (λ v. bytes_eq v c.in-Some.word.now) c.loop-word.names ≡ false =
    ap (list_any (λ v. bytes_eq v c.in-Some.word.now)) (sym c.as_slice.ensures) ∙ sym c.has_name.ensures
    ∙ c.if-has_name.false in
    let p : c.push.new.self ≡ c.loop-word.names ++ c.in-Some-new.name ∷ [] = c.in_ok-push.ensures.ok in
    let l = ap length p ∙ length-append c.loop-word.names (c.in-Some-new.name ∷ []) in
    let f = c.if-len-elements.false in
    record {
      kept = subst (λ x. AreKept (runs c.args.words.now) x (runs c.in-Some.after.now)) (sym p)
          (kept_more (runs c.args.words.now) c.loop-word.names c.in-Some.word.now c.in-Some-new.name
          (runs c.in-Some.after.now) (runs c.loop-word.rest.now) c.loop-word.invariant.kept c.in-Some.ensures.words
          (sym c.new.ensures ∙ c.in-Some-new.is) e);
      few = omega arith;
    }

pub returns-in_default-new : goal.returns-in_default-new
returns-in_default-new c =
    name_refused c.args.elements (runs c.args.words.now) c.loop-word.names c.in-Some.word.now (runs c.in-Some.after.now)
    (runs c.loop-word.rest.now) c.new.result c.loop-word.invariant.kept c.in-Some.ensures.words c.in_default-new.is
    c.new.ensures

pub returns : goal.returns
returns c =
    names_counted c.args.elements c.len-2.result (runs c.args.words.now) c.loop-word.names (runs c.loop-word.rest.now)
    c.loop-word.invariant.kept c.in_default.ensures.words c.len-2.ensures
