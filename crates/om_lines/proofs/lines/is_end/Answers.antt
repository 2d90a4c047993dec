use Rattle.std.proofs.Common.{◌-◌, length, take, drop, sym, ◌∙◌, refl}
use Rattle.om_lines.proofs.OneWord.{end_alone, end_first, no_end_first}
use Rattle.om_lines.proofs.lines.is_end.Goals as goal

pub returns-in-Some : goal.returns-in-Some
returns-in-Some c =
    let word = take (length c.args.line.now - c.blank_len.result) (drop c.blank_len.result c.args.line.now) in
    c.has_no_words.ensures ∙ sym (end_alone c.args.line.now word c.blank_len.result c.blank_len.ensures.value refl
    ∙ end_first word c.in-Some.rest.now c.in-Some.ensures.cases.0 c.in-Some.ensures.cases.1)

pub returns-in-None : goal.returns-in-None
returns-in-None c =
    let word = take (length c.args.line.now - c.blank_len.result) (drop c.blank_len.result c.args.line.now) in
    sym (end_alone c.args.line.now word c.blank_len.result c.blank_len.ensures.value refl
    ∙ no_end_first word c.in-None.ensures.cases)
