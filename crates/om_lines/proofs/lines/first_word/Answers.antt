use Rattle.std.proofs.Common.{refl}
use Rattle.om_lines.proofs.Scan.{no_word_found, word_found}
use Rattle.om_lines.proofs.lines.first_word.Goals as goal

pub returns-then-end-eq0-clause-words : goal.returns-then-end-eq0-clause-words
returns-then-end-eq0-clause-words c =
    no_word_found c.args.line.now _ _ c.blank_len.ensures.value c.word_len-end.ensures.value c.if-end-eq0.true

pub returns-clause-words : goal.returns-clause-words
returns-clause-words c = word_found c.args.line.now _ _ _ c.blank_len.ensures.value refl c.word_len-end.ensures.value
    c.if-end-eq0.false
