use Rattle.std.proofs.Common.{sym, ◌∙◌, refl}
use Rattle.om_answer.proofs.block_reader.opened_block.Goals as goal

pub returns-then-is_only_word : goal.returns-then-is_only_word
returns-then-is_only_word c = rw (sym c.is_only_word.ensures ∙ c.if-is_only_word.true, c.new.ensures) refl

pub returns-then-is_only_word-2 : goal.returns-then-is_only_word-2
returns-then-is_only_word-2 c =
    rw (
      sym c.is_only_word.ensures ∙ c.if-is_only_word.false,
      sym c.is_only_word-else-is_only_word.ensures ∙ c.if-is_only_word-2.true,
      c.new-then-is_only_word-2.ensures,
    ) refl

pub returns-then-is_only_word-3 : goal.returns-then-is_only_word-3
returns-then-is_only_word-3 c =
    rw (
      sym c.is_only_word.ensures ∙ c.if-is_only_word.false,
      sym c.is_only_word-else-is_only_word.ensures ∙ c.if-is_only_word-2.false,
      sym c.is_only_word-else-is_only_word-2.ensures ∙ c.if-is_only_word-3.true,
      c.new-then-is_only_word-3.ensures,
    ) refl

pub returns-then-is_only_word-4 : goal.returns-then-is_only_word-4
returns-then-is_only_word-4 c =
    rw (
      sym c.is_only_word.ensures ∙ c.if-is_only_word.false,
      sym c.is_only_word-else-is_only_word.ensures ∙ c.if-is_only_word-2.false,
      sym c.is_only_word-else-is_only_word-2.ensures ∙ c.if-is_only_word-3.false,
      sym c.is_only_word-else-is_only_word-3.ensures ∙ c.if-is_only_word-4.true,
    ) refl

pub returns-else-is_only_word-4 : goal.returns-else-is_only_word-4
returns-else-is_only_word-4 c =
    rw (
      sym c.is_only_word.ensures ∙ c.if-is_only_word.false,
      sym c.is_only_word-else-is_only_word.ensures ∙ c.if-is_only_word-2.false,
      sym c.is_only_word-else-is_only_word-2.ensures ∙ c.if-is_only_word-3.false,
      sym c.is_only_word-else-is_only_word-3.ensures ∙ c.if-is_only_word-4.false,
    ) refl
