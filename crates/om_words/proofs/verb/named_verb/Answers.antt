use Rattle.std.proofs.Common.{◌∙◌, sym, arith, refl}
use Rattle.std.proofs.lemmas.Bool.{false≢true}
use Rattle.std.proofs.lemmas.Option.{none-some}
use Rattle.om_words.proofs.VerbLaws.{place_below, verb_found, none_more}
use Rattle.om_words.proofs.verb.named_verb.Goals as goal

pub returns-then-is_word : goal.returns-then-is_word
returns-then-is_word c =
    verb_found _ c.word.result.now _ (c.is_word.ensures.0 c.if-is_word.true) c.word.ensures

pub loop-verb-preserved : goal.loop-verb-preserved
loop-verb-preserved c = record {
  all = refl;
  none = none_more _ c.word.result.now c.loop-verb.verb-index c.loop-verb.invariant.none c.word.ensures
      (λ e. false≢true (sym c.if-is_word.false ∙ c.is_word.ensures.1 e));
}

pub returns : goal.returns
returns c = λ verb. (
  λ h. absurd (none-some verb h),
  λ h. let below = place_below verb in
      let end = c.loop-verb-test.false in
      absurd (c.loop-verb.invariant.none verb (omega (arith, below, end)) h),
)
