use Rattle.std.proofs.Common.{◌≡◌, [], ◌∷◌, ◌++◌, map, sym, subst}
use Rattle.std.specs.Prelude.{codes}
use Rattle.om_reply.specs.VerdictText.{word_line}
use Rattle.om_reply.specs.VerdictText.{lines_text, entry_words, weight_words, search_lines, verdict_name}
use Rattle.om_reply.specs.VerdictText.{verdict_lines}
use Rattle.om_reply.proofs.BlockTexts.{on_ok, lines_after}
use Rattle.om_reply.proofs.verdict_lines.push_lines.Goals as goal

pub returns-in_ok-push-in-Nonrealizable : goal.returns-in_ok-push-in-Nonrealizable
returns-in_ok-push-in-Nonrealizable c =
    let old = c.args.text.now.items in
    let mid = c.push-in-Nonrealizable.new.text.items in
    let new = c.push_entries.new.text.items in
    let entries = c.as_slice-in-Nonrealizable.ensures in
    on_ok c.push_entries.result (λ e.
    subst (λ v. new ≡ old ++ lines_text (word_line (verdict_name v) ∷ verdict_lines v)) (sym c.in-Nonrealizable.is)
    (subst (λ es. new ≡ old ++ lines_text (word_line (codes "nonrealizable") ∷ map entry_words es)) entries
    (lines_after (word_line (codes "nonrealizable") ∷ []) (map entry_words c.as_slice-in-Nonrealizable.result.now) old
    mid new c.in_ok-push-in-Nonrealizable.ensures.ok e))) c.push_entries.ensures

pub returns-in_ok-push_weights-in-Undecided : goal.returns-in_ok-push_weights-in-Undecided
returns-in_ok-push_weights-in-Undecided c =
    let old = c.args.text.now.items in
    let mid = c.push-in-Undecided.new.text.items in
    let last = c.push_weights.new.text.items in
    let new = c.push_search.new.text.items in
    let u = c.in-Undecided.unfound in
    let weights = c.as_slice-in-Undecided.ensures in
    on_ok c.push_search.result (λ e.
    subst (λ v. new ≡ old ++ lines_text (word_line (verdict_name v) ∷ verdict_lines v)) (sym c.in-Undecided.is)
    (subst (λ ws. new ≡ old ++ lines_text (word_line (codes "undecided") ∷ map weight_words ws ++ search_lines u))
    weights
    (lines_after (word_line (codes "undecided") ∷ [])
    (map weight_words c.as_slice-in-Undecided.result.now ++ search_lines u) old mid new
    c.in_ok-push-in-Undecided.ensures.ok
    (lines_after (map weight_words c.as_slice-in-Undecided.result.now) (search_lines u) mid last new
    c.in_ok-push_weights-in-Undecided.ensures e)))) c.push_search.ensures
