-- The code of a line that a step of the reader refuses is that of the table's first row that holds.
--
-- Main results: no_end, step_error
use Rattle.std.proofs.Math.Bool.{and-false, or-true}
use Rattle.std.proofs.Common.{◌≡◌, ℕ, List, [], ◌∷◌, ◌++◌, Bool, true, false, cond, not, ◌&&◌, inl, inr, refl, sym, ap}
use Rattle.std.proofs.Common.{subst, ◌∙◌, append_assoc}
use Rattle.std.specs.Prelude.{Option, Some, None, Result, Ok, Err, is_none, option_and_then}
use Rattle.std.specs.List.{list_any, list_all}
use Rattle.std.proofs.lemmas.List.Folds.{list_any-append}
use Rattle.std.proofs.lemmas.Bool.{cases_Bool, and_parts}
use Rattle.om_document.specs.declared.document.Document.{Document}
use Rattle.om_document.specs.declared.code.Code.{Code}
use Rattle.om_document.specs.declared.code.Code.TheVariants as code
use Rattle.om_text.specs.declared.state.State.{State}
use Rattle.om_text.specs.declared.state.State.TheVariants.{Start, Versioned, Open, Closed}
use Rattle.om_text.specs.declared.draft.Draft.{Draft}
use Rattle.om_text.specs.declared.stage.Stage.{Stage}
use Rattle.om_text.specs.declared.stage.Stage.TheVariants.{Names, Choice, Full, Body as InBody}
use Rattle.om_document.specs.declared.setting.Setting.{Setting}
use Rattle.om_document.specs.declared.version.Version.{Version}
use Rattle.om_document.specs.declared.version.Version.TheVariants.{One, Two}
use Rattle.om_lines.specs.Lines.{has_any, is_line, end_line, first_word}
use Rattle.om_document.specs.Settings.{version_of, begins_as_setting, settings_in}
use Rattle.om_document.specs.Document.{IsSpelled, is_body_line, has_signs, has_length, has_blocks, has_numbers, filled}
use Rattle.om_document.specs.Document.{has_room, is_complete}
use Rattle.om_document.specs.Heading.{kind_of, heading, has_elements, has_rank, has_size, rank_of_body, values_of_body}
use Rattle.om_text.specs.Fault.{kind, setting, body, «end», after, role_in_body, role_after_kind, role, when, first_of}
use Rattle.om_text.specs.Fault.{table}
use Rattle.om_text.specs.Reading.{step, with_version, after_kind, draft_of, first_draft, with_heading}
use Rattle.om_text.specs.Reading.{takes_settings, after_setting, after_body, finished_draft, after_end, added}
use Rattle.om_text.proofs.Filling.{line_not_end, has_signs_filled, has_length_filled, has_blocks_filled}
use Rattle.om_text.proofs.Filling.{has_numbers_filled, filled_added}
use Rattle.om_text.proofs.SettingLines.{settings_begin, lines_not_settings, front_of, behind_of}
use Rattle.om_text.proofs.SettingSteps.{IsStage, IsOpen, Shows, IsSet, refused, accepted, IsBefore, before}
use Rattle.om_text.proofs.CourseSteps.{any_last}

-- ---- the places of lines

not_all_begin : (ss ls : List (List (List ℕ))) → list_any begins_as_setting ls ≡ false → has_any ls ≡ true
    → list_all begins_as_setting (ss ++ ls) ≡ false
not_all_begin [] [] n a = cc
not_all_begin [] (l ∷ ls) n a = elim (cases_Bool (begins_as_setting l)) [
  | inl y ↦ let z = rw y at n in cc
  | inr f ↦ rw f refl
]
not_all_begin (s ∷ ss) ls n a = rw (not_all_begin ss ls n a) (and-false (begins_as_setting s))

-- a line isn't in the place of a setting line
past_settings : (v : Version) (d : Document) (ss ls : List (List (List ℕ))) (g : Stage) (w : List (List ℕ))
    → IsStage v d ss ls g → list_any begins_as_setting ls ≡ false → (takes_settings g && begins_as_setting w) ≡ false
    → v ≡ Two → (list_all begins_as_setting (ss ++ ls) && begins_as_setting w) ≡ false
past_settings v d ss ls InBody w (inl e) n h t = let z = sym e ∙ t in cc
past_settings v d ss ls InBody w (inr a) n h t = rw (not_all_begin ss ls n a) refl
past_settings v d ss ls Names w i n h t = ap (λ b. list_all begins_as_setting (ss ++ ls) && b) h
    ∙ and-false (list_all begins_as_setting (ss ++ ls))
past_settings v d ss ls Choice w i n h t = ap (λ b. list_all begins_as_setting (ss ++ ls) && b) h
    ∙ and-false (list_all begins_as_setting (ss ++ ls))
past_settings v d ss ls Full w i n h t = ap (λ b. list_all begins_as_setting (ss ++ ls) && b) h
    ∙ and-false (list_all begins_as_setting (ss ++ ls))

-- a line after the setting lines ss and the lines ls that begin otherwise
behind_role : (v : Version) (d : Document) (ss ls : List (List (List ℕ))) (p : List (List ℕ) × Setting)
    (w : List (List ℕ)) → settings_in v d ss ≡ Some p → list_any begins_as_setting ls ≡ false
    → (v ≡ Two → (list_all begins_as_setting (ss ++ ls) && begins_as_setting w) ≡ false)
    → role_after_kind (Some v) (Some d) (ss ++ ls) w ≡ role_in_body (Some p) d ls w
behind_role One d [] ls p w h n f = ap (λ o. role_in_body o d ls w) h
behind_role One d (s ∷ ss) ls p w h n f = cc
behind_role Two d ss ls p w h n f =
    let b = settings_begin Two d ss p h in
    let g = front_of ss ls b n in
    let k = behind_of ss ls b n in
    rw (f refl, g, k) (ap (λ o. role_in_body o d ls w) h)

role_after : (f k : List (List ℕ)) (v : Version) (d : Document) (ls : List (List (List ℕ))) (w : List (List ℕ))
    → version_of f ≡ Some v → heading k ≡ Some d → role (f ∷ k ∷ ls) w ≡ role_after_kind (Some v) (Some d) ls w
role_after f k v d ls w n h = ap (λ o. role_after_kind o (heading k) ls w) n
    ∙ ap (λ o. role_after_kind (Some v) o ls w) h

-- no line of a body is the end line
pub no_end : (head : Document) (ls : List (List (List ℕ))) → list_all (is_body_line head) ls ≡ true
    → list_any (λ l. is_line l end_line) ls ≡ false
no_end head [] h = refl
no_end head (l ∷ ls) h =
    let a = and_parts (is_body_line head l) (list_all (is_body_line head) ls) h in
    rw (line_not_end head.body head.elements l a.0) (no_end head ls a.1)

open_role : (ls : List (List (List ℕ))) (d : Draft) (w : List (List ℕ)) → (o : IsOpen ls d)
    → (takes_settings d.stage && begins_as_setting w) ≡ false
    → role ls w ≡ cond (is_line w end_line) («end» o.setting o.head o.body) (body o.setting o.head o.body)
open_role ls d w o h =
    let n = lines_not_settings o.head o.body o.each in
    let p : List (List ℕ) × Setting = (o.names, o.setting) in
    ap (λ x. role x w) o.lines
    ∙ role_after o.first_line o.kind_line o.version o.head (o.settings ++ o.body) w o.numbered o.heading
    ∙ behind_role o.version o.head o.settings o.body p w o.set n
    (past_settings o.version o.head o.settings o.body d.stage w o.stage n h)
    ∙ ap (λ b. cond b after (cond (is_line w end_line) («end» o.setting o.head o.body) (body o.setting o.head o.body)))
    (no_end o.head o.body o.each)

setting_role : (ls : List (List (List ℕ))) (d : Draft) (w : List (List ℕ)) → (b : IsBefore ls d w)
    → role ls w ≡ setting b.draft.head b.draft.settings
setting_role ls d w b =
    let a = settings_begin Two b.draft.head b.draft.settings (b.draft.names, b.draft.setting) b.set in
    ap (λ x. role x w) b.lines
    ∙ role_after b.draft.first_line b.draft.kind_line Two b.draft.head b.draft.settings w b.version b.draft.heading
    ∙ rw (a, b.begins) refl

any_end : (ls : List (List (List ℕ))) → list_any (λ l. is_line l end_line) (ls ++ end_line ∷ []) ≡ true
any_end ls = list_any-append (λ l. is_line l end_line) ls (end_line ∷ [])
    ∙ or-true (list_any (λ l. is_line l end_line) ls)

closed_role : (ls : List (List (List ℕ))) (d : Document) (w : List (List ℕ)) → IsSpelled ls d → role ls w ≡ after
closed_role ls d w o =
    let n : list_any begins_as_setting (o.body ++ end_line ∷ []) ≡ false =
    list_any-append begins_as_setting o.body (end_line ∷ [])
    ∙ rw (lines_not_settings o.head o.body o.each) refl in
    let f : (list_all begins_as_setting (o.settings ++ (o.body ++ end_line ∷ [])) && begins_as_setting w) ≡ false =
    rw (not_all_begin o.settings (o.body ++ end_line ∷ []) n (any_last o.body end_line)) refl in
    let p : List (List ℕ) × Setting = (o.names, o.setting) in
    ap (λ x. role x w) o.lines
    ∙ ap (λ x. role (o.first_line ∷ o.kind_line ∷ x) w) (append_assoc o.settings o.body (end_line ∷ []))
    ∙ role_after o.first_line o.kind_line o.version o.head (o.settings ++ (o.body ++ end_line ∷ [])) w o.numbered
    o.heading
    ∙ behind_role o.version o.head o.settings (o.body ++ end_line ∷ []) p w o.set n (λ e. f)
    ∙ ap (λ b. cond b after
    (cond (is_line w end_line) («end» o.setting o.head (o.body ++ end_line ∷ []))
    (body o.setting o.head (o.body ++ end_line ∷ [])))) (any_end o.body)

-- ---- the rows of the table

rows_not : (b : Bool) (x c : Code) (r : Result State Code) (rest : List (Option Code))
    → (r ≡ Err c → first_of rest ≡ Some c) → cond b r (Err x) ≡ Err c → first_of (when (not b) x ∷ rest) ≡ Some c
rows_not true x c r rest f h = f h
rows_not false x c r rest f h = cc

rows_when : (b : Bool) (x c : Code) (r : Result State Code) (rest : List (Option Code))
    → (r ≡ Err c → first_of rest ≡ Some c) → cond b (Err x) r ≡ Err c → first_of (when b x ∷ rest) ≡ Some c
rows_when true x c r rest f h = cc
rows_when false x c r rest f h = f h

no_error : (t : State) (c : Code) (rest : List (Option Code)) → ◌≡◌ {A = Result State Code} (Ok t) (Err c)
    → first_of rest ≡ Some c
no_error t c rest h = cc

version_rows : (o : Option Version) (c : Code) (rest : List (Option Code)) → with_version o ≡ Err c
    → first_of (when (is_none o) code.Version ∷ rest) ≡ Some c
version_rows None c rest h = cc
version_rows (Some v) c rest h = cc

heading_rows : (v : Version) (o : Option Document) (c : Code) (tail : List (Option Code)) → with_heading v o ≡ Err c
    → first_of
    (when (is_none o) code.Header ∷ option_and_then (λ d. when (not (has_elements d)) (code.Elements d.elements)) o
    ∷ option_and_then (λ d. when (not (has_rank d)) (code.Rank (rank_of_body d.body))) o
    ∷ option_and_then (λ d. when (not (has_size d)) (code.Size (values_of_body d.body))) o ∷ tail) ≡ Some c
heading_rows v None c tail h = cc
heading_rows v (Some d) c tail h =
    rows_not (has_elements d) (code.Elements d.elements) c
    _
    (when (not (has_rank d)) (code.Rank (rank_of_body d.body))
    ∷ when (not (has_size d)) (code.Size (values_of_body d.body)) ∷ tail)
    (λ g. rows_not (has_rank d) (code.Rank (rank_of_body d.body)) c _
    (when (not (has_size d)) (code.Size (values_of_body d.body)) ∷ tail)
    (λ k. rows_not (has_size d) (code.Size (values_of_body d.body)) c (Ok (Open (first_draft v d))) tail
    (no_error _ c tail) k) g) h

kind_rows : (v : Version) (w : List (List ℕ)) (c : Code) → after_kind v w ≡ Err c → first_of (table kind w) ≡ Some c
kind_rows v w c h = rows_when (is_none (kind_of (first_word w))) code.Kind c _ _ (λ k. heading_rows v (heading w) c _ k)
    h

setting_rows : (ls : List (List (List ℕ))) (d : Draft) (w : List (List ℕ)) (c : Code) → (b : IsBefore ls d w)
    → after_setting d.stage d w ≡ Err c → first_of (table (setting b.draft.head b.draft.settings) w) ≡ Some c
setting_rows ls d w c b h = at b.step
  where
    at : IsSet b.draft.head b.draft.settings w (after_setting d.stage d w)
        → first_of (table (setting b.draft.head b.draft.settings) w) ≡ Some c
    at (refused e n) = let q : ◌≡◌ {A = Result State Code} (Err code.Setting) (Err c) = sym e ∙ h in
        let k : code.Setting ≡ c = cc in rw n (ap Some k)
    at (accepted names s g e m i) = let z = sym e ∙ h in cc

body_rows : (s : Setting) (head : Document) (d : Draft) (ls : List (List (List ℕ))) (w : List (List ℕ)) (c : Code)
    → has_signs d.document w ≡ has_signs head w → has_length d.document w ≡ has_length head w
    → has_blocks d.document w ≡ has_blocks head w → has_numbers d.document w ≡ has_numbers head w
    → has_room (added d w).document ≡ has_room (filled s head (ls ++ w ∷ [])) → after_body d w ≡ Err c
    → first_of (table (body s head ls) w) ≡ Some c
body_rows s head d ls w c g l b m r h =
    rw (← g) (rows_not (has_signs d.document w) code.Sign c _ _
    (λ g. rw (← l) (rows_not (has_length d.document w) code.Length c _ _
    (λ f. rw (← b) (rows_not (has_blocks d.document w) code.Block c _ _
    (λ k. rw (← m) (rows_not (has_numbers d.document w) code.Number c _ _
    (λ j. rw (← r)
    (rows_not (has_room (added d w).document) code.Many c (Ok (Open (added d w))) (None ∷ None ∷ [])
    (no_error _ c (None ∷ None ∷ [])) j)) k)) f)) g)) h)

end_rows : (s : Setting) (head : Document) (d : Draft) (ls : List (List (List ℕ))) (w : List (List ℕ)) (c : Code)
    → is_complete d.document ≡ is_complete (filled s head ls) → after_end d ≡ Err c
    → first_of (table («end» s head ls) w) ≡ Some c
end_rows s head d ls w c e h =
    rw (← e) (rows_not (is_complete d.document) code.Few c (Ok (Closed (finished_draft d))) (None ∷ [])
    (no_error _ c (None ∷ [])) h)

-- the code of a step that fails is that of the table's first row that holds
pub step_error : (s : State) (ls : List (List (List ℕ))) (w : List (List ℕ)) (c : Code) → Shows s ls → step s w ≡ Err c
    → first_of (table (role ls w) w) ≡ Some c
step_error Start ls w c o h =
    subst (λ x. first_of (table (role x w) w) ≡ Some c) (sym o) (version_rows (version_of w) c later h)
  where
    later : List (Option Code)
    later = None ∷ None ∷ None ∷ None ∷ None ∷ None ∷ None ∷ None ∷ None ∷ None ∷ None ∷ None ∷ None ∷ []
step_error (Versioned v) ls w c o h = subst (λ x. first_of (table (role x w) w) ≡ Some c) (sym o.1) (kind_rows v w c h)
step_error (Open d) ls w c o h = elim (cases_Bool (takes_settings d.stage && begins_as_setting w)) [
  | inl y ↦ let a : after_setting d.stage d w ≡ Err c = rw y at h in
      let b = before ls d w o y in
      subst (λ p. first_of (table p w) ≡ Some c) (sym (setting_role ls d w b)) (setting_rows ls d w c b a)
  | inr f ↦ let g : cond (is_line w end_line) (after_end d) (after_body d w) ≡ Err c = rw f at h in
      let at = open_role ls d w o f in
      elim (cases_Bool (is_line w end_line)) [
        | inl e ↦ let a : after_end d ≡ Err c = rw e at g in
            let q : role ls w ≡ «end» o.setting o.head o.body = at ∙ rw e refl in
            subst (λ p. first_of (table p w) ≡ Some c) (sym q)
            (end_rows o.setting o.head d o.body w c (ap (λ e. is_complete e.document) o.value) a)
        | inr n ↦ let a : after_body d w ≡ Err c = rw n at g in
            let q : role ls w ≡ body o.setting o.head o.body = at ∙ rw n refl in
            let s : has_signs d.document w ≡ has_signs o.head w = ap (λ e. has_signs e.document w) o.value
            ∙ has_signs_filled o.setting o.head.body o.body w in
            let l : has_length d.document w ≡ has_length o.head w = ap (λ e. has_length e.document w) o.value
            ∙ has_length_filled o.setting o.head.body o.body o.head.elements w in
            let k : has_blocks d.document w ≡ has_blocks o.head w = ap (λ e. has_blocks e.document w) o.value
            ∙ has_blocks_filled o.setting o.head.body o.body w in
            let m : has_numbers d.document w ≡ has_numbers o.head w = ap (λ e. has_numbers e.document w) o.value
            ∙ has_numbers_filled o.setting o.head.body o.body w in
            let v : added d w ≡ draft_of o.names o.setting (filled o.setting o.head (o.body ++ w ∷ [])) InBody =
            ap (λ e. added e w) o.value
            ∙ ap (λ x. draft_of o.names o.setting (record { elements = o.head.elements; body = x; names = [] })
            InBody) (filled_added o.setting o.head.body o.body w) in
            subst (λ p. first_of (table p w) ≡ Some c) (sym q)
            (body_rows o.setting o.head d o.body w c s l k m (ap (λ e. has_room e.document) v) a)
      ]
]
step_error (Closed d) ls w c o h = subst (λ p. first_of (table p w) ≡ Some c) (sym (closed_role ls d w o)) (code_same h)
  where
    code_same : ◌≡◌ {A = Result State Code} (Err code.After) (Err c) → ◌≡◌ {A = Option Code} (Some code.After) (Some c)
    code_same g = cc
