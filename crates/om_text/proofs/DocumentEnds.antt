-- A line that closes a state of the reader is an end line, and only a closed state refuses a line as one after the end.
--
-- Main results: line_not_after
use Rattle.std.proofs.Common.{◌≡◌, inl, inr, ℕ, List, [], ◌∷◌, Bool, true, false, cond, ◌&&◌, refl, sym, ap, ◌∙◌}
use Rattle.std.specs.Prelude.{Option, Some, None, Result, Ok, Err, is_none}
use Rattle.std.proofs.lemmas.Bool.{cases_Bool, both_ways}
use Rattle.om_signs.proofs.Results.{ok-injective}
use Rattle.om_document.specs.declared.document.Document.{Document}
use Rattle.om_document.specs.declared.code.Code.{Code}
use Rattle.om_document.specs.declared.code.Code.TheVariants as code
use Rattle.om_text.specs.declared.state.State.{State}
use Rattle.om_text.specs.declared.state.State.TheVariants.{Start, Versioned, Open, Closed}
use Rattle.om_lines.specs.Lines.{words, has_any, is_line, end_line, first_word}
use Rattle.om_text.specs.declared.draft.Draft.{Draft}
use Rattle.om_text.specs.declared.stage.Stage.{Stage}
use Rattle.om_text.specs.declared.stage.Stage.TheVariants.{Names, Choice, Full, Body as InBody}
use Rattle.om_document.specs.declared.setting.Setting.{Setting}
use Rattle.om_document.specs.declared.version.Version.{Version}
use Rattle.om_document.specs.Settings.{version_of, begins_as_setting, other_words, is_names_line, setting_in}
use Rattle.om_document.specs.Document.{has_signs, has_length, has_blocks, has_numbers, has_room, is_complete}
use Rattle.om_document.specs.Heading.{kind_of, heading, has_elements, has_rank, has_size, rank_of_body, values_of_body}
use Rattle.om_text.specs.Reading.{step, advance, with_version, first_draft, with_heading, takes_settings}
use Rattle.om_text.specs.Reading.{with_names, with_setting, after_choice, after_setting, after_body, finished_draft}
use Rattle.om_text.specs.Reading.{after_end, added, is_closed}
use Rattle.om_text.specs.Steps.{step_if}
use Rattle.om_lines.proofs.WordLines.{is_line-Decides}
use Rattle.om_text.proofs.SettingSteps.{cond_err}
use Rattle.om_text.proofs.CourseSteps.{heading_ok, taken}

-- ---- where the document closes

-- a state that is not closed
open_state : (d : Draft) (t : State) → ◌≡◌ {A = Result State Code} (Ok (Open d)) (Ok t) → is_closed t ≡ false
open_state d t h = sym (ap is_closed (ok-injective (Open d) t h))

version_opens : (o : Option Version) (t : State) → with_version o ≡ Ok t → is_closed t ≡ false
version_opens None t h = cc
version_opens (Some v) t h = sym (ap is_closed (ok-injective (Versioned v) t h))

heading_opens : (v : Version) (o : Option Document) (t : State) → with_heading v o ≡ Ok t → is_closed t ≡ false
heading_opens v None t g = cc
heading_opens v (Some d) t g =
    sym (ap is_closed (heading_ok v d t g).state)

setting_opens : (d : Draft) (o : Option Setting) (t : State) → with_setting d o ≡ Ok t → is_closed t ≡ false
setting_opens d None t h = cc
setting_opens d (Some s) t h = open_state _ t h

settings_open : (g : Stage) (d : Draft) (w : List (List ℕ)) (t : State) → after_setting g d w ≡ Ok t
    → is_closed t ≡ false
settings_open Names d w t h = elim (cases_Bool (is_names_line d.document.elements w)) [
  | inl y ↦ let g : ◌≡◌ {A = Result State Code} (Ok (Open (with_names d (other_words w)))) (Ok t) = rw y at h in
      open_state _ t g
  | inr n ↦ let g : after_choice d w ≡ Ok t = rw n at h in setting_opens d (setting_in d.document.body w) t g
]
settings_open Choice d w t h = setting_opens d (setting_in d.document.body w) t h
settings_open Full d w t h = cc
settings_open InBody d w t h = cc

-- a line that closes a state is an end line
closes : (s t : State) (w : List (List ℕ)) → is_closed s ≡ false → step s w ≡ Ok t → is_closed t ≡ true → w ≡ end_line
closes Start t w n h e = absurd (both_ways (is_closed t) (version_opens (version_of w) t h) e)
closes (Versioned v) t w n h e =
    let b = cond_err (is_none (kind_of (first_word w))) (with_heading v (heading w)) code.Kind t h in
    absurd (both_ways (is_closed t) (heading_opens v (heading w) t b.1) e)
closes (Open d) t w n h e = elim (cases_Bool (takes_settings d.stage && begins_as_setting w)) [
  | inl y ↦ let g : after_setting d.stage d w ≡ Ok t = rw y at h in
      absurd (both_ways (is_closed t) (settings_open d.stage d w t g) e)
  | inr f ↦ let k : cond (is_line w end_line) (after_end d) (after_body d w) ≡ Ok t = rw f at h in
      elim (cases_Bool (is_line w end_line)) [
        | inl y ↦ (is_line-Decides w end_line).0 y
        | inr y ↦ let g : after_body d w ≡ Ok t = rw y at k in
            absurd (both_ways (is_closed t) (sym (ap is_closed (taken d w t g).state)) e)
      ]
]
closes (Closed d) t w n h e = cc

pub line_closes : (s t : State) (l : List ℕ) → is_closed s ≡ false → advance s l ≡ Ok t → is_closed t ≡ true
    → words l ≡ end_line
line_closes s t l n h e = at (words l) refl h
  where
    at : (w : List (List ℕ)) → words l ≡ w → step_if step (has_any w) s w ≡ Ok t → words l ≡ end_line
    at [] q g = let z : s ≡ t = ok-injective s t g in let y = rw (z, e) at n in cc
    at (x ∷ xs) q g = q ∙ closes s t (x ∷ xs) n g e

-- only a closed state answers `after`

keeps_not : (b : Bool) (x c : Code) (r : Result State Code) → (x ≡ code.After → ⊥) → (r ≡ Err c → c ≡ code.After → ⊥)
    → cond b r (Err x) ≡ Err c → c ≡ code.After → ⊥
keeps_not true x c r n f h = f h
keeps_not false x c r n f h = λ e. n (same h ∙ e)
  where
    same : ◌≡◌ {A = Result State Code} (Err x) (Err c) → x ≡ c
    same h = cc

keeps_when : (b : Bool) (x c : Code) (r : Result State Code) → (x ≡ code.After → ⊥) → (r ≡ Err c → c ≡ code.After → ⊥)
    → cond b (Err x) r ≡ Err c → c ≡ code.After → ⊥
keeps_when true x c r n f h = keeps_not false x c r n f h
keeps_when false x c r n f h = f h

no_error : (t : State) (c : Code) → ◌≡◌ {A = Result State Code} (Ok t) (Err c) → c ≡ code.After → ⊥
no_error t c h = cc

version_not : (o : Option Version) (c : Code) → with_version o ≡ Err c → c ≡ code.After → ⊥
version_not None c h = keeps_not false code.Version c (Err code.Version) (λ e. cc) (λ g e. cc) h
version_not (Some v) c h = cc

heading_not : (v : Version) (o : Option Document) (c : Code) → with_heading v o ≡ Err c → c ≡ code.After → ⊥
heading_not v None c h = keeps_not false code.Header c (Err code.Header) (λ e. cc) (λ g e. cc) h
heading_not v (Some d) c h =
    keeps_not (has_elements d) (code.Elements d.elements) c
    _ (λ e. cc)
    (λ g. keeps_not (has_rank d) (code.Rank (rank_of_body d.body)) c _ (λ e. cc)
    (λ k. keeps_not (has_size d) (code.Size (values_of_body d.body)) c (Ok (Open (first_draft v d))) (λ e. cc)
    (no_error _ c) k) g) h

no_setting : (c : Code) → ◌≡◌ {A = Result State Code} (Err code.Setting) (Err c) → c ≡ code.After → ⊥
no_setting c h = keeps_not false code.Setting c (Err code.Setting) (λ e. cc) (λ g e. cc) h

setting_not : (d : Draft) (o : Option Setting) (c : Code) → with_setting d o ≡ Err c → c ≡ code.After → ⊥
setting_not d None c h = no_setting c h
setting_not d (Some s) c h = no_error _ c h

settings_not : (g : Stage) (d : Draft) (w : List (List ℕ)) (c : Code) → after_setting g d w ≡ Err c → c ≡ code.After → ⊥
settings_not Names d w c h = elim (cases_Bool (is_names_line d.document.elements w)) [
  | inl y ↦ let g : ◌≡◌ {A = Result State Code} (Ok (Open (with_names d (other_words w)))) (Err c) = rw y at h in
      no_error _ c g
  | inr n ↦ let g : after_choice d w ≡ Err c = rw n at h in setting_not d (setting_in d.document.body w) c g
]
settings_not Choice d w c h = setting_not d (setting_in d.document.body w) c h
settings_not Full d w c h = no_setting c h
settings_not InBody d w c h = no_setting c h

step_not_after : (s : State) (w : List (List ℕ)) (c : Code) → is_closed s ≡ false → step s w ≡ Err c → c ≡ code.After
    → ⊥
step_not_after Start w c n h = version_not (version_of w) c h
step_not_after (Versioned v) w c n h =
    keeps_when (is_none (kind_of (first_word w))) code.Kind c (with_heading v (heading w)) (λ e. cc)
    (heading_not v (heading w) c) h
step_not_after (Open d) w c n h = elim (cases_Bool (takes_settings d.stage && begins_as_setting w)) [
  | inl y ↦ let g : after_setting d.stage d w ≡ Err c = rw y at h in settings_not d.stage d w c g
  | inr f ↦ let k : cond (is_line w end_line) (after_end d) (after_body d w) ≡ Err c = rw f at h in
      elim (cases_Bool (is_line w end_line)) [
        | inl y ↦ let g : after_end d ≡ Err c = rw y at k in
            keeps_not (is_complete d.document) code.Few c (Ok (Closed (finished_draft d))) (λ e. cc) (no_error _ c) g
        | inr y ↦ let g : after_body d w ≡ Err c = rw y at k in body_not d w c g
      ]
]
  where
    body_not : (d : Draft) (w : List (List ℕ)) (c : Code) → after_body d w ≡ Err c → c ≡ code.After → ⊥
    body_not d w c g =
        let e = d.document in
        let room = cond (has_room (added d w).document) (Ok (Open (added d w))) (Err code.Many) in
        let numbers = cond (has_numbers e w) room (Err code.Number) in
        let blocks = cond (has_blocks e w) numbers (Err code.Block) in
        keeps_not (has_signs e w) code.Sign c (cond (has_length e w) blocks (Err code.Length)) (λ e. cc)
        (λ g. keeps_not (has_length e w) code.Length c blocks (λ e. cc)
        (λ g. keeps_not (has_blocks e w) code.Block c numbers (λ e. cc)
        (λ g. keeps_not (has_numbers e w) code.Number c room (λ e. cc)
        (λ g. keeps_not (has_room (added d w).document) code.Many c (Ok (Open (added d w))) (λ e. cc) (no_error _ c) g)
        g) g) g) g
step_not_after (Closed d) w c n h = cc

pub line_not_after : (s : State) (l : List ℕ) (c : Code) → is_closed s ≡ false → advance s l ≡ Err c → c ≡ code.After
    → ⊥
line_not_after s l c n h = at (words l) h
  where
    at : (w : List (List ℕ)) → step_if step (has_any w) s w ≡ Err c → c ≡ code.After → ⊥
    at [] g = no_error s c g
    at (x ∷ xs) g = step_not_after s (x ∷ xs) c n g
