-- The numbers of a heading stay in range.
--
-- Main results: advance_small
use Rattle.std.proofs.Common.{◌≡◌, ℕ, ◌≤◌, List, [], ◌∷◌, true, cond, ◌&&◌, refl, sym, subst, inl, inr}
use Rattle.std.specs.Prelude.{Option, Some, None, Result, Ok, is_none, option_map, nat_le}
use Rattle.std.proofs.lemmas.Bool.{leb-true, cases_Bool, and_parts}
use Rattle.om_signs.specs.declared.limits.TheConstants.{MAX_ELEMENTS}
use Rattle.om_signs.proofs.Results.{ok-injective}
use Rattle.om_document.specs.declared.document.Document.{Document}
use Rattle.om_document.specs.declared.body.Body.{Body}
use Rattle.om_document.specs.declared.body.Body.TheVariants.{Chirotope, Points}
use Rattle.om_document.specs.declared.code.Code.{Code}
use Rattle.om_document.specs.declared.code.Code.TheVariants as code
use Rattle.om_document.specs.declared.document_kind.DocumentKind.{DocumentKind}
use Rattle.om_document.specs.declared.document_kind.DocumentKind.TheVariants as kinds
use Rattle.om_text.specs.declared.state.State.{State}
use Rattle.om_text.specs.declared.state.State.TheVariants.{Start, Versioned, Open, Closed}
use Rattle.om_lines.specs.Lines.{words, has_any, is_line, end_line, first_word}
use Rattle.om_text.specs.declared.draft.Draft.{Draft}
use Rattle.om_text.specs.declared.stage.Stage.{Stage}
use Rattle.om_text.specs.declared.stage.Stage.TheVariants.{Names, Choice, Full, Body as InBody}
use Rattle.om_document.specs.declared.setting.Setting.{Setting}
use Rattle.om_document.specs.declared.setting.Setting.TheVariants.{Plain}
use Rattle.om_document.specs.declared.version.Version.{Version}
use Rattle.om_document.specs.Settings.{version_of, begins_as_setting, other_words, is_names_line, setting_in}
use Rattle.om_document.specs.Document.{filled_body, is_complete}
use Rattle.om_document.specs.Heading.{kind_of, heading, opened, headed, empty_body, numbers, has_elements, has_rank}
use Rattle.om_document.specs.Heading.{rank_of_body}
use Rattle.om_text.specs.Reading.{step, advance, with_version, first_draft, with_heading, takes_settings, with_names}
use Rattle.om_text.specs.Reading.{with_setting, after_choice, after_setting, after_body, finished_draft, after_end}
use Rattle.om_text.specs.Reading.{added, added_body}
use Rattle.om_text.specs.Steps.{step_if}
use Rattle.om_text.specs.ReaderParts.{IsDocumentInRange, IsBodyInRange, IsStateInRange}
use Rattle.om_text.proofs.SettingSteps.{cond_ok, cond_err}
use Rattle.om_text.proofs.CourseSteps.{heading_ok, taken}
use Rattle.om_text.proofs.Course.{named}

pub mapped : (o : Option (ℕ × ℕ)) (f : ℕ × ℕ → Document) (d : Document) → option_map f o ≡ Some d → (p : ℕ × ℕ)
    × (f p ≡ d)
mapped None f d h = cc
mapped (Some p) f d h = (p, cc)

empty_small : (k : DocumentKind) (p : ℕ × ℕ) → p.1 ≤ MAX_ELEMENTS → rank_of_body (empty_body k p.0 p.1) ≤ p.1
    → IsBodyInRange (filled_body Plain (empty_body k p.0 p.1) [])
empty_small kinds.Chirotope p h r = record { elements = h; rank = r }
empty_small _ p h r = tt

heading_small : (v : Version) (w : List (List ℕ)) (d : Document) → heading w ≡ Some d → has_elements d ≡ true
    → has_rank d ≡ true → IsDocumentInRange (first_draft v d).document
heading_small v [] d h e r = cc
heading_small v (w ∷ ws) d h e r =
    let n = named (kind_of w) (λ k. opened k ws) d h in
    let q : opened n.0 ws ≡ Some d = rw n.1 at h in
    let m = mapped (numbers n.0 ws) (headed n.0) d q in
    let b = and_parts (nat_le 1 d.elements) (nat_le d.elements MAX_ELEMENTS) e in
    let l : d.elements ≤ MAX_ELEMENTS = leb-true d.elements MAX_ELEMENTS b.1 in
    let k : m.0.1 ≤ MAX_ELEMENTS = subst (λ d. d.elements ≤ MAX_ELEMENTS) (sym m.1) l in
    let f : rank_of_body (empty_body n.0 m.0.0 m.0.1) ≤ m.0.1 =
    subst (λ d. rank_of_body d.body ≤ d.elements) (sym m.1) (leb-true (rank_of_body d.body) d.elements r) in
    record {
      low = leb-true 1 d.elements b.0;
      high = l;
      body = subst (λ x. IsBodyInRange (filled_body Plain x.body [])) m.1 (empty_small n.0 m.0 k f);
    }

kind_small : (v : Version) (o : Option Document) (w : List (List ℕ)) (t : State) → heading w ≡ o
    → with_heading v o ≡ Ok t → IsStateInRange t
kind_small v None w t e h = cc
kind_small v (Some d) w t e h =
    let a = heading_ok v d t h in
    subst IsStateInRange a.state (heading_small v w d e a.elements a.rank)

version_small : (o : Option Version) (t : State) → with_version o ≡ Ok t → IsStateInRange t
version_small None t h = cc
version_small (Some v) t h = subst IsStateInRange (ok-injective (Versioned v) t h) tt

added_small : (s : Setting) (b : Body) (w : List (List ℕ)) → IsBodyInRange b → IsBodyInRange (added_body s b w)
added_small s (Chirotope m) w h = record { elements = h.elements; rank = h.rank }
added_small s (Points ps) w h = tt
added_small s _ w h = tt

setting_small : (d : Draft) (o : Option Setting) (t : State) → IsDocumentInRange d.document → with_setting d o ≡ Ok t
    → IsStateInRange t
setting_small d None t i h = cc
setting_small d (Some s) t i h =
    subst IsStateInRange (ok-injective (Open (record { document = d.document; setting = s; stage = Full })) t h) i

settings_small : (g : Stage) (d : Draft) (w : List (List ℕ)) (t : State) → IsDocumentInRange d.document
    → after_setting g d w ≡ Ok t → IsStateInRange t
settings_small Names d w t i h = elim (cases_Bool (is_names_line d.document.elements w)) [
  | inl y ↦ let g : ◌≡◌ {A = Result State Code} (Ok (Open (with_names d (other_words w)))) (Ok t) = rw y at h in
      let m : IsDocumentInRange (with_names d (other_words w)).document =
      record { low = i.low; high = i.high; body = i.body } in
      subst IsStateInRange (ok-injective _ _ g) m
  | inr n ↦ let g : after_choice d w ≡ Ok t = rw n at h in setting_small d (setting_in d.document.body w) t i g
]
settings_small Choice d w t i h = setting_small d (setting_in d.document.body w) t i h
settings_small Full d w t i h = cc
settings_small InBody d w t i h = cc

pub step_small : (s : State) (w : List (List ℕ)) (t : State) → IsStateInRange s → step s w ≡ Ok t → IsStateInRange t
step_small Start w t o h = version_small (version_of w) t h
step_small (Versioned v) w t o h =
    let b = cond_err (is_none (kind_of (first_word w))) (with_heading v (heading w)) code.Kind t h in
    kind_small v (heading w) w t refl b.1
step_small (Open d) w t o h = elim (cases_Bool (takes_settings d.stage && begins_as_setting w)) [
  | inl y ↦ let g : after_setting d.stage d w ≡ Ok t = rw y at h in settings_small d.stage d w t o g
  | inr f ↦ let k : cond (is_line w end_line) (after_end d) (after_body d w) ≡ Ok t = rw f at h in
      elim (cases_Bool (is_line w end_line)) [
        | inl e ↦ let g : after_end d ≡ Ok t = rw e at k in
            let a = cond_ok (is_complete d.document) (Ok (Closed (finished_draft d))) code.Few t g in
            subst IsStateInRange (ok-injective _ _ a.1) tt
        | inr n ↦ let g : after_body d w ≡ Ok t = rw n at k in
            let m : IsDocumentInRange (added d w).document =
            record { low = o.low; high = o.high; body = added_small d.setting d.document.body w o.body } in
            subst IsStateInRange (taken d w t g).state m
      ]
]
step_small (Closed d) w t o h = cc

pub advance_small : (s : State) (line : List ℕ) (t : State) → IsStateInRange s → advance s line ≡ Ok t
    → IsStateInRange t
advance_small s line t o h = at (words line) h
  where
    at : (w : List (List ℕ)) → step_if step (has_any w) s w ≡ Ok t → IsStateInRange t
    at [] g = subst IsStateInRange (ok-injective s t g) o
    at (x ∷ xs) g = step_small s (x ∷ xs) t o g
