-- The lines of a document are read to its end, and its end line stands last.
--
-- Main definitions: run_words
-- Main results: named, spelled_run, first_not_end, open_no_end, spelled_no_end
use Rattle.std.proofs.Math.Bool.{and-false}
use Rattle.std.proofs.Common.{◌≡◌, ℕ, List, [], ◌∷◌, ◌++◌, Bool, true, false, cond, ◌&&◌, inl, inr, refl, sym, ap, ◌∙◌}
use Rattle.std.proofs.Common.{append_assoc, append-nil}
use Rattle.std.specs.Prelude.{Option, Some, None, Result, Ok, Err, is_none, option_and_then}
use Rattle.std.specs.List.{list_any, list_all}
use Rattle.std.proofs.lemmas.List.Folds.{list_any-append}
use Rattle.std.proofs.lemmas.Bool.{cases_Bool, and_parts}
use Rattle.om_document.specs.declared.document.Document.{Document}
use Rattle.om_document.specs.declared.code.Code.{Code}
use Rattle.om_document.specs.declared.code.Code.TheVariants as code
use Rattle.om_text.specs.declared.state.State.{State}
use Rattle.om_text.specs.declared.state.State.TheVariants.{Start, Versioned, Open, Closed}
use Rattle.om_text.specs.declared.draft.Draft.{Draft}
use Rattle.om_text.specs.declared.stage.Stage.{Stage}
use Rattle.om_text.specs.declared.stage.Stage.TheVariants.{Names, Choice, Body as InBody}
use Rattle.om_document.specs.declared.setting.Setting.{Setting}
use Rattle.om_document.specs.declared.setting.Setting.TheVariants.{Plain}
use Rattle.om_document.specs.declared.version.Version.{Version}
use Rattle.om_document.specs.declared.version.Version.TheVariants.{One, Two}
use Rattle.om_document.specs.declared.document_kind.DocumentKind.{DocumentKind}
use Rattle.om_lines.specs.Lines.{is_line, end_line}
use Rattle.om_document.specs.Settings.{version_of, begins_as_setting, other_words, is_names_line, settings_of}
use Rattle.om_document.specs.Settings.{settings_in, finished}
use Rattle.om_document.specs.Document.{IsSpelled, is_body_line, has_signs, has_length, has_blocks, has_numbers, filled}
use Rattle.om_document.specs.Document.{has_room, is_complete}
use Rattle.om_document.specs.Heading.{kind_of, heading, opened, has_elements, has_rank, has_size}
use Rattle.om_text.specs.Reading.{step, with_version, after_kind, first_stage, draft_of, first_draft, with_heading}
use Rattle.om_text.specs.Reading.{takes_settings, after_setting, after_body, added}
use Rattle.om_text.proofs.Language as any
use Rattle.om_text.proofs.Language.{bind}
use Rattle.om_lines.proofs.WordLines.{is_line-Decides}
use Rattle.om_text.proofs.Filling.{line_not_end, has_signs_filled, has_length_filled, has_blocks_filled}
use Rattle.om_text.proofs.Filling.{has_numbers_filled, filled_added, room_before}
use Rattle.om_text.proofs.SettingLines.{settings_begin, line_not_setting, settings_not_end}
use Rattle.om_text.proofs.SettingSteps.{IsStage, IsOpen, IsSet, refused, accepted, some_pair, setting_step}
use Rattle.om_text.proofs.CourseSteps.{no_settings}
use Rattle.om_text.proofs.StepErrors.{no_end}

-- ---- a document's lines are read to its end

pub named : (o : Option DocumentKind) (f : DocumentKind → Option Document) (d : Document) → option_and_then f o ≡ Some d
    → (k : DocumentKind) × (o ≡ Some k)
named None f d h = cc
named (Some k) f d h = (k, refl)

kind_ok : (v : Version) (k : List (List ℕ)) (d : Document) → heading k ≡ Some d → has_elements d ≡ true
    → has_rank d ≡ true → has_size d ≡ true → after_kind v k ≡ Ok (Open (first_draft v d))
kind_ok v [] d h e r z = cc
kind_ok v (w ∷ ws) d h e r z =
    let n = named (kind_of w) (λ k. opened k ws) d h in
    let g : with_heading v (heading (w ∷ ws)) ≡ Ok (Open (first_draft v d)) = ap (with_heading v) h
    ∙ rw (e, r, z) refl in
    passed (kind_of w) n.0 (with_heading v (heading (w ∷ ws))) n.1 ∙ g
  where
    passed : (o : Option DocumentKind) (k : DocumentKind) (x : Result State Code) → o ≡ Some k
        → cond (is_none o) (Err code.Kind) x ≡ x
    passed o k x s = rw s refl

-- the lines with words in turn
abbrev pub run_words : State → List (List (List ℕ)) → Result State Code
run_words = any.run_words step

-- the setting lines of a document are read
record IsRun (v : Version) (d : Document) (ss more : List (List (List ℕ))) (names : List (List ℕ)) (s : Setting) : Type
    0 where
  stage : Stage
  run : run_words (Open (first_draft v d)) (ss ++ more) ≡ run_words (Open (draft_of names s (filled s d []) stage)) more

-- one of them
record IsOneRun (d : Document) (ss : List (List (List ℕ))) (w : List (List ℕ)) (x : Draft) (names : List (List ℕ))
    (s : Setting) : Type 0 where
  stage : Stage
  run : step (Open x) w ≡ Ok (Open (draft_of names s (filled s d []) stage))
  is : IsStage Two d (ss ++ w ∷ []) [] stage

one_run : (d : Document) (ss : List (List (List ℕ))) (w : List (List ℕ)) (a b : List (List ℕ)) (s t : Setting)
    (g : Stage) → settings_of d ss ≡ Some (a, s) → IsStage Two d ss [] g → takes_settings g ≡ true
    → begins_as_setting w ≡ true → settings_of d (ss ++ w ∷ []) ≡ Some (b, t)
    → IsOneRun d ss w (draft_of a s (filled s d []) g) b t
one_run d ss w a b s t g h i y n m = at (setting_step d ss w a s g h i y)
  where
    opens : step (Open (draft_of a s (filled s d []) g)) w ≡ after_setting g (draft_of a s (filled s d []) g) w
    opens = rw (y, n) refl

    at : IsSet d ss w (after_setting g (draft_of a s (filled s d []) g) w)
        → IsOneRun d ss w (draft_of a s (filled s d []) g) b t
    at (refused e f) = let z = sym f ∙ m in cc
    at (accepted c u k e f j) =
        let p = some_pair c b u t (sym f ∙ m) in
        record {
          stage = k;
          run = opens ∙ e ∙ ap (λ c. Ok (Open (draft_of c u (filled u d []) k))) p.0
              ∙ ap (λ u. Ok (Open (draft_of b u (filled u d []) k))) p.1;
          is = j;
        }

settings_run : (v : Version) (d : Document) (ss more : List (List (List ℕ))) (names : List (List ℕ)) (s : Setting)
    → settings_in v d ss ≡ Some (names, s) → IsRun v d ss more names s
settings_run v d [] more names s h =
    let p = some_pair [] names Plain s (sym (no_settings v d) ∙ h) in
    record {
      stage = first_stage v;
      run =
          ap (λ a. run_words (Open (draft_of a Plain (filled Plain d []) (first_stage v))) more) p.0
          ∙ ap (λ s. run_words (Open (draft_of names s (filled s d []) (first_stage v))) more) p.1;
    }
settings_run One d (w ∷ ss) more names s h = cc
settings_run Two d (w ∷ []) more names s h =
    let b = and_parts (begins_as_setting w) true (settings_begin Two d (w ∷ []) (names, s) h) in
    let r = one_run d [] w [] names Plain s Names refl (refl, refl, refl) refl b.0 h in
    record { stage = r.stage; run = ap (λ x. bind x (λ t. run_words t more)) r.run }
settings_run Two d (w ∷ v ∷ []) more names s h = elim (cases_Bool (is_names_line d.elements w)) [
  | inl y ↦
      let b = and_parts (begins_as_setting w) (begins_as_setting v && true)
      (settings_begin Two d (w ∷ v ∷ []) (names, s) h)
      in
      let c = and_parts (begins_as_setting v) true b.1 in
      let m : settings_of d (w ∷ []) ≡ Some (other_words w, Plain) = rw y refl in
      let f : step (Open (draft_of [] Plain (filled Plain d []) Names)) w
      ≡ Ok (Open (draft_of (other_words w) Plain (filled Plain d []) Choice)) = rw (b.0, y) refl in
      let r = one_run d (w ∷ []) v (other_words w) names Plain s Choice m (refl, refl, (w, refl, y)) refl c.0 h in
      record {
        stage = r.stage;
        run = ap (λ x. bind x (λ t. run_words t (v ∷ more))) f
            ∙ ap (λ x. bind x (λ t. run_words t more)) r.run;
      }
  | inr n ↦ let z = rw n at h in cc
]
settings_run Two d (w ∷ v ∷ u ∷ ss) more names s h = elim (cases_Bool (is_names_line d.elements w)) [
  | inl y ↦ let z = rw y at h in cc
  | inr n ↦ let z = rw n at h in cc
]

body_run : (s : Setting) (names : List (List ℕ)) (head : Document) (g : Stage) (pre ls : List (List (List ℕ)))
    → list_all (is_body_line head) ls ≡ true → has_room (filled s head (pre ++ ls)) ≡ true
    → is_complete (filled s head (pre ++ ls)) ≡ true
    → run_words (Open (draft_of names s (filled s head pre) g)) (ls ++ end_line ∷ [])
    ≡ Ok (Closed (finished names s (filled s head (pre ++ ls))))
body_run s names head g pre [] a r c =
    rw (append-nil pre) (let d : is_complete (filled s head pre) ≡ true = rw (append-nil pre) at c in
    rw (and-false (takes_settings g), d) refl)
body_run s names head g pre (w ∷ ws) a r c =
    let b = and_parts (is_body_line head w) (list_all (is_body_line head) ws) a in
    let f = and_parts (has_signs head w && has_length head w && has_blocks head w) (has_numbers head w) b.0 in
    let e = and_parts (has_signs head w && has_length head w) (has_blocks head w) f.0 in
    let l = and_parts (has_signs head w) (has_length head w) e.0 in
    let q : (pre ++ w ∷ []) ++ ws ≡ pre ++ w ∷ ws = append_assoc pre (w ∷ []) ws in
    let r2 : has_room (filled s head ((pre ++ w ∷ []) ++ ws)) ≡ true = rw q r in
    let c2 : is_complete (filled s head ((pre ++ w ∷ []) ++ ws)) ≡ true = rw q c in
    let room : has_room (filled s head (pre ++ w ∷ [])) ≡ true = room_before s head (pre ++ w ∷ []) ws r2 in
    let v : added (draft_of names s (filled s head pre) g) w ≡ draft_of names s (filled s head (pre ++ w ∷ [])) InBody =
    ap (λ x. draft_of names s (record { elements = head.elements; body = x; names = [] }) InBody)
    (filled_added s head.body pre w) in
    let sg : has_signs (filled s head pre) w ≡ true = has_signs_filled s head.body pre w ∙ l.0 in
    let n : has_length (filled s head pre) w ≡ true = has_length_filled s head.body pre head.elements w ∙ l.1 in
    let k : has_blocks (filled s head pre) w ≡ true = has_blocks_filled s head.body pre w ∙ e.1 in
    let m : has_numbers (filled s head pre) w ≡ true = has_numbers_filled s head.body pre w ∙ f.1 in
    let one : step (Open (draft_of names s (filled s head pre) g)) w
    ≡ Ok (Open (draft_of names s (filled s head (pre ++ w ∷ [])) InBody)) =
    first_step s names head g pre w (line_not_setting head.body head.elements w b.0)
    (line_not_end head.body head.elements w b.0) sg n k m v room in
    let more : run_words (Open (draft_of names s (filled s head (pre ++ w ∷ [])) InBody)) (ws ++ end_line ∷ [])
    ≡ Ok (Closed (finished names s (filled s head ((pre ++ w ∷ []) ++ ws)))) =
    body_run s names head InBody (pre ++ w ∷ []) ws b.1 r2 c2 in
    ap (λ x. bind x (λ t. run_words t (ws ++ end_line ∷ []))) one ∙ more
    ∙ ap (λ x. Ok (Closed (finished names s (filled s head x)))) q
  where
    first_step : (s : Setting) (names : List (List ℕ)) (head : Document) (g : Stage) (pre : List (List (List ℕ)))
        (w : List (List ℕ)) → begins_as_setting w ≡ false → is_line w end_line ≡ false
        → has_signs (filled s head pre) w ≡ true → has_length (filled s head pre) w ≡ true
        → has_blocks (filled s head pre) w ≡ true → has_numbers (filled s head pre) w ≡ true
        → added (draft_of names s (filled s head pre) g) w ≡ draft_of names s (filled s head (pre ++ w ∷ [])) InBody
        → has_room (filled s head (pre ++ w ∷ [])) ≡ true
        → step (Open (draft_of names s (filled s head pre) g)) w
        ≡ Ok (Open (draft_of names s (filled s head (pre ++ w ∷ [])) InBody))
    first_step s names head g pre w y n sg l k m v r =
        let x : Draft = draft_of names s (filled s head pre) g in
        let r2 : has_room (added x w).document ≡ true = ap (λ e. has_room e.document) v ∙ r in
        let e : after_body x w ≡ Ok (Open (added x w)) = chain _ _ _ _ _ _ sg l k m r2 in
        let z : (takes_settings g && begins_as_setting w) ≡ false = ap (λ b. takes_settings g && b) y
        ∙ and-false (takes_settings g) in
        let c : step (Open x) w ≡ after_body x w = choose_second _ _ _ z ∙ choose_second _ _ _ n in
        c ∙ e ∙ ap (λ e. Ok (Open e)) v
      where
        choose_second : (b : Bool) (x y : Result State Code) → b ≡ false → cond b x y ≡ y
        choose_second true x y h = cc
        choose_second false x y h = refl

        chain : (a b f c e : Bool) (x : Result State Code) → a ≡ true → b ≡ true → f ≡ true → c ≡ true → e ≡ true
            → cond a (cond b (cond f (cond c (cond e x (Err code.Many)) (Err code.Number)) (Err code.Block))
            (Err code.Length)) (Err code.Sign) ≡ x
        chain true true true true true x a b f c e = refl
        chain true true true true false x a b f c e = cc
        chain true true true false z x a b f c e = cc
        chain true true false y z x a b f c e = cc
        chain true false v y z x a b f c e = cc
        chain false u v y z x a b f c e = cc

-- the lines of a document are read to its end
pub spelled_run : (ls : List (List (List ℕ))) (d : Document) → IsSpelled ls d → run_words Start ls ≡ Ok (Closed d)
spelled_run ls d o =
    let f : step Start o.first_line ≡ Ok (Versioned o.version) = ap with_version o.numbered in
    let k : step (Versioned o.version) o.kind_line ≡ Ok (Open (first_draft o.version o.head)) =
    kind_ok o.version o.kind_line o.head o.heading o.elements o.rank o.size in
    let r = settings_run o.version o.head o.settings (o.body ++ end_line ∷ []) o.names o.setting o.set in
    let b = body_run o.setting o.names o.head r.stage [] o.body o.each o.room o.complete in
    ap (λ x. run_words Start x) o.lines
    ∙ ap (λ x. run_words Start (o.first_line ∷ o.kind_line ∷ x)) (append_assoc o.settings o.body (end_line ∷ []))
    ∙ ap (λ x. bind x (λ t. run_words t (o.kind_line ∷ o.settings ++ (o.body ++ end_line ∷ [])))) f
    ∙ ap (λ x. bind x (λ t. run_words t (o.settings ++ (o.body ++ end_line ∷ [])))) k
    ∙ r.run ∙ b ∙ ap (λ x. Ok (Closed x)) (sym o.value)

-- ---- the end line stands last

-- the version line isn't the end line
pub first_not_end : (f : List (List ℕ)) (v : Version) → version_of f ≡ Some v → is_line f end_line ≡ false
first_not_end f v h = elim (cases_Bool (is_line f end_line)) [
  | inl e ↦ let q : f ≡ end_line = (is_line-Decides f end_line).0 e in
      let n : ◌≡◌ {A = Option Version} None (Some v) = ap version_of (sym q) ∙ h in cc
  | inr n ↦ n
]

-- nor is the kind line
kind_not_end : (k : List (List ℕ)) (d : Document) → heading k ≡ Some d → is_line k end_line ≡ false
kind_not_end k d h = elim (cases_Bool (is_line k end_line)) [
  | inl e ↦ let q : k ≡ end_line = (is_line-Decides k end_line).0 e in
      let n : ◌≡◌ {A = Option Document} None (Some d) = ap heading (sym q) ∙ h in cc
  | inr n ↦ n
]

front_no_end : (f k : List (List ℕ)) (v : Version) (d : Document) (ss ls : List (List (List ℕ)))
    (p : List (List ℕ) × Setting) → version_of f ≡ Some v → heading k ≡ Some d → settings_in v d ss ≡ Some p
    → list_all (is_body_line d) ls ≡ true → list_any (λ l. is_line l end_line) (f ∷ k ∷ ss ++ ls) ≡ false
front_no_end f k v d ss ls p n h s b =
    let a : list_any (λ l. is_line l end_line) (ss ++ ls) ≡ false = list_any-append (λ l. is_line l end_line) ss ls
    ∙ rw (settings_not_end ss (settings_begin v d ss p s), no_end d ls b) refl in
    rw (first_not_end f v n, kind_not_end k d h, a) refl

-- the lines of a document that is still open have no end line
pub open_no_end : (ls : List (List (List ℕ))) (d : Draft) → IsOpen ls d → list_any (λ l. is_line l end_line) ls ≡ false
open_no_end ls d o = ap (list_any (λ l. is_line l end_line)) o.lines
    ∙ front_no_end o.first_line o.kind_line o.version o.head o.settings o.body (o.names, o.setting) o.numbered o.heading
    o.set o.each

-- the lines of a document have one end line, the last one
pub spelled_no_end : (ls : List (List (List ℕ))) (d : Document) → IsSpelled ls d → (front : List (List (List ℕ)))
    × (ls ≡ front ++ end_line ∷ []) × (list_any (λ l. is_line l end_line) front ≡ false)
spelled_no_end ls d o =
    let front = o.first_line ∷ o.kind_line ∷ o.settings ++ o.body in (
      front,
      o.lines,
      front_no_end o.first_line o.kind_line o.version o.head o.settings o.body (o.names, o.setting) o.numbered o.heading
          o.set o.each,
    )
