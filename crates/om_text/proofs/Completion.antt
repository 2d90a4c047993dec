-- From each state some lines complete a document.
--
-- Main definitions: IsCompletion
-- Main results: body_completion, completion
use Rattle.std.proofs.Math.Bool.{and-false}
use Rattle.std.proofs.Common.{◌≡◌, ℕ, zero, suc, ◌+◌, ◌-◌, ◌<◌, ◌≤◌, List, [], ◌∷◌, ◌++◌, Bool, true, false, cond, ◌&&◌}
use Rattle.std.proofs.Common.{length, refl, ap, ◌∙◌, arith, length-append, append-nil, eq-eqb}
use Rattle.std.specs.Prelude.{ℤ, Result, Ok, Err, codes, filter}
use Rattle.std.specs.List.{list_all, concat}
use Rattle.std.proofs.lemmas.Bool.{leb-true, le-leb}
use Rattle.std.proofs.lemmas.List.{length-map}
use Rattle.om_signs.specs.declared.sign.Sign.TheVariants.{Plus}
use Rattle.om_subsets.specs.Subsets.{choose}
use Rattle.om_document.specs.declared.document.Document.{Document}
use Rattle.om_signs.specs.declared.raw_map.RawMap.{RawMap}
use Rattle.om_document.specs.declared.body.Body.{Body}
use Rattle.om_document.specs.declared.body.Body.TheVariants.{Chirotope, Points}
use Rattle.om_document.specs.declared.code.Code.{Code}
use Rattle.om_document.specs.declared.code.Code.TheVariants as code
use Rattle.om_text.specs.declared.state.State.{State}
use Rattle.om_text.specs.declared.state.State.TheVariants.{Start, Versioned, Open, Closed}
use Rattle.om_lines.specs.Lines.{words, wordful, has_any, uncommented, pieces, with_first, is_line, end_line}
use Rattle.om_lines.specs.Words.{is_sign, sign_of_byte}
use Rattle.om_text.specs.declared.draft.Draft.{Draft}
use Rattle.om_text.specs.declared.stage.Stage.{Stage}
use Rattle.om_text.specs.declared.stage.Stage.TheVariants.{Body as InBody}
use Rattle.om_document.specs.declared.setting.Setting.{Setting}
use Rattle.om_document.specs.declared.version.Version.{Version}
use Rattle.om_document.specs.declared.version.Version.TheVariants.{One, Two}
use Rattle.om_document.specs.Settings.{begins_as_setting}
use Rattle.om_document.specs.Document.{are_signs, signs_of_line, size_of, room_of, has_room, is_complete_body}
use Rattle.om_document.specs.Points.{point_on}
use Rattle.om_text.specs.Reading.{step, takes_settings, finished_draft, added}
use Rattle.om_document.proofs.Feeds.{is_one_line}
use Rattle.om_text.proofs.Filling.{signs_not_end}
use Rattle.om_text.proofs.SettingSteps.{Shows}
use Rattle.om_text.proofs.Course.{run_words}
use Rattle.om_text.proofs.Language.{bind}

-- ---- maps

-- a line of k signs
pluses : ℕ → List ℕ
pluses zero = []
pluses (suc k) = 43 ∷ pluses k

uncommented_pluses : (k : ℕ) → uncommented (pluses k) ≡ pluses k
unfolding pluses
uncommented_pluses zero = refl
uncommented_pluses (suc k) = ap (λ r. 43 ∷ r) (uncommented_pluses k)

pieces_pluses : (k : ℕ) → pieces (pluses k) ≡ pluses k ∷ []
unfolding pluses
pieces_pluses zero = refl
pieces_pluses (suc k) = ap (with_first 43) (pieces_pluses k)

words_pluses : (k : ℕ) → words (pluses (suc k)) ≡ pluses (suc k) ∷ []
unfolding pluses
words_pluses k = ap (λ r. filter has_any (pieces r)) (uncommented_pluses (suc k))
    ∙ ap (filter has_any) (pieces_pluses (suc k)) ∙ kept
  where
    kept : filter has_any (pluses (suc k) ∷ []) ≡ pluses (suc k) ∷ []
    kept = refl

signs_pluses : (k : ℕ) → list_all is_sign (pluses k) ≡ true
unfolding pluses
signs_pluses zero = refl
signs_pluses (suc k) = signs_pluses k

one_line_pluses : (k : ℕ) → is_one_line (pluses k) ≡ true
unfolding pluses
one_line_pluses zero = refl
one_line_pluses (suc k) = one_line_pluses k

pluses_not_setting : (k : ℕ) → begins_as_setting (pluses (suc k) ∷ []) ≡ false
unfolding pluses
pluses_not_setting k = refl

length-pluses : (k : ℕ) → length (pluses k) ≡ k
unfolding pluses
length-pluses zero = refl
length-pluses (suc k) = ap suc (length-pluses k)

-- the lines that complete a document
pub record IsCompletion (s : State) (more : List (List ℕ)) : Type 0 where
  pub document : Document
  pub run : run_words s (wordful more) ≡ Ok (Closed document)
  pub one_line : list_all is_one_line more ≡ true

-- a draft with this body and these names
abbrev drawn : ℕ → List (List ℕ) → Setting → Body → Stage → Draft
drawn n names s b g = record { document = record { elements = n; body = b; names = names }; setting = s; stage = g }

-- a draft with this body is complete at its end line
ends_at : (n : ℕ) (names : List (List ℕ)) (s : Setting) (b : Body) (g : Stage) → is_complete_body b n ≡ true
    → run_words (Open (drawn n names s b g)) (end_line ∷ []) ≡ Ok (Closed (finished_draft (drawn n names s b g)))
ends_at n names s b g e = rw (and-false (takes_settings g), e) refl

ended : (n : ℕ) (names : List (List ℕ)) (s : Setting) (b : Body) (g : Stage) → is_complete_body b n ≡ true
    → IsCompletion (Open (drawn n names s b g)) (codes "end" ∷ [])
ended n names s b g e =
    record { document = finished_draft (drawn n names s b g); run = ends_at n names s b g e; one_line = refl }

added_pluses : (n : ℕ) (names : List (List ℕ)) (s : Setting) (g : Stage) (k : ℕ) (m : RawMap)
    → length m.signs + suc k ≡ choose m.elements m.rank → (e : Document)
    × (run_words (Open (drawn n names s (Chirotope m) g)) ((pluses (suc k) ∷ []) ∷ end_line ∷ []) ≡ Ok (Closed e))
added_pluses n names s g k m h =
    let w : List (List ℕ) = pluses (suc k) ∷ [] in
    let d : Draft = drawn n names s (Chirotope m) g in
    let t : are_signs w ≡ true = rw (append-nil (pluses (suc k))) (signs_pluses (suc k)) in
    let l : length (m.signs ++ signs_of_line w) ≡ choose m.elements m.rank = length-append m.signs (signs_of_line w)
    ∙ ap (λ r. length m.signs + r) (length-map (concat w) sign_of_byte ∙ ap length (append-nil (pluses (suc k)))
    ∙ length-pluses (suc k)) ∙ h in
    let r : has_room (added d w).document ≡ true = le-leb _ _ (omega arith) in
    let o : step (Open d) w ≡ Ok (Open (added d w)) =
    one (takes_settings g) (begins_as_setting w) (is_line w end_line) (are_signs w)
    (has_room (added d w).document) _ _ _ (pluses_not_setting k) (signs_not_end w t) t r in
    let f = ends_at n names s
    (Chirotope (record { rank = m.rank; elements = m.elements; signs = m.signs ++ signs_of_line w })) InBody
    (eq-eqb (length (m.signs ++ signs_of_line w)) (choose m.elements m.rank) l) in
    (finished_draft (added d w), ap (λ x. bind x (λ t. run_words t (end_line ∷ []))) o ∙ f)
  where
    one : (t u a b c : Bool) (x y z : Result State Code) → u ≡ false → a ≡ false → b ≡ true → c ≡ true
        → cond (t && u) z (cond a y (cond b (cond c x (Err code.Many)) (Err code.Sign))) ≡ x
    one true false false true true x y z u a b c = refl
    one false false false true true x y z u a b c = refl
    one t true a b c x y z v h g k = cc
    one t false true b c x y z v h g k = cc
    one t false false false c x y z v h g k = cc
    one t false false true false x y z v h g k = cc

-- ---- points

-- the line of a point
zeros : List ℕ
zeros = codes "0 0 0"

zero_words : List (List ℕ)
zero_words = codes "0" ∷ codes "0" ∷ codes "0" ∷ []

one_point : (n : ℕ) (names : List (List ℕ)) (s : Setting) (g : Stage) (ps : List (List ℤ)) → length ps < n
    → step (Open (drawn n names s (Points ps) g)) zero_words
    ≡ Ok (Open (drawn n names s (Points (ps ++ point_on zero_words ∷ [])) InBody))
unfolding zero_words
one_point n names s g ps h =
    rw (
      and-false (takes_settings g),
      le-leb (length (ps ++ point_on zero_words ∷ [])) n (omega (arith, length-append ps (point_on zero_words ∷ []))),
    )
    refl

points_completion : (k n : ℕ) (names : List (List ℕ)) (s : Setting) (g : Stage) (ps : List (List ℤ)) → length ps + k ≡ n
    → (more : List (List ℕ)) × IsCompletion (Open (drawn n names s (Points ps) g)) more
unfolding zeros zero_words
points_completion zero n names s g ps e =
    (codes "end" ∷ [], ended n names s (Points ps) g (eq-eqb (length ps) n (omega arith)))
points_completion (suc k) n names s g ps e =
    let o = one_point n names s g ps (omega arith) in
    let i = points_completion k n names s InBody (ps ++ point_on zero_words ∷ [])
    (omega (arith, length-append ps (point_on zero_words ∷ []))) in (
      zeros ∷ i.0,
      record {
        document = i.1.document;
        run = ap (λ x. bind x (λ t. run_words t (wordful i.0))) o ∙ i.1.run;
        one_line = i.1.one_line;
      },
    )

-- ---- any state

pub body_completion : (n : ℕ) (names : List (List ℕ)) (s : Setting) (b : Body) (g : Stage) → size_of b ≤ room_of b n
    → (more : List (List ℕ)) × IsCompletion (Open (drawn n names s b g)) more
body_completion n names s (Chirotope m) g h = short (choose m.elements m.rank - length m.signs) (omega arith)
  where
    short : (k : ℕ) → length m.signs + k ≡ choose m.elements m.rank → (more : List (List ℕ))
        × IsCompletion (Open (drawn n names s (Chirotope m) g)) more
    short zero e = (
      codes "end" ∷ [],
      ended n names s (Chirotope m) g (eq-eqb (length m.signs) (choose m.elements m.rank) (omega arith)),
    )
    short (suc k) e = let a = added_pluses n names s g k m e in (
      pluses (suc k) ∷ codes "end" ∷ [],
      record { document = a.0; run = rw (words_pluses k) a.1; one_line = rw (one_line_pluses (suc k)) refl },
    )
body_completion n names s (Points ps) g h = points_completion (n - length ps) n names s g ps (omega arith)
body_completion n names s b g h = (codes "end" ∷ [], ended n names s b g refl)

-- the least document
abbrev least : Document
least = record { elements = 1; body = Chirotope (record { rank = 0; elements = 1; signs = Plus ∷ [] }); names = [] }

abbrev least_lines : List (List ℕ)
least_lines = codes "chirotope 0 1" ∷ codes "+" ∷ codes "end" ∷ []

versioned_completion : (v : Version) → IsCompletion (Versioned v) least_lines
versioned_completion One = record { document = least; run = refl; one_line = refl }
versioned_completion Two = record { document = least; run = refl; one_line = refl }

pub completion : (s : State) (ws : List (List (List ℕ))) → Shows s ws → (more : List (List ℕ)) × IsCompletion s more
completion Start ws o = (codes "om 1" ∷ least_lines, record { document = least; run = refl; one_line = refl })
completion (Versioned v) ws o = (least_lines, versioned_completion v)
completion (Open d) ws o = body_completion d.document.elements d.document.names d.setting d.document.body d.stage
    (leb-true _ _ (ap (λ e. has_room e.document) o.value ∙ o.room))
completion (Closed d) ws o = ([], record { document = d; run = refl; one_line = refl })
