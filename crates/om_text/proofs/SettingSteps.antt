-- What a state of the reader stands for, and its step at a setting line.
--
-- Main definitions: IsStage, IsOpen, IsFirst, Shows
-- Main results: cond_ok, cond_err
use Rattle.std.proofs.Common.{◌≡◌, ℕ, List, [], ◌∷◌, ◌++◌, Bool, true, false, cond, ◌&&◌, ◌⊎◌, inl, inr, refl, sym, ap}
use Rattle.std.proofs.Common.{subst, ◌∙◌, append-nil}
use Rattle.std.specs.Prelude.{Option, Some, None, Result, Ok, Err, option_map}
use Rattle.std.specs.List.{list_all}
use Rattle.std.proofs.lemmas.Bool.{cases_Bool, and_parts}
use Rattle.om_document.specs.declared.document.Document.{Document}
use Rattle.om_document.specs.declared.code.Code.{Code}
use Rattle.om_document.specs.declared.code.Code.TheVariants as code
use Rattle.om_text.specs.declared.state.State.{State}
use Rattle.om_text.specs.declared.state.State.TheVariants.{Start, Versioned, Open, Closed}
use Rattle.om_text.specs.declared.draft.Draft.{Draft}
use Rattle.om_text.specs.declared.stage.Stage.{Stage}
use Rattle.om_text.specs.declared.stage.Stage.TheVariants.{Names, Choice, Full, Body as InBody}
use Rattle.om_document.specs.declared.setting.Setting.{Setting}
use Rattle.om_document.specs.declared.setting.Setting.TheVariants.{Plain}
use Rattle.om_document.specs.declared.version.Version.{Version}
use Rattle.om_document.specs.declared.version.Version.TheVariants.{One, Two}
use Rattle.om_lines.specs.Lines.{has_any}
use Rattle.om_document.specs.Settings.{version_of, begins_as_setting, other_words, is_names_line, setting_in}
use Rattle.om_document.specs.Settings.{settings_of, settings_in}
use Rattle.om_document.specs.Document.{IsSpelled, is_body_line, filled_body, filled, has_room}
use Rattle.om_document.specs.Heading.{has_elements, has_rank, has_size, heading}
use Rattle.om_text.specs.Reading.{draft_of, takes_settings, with_setting, after_setting}
use Rattle.om_text.proofs.Filling.{empty_filled}
use Rattle.om_text.proofs.SettingLines.{setting_same}

-- which setting lines may come, after the setting lines ss and the body's lines ls of a document in version v that a
-- kind line opens as d
abbrev pub IsStage : Version → Document → List (List (List ℕ)) → List (List (List ℕ)) → Stage → Type 0
IsStage v d ss ls Names = (v ≡ Two) × (ls ≡ []) × (ss ≡ [])
IsStage v d ss ls Choice = (v ≡ Two) × (ls ≡ [])
    × ((w : List (List ℕ)) × (ss ≡ w ∷ []) × (is_names_line d.elements w ≡ true))
IsStage v d ss ls Full = (v ≡ Two) × (ls ≡ []) × ((w : List (List ℕ)) → settings_of d (ss ++ w ∷ []) ≡ None)
IsStage v d ss ls InBody = (v ≡ One) ⊎ (has_any ls ≡ true)

-- the lines so far are a document's up to a place before its end line
pub record IsOpen (ls : List (List (List ℕ))) (d : Draft) : Type 0 where
  pub first_line : List (List ℕ)
  pub version : Version
  pub kind_line : List (List ℕ)
  pub head : Document
  pub settings : List (List (List ℕ))
  pub names : List (List ℕ)
  pub setting : Setting
  pub body : List (List (List ℕ))
  pub lines : ls ≡ first_line ∷ kind_line ∷ settings ++ body
  pub numbered : version_of first_line ≡ Some version
  pub heading : heading kind_line ≡ Some head
  pub elements : has_elements head ≡ true
  pub rank : has_rank head ≡ true
  pub size : has_size head ≡ true
  pub set : settings_in version head settings ≡ Some (names, setting)
  pub each : list_all (is_body_line head) body ≡ true
  pub room : has_room (filled setting head body) ≡ true
  pub stage : IsStage version head settings body d.stage
  pub value : d ≡ draft_of names setting (filled setting head body) d.stage

-- a version line
abbrev pub IsFirst : Version → List (List (List ℕ)) → Type 0
IsFirst v ls = (w : List (List ℕ)) × (ls ≡ w ∷ []) × (version_of w ≡ Some v)

-- the state stands for the lines with words so far
abbrev pub Shows : State → List (List (List ℕ)) → Type 0
Shows Start ls = ls ≡ []
Shows (Versioned v) ls = IsFirst v ls
Shows (Open d) ls = IsOpen ls d
Shows (Closed d) ls = IsSpelled ls d

pub cond_ok : (b : Bool) (r : Result State Code) (c : Code) (t : State) → cond b r (Err c) ≡ Ok t → (b ≡ true)
    × (r ≡ Ok t)
cond_ok true r c t h = (refl, h)
cond_ok false r c t h = cc

pub cond_err : (b : Bool) (r : Result State Code) (c : Code) (t : State) → cond b (Err c) r ≡ Ok t → (b ≡ false)
    × (r ≡ Ok t)
cond_err true r c t h = cc
cond_err false r c t h = (refl, h)

-- ---- setting lines

-- what a line that begins as a setting line does makes of a draft, where one may come after the setting lines ss of a
-- document in version 2 that a kind line opens as d
pub data IsSet (d : Document) (ss : List (List (List ℕ))) (w : List (List ℕ)) (r : Result State Code) : Type 0 where
  refused : r ≡ Err code.Setting → settings_of d (ss ++ w ∷ []) ≡ None → IsSet d ss w r
  accepted : (names : List (List ℕ)) (s : Setting) (g : Stage) → r ≡ Ok (Open (draft_of names s (filled s d []) g))
      → settings_of d (ss ++ w ∷ []) ≡ Some (names, s) → IsStage Two d (ss ++ w ∷ []) [] g → IsSet d ss w r

chosen : (d : Document) (ss : List (List (List ℕ))) (w : List (List ℕ)) (names : List (List ℕ)) (g : Stage)
    (o : Option Setting) → setting_in d.body w ≡ o → settings_of d (ss ++ w ∷ []) ≡ option_map (λ s. (names, s)) o
    → ((v : List (List ℕ)) → settings_of d ((ss ++ w ∷ []) ++ v ∷ []) ≡ None)
    → IsSet d ss w
    (with_setting (draft_of names Plain (filled Plain d []) g) (setting_in (filled_body Plain d.body []) w))
chosen d ss w names g None i h m =
    refused (ap (with_setting (draft_of names Plain (filled Plain d []) g)) (setting_same Plain d.body [] w ∙ i)) h
chosen d ss w names g (Some s) i h m =
    accepted names s Full
    (ap (with_setting (draft_of names Plain (filled Plain d []) g)) (setting_same Plain d.body [] w ∙ i)
    ∙ ap (λ b. Ok
    (Open (record {
      document = record { elements = d.elements; body = b; names = names };
      setting = s;
      stage =
          Full;
    }))) (empty_filled Plain s d.body))
    h (refl, refl, m)

pub some_pair : (a x : List (List ℕ)) (b y : Setting)
    → ◌≡◌ {A = Option (List (List ℕ) × Setting)} (Some (a, b)) (Some (x, y)) → (a ≡ x) × (b ≡ y)
some_pair a x b y h = let e : ◌≡◌ {A = List (List ℕ) × Setting} (a, b) (x, y) = cc in (ap (λ p. p.0) e, ap (λ p. p.1) e)

pub setting_step : (d : Document) (ss : List (List (List ℕ))) (w : List (List ℕ)) (names : List (List ℕ)) (s : Setting)
    (g : Stage) → settings_of d ss ≡ Some (names, s) → IsStage Two d ss [] g → takes_settings g ≡ true
    → IsSet d ss w (after_setting g (draft_of names s (filled s d []) g) w)
setting_step d ss w names s Names h i y =
    let q : ss ≡ [] = i.2 in
    let p = some_pair [] names Plain s (sym (ap (settings_of d) q) ∙ h) in
    subst (λ s. IsSet d ss w (after_setting Names (draft_of names s (filled s d []) Names) w)) p.1
    (subst (λ names. IsSet d ss w (after_setting Names (draft_of names Plain (filled Plain d []) Names) w)) p.0
    (subst (λ ss. IsSet d ss w (after_setting Names (draft_of [] Plain (filled Plain d []) Names) w)) (sym q) first))
  where
    first : IsSet d [] w (after_setting Names (draft_of [] Plain (filled Plain d []) Names) w)
    first = elim (cases_Bool (is_names_line d.elements w)) [
      | inl e ↦ accepted (other_words w) Plain Choice (rw e refl) (rw e refl) (refl, refl, (w, refl, e))
      | inr n ↦ rw n (chosen d [] w [] Names (setting_in d.body w) refl (rw n refl) (λ v. rw n refl))
    ]
setting_step d ss w names s Choice h i y =
    let v = i.2.0 in
    let q : ss ≡ v ∷ [] = i.2.1 in
    let e : is_names_line d.elements v ≡ true = i.2.2 in
    let a : settings_of d (v ∷ []) ≡ Some (other_words v, Plain) = rw e refl in
    let p = some_pair (other_words v) names Plain s (sym a ∙ sym (ap (settings_of d) q) ∙ h) in
    subst (λ s. IsSet d ss w (after_setting Choice (draft_of names s (filled s d []) Choice) w)) p.1
    (subst (λ names. IsSet d ss w (after_setting Choice (draft_of names Plain (filled Plain d []) Choice) w)) p.0
    (subst (λ ss. IsSet d ss w (after_setting Choice (draft_of (other_words v) Plain (filled Plain d []) Choice) w))
    (sym q)
    (chosen d (v ∷ []) w (other_words v) Choice (setting_in d.body w) refl (rw e refl) (λ u. rw e refl))))
setting_step d ss w names s Full h i y = refused refl (i.2 w)
setting_step d ss w names s InBody h i y = cc

-- a draft that takes setting lines has no body line, and is in version 2
taking : (v : Version) (d : Document) (ss ls : List (List (List ℕ))) (g : Stage) → IsStage v d ss ls g
    → takes_settings g ≡ true → (v ≡ Two) × (ls ≡ [])
taking v d ss ls Names i y = (i.0, i.1)
taking v d ss ls Choice i y = (i.0, i.1)
taking v d ss ls Full i y = (i.0, i.1)
taking v d ss ls InBody i y = cc

-- an open draft before a line that begins as a setting line does, where one may come
pub record IsBefore (ls : List (List (List ℕ))) (d : Draft) (w : List (List ℕ)) : Type 0 where
  pub draft : IsOpen ls d
  pub lines : ls ≡ draft.first_line ∷ draft.kind_line ∷ draft.settings
  pub version : version_of draft.first_line ≡ Some Two
  pub set : settings_of draft.head draft.settings ≡ Some (draft.names, draft.setting)
  pub begins : begins_as_setting w ≡ true
  pub step : IsSet draft.head draft.settings w (after_setting d.stage d w)

pub before : (ls : List (List (List ℕ))) (d : Draft) (w : List (List ℕ)) → IsOpen ls d
    → (takes_settings d.stage && begins_as_setting w) ≡ true → IsBefore ls d w
before ls d w o h =
    let b = and_parts (takes_settings d.stage) (begins_as_setting w) h in
    let k = taking o.version o.head o.settings o.body d.stage o.stage b.0 in
    let set : settings_of o.head o.settings ≡ Some (o.names, o.setting) =
    subst (λ v. settings_in v o.head o.settings ≡ Some (o.names, o.setting)) k.0 o.set in
    let i : IsStage Two o.head o.settings [] d.stage =
    subst (λ v. IsStage v o.head o.settings [] d.stage) k.0
    (subst (λ ls. IsStage o.version o.head o.settings ls d.stage) k.1 o.stage) in
    let e : d ≡ draft_of o.names o.setting (filled o.setting o.head []) d.stage = o.value
    ∙ ap (λ ls. draft_of o.names o.setting (filled o.setting o.head ls) d.stage) k.1 in
    record {
      draft = o;
      lines = o.lines ∙ ap (λ x. o.first_line ∷ o.kind_line ∷ o.settings ++ x) k.1
          ∙ ap (λ x. o.first_line ∷ o.kind_line ∷ x) (append-nil o.settings);
      version = o.numbered ∙ ap Some k.0;
      set = set;
      begins = b.1;
      step = subst (λ x. IsSet o.head o.settings w (after_setting d.stage x w)) (sym e)
          (setting_step o.head o.settings w o.names o.setting d.stage set i b.0);
    }
