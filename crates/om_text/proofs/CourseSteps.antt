-- A step of the reader goes on to a state that stands for one line more.
--
-- Main definitions: IsTaken, IsOpened
-- Main results: taken, heading_ok, step_shows
use Rattle.std.proofs.Common.{◌≡◌, ℕ, List, [], ◌∷◌, ◌++◌, Bool, true, false, cond, ◌&&◌, inl, inr, refl, sym, ap}
use Rattle.std.proofs.Common.{subst, ◌∙◌, append_assoc, append-nil}
use Rattle.std.specs.Prelude.{Option, Some, None, Ok, Err, is_none}
use Rattle.std.specs.List.{list_all}
use Rattle.std.proofs.lemmas.Bool.{cases_Bool, and_parts}
use Rattle.om_signs.proofs.Results.{ok-injective}
use Rattle.om_document.specs.declared.document.Document.{Document}
use Rattle.om_document.specs.declared.code.Code.TheVariants as code
use Rattle.om_text.specs.declared.state.State.{State}
use Rattle.om_text.specs.declared.state.State.TheVariants.{Start, Versioned, Open, Closed}
use Rattle.om_text.specs.declared.draft.Draft.{Draft}
use Rattle.om_text.specs.declared.stage.Stage.TheVariants.{Body as InBody}
use Rattle.om_document.specs.declared.setting.Setting.TheVariants.{Plain}
use Rattle.om_document.specs.declared.version.Version.{Version}
use Rattle.om_document.specs.declared.version.Version.TheVariants.{One, Two}
use Rattle.om_lines.specs.Lines.{has_any, is_line, end_line, first_word}
use Rattle.om_document.specs.Settings.{version_of, begins_as_setting, settings_in}
use Rattle.om_document.specs.Document.{IsSpelled, is_body_line, has_signs, has_length, has_blocks, has_numbers, filled}
use Rattle.om_document.specs.Document.{has_room, is_complete}
use Rattle.om_document.specs.Heading.{kind_of, heading, has_elements, has_rank, has_size, rank_of_body, values_of_body}
use Rattle.om_text.specs.Reading.{step, with_version, after_kind, first_stage, draft_of, first_draft}
use Rattle.om_text.specs.Reading.{with_heading, takes_settings, after_setting, after_body, finished_draft, after_end}
use Rattle.om_text.specs.Reading.{added}
use Rattle.om_lines.proofs.WordLines.{is_line-Decides}
use Rattle.om_text.proofs.Filling.{has_signs_filled, has_length_filled, has_blocks_filled, has_numbers_filled}
use Rattle.om_text.proofs.Filling.{filled_added, room_empty}
use Rattle.om_text.proofs.SettingSteps.{IsStage, IsOpen, Shows, cond_ok, cond_err, IsSet, refused, accepted, IsBefore}
use Rattle.om_text.proofs.SettingSteps.{before}

-- ---- a step goes on

-- what a line that a body takes meets
pub record IsTaken (d : Draft) (w : List (List ℕ)) (t : State) : Type 0 where
  pub signs : has_signs d.document w ≡ true
  pub length : has_length d.document w ≡ true
  pub blocks : has_blocks d.document w ≡ true
  pub numbers : has_numbers d.document w ≡ true
  pub room : has_room (added d w).document ≡ true
  pub state : Open (added d w) ≡ t

pub taken : (d : Draft) (w : List (List ℕ)) (t : State) → after_body d w ≡ Ok t → IsTaken d w t
taken d w t h =
    let p = at (has_signs d.document w) (has_length d.document w) (has_blocks d.document w) (has_numbers d.document w)
    (has_room (added d w).document) (Open (added d w)) t h in
    record { signs = p.0; length = p.1; blocks = p.2; numbers = p.3; room = p.4; state = p.5 }
  where
    at : (a b f c e : Bool) (x t : State)
        → cond a (cond b (cond f (cond c (cond e (Ok x) (Err code.Many)) (Err code.Number)) (Err code.Block))
        (Err code.Length)) (Err code.Sign) ≡ Ok t → (a ≡ true) × (b ≡ true) × (f ≡ true) × (c ≡ true) × (e ≡ true)
        × (x ≡ t)
    at true true true true true x t h = (refl, refl, refl, refl, refl, ok-injective x t h)
    at true true true true false x t h = cc
    at true true true false e x t h = cc
    at true true false c e x t h = cc
    at true false f c e x t h = cc
    at false b f c e x t h = cc

list_all-append : (p : List (List ℕ) → Bool) (xs : List (List (List ℕ))) (y : List (List ℕ)) → list_all p xs ≡ true
    → p y ≡ true → list_all p (xs ++ y ∷ []) ≡ true
list_all-append p [] y h e = rw e refl
list_all-append p (x ∷ xs) y h e =
    let b = and_parts (p x) (list_all p xs) h in
    rw (b.0, list_all-append p xs y b.1 e) refl

pub any_last : (xs : List (List (List ℕ))) (y : List (List ℕ)) → has_any (xs ++ y ∷ []) ≡ true
any_last [] y = refl
any_last (x ∷ xs) y = refl

first_stage_is : (v : Version) (d : Document) → IsStage v d [] [] (first_stage v)
first_stage_is One d = inl refl
first_stage_is Two d = (refl, refl, refl)

pub no_settings : (v : Version) (d : Document) → settings_in v d [] ≡ Some ([], Plain)
no_settings One d = refl
no_settings Two d = refl

-- what a heading meets that opens a draft
pub record IsOpened (v : Version) (d : Document) (t : State) : Type 0 where
  pub elements : has_elements d ≡ true
  pub rank : has_rank d ≡ true
  pub size : has_size d ≡ true
  pub state : Open (first_draft v d) ≡ t

pub heading_ok : (v : Version) (d : Document) (t : State) → with_heading v (Some d) ≡ Ok t → IsOpened v d t
heading_ok v d t h =
    let a = cond_ok (has_elements d) _
    (code.Elements d.elements) t h in
    let b = cond_ok (has_rank d) _ (code.Rank (rank_of_body d.body)) t a.1 in
    let c = cond_ok (has_size d) (Ok (Open (first_draft v d))) (code.Size (values_of_body d.body)) t b.1 in
    record { elements = a.0; rank = b.0; size = c.0; state = ok-injective _ _ c.1 }

heading_shows : (f : List (List ℕ)) (v : Version) (o : Option Document) (w : List (List ℕ)) (t : State)
    → version_of f ≡ Some v → heading w ≡ o → with_heading v o ≡ Ok t → Shows t (f ∷ w ∷ [])
heading_shows f v None w t n e h = cc
heading_shows f v (Some d) w t n e h =
    let a = heading_ok v d t h in
    let o : IsOpen (f ∷ w ∷ []) (first_draft v d) = record {
      first_line = f;
      version = v;
      kind_line = w;
      head = d;
      settings = [];
      names = [];
      setting = Plain;
      body = [];
      lines = refl;
      numbered = n;
      heading = e;
      elements = a.elements;
      rank = a.rank;
      size = a.size;
      set = no_settings v d;
      each = refl;
      room = room_empty Plain d;
      stage = first_stage_is v d;
      value = refl;
    } in
    subst (λ s. Shows s (f ∷ w ∷ [])) a.state o

kind_shows : (f : List (List ℕ)) (v : Version) (w : List (List ℕ)) (t : State) → version_of f ≡ Some v
    → after_kind v w ≡ Ok t → Shows t (f ∷ w ∷ [])
kind_shows f v w t n h =
    let b = cond_err (is_none (kind_of (first_word w))) (with_heading v (heading w)) code.Kind t h in
    heading_shows f v (heading w) w t n refl b.1

setting_shows : (ls : List (List (List ℕ))) (d : Draft) (w : List (List ℕ)) (t : State) → IsBefore ls d w
    → after_setting d.stage d w ≡ Ok t → Shows t (ls ++ w ∷ [])
setting_shows ls d w t b h = at b.step
  where
    at : IsSet b.draft.head b.draft.settings w (after_setting d.stage d w) → Shows t (ls ++ w ∷ [])
    at (refused e n) = let z = sym h ∙ e in cc
    at (accepted names s g e m i) =
        let n : IsOpen (ls ++ w ∷ []) (draft_of names s (filled s b.draft.head []) g) = record {
          first_line = b.draft.first_line;
          version = Two;
          kind_line = b.draft.kind_line;
          head = b.draft.head;
          settings = b.draft.settings ++ w ∷ [];
          names = names;
          setting = s;
          body = [];
          lines = ap (λ x. x ++ w ∷ []) b.lines
              ∙ ap (λ x. b.draft.first_line ∷ b.draft.kind_line ∷ x) (sym (append-nil (b.draft.settings ++ w ∷ [])));
          numbered = b.version;
          heading = b.draft.heading;
          elements = b.draft.elements;
          rank = b.draft.rank;
          size = b.draft.size;
          set = m;
          each = refl;
          room = room_empty s b.draft.head;
          stage = i;
          value = refl;
        } in
        subst (λ x. Shows x (ls ++ w ∷ [])) (ok-injective _ _ (sym e ∙ h)) n

body_shows : (ls : List (List (List ℕ))) (d : Draft) (w : List (List ℕ)) (t : State) → IsOpen ls d
    → after_body d w ≡ Ok t → Shows t (ls ++ w ∷ [])
body_shows ls d w t o h =
    let a = taken d w t h in
    let v : added d w ≡ draft_of o.names o.setting (filled o.setting o.head (o.body ++ w ∷ [])) InBody =
    ap (λ e. added e w) o.value
    ∙ ap (λ x. draft_of o.names o.setting (record { elements = o.head.elements; body = x; names = [] }) InBody)
    (filled_added o.setting o.head.body o.body w) in
    let s : has_signs o.head w ≡ true = sym (has_signs_filled o.setting o.head.body o.body w)
    ∙ sym (ap (λ e. has_signs e.document w) o.value) ∙ a.signs in
    let l : has_length o.head w ≡ true = sym (has_length_filled o.setting o.head.body o.body o.head.elements w)
    ∙ sym (ap (λ e. has_length e.document w) o.value) ∙ a.length in
    let k : has_blocks o.head w ≡ true = sym (has_blocks_filled o.setting o.head.body o.body w)
    ∙ sym (ap (λ e. has_blocks e.document w) o.value) ∙ a.blocks in
    let m : has_numbers o.head w ≡ true = sym (has_numbers_filled o.setting o.head.body o.body w)
    ∙ sym (ap (λ e. has_numbers e.document w) o.value) ∙ a.numbers in
    let line : is_body_line o.head w ≡ true = rw (s, l, k, m) refl in
    let n : IsOpen (ls ++ w ∷ []) (added d w) = record {
      first_line = o.first_line;
      version = o.version;
      kind_line = o.kind_line;
      head = o.head;
      settings = o.settings;
      names = o.names;
      setting = o.setting;
      body = o.body ++ w ∷ [];
      lines = ap (λ x. x ++ w ∷ []) o.lines
          ∙ ap (λ x. o.first_line ∷ o.kind_line ∷ x) (append_assoc o.settings o.body (w ∷ []));
      numbered = o.numbered;
      heading = o.heading;
      elements = o.elements;
      rank = o.rank;
      size = o.size;
      set = o.set;
      each = list_all-append (is_body_line o.head) o.body w o.each line;
      room = sym (ap (λ e. has_room e.document) v) ∙ a.room;
      stage = inr (any_last o.body w);
      value = v;
    } in
    subst (λ s. Shows s (ls ++ w ∷ [])) a.state n

end_shows : (ls : List (List (List ℕ))) (d : Draft) (t : State) → IsOpen ls d → after_end d ≡ Ok t
    → Shows t (ls ++ end_line ∷ [])
end_shows ls d t o h =
    let a = cond_ok (is_complete d.document) (Ok (Closed (finished_draft d))) code.Few t h in
    let n : IsSpelled (ls ++ end_line ∷ []) (finished_draft d) = record {
      first_line = o.first_line;
      version = o.version;
      kind_line = o.kind_line;
      head = o.head;
      settings = o.settings;
      names = o.names;
      setting = o.setting;
      body = o.body;
      lines = ap (λ x. x ++ end_line ∷ []) o.lines;
      numbered = o.numbered;
      heading = o.heading;
      elements = o.elements;
      rank = o.rank;
      size = o.size;
      set = o.set;
      each = o.each;
      room = o.room;
      complete = sym (ap (λ e. is_complete e.document) o.value) ∙ a.0;
      value = ap finished_draft o.value;
    } in
    subst (λ s. Shows s (ls ++ end_line ∷ [])) (ok-injective _ _ a.1) n

version_shows : (o : Option Version) (w : List (List ℕ)) (t : State) → version_of w ≡ o → with_version o ≡ Ok t
    → Shows t (w ∷ [])
version_shows None w t e h = cc
version_shows (Some v) w t e h = subst (λ s. Shows s (w ∷ [])) (ok-injective (Versioned v) t h) (w, refl, e)

-- a step goes on to a state that stands for one line more
pub step_shows : (s : State) (ls : List (List (List ℕ))) (w : List (List ℕ)) (t : State) → Shows s ls → step s w ≡ Ok t
    → Shows t (ls ++ w ∷ [])
step_shows Start ls w t o h = subst (λ x. Shows t (x ++ w ∷ [])) (sym o) (version_shows (version_of w) w t refl h)
step_shows (Versioned v) ls w t o h = subst (λ x. Shows t (x ++ w ∷ [])) (sym o.1) (kind_shows o.0 v w t o.2 h)
step_shows (Open d) ls w t o h = elim (cases_Bool (takes_settings d.stage && begins_as_setting w)) [
  | inl y ↦ let a : after_setting d.stage d w ≡ Ok t = rw y at h in setting_shows ls d w t (before ls d w o y) a
  | inr f ↦ let g : cond (is_line w end_line) (after_end d) (after_body d w) ≡ Ok t = rw f at h in
      elim (cases_Bool (is_line w end_line)) [
        | inl e ↦ let q : w ≡ end_line = (is_line-Decides w end_line).0 e in
            let a : after_end d ≡ Ok t = rw e at g in
            subst (λ x. Shows t (ls ++ x ∷ [])) (sym q) (end_shows ls d t o a)
        | inr n ↦ let a : after_body d w ≡ Ok t = rw n at g in body_shows ls d w t o a
      ]
]
step_shows (Closed d) ls w t o h = cc
