-- What a line of a body makes of a draft, from what it makes of the body.
--
-- Main results: open_line, open_refused
use Rattle.std.proofs.Common.{◌≡◌, ℕ, List, ap, ◌∙◌}
use Rattle.std.specs.Prelude.{Result, Ok, Err}
use Rattle.std.specs.Result.{result_map_both}
use Rattle.om_text.specs.declared.draft.Draft.{Draft}
use Rattle.om_text.specs.declared.stage.Stage.TheVariants.{Body as InBody}
use Rattle.om_document.specs.declared.body.Body.{Body}
use Rattle.om_document.specs.declared.code.Code.{Code}
use Rattle.om_text.specs.declared.refusal.Refusal.{Refusal}
use Rattle.om_text.specs.declared.refusal.Refusal.TheVariants as refusal
use Rattle.om_text.specs.declared.state.State.{State}
use Rattle.om_text.specs.declared.state.State.TheVariants.{Open}
use Rattle.om_text.specs.Reading.{after_body, added_body, line_tests}
use Rattle.om_text.specs.ReaderParts.{IsStepUnlessMemory, body_with_line}
use Rattle.om_text.proofs.PassedTests.{if_passed_map}

-- a draft with this body
abbrev pub with_body : Draft → Body → Draft
with_body d b =
    record {
      document = record { elements = d.document.elements; body = b; names = d.document.names };
      setting =
          d.setting;
      stage = InBody;
    }

-- the state that a draft goes to with the body that was made, or the code with which it was refused
abbrev opened : Draft → Result Body Code → Result State Code
opened d = result_map_both (λ b. Open (with_body d b)) (λ c. c)

-- the draft reads a line as its body does
after_body_reads : (d : Draft) (w : List (List ℕ))
    → after_body d w ≡ opened d (body_with_line d.setting d.document.elements d.document.body w)
after_body_reads d w = if_passed_map (λ b. Open (with_body d b))
    (line_tests d.setting d.document.elements d.document.body w) (added_body d.setting d.document.body w)

-- the draft goes on with the body that the line makes
pub open_line : (d : Draft) (w : List (List ℕ)) (b : Body)
    → body_with_line d.setting d.document.elements d.document.body w ≡ Ok b
    → after_body d w ≡ Ok (Open (with_body d b))
open_line d w b h = after_body_reads d w ∙ ap (opened d) h

-- a line that the body refuses is refused
pub open_refused : (d : Draft) (w : List (List ℕ)) (r : Refusal)
    → IsStepUnlessMemory {A = Body} (Err r) (body_with_line d.setting d.document.elements d.document.body w)
    → IsStepUnlessMemory {A = State} (Err r) (after_body d w)
open_refused d w refusal.Memory h = tt
open_refused d w (refusal.Line c) h =
    after_body_reads d w ∙ ap (opened d) h
