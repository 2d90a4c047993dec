use Rattle.std.proofs.Common.{◌<◌, ◌∙◌, [], length, All, Ok, false, refl, sym, ap, subst, get_or, arith}
use Rattle.std.proofs.lemmas.List.{get_or_default}
use Rattle.om_signs.specs.declared.limits.TheConstants.{MAX_LINES}
use Rattle.om_localize.specs.Extensions.{IsSignature}
use Rattle.om_localize.specs.Listings.{AreFirst}
use Rattle.om_localize.proofs.MemoryCause.{memory_is_cause}
use Rattle.om_covers.specs.Growing.{grown}
use Rattle.om_levels.specs.Families.{IsHalfOf}
use Rattle.om_levels.proofs.Places.{line_lookup, skipped_line, found_line, all_lines, listed_signature}
use Rattle.om_levels.proofs.reaching.reached_by.Goals as goal

pub memory_alone-requires : goal.memory_alone-requires
memory_alone-requires g c = memory_is_cause c.args.chi.now.rank c.args.chi.now.elements c.in-Err.error
    c.in-Err.ensures.not_rank_3 c.in-Err.ensures.full c.requires.rank c.requires.room

pub invariant_of-lookups : goal.invariant_of-lookups
invariant_of-lookups g c = record {
  rank = c.requires.rank;
  room = c.requires.room;
  elements = c.requires.elements;
  signatures = subst (All (IsSignature c.args.chi.now)) (sym c.as_slice-lines.ensures) c.in-Ok.ensures.first.members;
}

pub returns-in-Nowhere : goal.returns-in-Nowhere
returns-in-Nowhere g c =
    let m = c.args.chi.now in
    let signs = c.index-lines-i.result in
    record {
      signature = listed_signature m MAX_LINES c.loop-i.i c.in-Ok.listing.more c.in-Ok.listing.lines
          c.as_slice-lines.result.now signs c.in-Ok.ensures.first c.as_slice-lines.ensures
          (let n = c.in_ok-found.ensures.len in omega arith)
          c.index-lines-i.is;
      tried = line_lookup (IsHalfOf c.args.family m.elements) m c.args.table.now.maps c.as_slice-lines.result.now
          c.in_ok-found.found.items c.deref-lookup-items.result.now c.loop-i.i _ _ signs c.in_ok-found.ensures.each
          c.deref-lookup-items.ensures.value (omega arith) (let n = c.in_ok-found.ensures.len in omega arith)
          (c.in_ok-lookup.was ∙ ap Ok c.in-Nowhere.is) c.index-lines-i.is;
    }

pub loop-i-preserved-in-NotTried : goal.loop-i-preserved-in-NotTried
loop-i-preserved-in-NotTried g c =
    let m = c.args.chi.now in
    let T = IsHalfOf c.args.family m.elements in
    let lines = c.as_slice-lines.result.now in
    let i = c.loop-i.i in
    let l : i < length lines = (let n = c.in_ok-found.ensures.len in omega arith) in
    let signs = get_or lines i [] in
    let read = get_or_default lines i [] signs l in
    let passed = line_lookup T m c.args.table.now.maps lines c.in_ok-found.found.items c.deref-lookup-items.result.now i
    _ _ signs c.in_ok-found.ensures.each c.deref-lookup-items.ensures.value (omega arith) l
    (c.in_ok-lookup.was ∙ ap Ok c.in-NotTried.is) read in
    skipped_line T m c.args.table.now.maps lines i c.loop-i.places signs l read passed c.loop-i.invariant

pub loop-i-preserved : goal.loop-i-preserved
loop-i-preserved g c =
    let m = c.args.chi.now in
    let T = IsHalfOf c.args.family m.elements in
    let maps = c.args.table.now.maps in
    let lines = c.as_slice-lines.result.now in
    let i = c.loop-i.i in
    let l : i < length lines = (let n = c.in_ok-found.ensures.len in omega arith) in
    let signs = get_or lines i [] in
    let read = get_or_default lines i [] signs l in
    let at = line_lookup T m maps lines c.in_ok-found.found.items c.deref-lookup-items.result.now i _ _ signs
    c.in_ok-found.ensures.each c.deref-lookup-items.ensures.value (omega arith) l
    (c.in_ok-lookup.was ∙ ap Ok c.in-At.is) read in
    let all = subst (All (IsSignature m)) (sym c.as_slice-lines.ensures) c.in-Ok.ensures.first.members in
    found_line T m maps lines i c.in-At.place c.loop-i.places c.push.new.self signs (grown m signs) l read all at.0
    refl at.1 c.in_ok-push-in-At.ensures.ok c.loop-i.invariant

pub returns : goal.returns
returns g c =
    let m = c.args.chi.now in
    let first = subst (λ xs. AreFirst (IsSignature m) MAX_LINES xs false) (sym c.as_slice-lines.ensures)
    (subst (AreFirst (IsSignature m) MAX_LINES c.in-Ok.listing.lines) c.if-listing.false c.in-Ok.ensures.first) in
    all_lines (IsHalfOf c.args.family m.elements) m c.args.table.now.maps c.as_slice-lines.result.now MAX_LINES
    c.loop-i.i c.loop-i.places first (let n = c.in_ok-found.ensures.len in omega arith) c.loop-i.invariant
