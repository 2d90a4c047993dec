use Rattle.std.proofs.Common.{sym, take, get_or, refl, ◌∙◌, arith, false}
use Rattle.std.proofs.lemmas.Bool.{false≢true}
use Rattle.std.proofs.lemmas.Option.{slice_get-get_or}
use Rattle.std.proofs.lemmas.List.Elements.{All-more, All-same}
use Rattle.std.proofs.lemmas.List.{take_all}
use Rattle.om_grassmann.specs.Statements.{IsLawful}
use Rattle.om_certificate.specs.declared.entry.Entry.{Entry}
use Rattle.om_certificate.proofs.balance.first_unlawful.Goals as goal

abbrev no_entry : Entry
no_entry =
    record { statement = record { a = 0; b = 0; c = 0; d = 0; e = 0; small = 0; big = 0; strict = false }; times = 0 }

pub overflow_cast-result : goal.overflow_cast-result
overflow_cast-result c = let l = c.loop-i-test.true in let few = c.requires in omega (arith, l, few)

pub overflow_add-result : goal.overflow_add-result
overflow_add-result c = let l = c.loop-i-test.true in let few = c.requires in omega (arith, l, few)

pub returns-then-not-lawful-clause-first : goal.returns-then-not-lawful-clause-first
returns-then-not-lawful-clause-first c = record {
  index = c.loop-i.i;
  entry = get_or c.args.entries.now c.loop-i.i no_entry;
  counts = refl;
  here = slice_get-get_or c.args.entries.now c.loop-i.i no_entry c.loop-i-test.true;
  unlawful = λ h. false≢true (sym c.if-not-lawful.true ∙ c.lawful.ensures.1 h);
  earlier = c.loop-i.invariant;
}

pub loop-i-preserved : goal.loop-i-preserved
loop-i-preserved c = All-more (λ (e : Entry). IsLawful c.args.chi.now e.statement) c.args.entries.now c.loop-i.i _
    c.loop-i-test.true c.loop-i.invariant (c.lawful.ensures.0 c.if-not-lawful.false)

pub returns-clause-none : goal.returns-clause-none
returns-clause-none c = All-same (λ (e : Entry). IsLawful c.args.chi.now e.statement) c.args.entries.now
    (take c.loop-i.i c.args.entries.now) (sym (take_all c.loop-i.i c.args.entries.now c.loop-i-test.false))
    c.loop-i.invariant
