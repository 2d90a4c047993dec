use Rattle.std.proofs.Common.{refl}
use Rattle.om_text.proofs.Part.{front_part, front_form, front_fault, front_every, front_first}
use Rattle.om_text.proofs.reader.parse_part.Goals as goal

pub returns : goal.returns
returns c = record {
  part = front_part c.args.bytes.now c.course.result (c.course.ensures.front refl);
  form = front_form c.args.bytes.now c.course.result (c.course.ensures.front refl);
  every = λ d k n p. front_every c.args.bytes.now c.course.result (c.course.ensures.front refl) d k n p;
  fault = front_fault c.args.bytes.now c.course.result (c.course.ensures.front refl);
  first = λ l k f n. front_first c.args.bytes.now c.course.result (c.course.ensures.front refl) l k f n;
}
