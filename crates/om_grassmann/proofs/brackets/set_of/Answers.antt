use Rattle.std.proofs.Common.{◌∙◌, ap, length}
use Rattle.om_grassmann.proofs.Triples.{triple-with, length-triple}
use Rattle.om_grassmann.proofs.brackets.set_of.Goals as goal

pub returns : goal.returns
returns c =
    let made = c.triple.ensures.elements
    ∙ triple-with c.args.x c.args.y c.args.z c.requires.x_y c.requires.x_z c.requires.y_z in
    record {
      n = c.triple.ensures.n;
      elements = made;
      size = ap length made ∙ length-triple c.args.x c.args.y c.args.z c.requires.x_y c.requires.x_z c.requires.y_z;
      increasing = c.triple.ensures.lawful;
    }
