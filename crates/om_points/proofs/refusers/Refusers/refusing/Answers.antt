use Rattle.om_points.proofs.refusers.Refusers.refusing.Goals as goal

pub returns-clause-still : goal.returns-clause-still
returns-clause-still c = record {
  right = c.requires.sound.right;
  left = c.requires.sound.left;
  against = c.requires.sound.against;
  held = c.in_ok-form.ensures.sound;
}
