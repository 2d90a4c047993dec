use Rattle.std.proofs.Common.{length, ap, ◌∙◌}
use Rattle.om_levels.specs.Levels.{Members}
use Rattle.om_levels.proofs.Rows.{count_is}
use Rattle.om_levels.proofs.level.Level.len.Goals as goal

pub returns : goal.returns
returns c =
    let a = c.self.inside in
    count_is a.elements a.count a.bytes.items ∙ ap (λ (v : Members). length v.maps) c.self.view_is
