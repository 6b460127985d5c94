use mathlib.Core.Path.{◌∙◌}
use Rattle.codes.proofs.Strict.{untimed}
use Rattle.host.proofs.beaconcrumb_decide_from.Goals as goal

pub returns : goal.returns
returns c =
    let a = c.args in
    let e = c.beaconcrumb_decide_strict.ensures in
    let u = untimed a.log.now a.start.now a.encoding a.pruning a.order.now a.table.now in
    record {
      result = e.result ∙ u.0;
      order = e.order ∙ u.1;
      table = e.table ∙ u.2;
    }
