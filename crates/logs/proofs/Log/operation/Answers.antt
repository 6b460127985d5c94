use Rattle.logs.specs.Reading.{InLog}
use Rattle.logs.proofs.Reading.{inside_entry, inside_body, is_operation}
use Rattle.logs.proofs.Log.operation.Goals as goal

pub body-requires : goal.body-requires
body-requires c =
    let h : InLog c.args.self.bytes.now c.args.t = record { loads = c.args.self.taken; below = c.requires.0 } in
    (inside_entry _ c.args.t h, inside_body _ c.args.t c.args.m h c.requires.1)

pub returns : goal.returns
returns c = is_operation _ c.args.t c.args.m _ (record { loads = c.args.self.taken; below = c.requires.0 }) c.requires.1 c.body.ensures
