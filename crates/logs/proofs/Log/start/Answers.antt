use Rattle.std.proofs.Common.{arith}
use Rattle.logs.proofs.Reading.{inside_entry, inside_start}
use Rattle.logs.proofs.Log.start.Goals as goal

pub entry-requires : goal.entry-requires
entry-requires c = inside_entry _ c.args.t (record { loads = c.args.self.taken; below = c.requires })

pub returns : goal.returns
returns c = grind (arith, inside_start c.args.self.bytes.now c.args.t (record { loads = c.args.self.taken; below = c.requires }))
