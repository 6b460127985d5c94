use Rattle.logs.proofs.Reading.{inside_entry}
use Rattle.logs.proofs.Log.cabinet.Goals as goal

pub entry-requires : goal.entry-requires
entry-requires c = inside_entry _ c.args.t (record { loads = c.args.self.taken; below = c.requires })
