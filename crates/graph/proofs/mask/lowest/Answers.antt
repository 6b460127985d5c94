use Rattle.std.proofs.Common.{◌^◌, ◌<◌, rules}
use Rattle.graph.proofs.WordLaws.{low_alone}
use Rattle.graph.proofs.mask.lowest.Goals as goal

pub returns : goal.returns
returns c =
    let x = c.wrapping_sub_u32.result in
    let fits : x < 2 ^ 32 = search rules in
    λ s. low_alone c.args.set x s c.ranges.set.fits fits c.wrapping_sub_u32.ensures.value
