use Rattle.std.proofs.Common.{◌++◌}
use Rattle.std.specs.Int.{to_be_bytes, w64}
use Rattle.dv_cells.proofs.Parts.{joined}
use Rattle.dv_cells.proofs.values.read_counters.Goals as goal

pub returns : goal.returns
returns c =
    let last_id = to_be_bytes w64 c.in_ok-last_id-2.last_id in
    let floor = to_be_bytes w64 c.in_ok-floor.floor in (
      (c.in_ok-version-2.ensures.0, (c.in_ok-last_id-2.ensures.0, c.in_ok-floor.ensures.0)),
      joined 8 c.args.bytes.now c.in_ok-version.version.now c.in_ok-version.rest.now (to_be_bytes w64 c.in_ok-version-2.version) (last_id ++ floor)
          c.in_ok-version.ensures.cases.0 c.in_ok-version.ensures.cases.1 c.in_ok-version-2.ensures.1
          (joined 8 c.in_ok-version.rest.now c.in_ok-last_id.last_id.now c.in_ok-last_id.floor.now last_id floor
          c.in_ok-last_id.ensures.cases.0 c.in_ok-last_id.ensures.cases.1 c.in_ok-last_id-2.ensures.1 c.in_ok-floor.ensures.1),
    )
