use Rattle.std.proofs.Common.{◌≡◌, map}
use Rattle.serde_json.specs.View.{view, members_view}
use Rattle.dv_form.specs.Members.{members_in}
use Rattle.dv_form.specs.Schemas.{member_of}
use Rattle.dv_form.specs.Walk as walk
use Rattle.dv_form.proofs.schema.unlisted_fault.Given as goal

abbrev pub invariant-loop-name : goal.invariant-loop-name
invariant-loop-name g l = walk.unlisted_fault (map member_of l.members) (map member_of l.more) (members_view l.name-iterator)
    ≡ walk.unlisted_fault (map member_of l.members) (map member_of l.more) (members_in (view l.json))
