use Rattle.std.proofs.Common.{◌≡◌, ◌+◌, drop, take}
use Rattle.std.specs.Prelude.{sum_by}
use Rattle.dv_schema.specs.First.{first_from}
use Rattle.dv_opening.specs.Opening.{refused_team, member_count}
use Rattle.dv_opening.proofs.OpeningLaws.{refused_at}
use Rattle.dv_opening.proofs.teams.refused_team.Given as goal

abbrev pub invariant-loop-k : goal.invariant-loop-k
invariant-loop-k l = record {
  room : l.room + sum_by member_count (take l.k l.opening.teams) ≡ 100000;
  first : refused_team l.opening ≡ first_from (refused_at l.opening) l.k (drop l.k l.opening.teams);
}
