use Rattle.std.proofs.Common.{◌≡◌, ◌<◌, length, get_or, sym, ap, ◌∙◌, arith}
use Rattle.dv_schema.proofs.FirstLaws.{first_from-more, first_from-found, first_from-end}
use Rattle.dv_opening.proofs.OpeningLaws.{refused_at, refused_team-is, refused_at-alone, refused_at-over, refused_at-none, overfull-yes, overfull-no, sum_by-take-more}
use Rattle.dv_schema.specs.declared.place.Place.TheVariants as at
use Rattle.dv_opening.proofs.teams.refused_team.Goals as goal

pub loop-k-init : goal.loop-k-init
loop-k-init c = record { room = omega arith; first = refused_team-is c.args.opening.now }

pub returns-then-team_alone_refused : goal.returns-then-team_alone_refused
returns-then-team_alone_refused c =
    let o = c.args.opening.now in
    let k = c.loop-k.k in
    let team = c.index-teams-k.result in
    let within : k < length o.teams = omega (arith, c.loop-k-test.true, ap length c.as_slice-teams.ensures) in
    let read : team ≡ get_or o.teams k team = c.index-teams-k.is ∙ ap (λ xs. get_or xs k team) c.as_slice-teams.ensures in
    sym (c.loop-k.invariant.first ∙ first_from-found (refused_at o) o.teams k team (at.Team k) within read (refused_at-alone o k team (sym c.team_alone_refused.ensures ∙ c.if-team_alone_refused.true)))

pub returns-then-room-count : goal.returns-then-room-count
returns-then-room-count c =
    let o = c.args.opening.now in
    let k = c.loop-k.k in
    let team = c.index-teams-k.result in
    let within : k < length o.teams = omega (arith, c.loop-k-test.true, ap length c.as_slice-teams.ensures) in
    let read : team ≡ get_or o.teams k team = c.index-teams-k.is ∙ ap (λ xs. get_or xs k team) c.as_slice-teams.ensures in
    let over = overfull-yes o k (omega (arith, c.loop-k.invariant.room, sum_by-take-more o.teams k team within read, c.in_ok-count.ensures)) in
    sym (c.loop-k.invariant.first ∙ first_from-found (refused_at o) o.teams k team (at.Team k) within read (refused_at-over o k team (sym c.team_alone_refused.ensures ∙ c.if-team_alone_refused.false) over))

pub loop-k-preserved : goal.loop-k-preserved
loop-k-preserved c =
    let o = c.args.opening.now in
    let k = c.loop-k.k in
    let team = c.index-teams-k.result in
    let within : k < length o.teams = omega (arith, c.loop-k-test.true, ap length c.as_slice-teams.ensures) in
    let read : team ≡ get_or o.teams k team = c.index-teams-k.is ∙ ap (λ xs. get_or xs k team) c.as_slice-teams.ensures in
    let more = sum_by-take-more o.teams k team within read in
    let fits = overfull-no o k (omega (arith, c.loop-k.invariant.room, more, c.in_ok-count.ensures)) in
    record {
      room = omega (arith, c.loop-k.invariant.room, more, c.in_ok-count.ensures);
      first = c.loop-k.invariant.first ∙ first_from-more (refused_at o) o.teams k team within read (refused_at-none o k team (sym c.team_alone_refused.ensures ∙ c.if-team_alone_refused.false) fits);
    }

pub returns : goal.returns
returns c =
    let o = c.args.opening.now in
    sym (c.loop-k.invariant.first ∙ first_from-end (refused_at o) o.teams c.loop-k.k (omega (arith, c.loop-k-test.false, ap length c.as_slice-teams.ensures)))
