use Rattle.std.proofs.Common.{refl}
use Rattle.dv_value.proofs.Moments.{year_casts, total_at, year_of, civil_at}
use Rattle.dv_value.proofs.moment.Civil.at.Goals as goal

pub overflow_cast-result : goal.overflow_cast-result
overflow_cast-result c = year_casts c.from_days_since_min-date.result c.args.seconds _ (total_at c.args.seconds c.requires) c.requires c.from_days_since_min-date.ensures

pub returns : goal.returns
returns c =
    civil_at c.from_days_since_min-date.result _ c.args.seconds _ (total_at c.args.seconds c.requires) c.requires c.from_days_since_min-date.ensures
    (year_of c.from_days_since_min-date.result c.args.seconds _ (total_at c.args.seconds c.requires) c.requires c.from_days_since_min-date.ensures)
    c.from.ensures c.from-2.ensures refl refl refl
