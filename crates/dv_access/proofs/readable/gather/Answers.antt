use Rattle.std.proofs.Common.{refl, sym, subst, ◌⊎◌}
use Rattle.std.proofs.lemmas.Bool.{true≢false}
use Rattle.std.specs.Prelude.{IsSome}
use Rattle.dv_store.specs.World.{row_at}
use Rattle.dv_access.specs.View.{IsReadable}
use Rattle.dv_access.specs.Gathered.{Gathers, IsOwnRow, IsRowInUnits}
use Rattle.dv_access.proofs.Walks.{none, said, both, on_ok}
use Rattle.dv_access.proofs.ReadableRows.{gathered-readable, readable-gathered, all-readable, none-readable}
use Rattle.dv_access.proofs.readable.gather.Goals as goal

pub returns-then-reaches-clause-gathers : goal.returns-then-reaches-clause-gathers
returns-then-reaches-clause-gathers g c =
    let d = c.args.directory.now in
    let told = g.C.Cursors.told c.args.cursors.now in
    on_ok c.gather_rows.result
    (said (λ id. IsSome (row_at told.rows c.args.table id)) (IsReadable d told c.args.user c.args.table) c.args.ids.now.items c.gather_rows.new.ids.items
    (λ id there. all-readable d told c.args.user c.args.table id (c.if-reaches.ensures.0 refl) there) (λ id h. h.there))
    c.gather_rows.ensures.gathers

pub returns-then-not-is_user_owned-clause-gathers : goal.returns-then-not-is_user_owned-clause-gathers
returns-then-not-is_user_owned-clause-gathers g c =
    let d = c.args.directory.now in
    let told = g.C.Cursors.told c.args.cursors.now in
    none (IsReadable d told c.args.user c.args.table) c.args.ids.now.items
    (λ id. none-readable d told c.args.user c.args.table id (λ r. true≢false (sym (c.if-reaches.ensures.1 r))) (sym c.if-not-is_user_owned.ensures))

pub returns-clause-gathers : goal.returns-clause-gathers
returns-clause-gathers g c =
    let d = c.args.directory.now in
    let told = g.C.Cursors.told c.args.cursors.now in
    on_ok c.gather_in_units.result
    (λ units. said (λ id. IsOwnRow d told c.args.user c.args.table id ⊎ IsRowInUnits d told c.args.user c.args.table id) (IsReadable d told c.args.user c.args.table) c.args.ids.now.items c.gather_in_units.new.ids.items
    (λ id. gathered-readable d told c.args.user c.args.table id c.requires (c.if-not-holds.ensures.0 refl) (sym c.if-not-is_user_owned.ensures))
    (λ id. readable-gathered d told c.args.user c.args.table id (λ r. true≢false (sym (c.if-reaches.ensures.1 r))))
    (both (IsOwnRow d told c.args.user c.args.table) (IsRowInUnits d told c.args.user c.args.table) c.args.ids.now.items c.gather_own.new.ids.items c.gather_in_units.new.ids.items
    c.in_ok-gather_own.ensures.gathers
    (subst (λ t. Gathers (IsRowInUnits d t c.args.user c.args.table) c.gather_own.new.ids.items c.gather_in_units.new.ids.items) c.gather_own.ensures.told units)))
    c.gather_in_units.ensures.gathers
