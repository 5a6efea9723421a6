use Rattle.std.proofs.Common.{◌≡◌, false, sym, ap, ◌∙◌, eqb, leb, is_some}
use Rattle.std.specs.Prelude.{◌||◌}
use Rattle.std.specs.List.{list_any}
use Rattle.dv_opening.specs.Directory.{adding_entry}
use Rattle.dv_meta.specs.Named.{owned}
use Rattle.dv_opening.specs.Seats.{directory_of}
use Rattle.dv_opening.proofs.OpeningLaws.{adding_role-free, eqb-no}
use Rattle.dv_meta.proofs.passes.opening_directory.refuses_role.Goals as goal

pub returns-then-one_entry_refused : goal.returns-then-one_entry_refused
returns-then-one_entry_refused c =
    let d = directory_of c.args.before.now in
    let nil : eqb c.args.role.now.id.0 0 ≡ false = eqb-no c.args.role.now.id.0 0 c.if-role-eq0.false in
    let free = adding_role-free d (owned c.args.draft.now) c.args.role.now.id.0 c.args.role.now.entries nil (sym c.is_role.ensures ∙ c.if-is_role.false) in
    let any = c.one_entry_refused.ensures ∙ ap (list_any (λ entry. is_some (adding_entry (owned c.args.draft.now) entry))) c.as_slice.ensures in
    sym (free ∙ ap (λ b. b || leb 500 d.roles) (sym any ∙ c.if-one_entry_refused.true))

pub returns : goal.returns
returns c =
    let d = directory_of c.args.before.now in
    let nil : eqb c.args.role.now.id.0 0 ≡ false = eqb-no c.args.role.now.id.0 0 c.if-role-eq0.false in
    let free = adding_role-free d (owned c.args.draft.now) c.args.role.now.id.0 c.args.role.now.entries nil (sym c.is_role.ensures ∙ c.if-is_role.false) in
    let any = c.one_entry_refused.ensures ∙ ap (list_any (λ entry. is_some (adding_entry (owned c.args.draft.now) entry))) c.as_slice.ensures in
    sym (free ∙ ap (λ b. b || leb 500 d.roles) (sym any ∙ c.if-one_entry_refused.false))
