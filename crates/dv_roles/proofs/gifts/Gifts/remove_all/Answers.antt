use Rattle.std.proofs.Common.{◌≡◌, refl, ap, ◌∙◌, Bool, true, false}
use Rattle.std.specs.Prelude.{◌&&◌}
use Rattle.dv_units.specs.Chart.{has}
use Rattle.dv_roles.specs.Gifts.{without_gifts_of}
use Rattle.dv_roles.proofs.GiftLaws.{without_gifts-removed, without_gifts-none}
use Rattle.dv_roles.proofs.gifts.Gifts.remove_all.Goals as goal

pub roles-preserved : goal.roles-preserved
roles-preserved c =
    let p = c.args.principal in
    ap (λ xs. without_gifts_of xs p) c.take_pair.ensures.pairs ∙ without_gifts-removed p c.in-Some.role c.self.inside.pairs.keys
    ∙ ap (λ xs. without_gifts_of xs p) c.self.view_is ∙ c.roles.invariant

and-true : (b : Bool) → b ≡ (b && true)
and-true true = refl
and-true false = refl

pub returns : goal.returns
returns c =
    let p = c.args.principal in
    without_gifts-none p c.roles.self (λ role. and-true (has c.roles.self (p, role)) ∙ c.in_default.ensures role) ∙ c.roles.invariant
