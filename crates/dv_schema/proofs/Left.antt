-- What is left of an object whose members are taken out one by one.
use Rattle.std.proofs.Common.{◌≡◌, ◌∙◌, refl, ℕ, List, [], ◌∷◌, ◌||◌, Bool, true, false, bytes_eq}
use Rattle.std.specs.List.{list_any}
use Rattle.serde_json.specs.Data.{Data, Members}
use Rattle.serde_json.specs.Find.{get, get_member}

-- the members of a value, after those of some names were taken out: the others are still there
abbrev pub Left : Members → Data → List (List ℕ) → Type 0
Left ms d taken = (other : List ℕ) → list_any (bytes_eq other) taken ≡ false → get_member other ms ≡ get other d

pub all_left : (ms : Members) (d : Data) → ((other : List ℕ) → get_member other ms ≡ get other d) → Left ms d []
all_left ms d each other apart = each other

apart_from : (a b : Bool) → (a || b) ≡ false → (a ≡ false) × (b ≡ false)
apart_from true b e = absurd (cc)
apart_from false b e = (refl, e)

pub one_less : (ms rest : Members) (d : Data) (name : List ℕ) (taken : List (List ℕ)) → Left ms d taken
    → ((other : List ℕ) → bytes_eq other name ≡ false → get_member other rest ≡ get_member other ms) → Left rest d (name ∷ taken)
one_less ms rest d name taken left others other apart =
    let both = apart_from (bytes_eq other name) (list_any (bytes_eq other) taken) apart in
    others other both.0 ∙ left other both.1
