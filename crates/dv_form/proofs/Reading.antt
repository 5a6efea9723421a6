-- What is read of a value.
use Rattle.std.proofs.Common.{◌≡◌, ◌∙◌, refl, ap, ℕ, List, [], ◌∷◌, map, ◌||◌, Bool, true, false, bytes_eq}
use Rattle.std.specs.List.{list_any}
use Rattle.serde_json.specs.Data.{Data, null, boolean, number, string, array, object, Members}
use Rattle.serde_json.specs.Find.{get, get_member}
use Rattle.serde_json.specs.View.{view, items_view}
use Rattle.serde_json.specs.declared.value.Value.{Value}
use Rattle.dv_form.specs.Members.{data_list, members_in}
use Rattle.dv_value.specs.Json.{without}
use Rattle.dv_value.proofs.Taken.{get_member-without}

pub data_list_view : (vs : List Value) → data_list (items_view vs) ≡ map view vs
data_list_view [] = refl
data_list_view (v ∷ vs) = ap (λ ds. view v ∷ ds) (data_list_view vs)

-- a member of the object that a value is
pub get_member-members_in : (name : List ℕ) (d : Data) → get_member name (members_in d) ≡ get name d
unfolding members_in
get_member-members_in name null = refl
get_member-members_in name (boolean b) = refl
get_member-members_in name (number n) = refl
get_member-members_in name (string s) = refl
get_member-members_in name (array ds) = refl
get_member-members_in name (object ms) = refl

-- what the members of an object say that are taken out of it one by one
pub ruleset taken = (get_member-without, get_member-members_in)

-- the members of a value, after those of some names were taken out: the others are still there
abbrev pub Left : Members → Data → List (List ℕ) → Type 0
Left ms d taken = (other : List ℕ) → list_any (bytes_eq other) taken ≡ false → get_member other ms ≡ get other d

pub all_left : (ms : Members) (d : Data) → ms ≡ members_in d → Left ms d []
all_left ms d is other apart = ap (get_member other) is ∙ get_member-members_in other d

apart_from : (a b : Bool) → (a || b) ≡ false → (a ≡ false) × (b ≡ false)
apart_from true b e = absurd (cc)
apart_from false b e = (refl, e)

pub one_less : (ms rest : Members) (d : Data) (name : List ℕ) (taken : List (List ℕ)) → Left ms d taken → rest ≡ without name ms → Left rest d (name ∷ taken)
one_less ms rest d name taken left is other apart =
    let both = apart_from (bytes_eq other name) (list_any (bytes_eq other) taken) apart in
    ap (get_member other) is ∙ get_member-without other name ms both.0 ∙ left other both.1
